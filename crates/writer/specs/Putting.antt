-- What putting bytes at a cursor makes of it.
use Rattle.std.specs.Prelude.{◌≡◌, ℕ, ◌+◌, ◌≤◌, List, length}
use Rattle.writer.specs.declared.Cursor.{Cursor}
use Rattle.writer.specs.Writing.{over}

-- bytes that had room were put at the place of the cursor, and it stands behind them, over the same output
pub record Puts (old new : Cursor) (bytes : List ℕ) : Type 0 where
  pub here : new.out.ghost_name ≡ old.out.ghost_name
  pub fits : old.at + length bytes ≤ length old.out.now
  pub at : new.at ≡ old.at + length bytes
  pub long : length new.out.now ≡ length old.out.now
  pub out : new.out.now ≡ over old.out.now old.at bytes
