-- What is written is read back.
use Rattle.std.specs.Prelude.{◌≡◌, ℕ, ◌≤◌, true, false, ◌⊎◌, List, map, length, is_some, Some, None, Ok, Err}
use Rattle.terms.specs.declared.ground.Ground.{Ground}
use Rattle.terms.specs.Questions.{first_no}
use Rattle.register.specs.Keys.{climbs, each}
use Rattle.design.specs.Contents.{Contents, new_sheet}
use Rattle.design.specs.Lines.{mark_of, unscheduled, line_kept, hull_kept}
use Rattle.sheet.specs.Calls.{Answer}
use Rattle.record.specs.Obeying.{Read}
use Rattle.record.specs.Reading.{at_place}
use Rattle.writer.specs.Writing.{recorded, write_questions, over}

-- the hull, the lines and the laid sizes of a sheet, unsettled, in a room of its own
abbrev pub copy_in : ℕ → Contents → Contents
copy_in room c = record { hull = c.hull; lines = map unscheduled c.lines; settled = false; room = room }

-- hull and lines keep the limits that they are accepted by, and marks rise, as on every sheet
pub record Proper (c : Contents) : Type 0 where
  pub hull : hull_kept c.hull ≡ true
  pub lines : each line_kept c.lines ≡ true
  pub rising : climbs mark_of 0 c.lines ≡ true

-- the record of a sheet that has a hull, read into a new sheet with room enough, is accepted and gives the same hull, lines and laid sizes, unsettled
abbrev pub RoundTrip : Type 0
RoundTrip =
    (c : Contents) (room : ℕ) → Proper c → is_some c.hull ≡ true → length c.lines ≤ room
    → (r : Answer) (after : Contents) → Read (recorded c) (new_sheet room) r after → (r ≡ Ok tt) × (after ≡ copy_in room c)

-- a sheet that holds c cannot be written into the buffer, so that nothing happens
pub record Unwritten (c : Contents) (out : List ℕ) (before : Contents) (r : Answer) (buffer : List ℕ) (after : Contents) : Type 0 where
  pub ground : Ground
  pub asked : first_no (write_questions c (length out) 0) ≡ Some ground
  pub answers : r ≡ Err (at_place ground 0)
  pub bytes : buffer ≡ out
  pub sheet : after ≡ before

-- it is written into the buffer, and the record is read into a sheet that held `before`; a new sheet with room enough accepts it, and holds the same
pub record Handed (c : Contents) (out : List ℕ) (before : Contents) (r : Answer) (buffer : List ℕ) (after : Contents) : Type 0 where
  pub asked : first_no (write_questions c (length out) 0) ≡ None
  pub bytes : buffer ≡ over out 0 (recorded c)
  pub read : Read (recorded c) before r after
  pub back : (room : ℕ) → before ≡ new_sheet room → length c.lines ≤ room → (r ≡ Ok tt) × (after ≡ copy_in room c)

abbrev pub Copied : Contents → List ℕ → Contents → Answer → List ℕ → Contents → Type 0
Copied c out before r buffer after = Unwritten c out before r buffer after ⊎ Handed c out before r buffer after
