-- What a design basis means.
use Rattle.std.specs.Prelude.{◌≡◌, ℕ, Bool, List}
use Rattle.terms.specs.declared.entry.Entry.{Entry}
use Rattle.terms.specs.declared.hull.Hull.{Hull}
use Rattle.terms.specs.Rules.{Rules, Law}
use Rattle.terms.specs.Stocks.{Ranged, stock_of}

-- the rules of a book, and the sizes in the two stocks
pub record Setting : Type 0 where
  pub rules : Rules
  pub plates : ℕ → Bool
  pub stiffeners : ℕ → Bool

abbrev pub set_by : Rules → (ℕ → Bool) → (ℕ → Bool) → Setting
set_by b p s = record { rules = b; plates = p; stiffeners = s }

-- the book keeps its law, and the stocks their range
pub record Sound (s : Setting) : Type 0 where
  pub law : Law s.rules
  pub plates : Ranged s.plates
  pub stiffeners : Ranged s.stiffeners

-- the stock that a line takes its size from
abbrev pub stock_for : Setting → Hull → Entry → ℕ → Bool
stock_for s hull line n = stock_of s.rules s.plates s.stiffeners hull line n

-- a basis after a call that it is lent to: it means the same, and has the same parts. It stands in the contract of each such call, since no type says what a call
-- leaves of what it is lent.
pub record StillLent {D : Type 0} (setting : D → Setting) (lenders : D → List ℕ) (old new : D) : Type 0 where
  pub same : setting new ≡ setting old
  pub lent : lenders new ≡ lenders old
