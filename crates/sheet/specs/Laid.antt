-- That a sheet is another with a size laid at a place.
use Rattle.std.specs.Prelude.{◌≡◌, ℕ}
use Rattle.register.specs.Registers.{elements_of, SamePlaces}
use Rattle.trial.specs.Trials.{lay_at}
use Rattle.sheet.specs.declared.sheet.Sheet.{Sheet}

-- over the same places, with the same lines but for a size laid at a place, and the same in all else
pub record Laid (s : Sheet) (i v : ℕ) (t : Sheet) : Type 0 where
  pub places : SamePlaces s.lines t.lines
  pub lines : elements_of t.lines ≡ lay_at (elements_of s.lines) i v
  pub hull : t.hull ≡ s.hull
  pub settled : t.settled ≡ s.settled
