-- Runs of calls on a sheet.
use Rattle.std.specs.Prelude.{◌≡◌, ℕ, List, [], ◌∷◌}
use Rattle.design.specs.Contents.{Contents, new_sheet}
use Rattle.design.specs.Settings.{Setting}
use Rattle.sheet.specs.Calls.{Answer, Does}
use Rattle.sheet.specs.Settles.{Settles}
use Rattle.runs.specs.declared.step.Step.{Step}
use Rattle.runs.specs.declared.step.Step.TheVariants.{Change, Settle}

-- a sheet that holds c answers r to a call, by a design basis, and holds `after` then
abbrev pub Takes : Setting → Contents → Step → Answer → Contents → Type 0
Takes s c (Change x) r after = Does c x r after
Takes s c Settle r after = Settles s c r after

-- calls, one after the other, with their answers, all by one design basis
abbrev pub Run : Setting → Contents → List Step → List Answer → Contents → Type 0
Run s c [] [] after = after ≡ c
Run s c [] (r ∷ rs) after = ⊥
Run s c (x ∷ xs) [] after = ⊥
Run s c (x ∷ xs) (r ∷ rs) after = (mid : Contents) × Takes s c x r mid × Run s mid xs rs after

-- a sheet comes to hold c by some calls on a new one
abbrev pub Reached : Setting → Contents → Type 0
Reached s c = (room : ℕ) × (steps : List Step) × (answers : List Answer) × Run s (new_sheet room) steps answers c
