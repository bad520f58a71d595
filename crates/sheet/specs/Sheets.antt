-- What the struct of a sheet holds.
use Rattle.std.specs.Prelude.{◌≡◌, ℕ, ◌<◌, true, List, [], ◌∷◌, length, Some, None, Ok, Err, Result, nat_lt, slice_index_or, slice_set}
use Rattle.std.specs.List.{remove}
use Rattle.register.specs.Keys.{changed, without}
use Rattle.register.specs.Registers.{elements_of, room_of}
use Rattle.terms.specs.declared.ground.Ground.TheVariants.{MarkUnknown, SheetFull}
use Rattle.terms.specs.declared.refusal.Refusal.{Refusal}
use Rattle.terms.specs.Questions.{Question, ◌else◌, refusal_of}
use Rattle.design.specs.declared.line.Line.{Line}
use Rattle.sheet.specs.declared.sheet.Sheet.{Sheet}
use Rattle.design.specs.Lines.{no_line, mark_of, line_of, line_kept}
use Rattle.design.specs.Contents.{Contents}

abbrev pub lines_of : Sheet → List Line
lines_of s = elements_of s.lines

abbrev pub contents : Sheet → Contents
contents s = record { hull = s.hull; lines = lines_of s; settled = s.settled; room = room_of s.lines }

-- the place of the line of a mark
pub record Place (m : ℕ) (ls : List Line) (p : ℕ) : Type 0 where
  pub inside : p < length ls
  pub named : mark_of (slice_index_or ls p no_line) ≡ m
  pub line : line_of m ls ≡ Some (slice_index_or ls p no_line)
  pub change : (f : Line → Line) → changed mark_of m f ls ≡ slice_set ls p (f (slice_index_or ls p no_line))
  pub strike : without mark_of m ls ≡ remove ls p

-- the place of the line of a mark, and the line; or the refusal at the mark where there is none
abbrev pub Found : ℕ → List Line → Result (ℕ × Line) Refusal → Type 0
Found m ls (Err e) = (line_of m ls ≡ None) × (e ≡ refusal_of MarkUnknown m)
Found m ls (Ok p) = Place m ls p.0 × (p.1 ≡ slice_index_or ls p.0 no_line) × (line_kept p.1 ≡ true)

-- what is asked of a sheet before a line more is added
abbrev pub room_questions : Contents → List Question
room_questions c = nat_lt (length c.lines) c.room else SheetFull ∷ []
