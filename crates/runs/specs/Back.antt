-- Parts of laying lines back at their scheduled sizes.
use Rattle.std.specs.Prelude.{◌≡◌, ℕ, ◌<◌, List, Some, None, Option, slice_index, slice_index_or}
use Rattle.design.specs.declared.line.Line.{Line}
use Rattle.design.specs.Contents.{Contents}
use Rattle.design.specs.Lines.{no_line}
use Rattle.design.specs.Settings.{Setting}
use Rattle.sheet.specs.Calls.{Answer}
use Rattle.runs.specs.Runs.{Run}
use Rattle.runs.specs.Laws.{lays, first_refusal}

-- the scheduled sizes of the first k lines
abbrev pub SizesTo : List Line → ℕ → List ℕ → Type 0
SizesTo ls k sizes = (i : ℕ) → i < k → slice_index sizes i ≡ (slice_index_or ls i no_line).scheduled

-- the size at a place, 0 for none
abbrev pub size_at : List ℕ → Option ℕ → ℕ
size_at sizes None = 0
size_at sizes (Some p) = slice_index sizes p

-- the lays are made, one after the other, whatever the design basis, and r is the first refusal
pub record LaidTo (c : Contents) (marks : List ℕ) (r : Answer) (after : Contents) : Type 0 where
  pub answers : List Answer
  pub run : (s : Setting) → Run s c (lays c marks) answers after
  pub answer : r ≡ first_refusal answers
