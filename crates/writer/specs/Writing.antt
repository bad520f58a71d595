-- The record that a sheet is written as, and what writing it answers and leaves.
use Rattle.std.specs.Prelude.{◌≡◌, ℕ, ◌+◌, cond, List, [], ◌∷◌, ◌++◌, length, take, drop, is_some, is_ok, Some, None, Ok, Err, Option, Result, ◌==◌, nat_le}
use Rattle.std.specs.List.{flat_map}
use Rattle.terms.specs.declared.ground.Ground.{Ground}
use Rattle.terms.specs.declared.ground.Ground.TheVariants.{HullMissing, TooFewBytes}
use Rattle.terms.specs.declared.hull.Hull.{Hull}
use Rattle.terms.specs.declared.refusal.Refusal.{Refusal}
use Rattle.terms.specs.Questions.{Question, ◌else◌, first_no}
use Rattle.design.specs.declared.line.Line.{Line}
use Rattle.design.specs.Contents.{Contents}
use Rattle.design.specs.Lines.{mark_of}
use Rattle.sheet.specs.declared.call.Call.{Call}
use Rattle.sheet.specs.declared.call.Call.TheVariants as call
use Rattle.record.specs.Reading.{at_place}
use Rattle.record.specs.Spelling.{all_spelled, end}

-- the call that lays a size on a line, if there is one to lay
abbrev pub laid_calls : ℕ → ℕ → List Call
laid_calls m n = cond (n == 0) [] (call.Lay m n ∷ [])

-- the calls that make a line
abbrev pub line_calls : Line → List Call
line_calls l = call.Enter l.entry ∷ laid_calls (mark_of l) l.laid

-- the calls that make a sheet
abbrev pub sheet_calls : Hull → List Line → List Call
sheet_calls h ls = call.Hull h ∷ flat_map line_calls ls

-- the record of a sheet; one without a hull has none
abbrev pub record_of : Option Hull → List Line → List ℕ
record_of None ls = []
record_of (Some h) ls = all_spelled (sheet_calls h ls) (end ∷ [])

abbrev pub recorded : Contents → List ℕ
recorded c = record_of c.hull c.lines

-- what is asked before a sheet is written from a place on into as many bytes
abbrev pub write_questions : Contents → ℕ → ℕ → List Question
write_questions c room place = is_some c.hull else HullMissing ∷ nat_le (place + length (recorded c)) room else TooFewBytes ∷ []

-- how many bytes were written, or why none
abbrev pub count_or : ℕ → Option Ground → Result ℕ Refusal
count_or n None = Ok n
count_or n (Some g) = Err (at_place g 0)

-- bytes written over others from a place on, and nothing else
abbrev pub over : List ℕ → ℕ → List ℕ → List ℕ
over out place bytes = take place out ++ (bytes ++ drop (place + length bytes) out)

-- writing a sheet from a place on answers r, and leaves `after`
pub record Wrote (c : Contents) (out : List ℕ) (place : ℕ) (r : Result ℕ Refusal) (after : List ℕ) : Type 0 where
  pub answers : r ≡ count_or (length (recorded c)) (first_no (write_questions c (length out) place))
  pub leaves : after ≡ cond (is_ok r) (over out place (recorded c)) out

-- the bytes of one line, and of all
abbrev pub line_bytes : Line → List ℕ
line_bytes l = all_spelled (line_calls l) []

abbrev pub lines_bytes : List Line → List ℕ
lines_bytes ls = flat_map line_bytes ls
