-- What a sheet answers to a call, and what it holds after it.
use Rattle.std.specs.Prelude.{◌≡◌, ℕ, Bool, cond, not, List, [], ◌∷◌, ◌++◌, length, is_some, is_ok, Some, None, Ok, Err, Option, Result, nat_le, nat_lt}
use Rattle.register.specs.Keys.{placed, without, changed}
use Rattle.terms.specs.declared.ground.Ground.TheVariants.{MarkZero, MarkTaken, MarkUnknown, SheetFull, SizeOverLimit, NotSettled}
use Rattle.terms.specs.declared.refusal.Refusal.{Refusal}
pub use Rattle.terms.specs.Questions.{refused_at}
use Rattle.terms.specs.Questions.{Question, ◌else◌, first_no, hull_questions, value_questions, refusal_of}
use Rattle.sheet.specs.declared.call.Call.{Call}
use Rattle.sheet.specs.declared.call.Call.TheVariants as call
use Rattle.design.specs.declared.line.Line.{Line}
use Rattle.design.specs.Lines.{mark_of, line_of, entered_as, amended_as, laid_as}
use Rattle.design.specs.Contents.{Contents, with_lines, with_hull, unsettled}

abbrev pub Answer : Type 0
Answer = Result (Unit {0}) Refusal

-- whether there is a line of the mark
abbrev pub there : ℕ → Contents → Bool
there m c = is_some (line_of m c.lines)

-- the questions of a call, in order, each with the ground of a no
abbrev pub questions : Contents → Call → List Question
questions c (call.Hull h) = hull_questions h
questions c (call.Enter e) =
    nat_lt 0 e.mark else MarkZero ∷ not (there e.mark c) else MarkTaken
    ∷ (value_questions e ++ (nat_lt (length c.lines) c.room else SheetFull ∷ []))
questions c (call.Amend e) = there e.mark c else MarkUnknown ∷ value_questions e
questions c (call.Strike m) = there m c else MarkUnknown ∷ []
questions c (call.Lay m n) = there m c else MarkUnknown ∷ nat_le n 60000 else SizeOverLimit ∷ []

-- the place of a refusal: the mark given, or 0 for the hull
abbrev pub place : Call → ℕ
place (call.Hull h) = 0
place (call.Enter e) = e.mark
place (call.Amend e) = e.mark
place (call.Strike m) = m
place (call.Lay m n) = m

-- accepted, or refused on the ground of the first question with a no
abbrev pub answer : Contents → Call → Answer
answer c x = refused_at (place x) (first_no (questions c x))

-- what the sheet holds once a call is accepted
abbrev pub changes : Contents → Call → Contents
changes c (call.Hull h) = unsettled (with_hull c h)
changes c (call.Enter e) = unsettled (with_lines c (placed mark_of (entered_as e) c.lines))
changes c (call.Amend e) = unsettled (with_lines c (changed mark_of e.mark (amended_as e) c.lines))
changes c (call.Strike m) = unsettled (with_lines c (without mark_of m c.lines))
changes c (call.Lay m n) = unsettled (with_lines c (changed mark_of m (laid_as n) c.lines))

-- a sheet that holds c answers r to the call, and holds `after` then: a refused call changes nothing
pub record Does (c : Contents) (x : Call) (r : Answer) (after : Contents) : Type 0 where
  pub answers : r ≡ answer c x
  pub holds : after ≡ cond (is_ok r) (changes c x) c

-- the scheduled size of a line, if there is one
abbrev pub size_at : ℕ → Option Line → Result ℕ Refusal
size_at m None = Err (refusal_of MarkUnknown m)
size_at m (Some l) = Ok l.scheduled

-- the scheduled size of a mark, on a settled sheet
abbrev pub scheduled_size : Contents → ℕ → Result ℕ Refusal
scheduled_size c m = cond c.settled (size_at m (line_of m c.lines)) (Err (refusal_of NotSettled m))
