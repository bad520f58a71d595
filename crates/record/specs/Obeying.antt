-- What reading a record into a sheet answers, and what it makes of the sheet.
use Rattle.std.specs.Prelude.{◌≡◌, ℕ, ◌+◌, ◌⊎◌, List, [], ◌∷◌, length, Ok, Err}
use Rattle.terms.specs.declared.refusal.Refusal.{Refusal}
use Rattle.design.specs.Contents.{Contents}
use Rattle.sheet.specs.declared.call.Call.{Call}
use Rattle.sheet.specs.Calls.{Answer, answer, changes}
use Rattle.record.specs.declared.placed.Placed.{Placed}
use Rattle.record.specs.declared.placed.Stage.{Stage}
use Rattle.record.specs.declared.placed.Stage.TheVariants.{BeforeHull, Body}
use Rattle.record.specs.Spelling.{spelled, all_spelled, end, byte_of}
use Rattle.record.specs.Reading.{InOrder, Fault, at_place}

-- the hull comes first, and only first, from a stage on
abbrev pub Ordered : Stage → List Call → Type 0
Ordered s [] = Unit {0}
Ordered s (x ∷ xs) = InOrder s (byte_of x) × Ordered Body xs

abbrev pub stage_after : Stage → List Call → Stage
stage_after s [] = s
stage_after s (x ∷ xs) = Body

-- each call is accepted in its turn, and all together make `after` of `before`
abbrev pub Accepted : Contents → List Call → Contents → Type 0
Accepted before [] after = after ≡ before
Accepted before (x ∷ xs) after = (answer before x ≡ Ok tt) × Accepted (changes before x) xs after

-- a sheet that holds c refuses a call that came from a place: with the call's own ground, at that place
pub record Declined (c : Contents) (x : Call) (at : ℕ) (e : Refusal) : Type 0 where
  pub why : Refusal
  pub answered : answer c x ≡ Err why
  pub placed : e ≡ at_place why.ground at

-- what obeying one call of a record answers and leaves
abbrev pub Obeyed : Contents → Placed → Answer → Contents → Type 0
Obeyed c p (Ok u) after = (answer c p.call ≡ Ok tt) × (after ≡ changes c p.call)
Obeyed c p (Err e) after = Declined c p.call p.at e × (after ≡ c)

-- why reading goes no further at a place: there is the end, and nothing else; the form is at fault; or a call is declined
abbrev pub Stops : Stage → ℕ → List ℕ → Contents → Answer → Type 0
Stops s at rest c (Ok u) = (s ≡ Body) × (rest ≡ end ∷ [])
Stops s at rest c (Err e) = Fault s at rest e ⊎ ((x : Call) × (more : List ℕ) × (rest ≡ spelled x more) × InOrder s (byte_of x) × Declined c x at e)

-- the calls that a record begins with, as far as they were obeyed, and the rest
pub record Passed (bytes : List ℕ) (before : Contents) (calls : List Call) (rest : List ℕ) (after : Contents) : Type 0 where
  pub front : bytes ≡ all_spelled calls rest
  pub ordered : Ordered BeforeHull calls
  pub accepted : Accepted before calls after

-- a record is read into a sheet that held `before`, with the answer r, and the sheet holds `after`
pub record Read (bytes : List ℕ) (before : Contents) (r : Answer) (after : Contents) : Type 0 where
  pub calls : List Call
  pub rest : List ℕ
  pub at : ℕ
  pub place : at + length rest ≡ length bytes
  pub passed : Passed bytes before calls rest after
  pub stop : Stops (stage_after BeforeHull calls) at rest after r

-- the answer, and what the sheet holds then, follow from the record and from what the sheet held
abbrev pub OneReading : Type 0
OneReading = (bytes : List ℕ) (before : Contents) (r q : Answer) (c d : Contents) → Read bytes before r c → Read bytes before q d → (r ≡ q) × (c ≡ d)
