-- What holds of every run.
use Rattle.std.specs.Prelude.{◌≡◌, ℕ, ◌<◌, ◌≤◌, Bool, true, false, cond, List, [], ◌∷◌, ◌++◌, length, is_ok, Some, None, Ok, Err, Option, Result, slice_index_or}
use Rattle.terms.specs.declared.hull.Hull.{Hull}
use Rattle.terms.specs.declared.refusal.Refusal.{Refusal}
use Rattle.design.specs.declared.line.Line.{Line}
use Rattle.design.specs.Contents.{Contents, new_sheet, unsettled}
use Rattle.design.specs.Lines.{no_line, line_of, there_in}
use Rattle.design.specs.Schedules.{job, Schedule, Lawful, Least, NoneLawful}
use Rattle.design.specs.Settings.{Setting, Sound}
use Rattle.design.specs.Verdicts.{ready_hull}
use Rattle.sheet.specs.declared.call.Call.TheVariants as call
use Rattle.sheet.specs.Calls.{Answer, answer, changes}
use Rattle.sheet.specs.Settles.{none_lawful_at}
use Rattle.runs.specs.declared.step.Step.{Step}
use Rattle.runs.specs.declared.step.Step.TheVariants.{Change, Settle}
use Rattle.runs.specs.Runs.{Takes, Run, Reached}

-- the scheduled sizes of a sheet, by the places of its lines
abbrev pub sizes_of : Contents → Schedule
sizes_of c i = (slice_index_or c.lines i no_line).scheduled

-- What a call takes hull, lines and laid sizes to: what an accepted one makes of them; settle and a
-- refused call leave them.
abbrev pub drawn_by : Contents → Step → Contents
drawn_by c (Change x) = cond (is_ok (answer c x)) (changes c x) c
drawn_by c Settle = c

-- the hull, the lines and the laid sizes that a list of calls puts on a sheet, from the calls alone
abbrev pub drawn : Contents → List Step → Contents
drawn c [] = c
drawn c (x ∷ xs) = drawn (drawn_by c x) xs

-- the answer to settle: by its first questions, or by whether some schedule is lawful
abbrev pub SettleAnswer : Setting → List Line → Result Hull Refusal → Answer → Type 0
SettleAnswer s ls (Err e) r = r ≡ Err e
SettleAnswer s ls (Ok h) (Ok u) = (sizes : Schedule) × Lawful (job s h ls) sizes
SettleAnswer s ls (Ok h) (Err e) = (e ≡ none_lawful_at) × NoneLawful (job s h ls)

-- the answer to a call, asked of its arguments and of the hull, lines and laid sizes so taken
abbrev pub Answered : Setting → Contents → Step → Answer → Type 0
Answered s c (Change x) r = r ≡ answer c x
Answered s c Settle r = SettleAnswer s c.lines (ready_hull s c.hull c.lines) r

abbrev pub AllAnswered : Setting → Contents → List Step → List Answer → Type 0
AllAnswered s c [] [] = Unit {0}
AllAnswered s c [] (r ∷ rs) = ⊥
AllAnswered s c (x ∷ xs) [] = ⊥
AllAnswered s c (x ∷ xs) (r ∷ rs) = Answered s c x r × AllAnswered s (drawn_by c x) xs rs

abbrev pub is_settle : Step → Bool
is_settle (Change x) = false
is_settle Settle = true

-- whether the last accepted call was settle; b where none was accepted
abbrev pub settled_last : Bool → List Step → List Answer → Bool
settled_last b [] rs = b
settled_last b (x ∷ xs) [] = b
settled_last b (x ∷ xs) (r ∷ rs) = settled_last (cond (is_ok r) (is_settle x) b) xs rs

-- After every list of calls on a new sheet the sheet holds the hull, the lines and the laid sizes that
-- the calls alone put on it, and every call was answered by its questions. It is settled exactly when
-- the last accepted call was settle, and with no schedule where it is not.
pub record Taken (s : Setting) (room : ℕ) (steps : List Step) (answers : List Answer) (c : Contents) : Type 0 where
  pub drawn : unsettled c ≡ drawn (new_sheet room) steps
  pub answered : AllAnswered s (new_sheet room) steps answers
  pub settled : c.settled ≡ settled_last false steps answers
  pub unscheduled : c.settled ≡ false → c ≡ unsettled c

abbrev pub TakenFromTheCalls : Type 0
TakenFromTheCalls = (s : Setting) (room : ℕ) (steps : List Step) (answers : List Answer) (c : Contents) → Run s (new_sheet room) steps answers c → Taken s room steps answers c

-- the calls of a run fix its answers and what the sheet holds after it
abbrev pub CallsFixTheRun : Type 0
CallsFixTheRun = (s : Setting) (c a b : Contents) (steps : List Step) (qs rs : List Answer) → Run s c steps qs a → Run s c steps rs b → (qs ≡ rs) × (a ≡ b)

-- An accepted settle writes a lawful schedule, and every other lawful one has a size at least as large
-- in every line. It is refused for want of one exactly where its other questions all get a yes and no
-- schedule is lawful.
pub record LeastWritten (s : Setting) (c after : Contents) (r : Answer) : Type 0 where
  pub accepted : r ≡ Ok tt → (h : Hull) × (ready_hull s c.hull c.lines ≡ Ok h) × Least (job s h c.lines) (sizes_of after)
  pub refused : r ≡ Err none_lawful_at → (h : Hull) × (ready_hull s c.hull c.lines ≡ Ok h) × NoneLawful (job s h c.lines)
  pub for_want : (h : Hull) → ready_hull s c.hull c.lines ≡ Ok h → NoneLawful (job s h c.lines) → r ≡ Err none_lawful_at

abbrev pub SettleWritesTheLeast : Type 0
SettleWritesTheLeast = (s : Setting) (c after : Contents) (r : Answer) → Reached s c → Takes s c Settle r after → LeastWritten s c after r

-- the sheet is settled by a design basis: its scheduled sizes are the least lawful schedule of its lines
pub record SettledBy (s : Setting) (c : Contents) : Type 0 where
  pub hull : Hull
  pub ready : ready_hull s c.hull c.lines ≡ Ok hull
  pub least : Least (job s hull c.lines) (sizes_of c)

abbrev pub ASettledSheetHasTheLeast : Type 0
ASettledSheetHasTheLeast = (s : Setting) (c : Contents) → Reached s c → c.settled ≡ true → SettledBy s c

-- the same hull and lines but for scheduled and laid sizes, and no laid size is smaller on the second
pub record LaidMore (c d : Contents) : Type 0 where
  pub hull : d.hull ≡ c.hull
  pub long : length d.lines ≡ length c.lines
  pub entry : (i : ℕ) → i < length c.lines → (slice_index_or d.lines i no_line).entry ≡ (slice_index_or c.lines i no_line).entry
  pub laid : (i : ℕ) → i < length c.lines → (slice_index_or c.lines i no_line).laid ≤ (slice_index_or d.lines i no_line).laid

-- where more is laid, settle writes no smaller size for any line, and finds nothing lawful if it found nothing before
pub record NoSmaller (c c' d' : Contents) (q r : Answer) : Type 0 where
  pub sizes : q ≡ Ok tt → r ≡ Ok tt → (i : ℕ) → i < length c.lines → sizes_of c' i ≤ sizes_of d' i
  pub refused : q ≡ Err none_lawful_at → r ≡ Err none_lawful_at

abbrev pub LayingMoreLowersNothing : Type 0
LayingMoreLowersNothing = (s : Setting) (c d c' d' : Contents) (q r : Answer) → Reached s c → Reached s d → LaidMore c d
    → Takes s c Settle q c' → Takes s d Settle r d' → NoSmaller c c' d' q r

abbrev pub size_or_none : Option Line → ℕ
size_or_none None = 0
size_or_none (Some l) = l.scheduled

-- the scheduled size of the line of a mark
abbrev pub size_for : ℕ → List Line → ℕ
size_for m ls = size_or_none (line_of m ls)

-- lay the lines of these marks at the sizes that the sheet has scheduled for them
abbrev pub lays : Contents → List ℕ → List Step
lays c [] = []
lays c (m ∷ ms) = Change (call.Lay m (size_for m c.lines)) ∷ lays c ms

-- and settle
abbrev pub laying_back : Contents → List ℕ → List Step
laying_back c ms = lays c ms ++ (Settle ∷ [])

abbrev pub AllThere : Contents → List ℕ → Type 0
AllThere c [] = Unit {0}
AllThere c (m ∷ ms) = (there_in m c.lines ≡ true) × AllThere c ms

abbrev pub AllAccepted : List Answer → Type 0
AllAccepted [] = Unit {0}
AllAccepted (r ∷ rs) = (r ≡ Ok tt) × AllAccepted rs

-- every call is accepted, and every line is given the size that it had
pub record AsBefore (c after : Contents) (answers : List Answer) : Type 0 where
  pub accepted : AllAccepted answers
  pub settled : after.settled ≡ true
  pub sizes : (i : ℕ) → sizes_of after i ≡ sizes_of c i

-- Whoever lays any lines of a settled sheet, in any order and more than once, at the sizes that settle
-- wrote for them, and settles again, finds everything as before.
abbrev pub LayingBackChangesNothing : Type 0
LayingBackChangesNothing = (s : Setting) → Sound s → (c after : Contents) (marks : List ℕ) (answers : List Answer) → Reached s c → c.settled ≡ true → AllThere c marks
    → Run s c (laying_back c marks) answers after → AsBefore c after answers

-- the first refusal among answers, if there is one
abbrev pub first_refusal : List Answer → Answer
first_refusal [] = Ok tt
first_refusal (Ok u ∷ rs) = first_refusal rs
first_refusal (Err e ∷ rs) = Err e

-- What laying back on a sheet comes to: the calls are made, one after the other, and the answer is the
-- first refusal among theirs. Where the sheet was settled by the same design basis and has all the
-- marks, everything is accepted, and every size is as before.
pub record LaidBack (s : Setting) (c : Contents) (marks : List ℕ) (r : Answer) (after : Contents) : Type 0 where
  pub answers : List Answer
  pub run : Run s c (laying_back c marks) answers after
  pub answer : r ≡ first_refusal answers
  pub keeps : SettledBy s c → AllThere c marks → (r ≡ Ok tt) × AsBefore c after answers
