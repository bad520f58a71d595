-- What a check answers.
use Rattle.std.specs.Prelude.{◌≡◌, ℕ, ◌<◌, ◌≤◌, Bool, true, false, not, ◌&&◌, ◌||◌, List, find, Some, None, Ok, Err, Option, Result, ◌==◌}
use Rattle.terms.specs.declared.entry.Entry.{Entry}
use Rattle.terms.specs.declared.ground.Ground.{Ground}
use Rattle.terms.specs.declared.ground.Ground.TheVariants.{HullMissing, NeighbourMissing, LineUnfit}
use Rattle.terms.specs.declared.hull.Hull.{Hull}
use Rattle.terms.specs.declared.refusal.Refusal.{Refusal}
use Rattle.terms.specs.Questions.{refusal_of}
use Rattle.design.specs.declared.line.Line.{Line}
use Rattle.design.specs.declared.verdict.Failure.{Failure}
use Rattle.design.specs.declared.verdict.Shortfall.{Shortfall}
use Rattle.design.specs.declared.verdict.Shortfall.TheVariants.{NotInStock, BelowOwnSize, BelowPull}
use Rattle.design.specs.Lines.{mark_of, there_in}
use Rattle.design.specs.Schedules.{Job, job, count, line, own, pull, touch, stocked, Schedule, Bears, LawfulAt, Lawful, laid_sizes}
use Rattle.design.specs.Settings.{Setting}

abbrev pub shortfall_number : Shortfall → ℕ
shortfall_number NotInStock = 1
shortfall_number BelowOwnSize = 2
shortfall_number BelowPull = 3

-- the first line, of those in their order, whose pull line i does not bear, has the mark m
pub record FirstPull (j : Job) (sizes : Schedule) (i m : ℕ) : Type 0 where
  pub at : ℕ
  pub inside : at < count j
  pub marked : m ≡ mark_of (line j at)
  pub touches : touch j i at ≡ true
  pub above : sizes i < pull j i at (sizes at)
  pub before : (k : ℕ) → k < at → Bears j sizes i k

-- what is said of the pulls on line i, at the laid sizes: it bears them all, or the mark of the first line whose pull it does not bear
abbrev pub Pulled : Job → ℕ → Result (Unit {0}) ℕ → Type 0
Pulled j i (Ok u) = (k : ℕ) → k < count j → Bears j (laid_sizes j) i k
Pulled j i (Err m) = FirstPull j (laid_sizes j) i m

-- line i fails on a ground, and on none before it; m is the neighbour's mark, or 0
abbrev pub FailsOn : Job → Schedule → ℕ → Shortfall → ℕ → Type 0
FailsOn j sizes i NotInStock m = (stocked j i (sizes i) ≡ false) × (m ≡ 0)
FailsOn j sizes i BelowOwnSize m = (stocked j i (sizes i) ≡ true) × (sizes i < own j i) × (m ≡ 0)
FailsOn j sizes i BelowPull m = (stocked j i (sizes i) ≡ true) × (own j i ≤ sizes i) × FirstPull j sizes i m

-- what is said of line i, at the laid sizes: that the schedule is lawful there, or the failure
abbrev pub Failing : Job → ℕ → Result (Unit {0}) Failure → Type 0
Failing j i (Ok u) = LawfulAt j (laid_sizes j) i
Failing j i (Err f) = (f.mark ≡ mark_of (line j i)) × FailsOn j (laid_sizes j) i f.ground f.neighbour

-- the failure is one, and the schedule is lawful at every line before it
pub record FirstFailure (j : Job) (sizes : Schedule) (f : Failure) : Type 0 where
  pub at : ℕ
  pub inside : at < count j
  pub marked : f.mark ≡ mark_of (line j at)
  pub fails : FailsOn j sizes at f.ground f.neighbour
  pub before : (i : ℕ) → i < at → LawfulAt j sizes i

-- a schedule passes exactly when it is lawful, and else the first failure is named
abbrev pub Judged : Job → Schedule → Result (Unit {0}) Failure → Type 0
Judged j sizes (Ok u) = Lawful j sizes
Judged j sizes (Err f) = (Lawful j sizes → ⊥) × FirstFailure j sizes f

-- whether a neighbour is named that is not there; 0 names none
abbrev pub missing : List Line → ℕ → Bool
missing ls m = not (m == 0) && not (there_in m ls)

-- whether a line names a neighbour that is not there
abbrev pub names_missing : List Line → Entry → Bool
names_missing ls e = missing ls e.near || missing ls e.far

abbrev pub unfit : Setting → Hull → Entry → Bool
unfit s h e = not (s.rules.fits h e)

-- refused on a ground at the mark of a line, if there is such a line
abbrev pub refused_by : {A : Type 0} → Ground → Option Line → Result A Refusal → Result A Refusal
refused_by g None r = r
refused_by g (Some l) r = Err (refusal_of g (mark_of l))

-- what is asked before lines are judged or settled: the hull, or the first question with a no
abbrev pub ready_hull : Setting → Option Hull → List Line → Result Hull Refusal
ready_hull s None ls = Err (refusal_of HullMissing 0)
ready_hull s (Some h) ls =
    refused_by NeighbourMissing (find (λ l. names_missing ls l.entry) ls) (refused_by LineUnfit (find (λ l. unfit s h l.entry) ls) (Ok h))

-- refused by its questions, or judged by the laid sizes
abbrev pub CheckedOn : Setting → List Line → Result Hull Refusal → Result (Result (Unit {0}) Failure) Refusal → Type 0
CheckedOn s ls (Err e) r = r ≡ Err e
CheckedOn s ls (Ok h) (Ok v) = Judged (job s h ls) (laid_sizes (job s h ls)) v
CheckedOn s ls (Ok h) (Err e) = ⊥

-- a check of the lines on a hull, by a design basis, answers r
abbrev pub Checks : Setting → Option Hull → List Line → Result (Result (Unit {0}) Failure) Refusal → Type 0
Checks s hull ls r = CheckedOn s ls (ready_hull s hull ls) r
