-- What a check would say with another size on one line.
use Rattle.std.specs.Prelude.{◌≡◌, ℕ, ◌<◌, Bool, true, false, List, length, Some, None, Ok, Err, Option, Result, slice_index}
use Rattle.terms.specs.declared.refusal.Refusal.{Refusal}
use Rattle.design.specs.declared.verdict.Failure.{Failure}
use Rattle.design.specs.Contents.{Contents}
use Rattle.design.specs.Settings.{Setting}
use Rattle.design.specs.Verdicts.{Checks}
use Rattle.trial.specs.Trials.{trial_answer, tried}

abbrev pub TriedOn : Setting → Contents → Result (Unit {0}) Refusal → Result (Result (Unit {0}) Failure) Refusal → Type 0
TriedOn s c (Err e) r = r ≡ Err e
TriedOn s c (Ok u) r = Checks s c.hull c.lines r

-- refused where the trial may not begin; else what a check says of the sheet under the trial
abbrev pub Tries : Setting → Contents → ℕ → ℕ → Result (Result (Unit {0}) Failure) Refusal → Type 0
Tries s c m n r = TriedOn s (tried c m n) (trial_answer c m n) r

-- whether the design passes with the size
abbrev pub Passing : Setting → Contents → ℕ → ℕ → Result Bool Refusal → Type 0
Passing s c m n (Ok true) = Tries s c m n (Ok (Ok tt))
Passing s c m n (Ok false) = (f : Failure) × Tries s c m n (Ok (Err f))
Passing s c m n (Err e) = Tries s c m n (Err e)

-- with each of the first k sizes the design fails
abbrev pub FailBefore : Setting → Contents → ℕ → List ℕ → ℕ → Type 0
FailBefore s c m sizes k = (i : ℕ) → i < k → Passing s c m (slice_index sizes i) (Ok false)

-- with the size n, at some place, a trial answers r, and with each size before it the design fails
pub record ComesTo (s : Setting) (c : Contents) (m : ℕ) (sizes : List ℕ) (n : ℕ) (r : Result Bool Refusal) : Type 0 where
  pub at : ℕ
  pub inside : at < length sizes
  pub size : n ≡ slice_index sizes at
  pub before : FailBefore s c m sizes at
  pub here : Passing s c m n r

-- The first of some sizes with which the design passes, or none where it fails with every one; refused
-- as the first is with which a trial is refused, if the design passes with none before it.
abbrev pub FirstPassing : Setting → Contents → ℕ → List ℕ → Result (Option ℕ) Refusal → Type 0
FirstPassing s c m sizes (Ok None) = FailBefore s c m sizes (length sizes)
FirstPassing s c m sizes (Ok (Some n)) = ComesTo s c m sizes n (Ok true)
FirstPassing s c m sizes (Err e) = (n : ℕ) × ComesTo s c m sizes n (Err e)
