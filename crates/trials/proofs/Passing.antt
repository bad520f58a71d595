-- What a verdict says of a size that is tried.
use Rattle.std.proofs.Common.{◌≡◌, ℕ, Bool, Ok, Err, Result, is_ok, sym, subst}
use Rattle.design.specs.declared.verdict.Failure.{Failure}
use Rattle.design.specs.Contents.{Contents}
use Rattle.design.specs.Settings.{Setting}
use Rattle.trials.specs.Tries.{Tries, Passing}

module _ (s : Setting) (c : Contents) (m n : ℕ) where
  pub passing : (v : Result (Unit {0}) Failure) → Tries s c m n (Ok v) → (b : Bool) → b ≡ is_ok v → Passing s c m n (Ok b)
  passing (Ok u) t b e = subst (λ x. Passing s c m n (Ok x)) (sym e) t
  passing (Err f) t b e = subst (λ x. Passing s c m n (Ok x)) (sym e) (f, t)
