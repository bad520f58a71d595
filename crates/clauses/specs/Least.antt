-- The least number that passes a test, up to an end.
use Rattle.std.specs.Prelude.{◌≡◌, ℕ, zero, suc, ◌<◌, ◌≤◌, Bool, true, false, cond}

-- the least of the k numbers from t on that passes, or t + k where none of them does
unfoldable pub least_from : ℕ → ℕ → (ℕ → Bool) → ℕ
least_from zero t test = t
least_from (suc k) t test = cond (test t) t (least_from k (suc t) test)

-- the least number that passes, or the end where none below the end does
unfoldable pub least_up_to : ℕ → (ℕ → Bool) → ℕ
least_up_to end test = least_from end zero test

-- the same in words: nothing smaller passes, and r passes unless it is the end
pub record Least (end : ℕ) (test : ℕ → Bool) (r : ℕ) : Type 0 where
  pub within : r ≤ end
  pub short : (t : ℕ) → t < r → test t ≡ false
  pub passes : r < end → test r ≡ true
