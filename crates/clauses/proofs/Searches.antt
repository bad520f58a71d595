-- The least number that passes a test.
use Rattle.std.proofs.Common.{◌≡◌, ℕ, zero, suc, ◌+◌, ◌*◌, ◌^◌, ◌<◌, ◌≤◌, Bool, true, false, sym, ◌∙◌, ⊎_elim, arith}
use Rattle.std.proofs.lemmas.Nat.{mul-le}
use Rattle.std.proofs.lemmas.Bool.{cond-true, cond-false, cases_lt}
use Rattle.clauses.specs.Least.{least_from, least_up_to, Least}

-- a number that nothing from t on undercuts, and that passes unless it is the end, is the least from t on
from_is : (k t r : ℕ) (test : ℕ → Bool) → t ≤ r → r ≤ t + k → ((m : ℕ) → t ≤ m → m < r → test m ≡ false) → (r < t + k → test r ≡ true)
    → least_from k t test ≡ r
unfolding least_from
from_is zero t r test low high short passes = omega arith
from_is (suc k) t r test low high short passes =
    ⊎_elim
    (λ less. cond-false (test t) t (least_from k (suc t) test) (short t (omega arith) less)
    ∙ from_is k (suc t) r test (omega arith) (omega arith) (λ m a b. short m (omega arith) b) (λ h. passes (omega arith)))
    (λ same. let e : r ≡ t = omega arith in cond-true (test t) t (least_from k (suc t) test) (rw e at (passes (omega arith))) ∙ sym e)
    (cases_lt t r)

pub least_is : (end r : ℕ) (test : ℕ → Bool) → Least end test r → least_up_to end test ≡ r
unfolding least_up_to
least_is end r test l = from_is end 0 r test (omega arith) (omega (arith, l.within)) (λ m a b. l.short m b) (λ h. l.passes (omega arith))

-- a thicker plate resists no less
pub resists_more : (strength t m : ℕ) → t ≤ m → t * t * strength * 10 ^ 10 ≤ m * m * strength * 10 ^ 10
resists_more strength t m h = grind (arith, mul-le t t m m, mul-le (t * t) strength (m * m) strength)
