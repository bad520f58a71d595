-- What makes a number a quotient that is rounded up.
use Rattle.std.proofs.Common.{◌≡◌, ℕ, ◌+◌, ◌-◌, ◌*◌, ◌<◌, ◌≤◌, ⊎_elim, add-mul, one-mul, arith}
use native.Mathlib.Nat.{div-eq_of_lt-le}
use Rattle.std.proofs.lemmas.Nat.{mul-le}
use Rattle.std.proofs.lemmas.Bool.{cases_lt}
use Rattle.clauses.specs.Rounding.{divided_up, RoundedUp}

next : (q d : ℕ) → (q + 1) * d ≡ q * d + d
next q d = let e = add-mul q 1 d in let f = one-mul d in omega arith

pub rounds_value : (n d q : ℕ) → 0 < d → n ≤ q * d → q * d < n + d → divided_up n d ≡ q
rounds_value n d q pos enough close =
    div-eq_of_lt-le {k = q} d {m = n + (d - 1)} (omega arith) (let e = next q d in omega arith)

pub rounds : (n d q : ℕ) → 0 < d → n ≤ q * d → q * d < n + d → RoundedUp n d q
rounds n d q pos enough close = record {
  enough = λ _. enough;
  least = λ t h. ⊎_elim (λ below. absurd (let e = next t d in let k = mul-le (t + 1) d q d (omega arith) (omega arith) in omega arith)) (λ above. above) (cases_lt t q);
}
