-- Rounding: every division, half and per cent of a rule goes up to a whole number.
use Rattle.std.specs.Prelude.{ℕ, ◌+◌, ◌-◌, ◌*◌, ◌/◌, ◌<◌, ◌≤◌, min}

-- n / d, rounded up
abbrev pub divided_up : ℕ → ℕ → ℕ
divided_up n d = (n + (d - 1)) / d

-- r is n / d rounded up: the least number of which d times is no less than n, or 0 where d is 0
pub record RoundedUp (n d r : ℕ) : Type 0 where
  pub enough : 0 < d → n ≤ r * d
  pub least : (t : ℕ) → n ≤ t * d → r ≤ t

-- so many per cent of n
abbrev pub per_cent : ℕ → ℕ → ℕ
per_cent p n = divided_up (p * n) 100

-- a size above 60,000, the largest there is, ends as 60,001
abbrev pub ended : ℕ → ℕ
ended n = min n 60001
