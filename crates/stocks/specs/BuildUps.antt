-- The sizes that can be built up from a first size by equal steps.
use Rattle.std.specs.Prelude.{◌≡◌, ℕ, zero, suc, ◌+◌, ◌-◌, ◌*◌, ◌/◌, ◌%◌, ◌<◌, ◌≤◌, min, Bool, false, ◌&&◌, ◌||◌, Some, None, Decides, Option, ◌==◌, nat_eq, nat_le, nat_lt, refl}
use Rattle.std.proofs.Common.{arith}
use Rattle.std.proofs.lemmas.Nat.{mul-le}
use Rattle.std.proofs.lemmas.Bool.Decides.{Decides-eqb, Decides-below_or}
use Rattle.terms.specs.Stocks.{Ranged}

-- the largest of so many sizes
abbrev pub last_size : ℕ → ℕ → ℕ → ℕ
last_size first step count = first + (count - 1) * step

-- whether a build-up may be made: no zero, and no size above 60,000
abbrev pub buildable : ℕ → ℕ → ℕ → Bool
buildable first step count = nat_lt 0 first && (nat_lt 0 step && (nat_lt 0 count && nat_le (last_size first step count) 60000))

-- whether n is one of so many sizes: first, first + step, and so on
unfoldable pub built : ℕ → ℕ → ℕ → ℕ → Bool
built first step zero n = false
built first step (suc k) n = n == first + k * step || built first step k n

-- whether a rise above the first size is a whole number of steps, below the count
abbrev pub whole_steps : ℕ → ℕ → ℕ → Bool
whole_steps step count rise = rise % step == 0 && nat_lt (rise / step) count

-- the least number of steps that makes up a rise
abbrev pub steps_up : ℕ → ℕ → ℕ
steps_up step rise = rise / step + min 1 (rise % step)

-- the steps from the first size to the smallest at or above a floor; none where every size is below it
abbrev pub StepsTo : ℕ → ℕ → ℕ → ℕ → Option ℕ → Type 0
StepsTo first step count floor None = count ≤ steps_up step (floor - first)
StepsTo first step count floor (Some k) = (k < count) × (k ≡ steps_up step (floor - first))

-- n is a size exactly when it stands some number of steps, below the count, above the first
pub built_decides : (first step count n : ℕ) → Decides (built first step count n) ((k : ℕ) × (k < count) × (n ≡ first + k * step))
unfolding built
built_decides first step count n =
    Decides-below_or (λ k. nat_eq n (first + k * step)) (λ k. n ≡ first + k * step) (λ m. built first step m n) (λ k. Decides-eqb n (first + k * step)) refl (λ _. refl) count

-- no size is above the last
pub size_within : (first step count k : ℕ) → last_size first step count ≤ 60000 → k < count → first + k * step ≤ 60000
size_within first step count k within below = omega (arith, mul-le k step (count - 1) step (omega arith) (omega arith))

-- every size is from 1 to 60,000
pub built_ranged : (first step count : ℕ) → 0 < first → last_size first step count ≤ 60000 → Ranged (built first step count)
built_ranged first step count above within n e =
    let size = (built_decides first step count n).0 e in
    let top = size_within first step count size.0 within size.1 in
    (omega arith, omega arith)
