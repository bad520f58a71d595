-- Sizes by the number of steps from the first.
use Rattle.std.proofs.Common.{◌≡◌, ℕ, ◌+◌, ◌-◌, ◌*◌, ◌/◌, ◌%◌, ◌<◌, ◌≤◌, min, false, eqb, ltb, Some, None, sym, refl, ap, ◌∙◌, subst, ⊎_elim, add-mul, arith}
use Rattle.std.proofs.lemmas.Nat.{mul-le, div-add-mod', mod_below, div-mul-add, mod-mul-add}
use Rattle.std.proofs.lemmas.Bool.{and_parts, and_from, cases_lt, eqb-true, eq-eqb, ltb-true, lt-ltb}
use Rattle.std.proofs.lemmas.Bool.Decides.{same_from_decides}
use Rattle.terms.specs.Stocks.{AtLeast}
use Rattle.stocks.specs.BuildUps.{built, built_decides, whole_steps, steps_up}

-- below the first there is no size
pub below_first : (first step count n : ℕ) → n < first → false ≡ built first step count n
below_first first step count n below =
    same_from_decides false (built first step count n)
    ((λ e. cc), (λ size. absurd (let is = size.2 in omega arith)))
    (built_decides first step count n)

-- from the first on, division tells the sizes
pub from_first : (first step count n : ℕ) → 0 < step → first ≤ n → whole_steps step count (n - first) ≡ built first step count n
from_first first step count n rises above =
    let rise : ℕ = n - first in
    same_from_decides (whole_steps step count rise) (built first step count n) (
      (λ e.
          let parts = and_parts (eqb (rise % step) 0) (ltb (rise / step) count) e in
          let none = eqb-true (rise % step) 0 parts.0 in
          (rise / step, ltb-true (rise / step) count parts.1, omega (arith, div-add-mod' rise step))),
      (λ size.
          let (k, below, at) = size in
          let is : rise ≡ k * step + 0 = omega arith in
          let none : rise % step ≡ 0 = ap (λ x. x % step) is ∙ mod-mul-add k step 0 rises in
          let steps : rise / step ≡ k = ap (λ x. x / step) is ∙ div-mul-add k step 0 rises in
          and_from (eqb (rise % step) 0) (ltb (rise / step) count) (eq-eqb (rise % step) 0 none) (lt-ltb (rise / step) count (omega arith))),
    )
    (built_decides first step count n)

-- so many steps make up the rise
steps_enough : (step rise : ℕ) → 0 < step → rise ≤ steps_up step rise * step
steps_enough step rise rises =
    let split = div-add-mod' rise step in
    let rest = mod_below rise step rises in
    let parts = add-mul (rise / step) (min 1 (rise % step)) step in
    ⊎_elim
    (λ none. omega arith)
    (λ some. let one : min 1 (rise % step) * step ≡ 1 * step = ap (λ x. x * step) (omega arith) in omega arith)
    (cases_lt (rise % step) 1)

-- and fewer do not
steps_least : (step rise k : ℕ) → 0 < step → rise ≤ k * step → steps_up step rise ≤ k
steps_least step rise k rises enough =
    let split = div-add-mod' rise step in
    ⊎_elim
    (λ fewer. absurd (⊎_elim
    (λ none. omega (arith, mul-le (k + 1) step (rise / step) step (omega arith) (omega arith), add-mul k 1 step))
    (λ some. omega (arith, mul-le k step (rise / step) step (omega arith) (omega arith)))
    (cases_lt (rise % step) 1)))
    (λ h. h)
    (cases_lt k (steps_up step rise))

pub least_size : (first step count floor k : ℕ) → 0 < step → k < count → k ≡ steps_up step (floor - first) → AtLeast (built first step count) floor (Some (first + k * step))
least_size first step count floor k rises below is =
    let enough : floor - first ≤ k * step = subst (λ j. floor - first ≤ j * step) (sym is) (steps_enough step (floor - first) rises) in (
      (built_decides first step count (first + k * step)).1 (k, below, refl),
      omega arith,
      (λ n above e.
          let (j, within, at) = (built_decides first step count n).0 e in
          let least = steps_least step (floor - first) j rises (omega arith) in
          omega (arith, mul-le k step j step (omega arith) (omega arith))),
    )

pub no_size : (first step count floor : ℕ) → 0 < step → count ≤ steps_up step (floor - first) → AtLeast (built first step count) floor None
no_size first step count floor rises past n above e =
    let (k, below, at) = (built_decides first step count n).0 e in
    omega (arith, steps_least step (floor - first) k rises (omega arith))
