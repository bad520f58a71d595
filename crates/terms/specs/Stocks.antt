-- What a stock means.
use Rattle.std.specs.Prelude.{◌≡◌, ℕ, ◌≤◌, Bool, true, cond, Some, None, Option, ◌≢◌}
use Rattle.terms.specs.declared.entry.Entry.{Entry}
use Rattle.terms.specs.declared.hull.Hull.{Hull}
use Rattle.terms.specs.Rules.{Rules}

-- a stock's sizes are from 1 to 60,000
abbrev pub Ranged : (ℕ → Bool) → Type 0
Ranged stock = (n : ℕ) → stock n ≡ true → (1 ≤ n) × (n ≤ 60000)

-- the smallest size of a stock at or above a floor; none exactly when there is none
abbrev pub AtLeast : (ℕ → Bool) → ℕ → Option ℕ → Type 0
AtLeast stock floor None = (n : ℕ) → floor ≤ n → stock n ≢ true
AtLeast stock floor (Some v) = (stock v ≡ true) × (floor ≤ v) × ((n : ℕ) → floor ≤ n → stock n ≡ true → v ≤ n)

-- plates are taken from one stock, stiffeners from the other
abbrev pub stock_of : Rules → (ℕ → Bool) → (ℕ → Bool) → Hull → Entry → ℕ → Bool
stock_of book plates stiffeners hull line n = cond (book.plate hull line) (plates n) (stiffeners n)
