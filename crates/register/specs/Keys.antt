-- Lists of elements that have a key each: where a key stands, and where an element goes.
use Rattle.std.specs.Prelude.{ℕ, suc, ◌+◌, Bool, true, cond, ◌&&◌, List, [], ◌∷◌, Some, None, Option, ◌==◌, nat_le, nat_lt}
use Rattle.std.specs.List.{find}
-- whether every element passes a test
pub use Rattle.std.specs.List.{list_all as each}

-- a place that is counted from n elements further on
abbrev pub further : ℕ → Option ℕ → Option ℕ
further n None = None
further n (Some i) = Some (n + i)

-- the place of the first element whose key is k
abbrev pub place_of : {X : Type 0} → (X → ℕ) → ℕ → List X → Option ℕ
place_of key k [] = None
place_of key k (x ∷ xs) = cond (key x == k) (Some 0) (further 1 (place_of key k xs))

-- how many elements stand before the first whose key is above k
abbrev pub rank : {X : Type 0} → (X → ℕ) → ℕ → List X → ℕ
rank key k [] = 0
rank key k (x ∷ xs) = cond (nat_lt k (key x)) 0 (1 + rank key k xs)

-- e put before the first element whose key is above its own
abbrev pub placed : {X : Type 0} → (X → ℕ) → X → List X → List X
placed key e [] = e ∷ []
placed key e (x ∷ xs) = cond (nat_lt (key e) (key x)) (e ∷ x ∷ xs) (x ∷ placed key e xs)

-- without the first element whose key is k
abbrev pub without : {X : Type 0} → (X → ℕ) → ℕ → List X → List X
without key k [] = []
without key k (x ∷ xs) = cond (key x == k) xs (x ∷ without key k xs)

-- with the first element whose key is k put through f
abbrev pub changed : {X : Type 0} → (X → ℕ) → ℕ → (X → X) → List X → List X
changed key k f [] = []
changed key k f (x ∷ xs) = cond (key x == k) (f x ∷ xs) (x ∷ changed key k f xs)

-- whether the first key is above low, and each other one above the key before it
abbrev pub climbs : {X : Type 0} → (X → ℕ) → ℕ → List X → Bool
climbs key low [] = true
climbs key low (x ∷ xs) = nat_lt low (key x) && climbs key (key x) xs

-- the first element whose key is at or above k
abbrev pub first_from : {X : Type 0} → (X → ℕ) → ℕ → List X → Option X
first_from key k = find (λ x. nat_le k (key x))

-- each element changed, by what f gives at its place
abbrev pub each_changed : {X : Type 0} → (ℕ → X → X) → List X → List X
each_changed f [] = []
each_changed f (x ∷ xs) = f 0 x ∷ each_changed (λ i. f (suc i)) xs
