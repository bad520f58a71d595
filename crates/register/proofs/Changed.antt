-- Lists of which each element is changed.
use Rattle.std.proofs.Common.{◌≡◌, ℕ, zero, suc, ◌<◌, List, [], ◌∷◌, map, length, get_or, refl, ap, sym, ◌∙◌, arith}
use Rattle.std.proofs.lemmas.List.{same_lists}
use Rattle.register.specs.Keys.{each_changed}

module _ {X : Type 0} where
  pub length-changed : (f : ℕ → X → X) (xs : List X) → length (each_changed f xs) ≡ length xs
  length-changed f [] = refl
  length-changed f (x ∷ xs) = ap suc (length-changed (λ i. f (suc i)) xs)

  pub changed_at : (f : ℕ → X → X) (xs : List X) (i : ℕ) (d : X) → i < length xs → get_or (each_changed f xs) i d ≡ f i (get_or xs i d)
  changed_at f [] i d h = absurd (omega arith)
  changed_at f (x ∷ xs) zero d h = refl
  changed_at f (x ∷ xs) (suc i) d h = changed_at (λ k. f (suc k)) xs i d (omega arith)

  pub all_changed : (f : ℕ → X → X) (xs ys : List X) → length ys ≡ length xs → ((i : ℕ) (d : X) → i < length xs → get_or ys i d ≡ f i (get_or xs i d)) → ys ≡ each_changed f xs
  all_changed f xs ys long done = same_lists ys (each_changed f xs) (long ∙ sym (length-changed f xs)) (λ i d h. done i d (omega arith) ∙ sym (changed_at f xs i d (omega arith)))

  -- the same change at every place
  pub changed_map : (f : X → X) (xs : List X) → each_changed (λ i. f) xs ≡ map f xs
  changed_map f [] = refl
  changed_map f (x ∷ xs) = ap (λ ys. f x ∷ ys) (changed_map f xs)
