-- The searches of a register in the words of the library.
use Rattle.std.proofs.Common.{◌≡◌, ℕ, eqb, ltb, List, [], ◌∷◌, length, false, is_some, None, refl, arith}
use Rattle.std.specs.List.{position, list_any}
use Rattle.std.specs.Option.{unwrap_or}
use Rattle.std.proofs.lemmas.List.Recursion.{is_position_or_len}
use Rattle.register.specs.Keys.{place_of, rank}
use Rattle.register.proofs.Placed.{rank_le}

module _ {X : Type 0} (key : X → ℕ) (k : ℕ) where
  pub place_position : (xs : List X) → position (λ x. eqb (key x) k) xs ≡ place_of key k xs
  place_position [] = refl
  place_position (x ∷ xs) = grind (arith, place_position xs)

  -- a key has a place exactly when an element has it
  pub place_any : (xs : List X) → is_some (place_of key k xs) ≡ list_any (λ x. eqb (key x) k) xs
  place_any [] = refl
  place_any (x ∷ xs) = grind (arith, place_any xs)

  pub no_place : (xs : List X) → list_any (λ x. eqb (key x) k) xs ≡ false → place_of key k xs ≡ None
  no_place [] e = refl
  no_place (x ∷ xs) e = grind (arith, no_place xs)

  -- where no key is above, the rank is the length
  pub rank_found : (xs : List X) → unwrap_or (position (λ x. ltb k (key x)) xs) (length xs) ≡ rank key k xs
  rank_found xs = grind (arith, is_position_or_len (rank key k) (λ x. ltb k (key x)) refl (λ _ _. refl) xs, rank_le key k xs)
