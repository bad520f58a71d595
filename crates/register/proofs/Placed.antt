-- Where a new element goes.
use Rattle.std.proofs.Common.{◌≡◌, ℕ, ◌+◌, ◌≤◌, true, false, cond, ltb, List, [], ◌∷◌, length, sym, refl, ap, ◌∙◌, zero-le, one-add, arith}
use Rattle.std.specs.List.{insert}
use Rattle.std.proofs.lemmas.Bool.Decides.{nat_tests}
use Rattle.register.specs.Keys.{placed, rank}

module _ {X : Type 0} (key : X → ℕ) where
  pub rank_le : (k : ℕ) (xs : List X) → rank key k xs ≤ length xs
  rank_le k [] = zero-le
  rank_le k (x ∷ xs) = grind (arith, nat_tests, rank_le k xs)

  -- e goes to the place that its rank says
  pub placed_is : (e : X) (xs : List X) → placed key e xs ≡ insert xs (rank key (key e) xs) e
  placed_is e [] = refl
  placed_is e (x ∷ xs) =
      elim (ltb (key e) (key x)) as (λ b. cond b (e ∷ x ∷ xs) (x ∷ placed key e xs) ≡ insert (x ∷ xs) (cond b 0 (1 + rank key (key e) xs)) e)
      [ true ↦ refl | false ↦ ap (λ y. x ∷ y) (placed_is e xs) ∙ ap (λ n. insert (x ∷ xs) n e) (sym (one-add (rank key (key e) xs))) ]
