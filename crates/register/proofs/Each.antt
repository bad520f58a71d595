-- What every element of a list passes, it passes after a change of the list.
use Rattle.std.proofs.Common.{◌≡◌, ℕ, zero, suc, Bool, true, List, [], ◌∷◌, refl, arith}
use Rattle.std.specs.List.{remove}
use Rattle.register.specs.Keys.{placed, each, each_changed}

module _ {X : Type 0} (test : X → Bool) where
  pub each_removed : (xs : List X) (i : ℕ) → each test xs ≡ true → each test (remove xs i) ≡ true
  each_removed [] zero e = refl
  each_removed [] (suc i) e = refl
  each_removed (x ∷ xs) zero e = grind arith
  each_removed (x ∷ xs) (suc i) e = grind (arith, each_removed xs i)

  pub each_placed : (key : X → ℕ) (a : X) (xs : List X) → test a ≡ true → each test xs ≡ true → each test (placed key a xs) ≡ true
  each_placed key a [] t e = grind arith
  each_placed key a (x ∷ xs) t e = grind (arith, each_placed key a xs t)

  -- a change of each element that keeps the test
  pub each-changed : (f : ℕ → X → X) → ((i : ℕ) (x : X) → test (f i x) ≡ test x) → (xs : List X) → each test (each_changed f xs) ≡ each test xs
  each-changed f same [] = refl
  each-changed f same (x ∷ xs) = grind (arith, same 0 x, each-changed (λ i. f (suc i)) (λ i. same (suc i)) xs)
