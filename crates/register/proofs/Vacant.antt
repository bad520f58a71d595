-- What stands in the first places of a memory, and what in the others.
use Rattle.std.proofs.Common.{◌≡◌, ℕ, suc, ◌+◌, ◌-◌, ◌<◌, ◌≤◌, List, [], ◌∷◌, ◌++◌, length, take, drop, replicate, sym, ap, ◌∙◌, arith}
use Rattle.std.specs.List.{remove}
use Rattle.std.proofs.lemmas.List.{append_assoc, drop-drop, drop-replicate, drop_at, length-append, length-drop, length-take-le}
use Rattle.std.proofs.lemmas.List.Edits.{length-remove}

module _ {X : Type 0} where
  module _ (v : X) (n : ℕ) (s : List X) (rest : drop n s ≡ replicate (length s - n) v) where
    -- one more element
    pub one_less : drop (n + 1) s ≡ replicate (length s - (n + 1)) v
    one_less = sym (drop-drop 1 n s) ∙ ap (drop 1) rest ∙ drop-replicate 1 (length s - n) v ∙ ap (λ k. replicate k v) (omega arith)

    -- one element less, of which the place is vacant
    module _ (p : ℕ) (below : p < n) (fits : n ≤ length s) where
      long : length (remove (take n s) p) ≡ n - 1
      long = omega (arith, length-take-le n s fits, length-remove (take n s) p (omega (arith, length-take-le n s fits)))

      pub one_more : drop (n - 1) ((remove (take n s) p ++ v ∷ []) ++ drop n s) ≡ replicate (length ((remove (take n s) p ++ v ∷ []) ++ drop n s) - (n - 1)) v
      one_more =
          let xs = remove (take n s) p in
          let whole : length ((xs ++ v ∷ []) ++ drop n s) ≡ length s = omega (arith, long, length-append (xs ++ v ∷ []) (drop n s), length-append xs (v ∷ []), length-drop n s) in
          let more : suc (length s - n) ≡ length ((xs ++ v ∷ []) ++ drop n s) - (n - 1) = omega arith in
          ap (drop (n - 1)) (append_assoc xs (v ∷ []) (drop n s)) ∙ drop_at xs (v ∷ drop n s) (n - 1) long ∙ ap (λ y. v ∷ y) rest ∙ ap (λ k. replicate k v) more
