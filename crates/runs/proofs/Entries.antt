-- What is asked before settle depends on the hull and the entered values alone.
use Rattle.std.proofs.Common.{◌≡◌, ℕ, Bool, true, false, cond, not, ◌&&◌, ◌||◌, eqb, List, [], ◌∷◌, map, is_some, Some, None, Ok, Option, Result, sym, refl, ap, ◌∙◌}
use Rattle.std.specs.List.{find}
use Rattle.register.specs.Keys.{place_of, further}
use Rattle.terms.specs.declared.entry.Entry.{Entry}
use Rattle.terms.specs.declared.ground.Ground.{Ground}
use Rattle.terms.specs.declared.ground.Ground.TheVariants.{NeighbourMissing, LineUnfit}
use Rattle.terms.specs.declared.hull.Hull.{Hull}
use Rattle.terms.specs.declared.refusal.Refusal.{Refusal}
use Rattle.design.specs.declared.line.Line.{Line}
use Rattle.design.specs.Lines.{mark_of, there_in, entered_as}
use Rattle.design.proofs.Places.{there_is}
use Rattle.design.specs.Settings.{Setting}
use Rattle.design.specs.Verdicts.{names_missing, unfit, refused_by, ready_hull}

-- a line as it was entered, with nothing laid
abbrev pub as_entered : Line → Line
as_entered l = entered_as l.entry

place_entered : (m : ℕ) (ls : List Line) → place_of mark_of m (map as_entered ls) ≡ place_of mark_of m ls
place_entered m [] = refl
place_entered m (l ∷ ls) = ap (λ o. cond (eqb (mark_of l) m) (Some 0) (further 1 o)) (place_entered m ls)

there_entered : (m : ℕ) (ls : List Line) → there_in m (map as_entered ls) ≡ there_in m ls
there_entered m ls = there_is m (map as_entered ls) ∙ ap is_some (place_entered m ls) ∙ sym (there_is m ls)

names_entered : (ls : List Line) (e : Entry) → names_missing (map as_entered ls) e ≡ names_missing ls e
names_entered ls e = λ i. (not (eqb e.near 0) && not (there_entered e.near ls i)) || (not (eqb e.far 0) && not (there_entered e.far ls i))

refused_entered : (g : Ground) (test : Entry → Bool) (r : Result Hull Refusal) (ls : List Line) → refused_by g (find (λ l. test l.entry) (map as_entered ls)) r ≡ refused_by g (find (λ l. test l.entry) ls) r
refused_entered g test r [] = refl
refused_entered g test r (l ∷ ls) =
    elim (test l.entry) as (λ b. refused_by g (cond b (Some (as_entered l)) (find (λ x. test x.entry) (map as_entered ls))) r ≡ refused_by g (cond b (Some l) (find (λ x. test x.entry) ls)) r)
    [ true ↦ refl | false ↦ refused_entered g test r ls ]

ready_entered : (s : Setting) (o : Option Hull) (ls : List Line) → ready_hull s o (map as_entered ls) ≡ ready_hull s o ls
ready_entered s None ls = refl
ready_entered s (Some h) ls =
    refused_entered NeighbourMissing (names_missing (map as_entered ls)) (refused_by LineUnfit (find (λ l. unfit s h l.entry) (map as_entered ls)) (Ok h)) ls
    ∙ (λ i. refused_by NeighbourMissing (find (λ l. names_entered ls l.entry i) ls) (refused_entered LineUnfit (unfit s h) (Ok h) ls i))

-- two sheets with the same hull and the same entered values are asked alike
pub ready_same : (s : Setting) (o p : Option Hull) (ls ms : List Line) → p ≡ o → map as_entered ms ≡ map as_entered ls → ready_hull s p ms ≡ ready_hull s o ls
ready_same s o p ls ms e f = sym (ready_entered s p ms) ∙ (λ i. ready_hull s (e i) (f i)) ∙ ready_entered s o ls

-- and hold lines of the same marks, at the same places
module _ (m : ℕ) (ls ms : List Line) (same : map as_entered ms ≡ map as_entered ls) where
  pub place_same : place_of mark_of m ms ≡ place_of mark_of m ls
  place_same = sym (place_entered m ms) ∙ ap (place_of mark_of m) same ∙ place_entered m ls

  pub there_same : there_in m ms ≡ there_in m ls
  there_same = sym (there_entered m ms) ∙ ap (there_in m) same ∙ there_entered m ls
