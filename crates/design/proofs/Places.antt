-- The line of a mark, and its place.
use Rattle.std.specs.List.{list_any}
use Rattle.std.proofs.Common.{◌≡◌, ℕ, eqb, List, [], ◌∷◌, get_or, is_some, Some, None, Option, sym, refl, ap, ◌∙◌, one-add, arith}
use Rattle.register.specs.Keys.{place_of, further}
use Rattle.register.proofs.Found as found
use Rattle.design.specs.declared.line.Line.{Line}
use Rattle.design.specs.Lines.{no_line, mark_of, line_of, there_in}

abbrev pub at_place : Option ℕ → List Line → Option Line
at_place None ls = None
at_place (Some p) ls = Some (get_or ls p no_line)

at_further : (o : Option ℕ) (l : Line) (ls : List Line) → at_place o ls ≡ at_place (further 1 o) (l ∷ ls)
at_further None l ls = refl
at_further (Some p) l ls = ap (λ k. Some (get_or (l ∷ ls) k no_line)) (sym (one-add p))

-- the line of a mark stands at the place of the mark
pub line_is : (m : ℕ) (ls : List Line) → line_of m ls ≡ at_place (place_of mark_of m ls) ls
line_is m [] = refl
line_is m (l ∷ ls) = grind (arith, line_is m ls, at_further (place_of mark_of m ls) l ls)

-- a mark is there where a line has it
pub there_any : (m : ℕ) (ls : List Line) → there_in m ls ≡ list_any (λ l. eqb (mark_of l) m) ls
there_any m [] = refl
there_any m (l ∷ ls) = grind (arith, there_any m ls)

pub there_is : (m : ℕ) (ls : List Line) → there_in m ls ≡ is_some (place_of mark_of m ls)
there_is m ls = there_any m ls ∙ sym (found.place_any mark_of m ls)

pub no_place : (m : ℕ) (ls : List Line) → line_of m ls ≡ None → place_of mark_of m ls ≡ None
no_place m ls e = found.no_place mark_of m ls (sym (there_any m ls) ∙ ap is_some e)
