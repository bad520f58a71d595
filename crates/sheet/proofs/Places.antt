-- The line that a mark names.
use Rattle.std.proofs.Common.{◌≡◌, ℕ, true, List, Some, None, get_or, refl, sym, ap, ◌∙◌}
use Rattle.std.proofs.lemmas.List.Recursion.{and_at}
use Rattle.register.specs.Keys.{place_of, each}
use Rattle.register.proofs.Orders.{found}
use Rattle.design.specs.declared.line.Line.{Line}
use Rattle.design.specs.Lines.{no_line, mark_of, line_of, line_kept}
use Rattle.design.proofs.Places.{at_place, line_is}
use Rattle.sheet.specs.Sheets.{Place}

module _ (m : ℕ) (ls : List Line) where
  pub unnamed : place_of mark_of m ls ≡ None → line_of m ls ≡ None
  unnamed e = line_is m ls ∙ ap (λ o. at_place o ls) e

  pub place_is : (p : ℕ) → place_of mark_of m ls ≡ Some p → Place m ls p
  place_is p e =
      let f = found mark_of m ls p e in
      record { inside = f.within; named = f.named no_line; line = line_is m ls ∙ ap (λ o. at_place o ls) e; change = λ g. sym (f.put g no_line); strike = sym f.taken }

  pub kept_at : (p : ℕ) → place_of mark_of m ls ≡ Some p → each line_kept ls ≡ true → line_kept (get_or ls p no_line) ≡ true
  kept_at p e kept = and_at (each line_kept) line_kept refl (λ _ _. refl) ls p no_line (found mark_of m ls p e).within kept
