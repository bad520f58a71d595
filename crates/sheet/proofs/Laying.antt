-- Laying a size at a place of a sheet, and laying the old one back.
use Rattle.std.proofs.Common.{◌≡◌, ℕ, zero, suc, ◌≤◌, true, cond, leb, List, [], ◌∷◌, length, get_or, sym, refl, ap, ◌∙◌, le-leb}
use mir.Syntax.{named}
use denote.Struct.Declared.{row}
use denote.Struct.Record.{values_one}
use Rattle.std.proofs.lemmas.Bool.{and_parts, and_from, cond_both}
use Rattle.std.proofs.lemmas.List.{set_past, set-get_or}
use Rattle.register.specs.Keys.{each}
use Rattle.register.specs.Registers.{elements_of}
use Rattle.register.proofs.Same.{same_register}
use Rattle.terms.specs.Questions.{all_yes, value_questions}
use Rattle.design.specs.declared.line.Line.{Line}
use Rattle.design.specs.contracts.line.Line.{the_type as the_line}
use Rattle.design.specs.Lines.{no_line, line_kept, laid_as}
use Rattle.trial.specs.Trials.{laid_at, lay_at}
use Rattle.sheet.specs.declared.sheet.Sheet.{Sheet}
use Rattle.sheet.specs.contracts.sheet.Sheet.{struct, the_type}
use Rattle.sheet.specs.Laid.{Laid}
use Rattle.sheet.proofs.Keeping.{tidy}

-- what is laid on a line laid again, after another size, leaves the lines as they were
laid-back : (ls : List Line) (i v : ℕ) → laid_at (laid_at ls i v) i (get_or ls i no_line).laid ≡ ls
laid-back [] i v = refl
laid-back (l ∷ ls) zero v = refl
laid-back (l ∷ ls) (suc i) v = ap (λ y. l ∷ y) (laid-back ls i v)

-- what was laid may be laid: it was accepted once
old_small : (ls : List Line) (i : ℕ) → each line_kept ls ≡ true → leb (get_or ls i no_line).laid 60000 ≡ true
old_small [] i e = refl
old_small (l ∷ ls) zero e = (and_parts (all_yes (value_questions l.entry)) (leb l.laid 60000) (and_parts (line_kept l) (each line_kept ls) e).0).1
old_small (l ∷ ls) (suc i) e = old_small ls i (and_parts (line_kept l) (each line_kept ls) e).1

lay_back : (ls : List Line) (i v : ℕ) → each line_kept ls ≡ true → lay_at (lay_at ls i v) i (get_or ls i no_line).laid ≡ ls
lay_back ls i v kept =
    let old = (get_or ls i no_line).laid in
    ap (λ b. cond b (laid_at (lay_at ls i v) i old) (lay_at ls i v)) (old_small ls i kept)
    ∙ cond_both (leb v 60000) (laid_at ls i v) ls (λ l. laid_at l i old ≡ ls) (λ _. laid-back ls i v) (λ _. set-get_or ls i no_line)

-- sheets whose fields are the same are the same
same_sheet : (s t : Sheet) → s.lines ≡ t.lines → s.hull ≡ t.hull → s.settled ≡ t.settled → s ≡ t
same_sheet s t l h e = values_one (struct (record { mir = named 0; lft = [] })) (the_type (record { mir = named 0; lft = [] })).propositions s t (λ j. (l j, (h j, (e j, tt))))

-- what is laid and laid back leaves the sheet as it was
pub sheet-back : (s t u : Sheet) (i v w : ℕ) → Laid s i v t → w ≡ (get_or (elements_of s.lines) i no_line).laid → Laid t i w u → u ≡ s
sheet-back s t u i v w laid old again =
    let ls = elements_of s.lines in
    let lines : elements_of u.lines ≡ ls = again.lines ∙ ap (λ l. lay_at l i w) laid.lines ∙ ap (lay_at (lay_at ls i v) i) old ∙ lay_back ls i v s.limits in
    same_sheet u s (same_register (record { mir = named 0; lft = [] }) (row the_line) no_line s.lines u.lines (tidy s) (tidy u) (record { room = again.places.room ∙ laid.places.room; pointer = again.places.pointer ∙ laid.places.pointer; name = again.places.name ∙ laid.places.name }) lines)
    (again.hull ∙ laid.hull) (again.settled ∙ laid.settled)

-- a line with a size that may be laid keeps the limits
pub still_kept : (l : Line) (v : ℕ) → line_kept l ≡ true → v ≤ 60000 → line_kept (laid_as v l) ≡ true
still_kept l v kept h = let both = and_parts (all_yes (value_questions l.entry)) (leb l.laid 60000) kept in and_from (all_yes (value_questions l.entry)) (leb v 60000) both.0 (le-leb v 60000 h)

-- a size that is laid past the last line leaves the sheet as it is
pub laid_past : (s : Sheet) (i v : ℕ) → length (elements_of s.lines) ≤ i → Laid s i v s
laid_past s i v h =
    let ls = elements_of s.lines in
    record {
      places = record { room = refl; pointer = refl; name = refl };
      lines = sym (cond_both (leb v 60000) (laid_at ls i v) ls (λ l. l ≡ ls) (λ _. set_past ls i (laid_as v (get_or ls i no_line)) h) (λ _. refl));
      hull = refl;
      settled = refl;
    }
