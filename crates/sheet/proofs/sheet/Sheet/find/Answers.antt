use Rattle.std.proofs.Common.{◌≡◌, ◌<◌, get_or, length, Err, Some, refl, sym, ap, ◌∙◌, subst, rules, arith}
use Rattle.terms.specs.declared.ground.Ground.TheVariants.{MarkUnknown}
use Rattle.terms.specs.Questions.{refusal_of}
use Rattle.register.specs.Keys.{place_of}
use Rattle.design.specs.Lines.{no_line, mark_of, line_kept}
use Rattle.sheet.specs.Sheets.{lines_of, Found}
use Rattle.sheet.proofs.Places.{unnamed, place_is, kept_at}
use Rattle.sheet.proofs.sheet.Sheet.find.Goals as goal
use Rattle.sheet.proofs.sheet.Sheet.find.Goals.{In_ok-place}

here : (c : In_ok-place) → place_of mark_of c.args.mark (lines_of c.args.self.now) ≡ Some c.in_ok-place.place
here c = sym c.place_of-found.ensures ∙ c.in_ok-place.ensures.ok_part

pub returns-in_err-place : goal.returns-in_err-place
returns-in_err-place c =
    let ls = lines_of c.args.self.now in
    let refused : c.from_residual.result ≡ Err (refusal_of MarkUnknown c.args.mark) = search rules in
    subst (Found c.args.mark ls) (sym refused) (unnamed c.args.mark ls (sym c.place_of-found.ensures ∙ c.in_err-place.ensures.ok_part), refl)

within : (c : In_ok-place) → c.in_ok-place.place < length (lines_of c.args.self.now)
within c = (place_is c.args.mark (lines_of c.args.self.now) c.in_ok-place.place (here c)).inside

pub offset_bounds-elements-place : goal.offset_bounds-elements-place
offset_bounds-elements-place c = let h = within (goal.at.offset_bounds-elements-place c).In_ok-place in omega (arith, c.elements.type_inv, ap length c.elements.ensures)

pub bounds-elements-place : goal.bounds-elements-place
bounds-elements-place c = let h = within (goal.at.bounds-elements-place c).In_ok-place in omega (arith, ap length c.elements.ensures)

pub returns : goal.returns
returns c =
    let s = c.args.self.now in
    let at = c.in_ok-place.place in
    let is = here (goal.at.returns c).In_ok-place in
    let line = ap (λ l. get_or l at no_line) c.elements.ensures in
    (place_is c.args.mark (lines_of s) at is, line, ap line_kept line ∙ kept_at c.args.mark (lines_of s) at is s.limits)
