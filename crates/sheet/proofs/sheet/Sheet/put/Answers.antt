use Rattle.std.proofs.Common.{refl, ap, ◌∙◌}
use Rattle.std.proofs.lemmas.List.{get_or_default}
use Rattle.std.proofs.lemmas.List.Recursion.{and_set}
use Rattle.register.specs.Keys.{each}
use Rattle.register.proofs.Orders.{climbs-set}
use Rattle.design.specs.Lines.{no_line, mark_of, line_kept}
use Rattle.sheet.specs.Sheets.{lines_of}
use Rattle.sheet.proofs.Keeping.{still_sheet}
use Rattle.sheet.proofs.sheet.Sheet.put.Goals as goal

pub invariant_of-self : goal.invariant_of-self
invariant_of-self c =
    let s = c.args.self.now in
    let ls = lines_of s in
    let e = c.replace.ensures in
    let same = c.requires.mark ∙ ap mark_of (get_or_default ls c.args.place no_line c.args.line c.requires.place) in
    still_sheet s _ e.places e.tidy (e.elements s.fits) (climbs-set mark_of 0 ls c.args.place c.args.line same ∙ s.climbing, and_set (each line_kept) line_kept refl (λ _ _. refl) ls c.args.place c.args.line c.requires.kept s.limits)
