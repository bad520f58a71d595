use Rattle.register.proofs.Each.{each_removed}
use Rattle.register.proofs.Orders.{climbs_removed}
use Rattle.design.specs.Lines.{mark_of, line_kept}
use Rattle.sheet.specs.Sheets.{lines_of}
use Rattle.sheet.proofs.Keeping.{still_sheet}
use Rattle.sheet.proofs.sheet.Sheet.remove.Goals as goal

pub invariant_of-self : goal.invariant_of-self
invariant_of-self c =
    let s = c.args.self.now in
    let e = c.remove.ensures in
    still_sheet s _ e.places e.tidy (e.elements s.fits) (climbs_removed mark_of 0 (lines_of s) c.args.place s.climbing, each_removed line_kept (lines_of s) c.args.place s.limits)
