use Rattle.std.proofs.Common.{is_ok}
use Rattle.std.proofs.lemmas.Bool.{cond_both}
use Rattle.register.specs.Keys.{placed}
use Rattle.register.proofs.Each.{each_placed}
use Rattle.register.proofs.Orders.{climbs-placed}
use Rattle.design.specs.Lines.{mark_of, line_kept}
use Rattle.design.proofs.Places.{no_place}
use Rattle.sheet.specs.Sheets.{lines_of}
use Rattle.sheet.proofs.Keeping.{Orderly, still_sheet}
use Rattle.sheet.proofs.sheet.Sheet.add.Goals as goal

pub invariant_of-self : goal.invariant_of-self
invariant_of-self c =
    let s = c.args.self.now in
    let ls = lines_of s in
    let line = c.args.line in
    let e = c.insert-added.ensures in
    still_sheet s _ e.places e.tidy e.elements
    (cond_both (is_ok c.insert-added.result) (placed mark_of line ls) ls Orderly
    (λ _. (climbs-placed mark_of line 0 ls s.climbing c.requires.marked (no_place (mark_of line) ls c.requires.new), each_placed line_kept mark_of line ls c.requires.kept s.limits))
    (λ _. (s.climbing, s.limits)))
