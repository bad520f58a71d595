use Rattle.std.proofs.Common.{false, ap, ◌∙◌}
use Rattle.design.specs.Contents.{Contents}
use Rattle.sheet.specs.Sheets.{lines_of, contents}
use Rattle.sheet.proofs.Scheduling.{none_scheduled}
use Rattle.sheet.proofs.sheet.Sheet.unsettle.Goals as goal

pub returns : goal.returns
returns c =
    let s = c.args.self.now in
    ap (λ (x : Contents). record { hull = x.hull; lines = x.lines; settled = false; room = x.room }) c.write.ensures
    ∙ (λ j. record { hull = s.hull; lines = none_scheduled (lines_of s) j; settled = false; room = (contents s).room })
