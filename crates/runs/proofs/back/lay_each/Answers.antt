use Rattle.sheet.specs.Sheets.{contents}
use Rattle.runs.proofs.Laying.{laying_none, laying_more}
use Rattle.runs.proofs.back.lay_each.Goals as goal

pub loop-mark-init : goal.loop-mark-init
loop-mark-init c = laying_none (contents c.args.sheet.now)

pub loop-mark-preserved : goal.loop-mark-preserved
loop-mark-preserved c = laying_more _ _ _ c.args.sizes.now c.args.marks.now c.loop-mark.mark-index _ _ _ c.requires c.loop-mark-test.true c.loop-mark.invariant c.lay_one.ensures c.and-first.ensures
