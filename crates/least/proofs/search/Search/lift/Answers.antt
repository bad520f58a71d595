use Rattle.design.proofs.Keeping.{same_setting, same_hull, same_lines}
use Rattle.least.proofs.Raising.{lifted, over}
use Rattle.least.proofs.search.Search.lift.Goals as goal

pub returns-in_err-self-clause-step : goal.returns-in_err-self-clause-step
returns-in_err-self-clause-step g c =
    let p = c.pull_on-pull.ensures in
    rw (p.sizes, c.from_residual.ensures)
    (over _ (g.D.DesignBasis.sound _) _ c.args.pair c.requires.pair c.requires.ready (rw (same_setting p.kept, same_hull p.kept, same_lines p.kept, p.value, c.from-i.ensures) at c.in_err-self.ensures.value))

pub returns-clause-step : goal.returns-clause-step
returns-clause-step g c =
    let p = c.pull_on-pull.ensures in
    rw (p.sizes, c.from-i.ensures)
    (lifted _ (g.D.DesignBasis.sound _) _ c.args.pair c.requires.pair c.requires.ready c.in_ok-self.field-0 (rw (p.sizes, p.value, c.from-i.ensures) at c.if-pull-self.false)
    (rw (same_setting p.kept, same_hull p.kept, same_lines p.kept, p.value, c.from-i.ensures) at c.in_ok-self.ensures.value))
