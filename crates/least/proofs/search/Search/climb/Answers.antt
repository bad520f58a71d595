use Rattle.std.proofs.Common.{Some, subst}
use Rattle.design.specs.Schedules.{NoneLawful}
use Rattle.least.specs.Steps.{Step, HoldTo}
use Rattle.least.proofs.Noting.{still_least}
use Rattle.least.proofs.search.Search.climb.Goals as goal

pub returns-in_err-round-clause-least : goal.returns-in_err-round-clause-least
returns-in_err-round-clause-least g c = rw c.from_residual.ensures (subst NoneLawful c.loop.invariant.0.job c.in_err-round.ensures.step.came)

pub returns-clause-least : goal.returns-clause-least
returns-clause-least g c =
    let was = c.loop.self.sizes in
    let now = c.round.new.self.sizes in
    let i = c.loop.invariant in
    still_least _ c.args.pairs.now c.requires.pairs was now i.1
    (rw c.if-branch.false at (subst (λ j. Step j (HoldTo c.args.pairs.now) was now (Some c.in_ok-round.field-0)) i.0.job c.in_ok-round.ensures.step))
