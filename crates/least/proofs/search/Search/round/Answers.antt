use Rattle.std.proofs.Common.{Some, None, get_or, subst}
use Rattle.design.proofs.Keeping.{kept_so_far}
use Rattle.least.specs.Steps.{Step, Holds, pair}
use Rattle.least.proofs.Raising.{step_more, broken_off}
use Rattle.least.proofs.search.Search.round.Goals as goal

pub returns-in_err-is_raised-clause-step : goal.returns-in_err-is_raised-clause-step
returns-in_err-is_raised-clause-step g c =
    let p = get_or c.args.pairs.now c.loop-pair.pair-index (pair 0 0) in
    rw c.from_residual.ensures
    (broken_off _ _ _ _ _ _ (subst (λ j. Step j (Holds p) c.loop-pair.self.sizes c.lift.new.self.sizes None) c.loop-pair.invariant.0.job c.in_err-is_raised.ensures.step))

pub loop-pair-preserved : goal.loop-pair-preserved
loop-pair-preserved g c =
    let i = c.loop-pair.invariant in
    let p = get_or c.args.pairs.now c.loop-pair.pair-index (pair 0 0) in (
      kept_so_far i.0 c.lift.ensures.kept,
      step_more _ c.args.pairs.now c.loop-pair.pair-index c.loop-pair-test.true _ _ _ c.loop-pair.is_raised c.in_ok-is_raised.field-0
          i.1 (subst (λ j. Step j (Holds p) c.loop-pair.self.sizes c.lift.new.self.sizes (Some c.in_ok-is_raised.field-0)) i.0.job c.in_ok-is_raised.ensures.step),
    )
