use Rattle.std.proofs.Common.{subst, below_more}
use Rattle.design.specs.Schedules.{LawfulAt, laid_sizes}
use Rattle.design.proofs.Keeping.{kept_so_far}
use Rattle.design.proofs.job.Job.judge.Goals as goal

pub loop-i-preserved : goal.loop-i-preserved
loop-i-preserved g c =
    let kept = c.loop-i.invariant.0 in (
      kept_so_far kept c.check_line.ensures.kept,
      below_more _ _ c.loop-i.invariant.1 (subst (λ j. LawfulAt j (laid_sizes j) c.loop-i.i) kept.job c.in_ok-check_line.ensures.value),
    )
