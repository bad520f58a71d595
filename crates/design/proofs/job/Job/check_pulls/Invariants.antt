use Rattle.std.proofs.Common.{ℕ, ◌<◌}
use Rattle.design.specs.Jobs.{job_of, Kept}
use Rattle.design.specs.Schedules.{Bears, laid_sizes}
use Rattle.design.proofs.job.Job.check_pulls.Given as goal

abbrev pub invariant-loop-other : goal.invariant-loop-other
invariant-loop-other g l =
    let j = job_of g.D.DesignBasis.setting l.initial.self in
    Kept g.D.DesignBasis.setting g.D.DesignBasis.lenders l.initial.self l.self
    × ((k : ℕ) → k < l.other-index → Bears j (laid_sizes j) l.i k)
