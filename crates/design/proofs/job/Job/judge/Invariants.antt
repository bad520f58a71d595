use Rattle.std.proofs.Common.{ℕ, ◌<◌}
use Rattle.design.specs.Jobs.{job_of, Kept}
use Rattle.design.specs.Schedules.{LawfulAt, laid_sizes}
use Rattle.design.proofs.job.Job.judge.Given as goal

abbrev pub invariant-loop-i : goal.invariant-loop-i
invariant-loop-i g l =
    let j = job_of g.D.DesignBasis.setting l.initial.self in
    Kept g.D.DesignBasis.setting g.D.DesignBasis.lenders l.initial.self l.self
    × ((i : ℕ) → i < l.i → LawfulAt j (laid_sizes j) i)
