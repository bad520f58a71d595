use Rattle.design.specs.Jobs.{job_of, Kept}
use Rattle.least.specs.Steps.{Begun}
use Rattle.least.proofs.search.Search.start.Given as goal

abbrev pub invariant-loop-i : goal.invariant-loop-i
invariant-loop-i g l =
    let was = l.initial.self in
    Kept g.D.DesignBasis.setting g.D.DesignBasis.lenders was.job l.self.job
    × Begun (job_of g.D.DesignBasis.setting was.job) l.i l.self.sizes
