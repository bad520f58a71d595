use Rattle.design.specs.Jobs.{job_of, Kept}
use Rattle.least.specs.Steps.{Ready, left}
use Rattle.least.proofs.search.Search.climb.Given as goal

abbrev pub invariant-loop : goal.invariant-loop
invariant-loop g l =
    let was = l.initial.self in
    Kept g.D.DesignBasis.setting g.D.DesignBasis.lenders was.job l.self.job
    × Ready (job_of g.D.DesignBasis.setting was.job) l.self.sizes

abbrev pub decreases-loop : goal.decreases-loop
decreases-loop g l = left l.self.sizes
