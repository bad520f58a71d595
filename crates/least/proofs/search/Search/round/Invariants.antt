use Rattle.std.proofs.Common.{Some, take}
use Rattle.design.specs.Jobs.{job_of, Kept}
use Rattle.least.specs.Steps.{Step, HoldTo}
use Rattle.least.proofs.search.Search.round.Given as goal

abbrev pub invariant-loop-pair : goal.invariant-loop-pair
invariant-loop-pair g l =
    let was = l.initial.self in
    Kept g.D.DesignBasis.setting g.D.DesignBasis.lenders was.job l.self.job
    × Step (job_of g.D.DesignBasis.setting was.job) (HoldTo (take l.pair-index l.pairs)) was.sizes l.self.sizes (Some l.is_raised)
