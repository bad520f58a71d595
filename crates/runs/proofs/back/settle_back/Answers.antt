use Rattle.std.proofs.Common.{rules}
use Rattle.runs.proofs.Laying.{settled_back}
use Rattle.runs.proofs.back.settle_back.Goals as goal

pub returns : goal.returns
returns g c = record {
  laid = settled_back _ (g.D.DesignBasis.sound _) _ _ _ _ _ _ _ c.lay_each-laid.ensures c.settle_by-settled.ensures.settles c.and.ensures;
  kept = search rules;
}
