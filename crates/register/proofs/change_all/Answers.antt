use Rattle.std.proofs.Common.{arith}
use Rattle.register.proofs.Changed.{all_changed}
use Rattle.register.proofs.change_all.Goals as goal

pub returns : goal.returns
returns g c = all_changed (g.C.Change.gives c.args.change.now) c.args.elements.now c.loop-place.elements (omega arith) (λ i d h. c.loop-place.invariant.0 i d (omega arith))
