use Rattle.std.proofs.Common.{refl}
use Rattle.stocks.proofs.Stepping.{least_size, no_size}
use Rattle.stocks.proofs.build_up.BuildUpStock.at_least.Goals as goal

pub returns-in_err-steps : goal.returns-in_err-steps
returns-in_err-steps c =
    let s = c.args.self.now in
    record { value = rw c.from_residual.ensures (no_size s.first s.step s.count c.args.floor s.rises c.in_err-steps.ensures); same = refl }

pub returns : goal.returns
returns c =
    let s = c.args.self.now in
    let steps = c.in_ok-steps.ensures in
    record { value = least_size s.first s.step s.count c.args.floor c.in_ok-steps.steps s.rises steps.0 steps.1; same = refl }
