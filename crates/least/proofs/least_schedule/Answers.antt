use Rattle.std.proofs.Common.{subst}
use Rattle.design.specs.Schedules.{NoneLawful}
use Rattle.least.proofs.least_schedule.Goals as goal

pub returns-in_err-climb-clause-least : goal.returns-in_err-climb-clause-least
returns-in_err-climb-clause-least g c = rw c.from_residual-in_err-climb.ensures (λ _. subst NoneLawful c.start.ensures.kept.job c.in_err-climb.ensures.least)
