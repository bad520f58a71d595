use Rattle.std.proofs.Common.{refl, rules}
use Rattle.register.proofs.Held.{put_tidy}
use Rattle.register.proofs.Register.insert.Goals as goal

pub returns-clause-tidy : goal.returns-clause-tidy
returns-clause-tidy g c = λ tidy. put_tidy g.E.Keyed.key g.E.Keyed.vacant c.args.e c.args.self.now _ (search rules) (search rules) refl tidy
