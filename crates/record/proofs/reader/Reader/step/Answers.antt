use Rattle.std.proofs.Common.{rules}
use Rattle.record.proofs.Steps.{told_short}
use Rattle.record.proofs.reader.Reader.step.Goals as goal

pub returns-in_err-call-clause-told : goal.returns-in_err-call-clause-told
returns-in_err-call-clause-told c =
    told_short c.args.self.now.bytes.now c.args.self.now.at c.args.width c.args.self.now.stage c.from_residual.result c.requires.turn (search rules) (search rules)
