use Rattle.record.proofs.Once.{told_once}
use Rattle.record.proofs.reader.Reader.new.Goals as goal

pub returns-clause-once : goal.returns-clause-once
returns-clause-once c = told_once
