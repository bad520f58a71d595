use Rattle.std.proofs.Common.{◌++◌, ◌∙◌, subst, arith}
use Rattle.writer.specs.Putting.{Puts}
use Rattle.writer.proofs.Puts.{both, laid, not_laid}
use Rattle.writer.proofs.Cursor.put_line.Goals as goal

pub returns-then-line-gt0 : goal.returns-then-line-gt0
returns-then-line-gt0 c =
    let bytes = (λ i. c.enter_bytes.ensures i ++ c.lay_bytes.ensures i) ∙ laid c.args.line.now (omega arith) in
    subst (Puts c.args.self.now c.put-then-line-gt0.new.self) bytes (both c.put.ensures c.put-then-line-gt0.ensures)

pub returns-else-line-gt0 : goal.returns-else-line-gt0
returns-else-line-gt0 c = subst (Puts c.args.self.now c.put.new.self) (c.enter_bytes.ensures ∙ not_laid c.args.line.now (omega arith)) c.put.ensures
