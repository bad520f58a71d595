use Rattle.std.proofs.Common.{◌≡◌, length, arith, rules}
use Rattle.std.specs.List.{sum_by}
use Rattle.std.proofs.lemmas.List.Concat.{length-flat_map}
use Rattle.writer.specs.Writing.{line_bytes}
use Rattle.writer.proofs.Puts.{lines_short}
use Rattle.writer.proofs.record_length.Goals as goal

pub overflow_add-result : goal.overflow_add-result
overflow_add-result c =
    let total : c.sum.result ≡ sum_by (λ l. length (line_bytes l)) c.args.lines.now = search rules in
    omega (arith, length-flat_map line_bytes c.args.lines.now, lines_short c.args.lines.now)

pub returns : goal.returns
returns c =
    let total : c.sum.result ≡ sum_by (λ l. length (line_bytes l)) c.args.lines.now = search rules in
    omega (arith, length-flat_map line_bytes c.args.lines.now)
