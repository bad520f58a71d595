use Rattle.std.proofs.Common.{◌+◌, ◌-◌, ◌<◌, length, take, sym, ap, ◌∙◌, arith}
use Rattle.std.proofs.lemmas.List.{length-set, take_more_set}
use Rattle.words.specs.Statements.{wide}
use Rattle.words.proofs.Values.{read_on, read_on-more}
use Rattle.words.proofs.numbers.numbers.Goals as goal

pub loop-value-preserved : goal.loop-value-preserved
loop-value-preserved g c =
    let i = c.loop-value.value-index in
    let left = g.row.N - (i + 1) in
    let items = c.loop-value.value-items in
    let n = c.in_ok-value.field-0 in
    let within : i < length items = omega (arith, c.loop-value.invariant.count) in
    record {
      count = length-set items i n ∙ c.loop-value.invariant.count;
      same = ap (λ l. read_on wide l left c.next.new.self) (take_more_set items i n within)
          ∙ sym (read_on-more wide (take i items) (g.row.N - i) c.loop-value.words left _ _ n (omega arith) c.in_ok-next.ensures.steps c.in_ok-value.ensures)
          ∙ c.loop-value.invariant.same;
    }
