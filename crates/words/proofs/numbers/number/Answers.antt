use Rattle.std.proofs.Common.{◌+◌, ◌*◌, ◌<◌, length, drop, sym, ◌∙◌, arith, rules}
use Rattle.words.specs.Statements.{wide}
use Rattle.words.proofs.Digits.{digit_more, over, some_digits}
use Rattle.words.proofs.numbers.number.Goals as goal

pub returns-then-value-from : goal.returns-then-value-from
returns-then-value-from c =
    let some : 0 < length c.args.word.now = search rules in
    let d = c.in_ok-digit.field-0 in
    sym (over wide (10 * c.loop-byte.value + d) (drop (c.loop-byte.byte-index + 1) c.args.word.now) (omega (arith, c.from.ensures, c.from-in-loop-byte.ensures)))
    ∙ sym (digit_more wide c.loop-byte.value c.args.word.now c.loop-byte.byte-index c.loop-byte-test.true d c.in_ok-digit.ensures.0 c.in_ok-digit.ensures.1)
    ∙ c.loop-byte.invariant.1 ∙ some_digits wide c.args.word.now some
