use Rattle.std.proofs.Common.{◌≡◌, ◌≤◌, drop}
use Rattle.words.specs.Statements.{wide}
use Rattle.words.proofs.Digits.{number_after}
use Rattle.words.proofs.numbers.number.Given as goal

abbrev pub invariant-loop-byte : goal.invariant-loop-byte
invariant-loop-byte l =
    (l.value ≤ wide) × (number_after wide l.value (drop l.byte-index l.word) ≡ number_after wide 0 l.word)
