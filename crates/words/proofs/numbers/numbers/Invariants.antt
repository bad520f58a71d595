use Rattle.std.proofs.Common.{◌≡◌, ◌-◌, replicate, length, take}
use Rattle.words.specs.Numbers.{numbers_of}
use Rattle.words.specs.Statements.{wide}
use Rattle.words.proofs.Values.{read_on}
use Rattle.words.proofs.numbers.numbers.Given as goal

abbrev pub invariant-loop-value : goal.invariant-loop-value
invariant-loop-value g l = record {
  count : length l.value-items ≡ g.row.N;
  same : read_on wide (take l.value-index l.value-items) (g.row.N - l.value-index) l.words ≡ numbers_of (replicate g.row.N wide) l.initial.words;
}
