use Rattle.std.proofs.Common.{◌+◌, ◌*◌, ◌≤◌}
use Rattle.arrayvec.specs.ArrayVec.{array_vec_len}
use Rattle.least.specs.Steps.{NotedTo}
use Rattle.least.proofs.pairs.note_named.Given as goal

abbrev pub invariant-loop-k : goal.invariant-loop-k
invariant-loop-k l = (array_vec_len l.pairs ≤ array_vec_len l.initial.pairs + 2 * l.k) × NotedTo l.lines l.i l.k l.pairs.items
