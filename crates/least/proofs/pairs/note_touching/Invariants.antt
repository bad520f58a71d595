use Rattle.std.proofs.Common.{◌*◌, ◌≤◌}
use Rattle.arrayvec.specs.ArrayVec.{array_vec_len}
use Rattle.least.specs.Steps.{NotedTo}
use Rattle.least.proofs.pairs.note_touching.Given as goal

abbrev pub invariant-loop-i : goal.invariant-loop-i
invariant-loop-i l = (array_vec_len l.pairs ≤ 192 * l.i) × NotedTo l.lines l.i 0 l.pairs.items
