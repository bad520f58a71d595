use Rattle.std.proofs.Common.{◌≡◌, length}
use Rattle.runs.specs.Back.{SizesTo}
use Rattle.runs.proofs.back.scheduled_sizes.Given as goal

abbrev pub invariant-loop-place : goal.invariant-loop-place
invariant-loop-place l = SizesTo l.lines l.place l.sizes × (length l.sizes ≡ 96)
