use Rattle.std.proofs.Common.{◌≡◌, ℕ, ◌<◌, ◌≤◌, get_or}
use Rattle.register.proofs.change_all.Given as goal

abbrev pub invariant-loop-place : goal.invariant-loop-place
invariant-loop-place g l =
    ((k : ℕ) (d : _) → k < l.place → get_or l.elements k d ≡ g.C.Change.gives l.change k (get_or l.initial.elements k d))
    × ((k : ℕ) (d : _) → l.place ≤ k → get_or l.elements k d ≡ get_or l.initial.elements k d)
