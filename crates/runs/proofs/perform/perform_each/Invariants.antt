use Rattle.std.proofs.Common.{◌≡◌, ℕ, ◌≤◌, take, drop}
use Rattle.sheet.specs.Sheets.{contents}
use Rattle.runs.specs.Runs.{Run}
use Rattle.runs.proofs.perform.perform_each.Given as goal

abbrev pub invariant-loop-i : goal.invariant-loop-i
invariant-loop-i g l =
    (g.D.DesignBasis.setting l.basis ≡ g.D.DesignBasis.setting l.initial.basis)
    × (g.D.DesignBasis.lenders l.basis ≡ g.D.DesignBasis.lenders l.initial.basis)
    × Run (g.D.DesignBasis.setting l.initial.basis) (contents l.initial.sheet) (take l.i (l.step-items)) (take l.i l.answers) (contents l.sheet)
    × ((k : ℕ) → l.i ≤ k → drop k l.answers ≡ drop k l.initial.answers)
