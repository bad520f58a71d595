use Rattle.std.proofs.Common.{◌≡◌}
use Rattle.design.specs.Settings.{set_by}
use Rattle.trials.specs.Tries.{FailBefore}
use Rattle.trials.proofs.first_passing.Given as goal

abbrev pub invariant-loop-size : goal.invariant-loop-size
invariant-loop-size g l =
    (l.lines ≡ l.initial.lines)
    × (g.B.RuleBook.meaning l.book ≡ g.B.RuleBook.meaning l.initial.book)
    × (g.P.Stock.members l.plates ≡ g.P.Stock.members l.initial.plates)
    × (g.S.Stock.members l.stiffeners ≡ g.S.Stock.members l.initial.stiffeners)
    × FailBefore (set_by (g.B.RuleBook.meaning l.initial.book) (g.P.Stock.members l.initial.plates) (g.S.Stock.members l.initial.stiffeners)) (g.L.Lines.contents l.initial.lines) l.mark l.sizes l.size-index
