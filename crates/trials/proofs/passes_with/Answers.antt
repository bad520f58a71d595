use Rattle.std.proofs.Common.{rules}
use Rattle.design.specs.Settings.{set_by}
use Rattle.trials.proofs.Passing.{passing}
use Rattle.trials.proofs.passes_with.Goals as goal

pub returns-clause-value : goal.returns-clause-value
returns-clause-value g c =
    passing (set_by (g.B.RuleBook.meaning c.args.book.now) (g.P.Stock.members c.args.plates.now) (g.S.Stock.members c.args.stiffeners.now)) (g.L.Lines.contents c.args.lines.now) c.args.mark c.args.size
    c.in_ok-verdict.verdict (search rules) _ (search rules)
