use Rattle.std.proofs.Common.{refl, ◌∙◌}
use Rattle.std.proofs.lemmas.Bool.{lt-leb}
use Rattle.stocks.proofs.Stepping.{from_first, below_first}
use Rattle.stocks.proofs.build_up.BuildUpStock.holds.Goals as goal

pub returns-then-size-self : goal.returns-then-size-self
returns-then-size-self c =
    let s = c.args.self.now in
    record { value = c.has_rise.ensures ∙ from_first s.first s.step s.count c.args.size s.rises c.if-size-self.true; same = refl }

pub returns-else-size-self : goal.returns-else-size-self
returns-else-size-self c =
    let s = c.args.self.now in
    record { value = lt-leb s.first c.args.size c.if-size-self.false ∙ below_first s.first s.step s.count c.args.size c.if-size-self.false; same = refl }
