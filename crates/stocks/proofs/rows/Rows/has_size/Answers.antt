use Rattle.std.proofs.Common.{is_some, ap, ◌∙◌}
use Rattle.register.proofs.Found.{place_any}
use Rattle.stocks.specs.RowLists.{size_of}
use Rattle.stocks.specs.RowStocks.{rows_of}
use Rattle.stocks.proofs.rows.Rows.has_size.Goals as goal

pub returns : goal.returns
returns c = c.is_some.ensures ∙ ap is_some c.place_of.ensures ∙ place_any size_of c.args.size (rows_of c.args.self.now)
