use Rattle.std.proofs.Common.{◌≡◌, rules}
use Rattle.std.specs.Option.{option_map}
use Rattle.stocks.specs.RowLists.{size_of}
use Rattle.stocks.specs.RowStocks.{rows_of}
use Rattle.stocks.proofs.Listing.{least_found}
use Rattle.stocks.proofs.rows.Rows.size_from.Goals as goal

pub returns : goal.returns
returns c =
    let s = c.args.self.now in
    let mapped : c.map.result ≡ option_map size_of c.element_from.result = search rules in
    rw mapped (least_found c.args.floor (rows_of s) c.element_from.result s.climbing c.element_from.ensures)
