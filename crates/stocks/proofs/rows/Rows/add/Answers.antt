use Rattle.std.proofs.Common.{◌<◌, ◌≤◌, is_ok, ap, sym, ◌∙◌, arith}
use Rattle.std.proofs.lemmas.Bool.Decides.{nat_tests}
use Rattle.register.specs.Keys.{climbs, each}
use Rattle.stocks.specs.RowLists.{size_of, is_small}
use Rattle.stocks.specs.RowStocks.{rows_of}
use Rattle.stocks.proofs.Listing.{still_climbing, still_small}
use Rattle.stocks.proofs.rows.Rows.add.Goals as goal

pub invariant_of-self : goal.invariant_of-self
invariant_of-self c =
    let s = c.args.self.now in
    let row = c.args.row in
    let ok = is_ok c.insert.result in
    let new = sym c.has_size.ensures ∙ c.if-has_size.false in
    let range : (0 < row.size) × (row.size ≤ 60000) = grind (arith, nat_tests) in
    let tidy = c.insert.ensures.tidy (record { fits = s.fits; rest = s.rest }) in
    record {
      fits = tidy.fits;
      rest = tidy.rest;
      climbing = ap (climbs size_of 0) c.insert.ensures.elements ∙ still_climbing row (rows_of s) range.0 range.1 new ok s.climbing;
      within = ap (each is_small) c.insert.ensures.elements ∙ still_small row (rows_of s) range.0 range.1 new ok s.within;
    }
