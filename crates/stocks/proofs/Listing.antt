-- Rows in a list: the first at or above a floor, and a row added.
use Rattle.std.proofs.Common.{◌≡◌, ℕ, ◌<◌, ◌≤◌, Bool, true, false, cond, ltb, leb, List, [], ◌∷◌, Some, None, Option, sym, subst, arith}
use Rattle.std.specs.Option.{option_map}
use Rattle.std.proofs.lemmas.Bool.{and_parts, leb-true, leb-false, le-leb, cond_both}
use Rattle.std.proofs.lemmas.Bool.Decides.{nat_tests}
use Rattle.register.specs.Keys.{first_from, placed, climbs, each}
use Rattle.register.proofs.Each.{each_placed}
use Rattle.register.proofs.Found.{no_place}
use Rattle.register.proofs.Orders.{climbs-placed}
use Rattle.terms.specs.Stocks.{AtLeast}
use Rattle.stocks.specs.declared.row.Row.{Row}
use Rattle.stocks.specs.RowLists.{size_of, sized, is_small, size_above}

-- a first row below the floor is passed over
passed : (floor : ℕ) (row : Row) (rows : List Row) (o : Option ℕ) → row.size < floor → AtLeast (sized rows) floor o → AtLeast (sized (row ∷ rows)) floor o
passed floor row rows None below h = λ n above e. grind (arith, nat_tests, h n above)
passed floor row rows (Some v) below h = (grind (arith, h.0), h.1, (λ n above e. grind (arith, nat_tests, h.2 n above)))

-- where sizes climb, the first at or above a floor is the smallest
first_least : (floor low : ℕ) (rows : List Row) → climbs size_of low rows ≡ true → AtLeast (sized rows) floor (option_map size_of (first_from size_of floor rows))
first_least floor low [] up = λ n above e. cc
first_least floor low (row ∷ rows) up =
    let both = and_parts (ltb low row.size) (climbs size_of row.size rows) up in
    cond_both (leb floor row.size) (Some row) (first_from size_of floor rows) (λ o. AtLeast (sized (row ∷ rows)) floor (option_map size_of o))
    (λ t. (grind (arith, nat_tests), leb-true floor row.size t, (λ n above e. grind (arith, nat_tests, size_above row.size n rows both.1))))
    (λ f. passed floor row rows (option_map size_of (first_from size_of floor rows)) (leb-false floor row.size f) (first_least floor row.size rows both.1))

pub least_found : (floor : ℕ) (rows : List Row) (o : Option Row) → climbs size_of 0 rows ≡ true → o ≡ first_from size_of floor rows → AtLeast (sized rows) floor (option_map size_of o)
least_found floor rows o up e = subst (λ q. AtLeast (sized rows) floor (option_map size_of q)) (sym e) (first_least floor 0 rows up)

-- what one more row leaves where its size is new, and in range
module _ (row : Row) (rows : List Row) (above : 0 < row.size) (le : row.size ≤ 60000) (new : sized rows row.size ≡ false) (b : Bool) where
  pub still_climbing : climbs size_of 0 rows ≡ true → climbs size_of 0 (cond b (placed size_of row rows) rows) ≡ true
  still_climbing up = cond_both b (placed size_of row rows) rows (λ l. climbs size_of 0 l ≡ true) (λ _. climbs-placed size_of row 0 rows up above (no_place size_of row.size rows new)) (λ _. up)

  pub still_small : each is_small rows ≡ true → each is_small (cond b (placed size_of row rows) rows) ≡ true
  still_small small = cond_both b (placed size_of row rows) rows (λ l. each is_small l ≡ true) (λ _. each_placed is_small size_of row rows (le-leb row.size 60000 le) small) (λ _. small)
