-- What is printed of a need.
use Rattle.std.specs.Prelude.{ℕ, cond, List, ◌++◌, Some, None, codes, decimal, Option, nat_lt}
use Rattle.terms.specs.Decimals.{two_decimals}
use Rattle.needs.specs.declared.need.Need.{Need}

-- a size that ended is only known to be above the largest
abbrev pub size_text : ℕ → List ℕ
size_text n = cond (nat_lt 60000 n) (codes "above 600.00") (two_decimals n)

abbrev pub order_text : Option ℕ → List ℕ
order_text (Some size) = codes " order " ++ two_decimals size
order_text None = codes " none large enough"

abbrev pub need_text : Need → List ℕ
need_text n = decimal n.mark ++ (codes " own " ++ (size_text n.own ++ order_text n.order))
