-- Sizes as users read them.
use Rattle.std.specs.Prelude.{ℕ, ◌/◌, ◌%◌, List, ◌++◌, codes, decimal}

-- a number of hundredths with two decimals
abbrev pub two_decimals : ℕ → List ℕ
two_decimals n = decimal (n / 100) ++ (codes "." ++ (decimal (n / 10 % 10) ++ decimal (n % 10)))
