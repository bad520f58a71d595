-- What numbers words write.
use Rattle.std.specs.Prelude.{ℕ, ◌+◌, ◌-◌, ◌*◌, cond, ◌&&◌, List, [], ◌∷◌, length, Some, None, Option, nat_le, nat_lt}
use Rattle.std.specs.Str.{all_ascii_digits}

-- the number that is written by digits, `0` being 48, after those that write n
abbrev pub value_after : ℕ → List ℕ → ℕ
value_after n [] = n
value_after n (c ∷ cs) = value_after (10 * n + (c - 48)) cs

-- the number of a word of one or more digits, unless it is above the limit
abbrev pub number_of : ℕ → List ℕ → Option ℕ
number_of limit word =
    cond (nat_lt 0 (length word) && (all_ascii_digits word && nat_le (value_after 0 word) limit)) (Some (value_after 0 word)) None

-- a number before others, if all are there
abbrev pub before : Option ℕ → Option (List ℕ) → Option (List ℕ)
before None more = None
before (Some n) None = None
before (Some n) (Some more) = Some (n ∷ more)

-- the numbers of words, one for each limit
abbrev pub numbers_of : List ℕ → List (List ℕ) → Option (List ℕ)
numbers_of [] [] = Some []
numbers_of [] (word ∷ words) = None
numbers_of (limit ∷ limits) [] = None
numbers_of (limit ∷ limits) (word ∷ words) = before (number_of limit word) (numbers_of limits words)
