-- Words of digits.
use Rattle.std.proofs.Common.{◌≡◌, ℕ, ◌+◌, ◌-◌, ◌*◌, ◌<◌, ◌≤◌, Bool, true, cond, ◌&&◌, leb, List, [], ◌∷◌, length, get_or, drop, Some, None, Option, sym, refl, ap, ◌∙◌, arith, rules}
use Rattle.std.specs.Char.{is_ascii_digit}
use Rattle.std.specs.List.{list_all}
use Rattle.std.specs.Str.{all_ascii_digits}
use Rattle.std.proofs.lemmas.Bool.{cond-false, and_right, lt-leb, lt-ltb}
use Rattle.std.proofs.lemmas.List.{at_drop_more}
use Rattle.std.proofs.lemmas.List.Recursion.{same_from_clauses}
use Rattle.std.proofs.lemmas.Str.Parse.{IsNumeralModel, numerals_by_fold}
use Rattle.words.specs.Numbers.{value_after, number_of}

pub list_all-digits : (word : List ℕ) → list_all is_ascii_digit word ≡ all_ascii_digits word
list_all-digits = same_from_clauses (list_all is_ascii_digit) all_ascii_digits (λ c b. is_ascii_digit c && b) refl (λ _ _. refl) (λ _ _. refl)

-- a word of digits as a number
pub numeral : IsNumeralModel (λ ds. all_ascii_digits ds ≡ true) (value_after 0)
numeral = numerals_by_fold _ (search rules) value_after (search rules)

-- the number of what is left of a word after digits that write n
abbrev pub number_after : ℕ → ℕ → List ℕ → Option ℕ
number_after limit n word = cond (all_ascii_digits word && leb (value_after n word) limit) (Some (value_after n word)) None

value_after_ge : (n : ℕ) (cs : List ℕ) → n ≤ value_after n cs
value_after_ge n [] = omega arith
value_after_ge n (c ∷ cs) = omega (arith, value_after_ge (10 * n + (c - 48)) cs)

pub over : (limit n : ℕ) (word : List ℕ) → limit < n → number_after limit n word ≡ None
over limit n word high =
    cond-false _ _ _ (and_right (all_ascii_digits word) _ (lt-leb (value_after n word) limit (omega (arith, value_after_ge n word))))

module _ (limit n : ℕ) (word : List ℕ) (i : ℕ) (inside : i < length word) where
  -- the number, by whether the next byte is a digit
  abbrev split : Bool → Option ℕ
  split digit =
      let m : ℕ = value_after (10 * n + (get_or word i 0 - 48)) (drop (i + 1) word) in
      cond ((digit && all_ascii_digits (drop (i + 1) word)) && leb m limit) (Some m) None

  pub digit_more : (d : ℕ) → is_ascii_digit (get_or word i 0) ≡ true → d ≡ get_or word i 0 - 48 → number_after limit n (drop i word) ≡ number_after limit (10 * n + d) (drop (i + 1) word)
  digit_more d is value =
      at_drop_more (number_after limit n) word i 0 inside ∙ ap split is ∙ ap (λ e. number_after limit (10 * n + e) (drop (i + 1) word)) (sym value)

pub some_digits : (limit : ℕ) (word : List ℕ) → 0 < length word → number_after limit 0 word ≡ number_of limit word
some_digits limit word some =
    ap (λ b. cond (b && (all_ascii_digits word && leb (value_after 0 word) limit)) (Some (value_after 0 word)) None) (sym (lt-ltb 0 (length word) some))
