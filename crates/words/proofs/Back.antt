-- A statement that is spelled is read back.
use Rattle.std.proofs.Common.{◌≡◌, ℕ, ◌^◌, ◌<◌, ◌≤◌, true, false, eqb, leb, List, [], ◌∷◌, ◌++◌, map, length, get_or, All, Some, Ok, decimal, refl, ap, ◌∙◌, arith, lit<}
use Rattle.std.specs.Char.{is_ascii_digit}
use Rattle.std.specs.Option.{option_map, ok_or}
use Rattle.std.specs.Str.{all_ascii_digits}
use Rattle.std.proofs.lemmas.Fmt.{decimal_nonempty, digits_decimal, digits_value-decimal}
use Rattle.std.proofs.lemmas.List.Elements.{All-weaker}
use Rattle.std.proofs.lemmas.List.Sums.{AllPass-from_list_all}
use Rattle.std.proofs.lemmas.Bool.{and_parts, and_from, or_from, cond-true, le-leb, leb-true, lt-ltb, ne_eqb}
use Rattle.words.specs.declared.form.Form.{Form}
use Rattle.words.specs.declared.form.Form.TheVariants as form
use Rattle.words.specs.declared.statement.Statement.{Statement}
use Rattle.words.specs.declared.statement.Statement.TheVariants.{Nothing, Book, Plates, Stiffeners, Enter}
use Rattle.words.specs.declared.statement.Statement.TheVariants as statement
use Rattle.words.proofs.Bounds.{lows}
use Rattle.words.proofs.Cuts.{letters, up_to-append}
use Rattle.words.proofs.Digits.{list_all-digits, numeral}
use Rattle.words.specs.Numbers.{value_after, number_of, before, numbers_of}
use Rattle.words.specs.Spelled.{AtMost, InFields, ReadsBack, first_word, its_numbers, its_limits, spelled_numbers, spelled}
use Rattle.words.specs.Statements.{wide, series_of, hull_of, entry_of, by_words, statement_of}
use Rattle.words.specs.Words.{blank, uncommented, ended, words_after, words_of}

-- a digit is neither a blank nor the beginning of a comment
digit_blank : (c : ℕ) → is_ascii_digit c ≡ true → blank c ≡ false
digit_blank c is =
    let low = leb-true 48 c (and_parts (leb 48 c) (leb c 57) is).0 in
    or_from _ _ (ne_eqb c 32 (λ e. omega arith)) (or_from _ _ (ne_eqb c 9 (λ e. omega arith)) (ne_eqb c 13 (λ e. omega arith)))

digit_mark : (c : ℕ) → is_ascii_digit c ≡ true → eqb c 35 ≡ false
digit_mark c is =
    let low = leb-true 48 c (and_parts (leb 48 c) (leb c 57) is).0 in
    ne_eqb c 35 (λ e. omega arith)

all_digits : (ds : List ℕ) → all_ascii_digits ds ≡ true → All (λ c. is_ascii_digit c ≡ true) ds
all_digits ds all = AllPass-from_list_all is_ascii_digit ds (list_all-digits ds ∙ all)

uncommented_digits : (ds rest : List ℕ) → all_ascii_digits ds ≡ true → uncommented (ds ++ rest) ≡ ds ++ uncommented rest
uncommented_digits ds rest all =
    up_to-append 35 ds rest (All-weaker (λ c. is_ascii_digit c ≡ true) (λ c. eqb c 35 ≡ false) digit_mark ds (all_digits ds all))

words_digits : (word ds rest : List ℕ) → all_ascii_digits ds ≡ true → words_after word (ds ++ rest) ≡ words_after (word ++ ds) rest
words_digits word ds rest all =
    letters word ds rest (All-weaker (λ c. is_ascii_digit c ≡ true) (λ c. blank c ≡ false) digit_blank ds (all_digits ds all))

-- numbers that `decimal` writes
abbrev Low : List ℕ → Type 0
Low [] = Unit {0}
Low (n ∷ ns) = (n < 2 ^ 64) × Low ns

uncommented_numbers : (ns : List ℕ) → Low ns → uncommented (spelled_numbers ns) ≡ spelled_numbers ns
uncommented_numbers [] low = refl
uncommented_numbers (n ∷ ns) low =
    ap (λ l. 32 ∷ l) (uncommented_digits (decimal n) (spelled_numbers ns) (digits_decimal numeral n low.0) ∙ ap (λ l. decimal n ++ l) (uncommented_numbers ns low.1))

ended_some : (word : List ℕ) (words : List (List ℕ)) → 0 < length word → ended word words ≡ word ∷ words
ended_some [] words some = absurd (omega arith)
ended_some (c ∷ cs) words some = refl

words_numbers : (word : List ℕ) (ns : List ℕ) → 0 < length word → Low ns → words_after word (spelled_numbers ns) ≡ word ∷ map decimal ns
words_numbers word [] some low = ended_some word [] some
words_numbers word (n ∷ ns) some low =
    ended_some word _ some ∙ ap (λ ws. word ∷ ws) (words_digits [] (decimal n) (spelled_numbers ns) (digits_decimal numeral n low.0) ∙ words_numbers (decimal n) ns (decimal_nonempty n low.0) low.1)

number_back : (limit n : ℕ) → n ≤ limit → n < 2 ^ 64 → number_of limit (decimal n) ≡ Some n
number_back limit n most low =
    let is = digits_value-decimal numeral n low in
    cond-true _ _ _ (and_from _ _ (lt-ltb 0 (length (decimal n)) (decimal_nonempty n low)) (and_from _ _ (digits_decimal numeral n low) (le-leb (value_after 0 (decimal n)) limit (omega arith)))) ∙ ap Some is

module _ (limit n : ℕ) (limits : List ℕ) (most : n ≤ limit) (low : lows (limit ∷ limits) ≡ true) where
  first_low : n < 2 ^ 64
  first_low = omega (arith, leb-true limit wide (and_parts (leb limit wide) (lows limits) low).0)

  rest_low : lows limits ≡ true
  rest_low = (and_parts (leb limit wide) (lows limits) low).1

all_low : (limits ns : List ℕ) → AtMost limits ns → lows limits ≡ true → Low ns
all_low [] [] most low = tt
all_low [] (n ∷ ns) most low = absurd most
all_low (limit ∷ limits) [] most low = absurd most
all_low (limit ∷ limits) (n ∷ ns) most low =
    (first_low limit n limits most.0 low, all_low limits ns most.1 (rest_low limit n limits most.0 low))

numbers_back : (limits ns : List ℕ) → AtMost limits ns → lows limits ≡ true → numbers_of limits (map decimal ns) ≡ Some ns
numbers_back [] [] most low = refl
numbers_back [] (n ∷ ns) most low = absurd most
numbers_back (limit ∷ limits) [] most low = absurd most
numbers_back (limit ∷ limits) (n ∷ ns) most low =
    ap (λ o. before o (numbers_of limits (map decimal ns))) (number_back limit n most.0 (first_low limit n limits most.0 low)) ∙ ap (before (Some n)) (numbers_back limits ns most.1 (rest_low limit n limits most.0 low))

-- f makes the statement of its numbers. The other facts are of its first word alone, and compute
module _ (s : Statement) (f : List ℕ → Statement) (form : Form) (fits : InFields s) (low : lows (its_limits s) ≡ true) (some : 0 < length (first_word s)) where
  back :
      ((rest : List ℕ) → uncommented (first_word s ++ rest) ≡ first_word s ++ uncommented rest)
      → ((rest : List ℕ) → words_of (first_word s ++ rest) ≡ words_after (first_word s) rest)
      → ((words : List (List ℕ)) → by_words (first_word s ∷ words) ≡ ok_or (option_map f (numbers_of (its_limits s) words)) form)
      → f (its_numbers s) ≡ s → statement_of (spelled s) ≡ Ok s
  back plain cut named made =
      let ns = its_numbers s in
      let short = all_low (its_limits s) ns fits low in
      ap (λ l. by_words (words_of l)) (plain (spelled_numbers ns) ∙ ap (λ l. first_word s ++ l) (uncommented_numbers ns short))
      ∙ ap by_words (cut (spelled_numbers ns) ∙ words_numbers (first_word s) ns some short)
      ∙ named (map decimal ns)
      ∙ ap (λ o. ok_or (option_map f o) form) (numbers_back (its_limits s) ns fits low)
      ∙ ap Ok made

pub reads_back : ReadsBack
reads_back Nothing fits = refl
reads_back (Book n) fits =
    back (Book n) (λ ns. Book (get_or ns 0 0)) form.Book fits refl (lit< tt) (λ _. refl) (λ _. refl) (λ _. refl) refl
reads_back (Plates s) fits =
    back (Plates s) (λ ns. Plates (series_of ns)) form.Plates fits refl (lit< tt) (λ _. refl) (λ _. refl) (λ _. refl) refl
reads_back (Stiffeners s) fits =
    back (Stiffeners s) (λ ns. Stiffeners (series_of ns)) form.Stiffeners fits refl (lit< tt) (λ _. refl) (λ _. refl) (λ _. refl) refl
reads_back (statement.Hull h) fits =
    back (statement.Hull h) (λ ns. statement.Hull (hull_of ns)) form.Hull fits refl (lit< tt) (λ _. refl) (λ _. refl) (λ _. refl) refl
reads_back (Enter e) fits =
    back (Enter e) (λ ns. Enter (entry_of ns)) form.Enter fits refl (lit< tt) (λ _. refl) (λ _. refl) (λ _. refl) refl
