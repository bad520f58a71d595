-- Numbers of narrow fields, among numbers that were read as wide ones.
use Rattle.std.proofs.Common.{◌≡◌, ℕ, zero, suc, ◌<◌, ◌≤◌, Bool, true, false, cond, ◌&&◌, leb, ltb, List, [], ◌∷◌, length, get_or, drop, replicate, inl, inr, Some, None, Option, sym, refl, ap, ◌∙◌, arith}
use Rattle.std.specs.Option.{option_and_then}
use Rattle.std.specs.Str.{all_ascii_digits}
use Rattle.std.proofs.lemmas.Bool.{and_parts, and_from, and_left, and_right, leb-true, le-leb, lt-leb, cond-true, cond-false, cases_lt}
use Rattle.std.proofs.Math.Numerals.{add-one}
use Rattle.std.proofs.lemmas.List.{at_drop_more, at_drop_all}
use Rattle.words.specs.Numbers.{value_after, number_of, before, numbers_of}
use Rattle.words.specs.Statements.{wide}

-- no limit is above the greatest of all
abbrev pub lows : List ℕ → Bool
lows [] = true
lows (limit ∷ limits) = leb limit wide && lows limits

-- each number is at most its limit
abbrev pub fits : List ℕ → List ℕ → Bool
fits [] ns = true
fits (limit ∷ limits) [] = true
fits (limit ∷ limits) (n ∷ ns) = leb n limit && fits limits ns

abbrev pub narrowed : ℕ → Option ℕ → Option ℕ
narrowed limit = option_and_then (λ n. cond (leb n limit) (Some n) None)

abbrev pub all_narrowed : List ℕ → Option (List ℕ) → Option (List ℕ)
all_narrowed limits = option_and_then (λ ns. cond (fits limits ns) (Some ns) None)

capped : (limit v : ℕ) → limit ≤ wide → cond (leb v limit) (Some v) None ≡ narrowed limit (cond (leb v wide) (Some v) None)
capped limit v low =
    elim (cases_lt wide v) [
      | inl high ↦ cond-false _ _ _ (lt-leb v limit (omega arith)) ∙ sym (ap (narrowed limit) (cond-false _ _ _ (lt-leb v wide high)))
      | inr within ↦ sym (ap (narrowed limit) (cond-true _ _ _ (le-leb v wide within)))
    ]

number_narrowed : (limit : ℕ) (word : List ℕ) → limit ≤ wide → number_of limit word ≡ narrowed limit (number_of wide word)
number_narrowed limit word low =
    let v : ℕ = value_after 0 word in
    let Goal : Bool → Bool → Type 0 = λ some digits. cond (some && (digits && leb v limit)) (Some v) None ≡ narrowed limit (cond (some && (digits && leb v wide)) (Some v) None) in
    elim (ltb 0 (length word)) as (λ some. Goal some (all_ascii_digits word)) [
      | false ↦ refl
      | true ↦ elim (all_ascii_digits word) as (λ digits. Goal true digits) [ false ↦ refl | true ↦ capped limit v low ]
    ]

joined : (limit : ℕ) (limits : List ℕ) (one : Option ℕ) (more : Option (List ℕ)) → before (narrowed limit one) (all_narrowed limits more) ≡ all_narrowed (limit ∷ limits) (before one more)
joined limit limits None more = refl
joined limit limits (Some n) None = elim (leb n limit) as (λ b. before (cond b (Some n) None) None ≡ None) [ true ↦ refl | false ↦ refl ]
joined limit limits (Some n) (Some ns) =
    elim (leb n limit) as (λ b. before (cond b (Some n) None) (cond (fits limits ns) (Some ns) None) ≡ cond (b && fits limits ns) (Some (n ∷ ns)) None) [
      | true ↦ elim (fits limits ns) as (λ b. before (Some n) (cond b (Some ns) None) ≡ cond b (Some (n ∷ ns)) None) [ true ↦ refl | false ↦ refl ]
      | false ↦ refl
    ]

numbers_narrowed : (limits : List ℕ) (words : List (List ℕ)) → lows limits ≡ true → numbers_of limits words ≡ all_narrowed limits (numbers_of (replicate (length limits) wide) words)
numbers_narrowed [] [] low = refl
numbers_narrowed [] (word ∷ words) low = refl
numbers_narrowed (limit ∷ limits) [] low = refl
numbers_narrowed (limit ∷ limits) (word ∷ words) low =
    let parts = and_parts (leb limit wide) (lows limits) low in
    ap (λ o. before o (numbers_of limits words)) (number_narrowed limit word (leb-true limit wide parts.0))
    ∙ ap (before (narrowed limit (number_of wide word))) (numbers_narrowed limits words parts.1)
    ∙ joined limit limits (number_of wide word) (numbers_of (replicate (length limits) wide) words)

-- the numbers from one on are at most their limits
abbrev pub Fit : List ℕ → ℕ → List ℕ → Type 0
Fit [] i ns = Unit {0}
Fit (limit ∷ limits) i ns = (get_or ns i 0 ≤ limit) × Fit limits (suc i) ns

all_fit : (limits : List ℕ) (i : ℕ) (ns : List ℕ) → Fit limits i ns → fits limits (drop i ns) ≡ true
all_fit [] i ns fit = refl
all_fit (limit ∷ limits) i ns fit =
    elim (cases_lt i (length ns)) [
      | inl inside ↦ at_drop_more (fits (limit ∷ limits)) ns i 0 inside ∙ and_from _ _ (le-leb _ _ fit.0) (ap (λ k. fits limits (drop k ns)) (add-one i) ∙ all_fit limits (suc i) ns fit.1)
      | inr past ↦ at_drop_all (fits (limit ∷ limits)) ns i past
    ]

misfit : (limits ns : List ℕ) (k : ℕ) → k < length limits → get_or limits k 0 < get_or ns k 0 → fits limits ns ≡ false
misfit [] ns k inside high = absurd (omega arith)
misfit (limit ∷ limits) [] k inside high = absurd (omega arith)
misfit (limit ∷ limits) (n ∷ ns) zero inside high = and_left _ _ (lt-leb n limit high)
misfit (limit ∷ limits) (n ∷ ns) (suc k) inside high = and_right (leb n limit) _ (misfit limits ns k (omega arith) high)

module _ (limits : List ℕ) (words : List (List ℕ)) (ns : List ℕ) (low : lows limits ≡ true) (read : Some ns ≡ numbers_of (replicate (length limits) wide) words) where
  narrow_numbers : numbers_of limits words ≡ all_narrowed limits (Some ns)
  narrow_numbers = numbers_narrowed limits words low ∙ ap (all_narrowed limits) (sym read)

  pub within_limits : Fit limits 0 ns → numbers_of limits words ≡ Some ns
  within_limits fit = narrow_numbers ∙ cond-true _ _ _ (all_fit limits 0 ns fit)

  pub over_limit : (k : ℕ) → k < length limits → get_or limits k 0 < get_or ns k 0 → numbers_of limits words ≡ None
  over_limit k inside high = narrow_numbers ∙ cond-false _ _ _ (misfit limits ns k inside high)
