-- Two digits, with a zero before a single one.
use Rattle.std.proofs.Common.{◌≡◌, ℕ, ◌<◌, ◌/◌, ◌%◌, ◌^◌, ◌-◌, [], ◌∷◌, ◌++◌, false, ⊎_elim, arith}
use Rattle.std.proofs.lemmas.Bool.{cases_lt}
use Rattle.std.specs.Fmt.{decimal, styled_decimal, padded_integral, format_spec, char_count}
use Rattle.std.proofs.lemmas.Fmt.{decimal_digit, decimal_step}
use Rattle.terms.specs.Decimals.{two_decimals}

two_digits : (n : ℕ) → n < 100 → padded_integral (format_spec 32 0 4 2 (2 ^ 64 - 1)) false [] (decimal n) ≡ decimal (n / 10) ++ decimal (n % 10)
unfolding padded_integral char_count
two_digits n small = ⊎_elim
    (λ one.
    let high : n / 10 ≡ 0 = omega arith in
    let low : n % 10 ≡ n = omega arith in
    let nought : 0 < 10 = omega arith in
    rw (high, low, decimal_digit n one, decimal_digit 0 nought))
    (λ two.
    let large : n < 2 ^ 64 = omega arith in
    let high : n / 10 < 10 = omega arith in
    let low : n % 10 < 10 = omega arith in
    rw (decimal_step n two large, decimal_digit (n / 10) high, decimal_digit (n % 10) low))
    (cases_lt n 10)

-- what `{}.{:02}` writes of hundredths
pub two_decimals_shown : (n : ℕ) → decimal (n / 100) ++ 46 ∷ styled_decimal (format_spec 32 0 4 2 18446744073709551615) (n % 100) ≡ two_decimals n
two_decimals_shown n =
    let small : n % 100 < 100 = omega arith in
    let tenths : n % 100 / 10 ≡ n / 10 % 10 = omega arith in
    let last : n % 100 % 10 ≡ n % 10 = omega arith in
    rw (two_digits (n % 100) small, tenths, last)
