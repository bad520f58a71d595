-- A text that is cut before the first byte of which a test says true.
use Rattle.std.proofs.Common.{◌≡◌, ℕ, ◌+◌, ◌<◌, Bool, true, false, eqb, not, List, [], ◌∷◌, ◌++◌, length, drop, All, IfSome, MatchOption, Some, None, unwrap_or, Option, Bor, sym, refl, ap, subst, ◌∙◌, append_assoc, append-nil, arith}
use Rattle.std.specs.Bool.{then_some}
use Rattle.std.specs.List.{slice_get}
use Rattle.std.specs.Slice.{IsGetRangeResult}
use Rattle.std.proofs.Math.Seq.{drop-append-add}
use Rattle.std.proofs.lemmas.List.{drop_all, take_rest}
use Rattle.std.proofs.lemmas.List.Elements.{All-head, All-tail, All-weaker}
use Rattle.std.proofs.lemmas.Option.{IfSome_then}
use Rattle.std.proofs.lemmas.Bool.{both_ways, cond-true, cond-false, not-false, not-true}
use Rattle.words.specs.Words.{IsCut, up_to, later_lines, blank, words_after, words_of}

pub up_to-append : (stop : ℕ) (front back : List ℕ) → All (λ c. eqb c stop ≡ false) front → up_to stop (front ++ back) ≡ front ++ up_to stop back
up_to-append stop [] back before = refl
up_to-append stop (c ∷ cs) back before =
    let P : ℕ → Type 0 = λ c. eqb c stop ≡ false in
    cond-false _ _ _ (All-head P c cs before) ∙ ap (λ l. c ∷ l) (up_to-append stop cs back (All-tail P c cs before))

up_to-ended : (stop : ℕ) (back : List ℕ) → IfSome (slice_get back 0) (λ c. eqb c stop ≡ true) → up_to stop back ≡ []
up_to-ended stop [] after = refl
up_to-ended stop (c ∷ cs) after = cond-true _ _ _ after

words_of-append : (front back : List ℕ) → All (λ c. not (blank c) ≡ false) front → words_of (front ++ back) ≡ words_of back
words_of-append [] back before = refl
words_of-append (c ∷ cs) back before =
    let P : ℕ → Type 0 = λ c. not (blank c) ≡ false in
    cond-true _ _ _ (not-false (blank c) (All-head P c cs before)) ∙ words_of-append cs back (All-tail P c cs before)

pub letters : (word front back : List ℕ) → All (λ c. blank c ≡ false) front → words_after word (front ++ back) ≡ words_after (word ++ front) back
letters word [] back before = ap (λ w. words_after w back) (sym (append-nil word))
letters word (c ∷ cs) back before =
    let P : ℕ → Type 0 = λ c. blank c ≡ false in
    cond-false _ _ _ (All-head P c cs before)
    ∙ letters (word ++ c ∷ []) cs back (All-tail P c cs before)
    ∙ ap (λ w. words_after w back) (append_assoc word (c ∷ []) cs)

-- a word of some letters before a blank or the end
word_ends : (word rest : List ℕ) → 0 < length word → IfSome (slice_get rest 0) (λ c. blank c ≡ true) → words_after word rest ≡ word ∷ words_of rest
word_ends [] rest some after = absurd (omega arith)
word_ends (c ∷ cs) [] some after = refl
word_ends (c ∷ cs) (b ∷ rest) some after =
    cond-true _ _ _ after ∙ ap (λ ws. (c ∷ cs) ∷ ws) (sym (cond-true _ _ _ after))

-- a text that begins with no blank, and yet with a word of no letters
no_letters : (text word rest : List ℕ) → text ≡ word ++ rest → length word ≡ 0 → IfSome (slice_get text 0) (λ c. not (blank c) ≡ true) → IfSome (slice_get rest 0) (λ c. blank c ≡ true) → words_of text ≡ []
no_letters [] word rest whole none starts after = refl
no_letters (c ∷ cs) (b ∷ word) rest whole none starts after = absurd (omega arith)
no_letters (c ∷ cs) [] rest whole none starts after =
    let gap : IfSome (slice_get (c ∷ cs) 0) (λ b. blank b ≡ true) = subst (λ l. IfSome (slice_get l 0) (λ b. blank b ≡ true)) (sym whole) after in
    absurd (both_ways (blank c) (not-true (blank c) starts) gap)

-- p is what the test computes
module _ {Says : ℕ → Bool → Type 0} {text front back : List ℕ} (cut : IsCut Says text front back) (p : ℕ → Bool) (is : (c : ℕ) (r : Bool) → Says c r → r ≡ p c) where
  before : All (λ c. p c ≡ false) front
  before = All-weaker (λ c. Says c false) (λ c. p c ≡ false) (λ c says. sym (is c false says)) front cut.before

  after : IfSome (slice_get back 0) (λ c. p c ≡ true)
  after = IfSome_then (slice_get back 0) cut.after (λ c says. sym (is c true says))

module _ {Says : ℕ → Bool → Type 0} {text line rest : List ℕ} (cut : IsCut Says text line rest) where
  pub up_to_cut : (stop : ℕ) → ((c : ℕ) (r : Bool) → Says c r → r ≡ eqb c stop) → line ≡ up_to stop text
  up_to_cut stop is =
      let p : ℕ → Bool = λ c. eqb c stop in
      sym (ap (up_to stop) cut.whole ∙ up_to-append stop line rest (before cut p is) ∙ ap (λ l. line ++ l) (up_to-ended stop rest (after cut p is)) ∙ append-nil line)

  pub past_line : ((c : ℕ) (r : Bool) → Says c r → r ≡ eqb c 10) → drop 1 rest ≡ later_lines text
  past_line is =
      sym (ap (λ l. drop (length l + 1) text) (sym (up_to_cut 10 is)) ∙ ap (drop (length line + 1)) cut.whole ∙ drop-append-add line rest 1)

module _ {Says : ℕ → Bool → Type 0} {text blanks rest : List ℕ} (cut : IsCut Says text blanks rest) (is : (c : ℕ) (r : Bool) → Says c r → r ≡ not (blank c)) where
  past_blanks : words_of text ≡ words_of rest
  past_blanks = ap words_of cut.whole ∙ words_of-append blanks rest (before cut (λ c. not (blank c)) is)

  module _ {Tells : ℕ → Bool → Type 0} {word later : List ℕ} (next : IsCut Tells rest word later) (tells : (c : ℕ) (r : Bool) → Tells c r → r ≡ blank c) where
    pub no_word : length word ≡ 0 → words_of text ≡ []
    no_word none =
        past_blanks ∙ no_letters rest word later next.whole none (after cut (λ c. not (blank c)) is) (after next blank tells)

    pub first_word : 0 < length word → words_of text ≡ word ∷ words_of later
    first_word some =
        past_blanks ∙ ap words_of next.whole ∙ letters [] word later (before next blank tells) ∙ word_ends word later some (after next blank tells)

-- what there is only where a test says yes
pub where_yes : {A : Type 0} (P : Type 0) (Q : A → Type 0) (b : Bool) (x : A) → (b ≡ false → P) → (b ≡ true → Q x) → MatchOption (then_some b x) P Q
where_yes P Q true x none some = some refl
where_yes P Q false x none some = none refl

pub got_past : (rest : List ℕ) (got : Option (Bor (List ℕ))) (none : Bor (List ℕ)) → none.now ≡ [] → IsGetRangeResult rest 1 (length rest) got → (unwrap_or got none).now ≡ drop 1 rest
got_past rest None none nothing is = nothing ∙ sym (drop_all 1 rest (omega arith))
got_past rest (Some later) none nothing is = is.0.2 ∙ take_rest rest 1
