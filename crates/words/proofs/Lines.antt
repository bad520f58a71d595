-- The first of the lines of a text, and the later ones.
use Rattle.std.proofs.Common.{◌≡◌, ℕ, ◌+◌, ◌<◌, Bool, true, false, cond, eqb, List, [], ◌∷◌, length, drop, sym, refl, ap, ◌∙◌, arith}
use Rattle.std.proofs.Math.Nat.{suc-add}
use Rattle.std.specs.List.{onto_first}
use Rattle.words.specs.Words.{first_line, later_lines, lines_of}

-- the first line and the later lines of a text of one more byte
abbrev later : ℕ → List ℕ → List ℕ → List ℕ
later c cs line = drop (length line + 1) (c ∷ cs)

grown : (c : ℕ) (cs : List ℕ) → lines_of cs ≡ first_line cs ∷ lines_of (later_lines cs) → onto_first c (lines_of cs) ≡ (c ∷ first_line cs) ∷ lines_of (later c cs (c ∷ first_line cs))
grown c cs is = rw (is, suc-add)

lines_of-cut : (text : List ℕ) → 0 < length text → lines_of text ≡ first_line text ∷ lines_of (later_lines text)
lines_of-cut [] some = absurd (omega arith)
lines_of-cut (c ∷ []) some =
    let Goal : Bool → List ℕ → Type 0 = λ ends line. cond ends ([] ∷ []) ((c ∷ []) ∷ []) ≡ line ∷ lines_of (later c [] line) in
    elim (eqb c 10) as (λ b. Goal b (cond b [] (c ∷ []))) [ true ↦ refl | false ↦ refl ]
lines_of-cut (c ∷ d ∷ ds) some =
    let Goal : Bool → List ℕ → Type 0 = λ ends line. cond ends ([] ∷ lines_of (d ∷ ds)) (onto_first c (lines_of (d ∷ ds))) ≡ line ∷ lines_of (later c (d ∷ ds) line) in
    elim (eqb c 10) as (λ b. Goal b (cond b [] (c ∷ first_line (d ∷ ds)))) [
      | true ↦ refl
      | false ↦ grown c (d ∷ ds) (lines_of-cut (d ∷ ds) (omega arith))
    ]

pub lines_of_split : (text line later : List ℕ) → 0 < length text → line ≡ first_line text → later ≡ later_lines text → lines_of text ≡ line ∷ lines_of later
lines_of_split text line later some first rest =
    lines_of-cut text some ∙ sym (ap (λ l. l ∷ lines_of later) first ∙ ap (λ l. first_line text ∷ lines_of l) rest)
