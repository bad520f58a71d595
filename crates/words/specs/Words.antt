-- How a line is cut into words.
use Rattle.std.specs.Prelude.{◌≡◌, ℕ, ◌+◌, Bool, true, false, All, IfSome, slice_get, cond, ◌||◌, List, [], ◌∷◌, ◌++◌, length, drop, ◌==◌}
use Rattle.std.specs.List.{onto_first}

-- a text is cut before the first byte of which a test says true, by what the test says of each
pub record IsCut (Says : ℕ → Bool → Type 0) (text front back : List ℕ) : Type 0 where
  pub whole : text ≡ front ++ back
  pub before : All (λ c. Says c false) front
  pub after : IfSome (slice_get back 0) (λ c. Says c true)

-- a text up to the first byte of one value, or all of it
abbrev pub up_to : ℕ → List ℕ → List ℕ
up_to stop [] = []
up_to stop (c ∷ cs) = cond (c == stop) [] (c ∷ up_to stop cs)

-- the first line of a text, and the text after it: a line ends in a newline, which is part of neither
abbrev pub first_line : List ℕ → List ℕ
first_line text = up_to 10 text

abbrev pub later_lines : List ℕ → List ℕ
later_lines text = drop (length (first_line text) + 1) text

-- the lines of a text
abbrev pub lines_of : List ℕ → List (List ℕ)
lines_of [] = []
lines_of (c ∷ cs) = cond (c == 10) ([] ∷ lines_of cs) (onto_first c (lines_of cs))

-- the line up to the first `#`
abbrev pub uncommented : List ℕ → List ℕ
uncommented line = up_to 35 line

-- space, tab and carriage return
abbrev pub blank : ℕ → Bool
blank c = c == 32 || (c == 9 || c == 13)

-- a word ends: none was there if it has no letters
abbrev pub ended : List ℕ → List (List ℕ) → List (List ℕ)
ended [] words = words
ended (c ∷ cs) words = (c ∷ cs) ∷ words

-- the words of a text that follows the letters of a word so far
abbrev pub words_after : List ℕ → List ℕ → List (List ℕ)
words_after word [] = ended word []
words_after word (c ∷ cs) = cond (blank c) (ended word (words_after [] cs)) (words_after (word ++ c ∷ []) cs)

abbrev pub words_of : List ℕ → List (List ℕ)
words_of text = words_after [] text
