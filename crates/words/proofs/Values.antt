-- One step of the loop over words that are numbers, of which so many are left to read.
use Rattle.std.proofs.Common.{◌≡◌, ℕ, suc, List, [], ◌∷◌, ◌++◌, replicate, Some, None, Option, sym, refl, ap, ◌∙◌, append_assoc}
use Rattle.words.specs.Numbers.{number_of, before, numbers_of}

-- numbers after others, if all are there
abbrev pub after_front : List ℕ → Option (List ℕ) → Option (List ℕ)
after_front front None = None
after_front front (Some more) = Some (front ++ more)

after_one : (front : List ℕ) (n : ℕ) (more : Option (List ℕ)) → after_front front (before (Some n) more) ≡ after_front (front ++ n ∷ []) more
after_one front n None = refl
after_one front n (Some more) = ap Some (sym (append_assoc front (n ∷ []) more))

-- the numbers in front, and those that so many of the words write
abbrev pub read_on : ℕ → List ℕ → ℕ → List (List ℕ) → Option (List ℕ)
read_on limit front count words = after_front front (numbers_of (replicate count limit) words)

pub read_on-more : (limit : ℕ) (front : List ℕ) (count : ℕ) (words : List (List ℕ)) (k : ℕ) (word : List ℕ) (later : List (List ℕ)) (n : ℕ) → count ≡ suc k → words ≡ word ∷ later → Some n ≡ number_of limit word → read_on limit front count words ≡ read_on limit (front ++ n ∷ []) k later
read_on-more limit front count words k word later n left some value =
    ap (λ m. read_on limit front m words) left
    ∙ ap (read_on limit front (suc k)) some
    ∙ ap (λ o. after_front front (before o (numbers_of (replicate k limit) later))) (sym value)
    ∙ after_one front n (numbers_of (replicate k limit) later)
