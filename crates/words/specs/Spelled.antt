-- A statement as a line of plain words: its first word, then each number in decimal after one space.
use Rattle.std.specs.Prelude.{◌≡◌, ℕ, ◌≤◌, List, [], ◌∷◌, ◌++◌, Ok, codes, decimal}
use Rattle.terms.specs.declared.entry.Entry.{Entry}
use Rattle.terms.specs.declared.hull.Hull.{Hull}
use Rattle.words.specs.declared.series.Series.{Series}
use Rattle.words.specs.declared.statement.Statement.{Statement}
use Rattle.words.specs.declared.statement.Statement.TheVariants.{Nothing, Book, Plates, Stiffeners, Enter}
use Rattle.words.specs.declared.statement.Statement.TheVariants as statement
use Rattle.words.specs.Statements.{narrow, series_limits, hull_limits, entry_limits, statement_of}

abbrev pub first_word : Statement → List ℕ
first_word Nothing = []
first_word (Book n) = codes "book"
first_word (Plates s) = codes "plates"
first_word (Stiffeners s) = codes "stiffeners"
first_word (statement.Hull h) = codes "hull"
first_word (Enter e) = codes "enter"

abbrev pub series_numbers : Series → List ℕ
series_numbers s = s.first ∷ s.step ∷ s.count ∷ []

abbrev pub hull_numbers : Hull → List ℕ
hull_numbers h = h.length ∷ h.breadth ∷ h.depth ∷ h.draught ∷ h.water ∷ []

abbrev pub entry_numbers : Entry → List ℕ
entry_numbers e =
    e.mark ∷ e.kind ∷ e.place ∷ e.near ∷ e.far ∷ e.spacing ∷ e.span ∷ e.pressure ∷ e.height ∷ e.strength ∷ e.area ∷ []

-- the numbers of a statement in the order of its line
abbrev pub its_numbers : Statement → List ℕ
its_numbers Nothing = []
its_numbers (Book n) = n ∷ []
its_numbers (Plates s) = series_numbers s
its_numbers (Stiffeners s) = series_numbers s
its_numbers (statement.Hull h) = hull_numbers h
its_numbers (Enter e) = entry_numbers e

-- the greatest that each of them may be
abbrev pub its_limits : Statement → List ℕ
its_limits Nothing = []
its_limits (Book n) = narrow ∷ []
its_limits (Plates s) = series_limits
its_limits (Stiffeners s) = series_limits
its_limits (statement.Hull h) = hull_limits
its_limits (Enter e) = entry_limits

-- as many numbers as limits, each at most its own
abbrev pub AtMost : List ℕ → List ℕ → Type 0
AtMost [] [] = Unit {0}
AtMost [] (n ∷ ns) = ⊥
AtMost (limit ∷ limits) [] = ⊥
AtMost (limit ∷ limits) (n ∷ ns) = (n ≤ limit) × AtMost limits ns

-- each number of a statement fits its field, as in every statement that a program holds
abbrev pub InFields : Statement → Type 0
InFields s = AtMost (its_limits s) (its_numbers s)

-- each number after one space
abbrev pub spelled_numbers : List ℕ → List ℕ
spelled_numbers [] = []
spelled_numbers (n ∷ ns) = 32 ∷ (decimal n ++ spelled_numbers ns)

abbrev pub spelled : Statement → List ℕ
spelled s = first_word s ++ spelled_numbers (its_numbers s)

-- what is spelled is read back
abbrev pub ReadsBack : Type 0
ReadsBack = (s : Statement) → InFields s → statement_of (spelled s) ≡ Ok s
