-- Rows of a stock: the sizes that they have, and what is asked of another row.
use Rattle.std.specs.Prelude.{◌≡◌, ℕ, ◌<◌, ◌≤◌, Bool, true, false, not, List, [], ◌∷◌, length, Result, ◌==◌, nat_le, nat_lt, refl}
use Rattle.std.specs.List.{list_any}
use Rattle.std.proofs.Common.{⊎_elim, arith}
use Rattle.std.proofs.lemmas.Bool.{and_parts, or_cases, both_ways, eqb-true, ltb-true, leb-true}
use Rattle.register.specs.Keys.{climbs, each}
use Rattle.terms.specs.declared.ground.Ground.TheVariants.{RowSizeOutOfRange, RowSizeTaken, RowsFull}
use Rattle.terms.specs.declared.refusal.Refusal.{Refusal}
use Rattle.terms.specs.Questions.{Question, ◌else◌, first_no, between, refused_at}
use Rattle.terms.specs.Stocks.{Ranged}
use Rattle.stocks.specs.declared.row.Row.{Row}

-- what stands in a free place
abbrev pub no_row : Row
no_row = record { size = 0; article = 0 }

abbrev pub size_of : Row → ℕ
size_of row = row.size

-- whether a row has the size n
abbrev pub sized : List Row → ℕ → Bool
sized rows n = list_any (λ row. row.size == n) rows

-- whether the size is at most 60,000
abbrev pub is_small : Row → Bool
is_small row = nat_le row.size 60000

-- what is asked of a row that is to be added to others, where there is room for so many
abbrev pub row_questions : Row → List Row → ℕ → List Question
row_questions row rows room =
    (between 1 60000 row.size else RowSizeOutOfRange
    ∷ not (sized rows row.size) else RowSizeTaken
    ∷ nat_lt (length rows) room else RowsFull
    ∷ [])

-- added, or refused at 0 on the ground of the first question with a no
abbrev pub add_answer : Row → List Row → ℕ → Result (Unit {0}) Refusal
add_answer row rows room = refused_at 0 (first_no (row_questions row rows room))

-- where sizes climb from low, each is above it
pub size_above : (low n : ℕ) (rows : List Row) → climbs size_of low rows ≡ true → sized rows n ≡ true → low < n
size_above low n [] up e = absurd (both_ways false refl e)
size_above low n (row ∷ rows) up e =
    let both = and_parts (nat_lt low row.size) (climbs size_of row.size rows) up in
    let first : low < row.size = ltb-true low row.size both.0 in
    ⊎_elim
    (λ here. let is : row.size ≡ n = eqb-true row.size n here in omega arith)
    (λ later. let more : row.size < n = size_above row.size n rows both.1 later in omega arith)
    (or_cases (row.size == n) (sized rows n) e)

pub size_small : (n : ℕ) (rows : List Row) → each is_small rows ≡ true → sized rows n ≡ true → n ≤ 60000
size_small n [] small e = absurd (both_ways false refl e)
size_small n (row ∷ rows) small e =
    let both = and_parts (nat_le row.size 60000) (each is_small rows) small in
    let first : row.size ≤ 60000 = leb-true row.size 60000 both.0 in
    ⊎_elim
    (λ here. let is : row.size ≡ n = eqb-true row.size n here in omega arith)
    (λ later. size_small n rows both.1 later)
    (or_cases (row.size == n) (sized rows n) e)

-- every size is from 1 to 60,000
pub sized_ranged : (rows : List Row) → climbs size_of 0 rows ≡ true → each is_small rows ≡ true → Ranged (sized rows)
sized_ranged rows up small n e = let above : 0 < n = size_above 0 n rows up e in (omega arith, size_small n rows small e)
