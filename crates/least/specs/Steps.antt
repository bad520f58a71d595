-- What the parts of the search for the least schedule keep: its sizes are never above those of a lawful schedule.
use Rattle.std.specs.Prelude.{◌≡◌, ℕ, ◌+◌, ◌-◌, ◌<◌, ◌≤◌, Bool, true, false, List, [], ◌∷◌, length, Some, None, Option, slice_index, slice_index_or, All, Contains}
use Rattle.terms.specs.declared.entry.Entry.{Entry}
use Rattle.design.specs.declared.line.Line.{Line}
use Rattle.design.specs.Lines.{no_line}
use Rattle.design.specs.Schedules.{Job, Schedule, Lawful, NoneLawful, Bears, naming, touching, stocked, line, count, own}
use Rattle.least.specs.declared.pairs.Pair.{Pair}
use Rattle.least.specs.Least.{listed}

-- the size n is right for line i by itself, and no lawful schedule has less
pub record Fair (j : Job) (i n : ℕ) : Type 0 where
  pub stock : stocked j i n ≡ true
  pub laid : (line j i).laid ≤ n
  pub own : own j i ≤ n
  pub below : (other : Schedule) → Lawful j other → n ≤ other i

-- the first k sizes are fair, and there is room for all
pub record Begun (j : Job) (k : ℕ) (sizes : List ℕ) : Type 0 where
  pub room : count j ≤ length sizes
  pub fair : (i : ℕ) → i < k → Fair j i (slice_index sizes i)

abbrev pub Ready : Job → List ℕ → Type 0
Ready j sizes = Begun j (count j) sizes

-- all sizes are fair, or nothing is lawful
abbrev pub Readied : Job → List ℕ → Option (Unit {0}) → Type 0
Readied j sizes (Some u) = Ready j sizes
Readied j sizes None = NoneLawful j

abbrev pub pair : ℕ → ℕ → Pair
pair i k = record { line = i; by = k }

abbrev pub entry_at : List Line → ℕ → Entry
entry_at ls i = (slice_index_or ls i no_line).entry

-- both lines of a pair are there, and they touch
pub record Touching (ls : List Line) (p : Pair) : Type 0 where
  pub line : p.line < length ls
  pub by : p.by < length ls
  pub touch : touching (entry_at ls p.line) (entry_at ls p.by) ≡ true

-- where line i names line k, both pairs of them are noted
abbrev pub Noted : List Line → List Pair → ℕ → ℕ → Type 0
Noted ls pairs i k = naming (entry_at ls i) (entry_at ls k) ≡ true → Contains pairs (pair i k) × Contains pairs (pair k i)

-- The pairs are of touching lines; the lines that the first i name, and of those before line k
-- the ones that line i names, are among them, both ways.
pub record NotedTo (ls : List Line) (i k : ℕ) (pairs : List Pair) : Type 0 where
  pub each : All (Touching ls) pairs
  pub rows : (a b : ℕ) → a < i → b < length ls → Noted ls pairs a b
  pub row : (b : ℕ) → b < k → Noted ls pairs i b

-- all of them
abbrev pub AllNoted : List Line → List Pair → Type 0
AllNoted ls pairs = NotedTo ls (length ls) 0 pairs

-- the first line of a pair bears the pull of the second
abbrev pub Holds : Pair → Job → List ℕ → Type 0
Holds p j sizes = Bears j (listed sizes) p.line p.by

-- and so it is in every pair
abbrev pub HoldTo : List Pair → Job → List ℕ → Type 0
HoldTo pairs j sizes = All (λ p. Holds p j sizes) pairs

-- how much the sizes can still rise
abbrev pub left : List ℕ → ℕ
left [] = 0
left (n ∷ ns) = (60000 - n) + left ns

abbrev pub After : Job → (Job → List ℕ → Type 0) → List ℕ → List ℕ → Option Bool → Type 0
After j P old new (Some false) = (new ≡ old) × P j old
After j P old new (Some true) = left new < left old
After j P old new None = NoneLawful j

-- A part of the search, from old to new. It tells whether it raised a size, and shows P where it raised none;
-- or it breaks off, since nothing is lawful.
pub record Step (j : Job) (P : Job → List ℕ → Type 0) (old new : List ℕ) (raised : Option Bool) : Type 0 where
  pub ready : Ready j new
  pub came : After j P old new raised
