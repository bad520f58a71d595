-- Schedules of a sheet's lines, and which of them are lawful.
use Rattle.std.specs.Prelude.{◌≡◌, ℕ, ◌<◌, ◌≤◌, Bool, true, not, ◌&&◌, ◌||◌, List, length, ◌==◌, slice_index_or}
use Rattle.terms.specs.declared.entry.Entry.{Entry}
use Rattle.terms.specs.declared.hull.Hull.{Hull}
use Rattle.design.specs.declared.line.Line.{Line}
use Rattle.design.specs.Lines.{no_line}
use Rattle.design.specs.Settings.{Setting, stock_for}

-- a names b as a neighbour; the mark 0 is no line's
abbrev pub naming : Entry → Entry → Bool
naming a b = (a.near == b.mark || a.far == b.mark) && not (b.mark == 0)

-- two lines touch when either names the other
abbrev pub touching : Entry → Entry → Bool
touching a b = naming a b || naming b a

-- what a schedule is for: lines, by their places from 0 on, on a hull, by a design basis
pub record Job : Type 0 where
  pub setting : Setting
  pub hull : Hull
  pub lines : List Line

abbrev pub job : Setting → Hull → List Line → Job
job s h ls = record { setting = s; hull = h; lines = ls }

abbrev pub count : Job → ℕ
count j = length j.lines

abbrev pub line : Job → ℕ → Line
line j i = slice_index_or j.lines i no_line

abbrev pub entered : Job → ℕ → Entry
entered j i = (line j i).entry

-- the size n is in the stock of line i
abbrev pub stocked : Job → ℕ → ℕ → Bool
stocked j i n = stock_for j.setting j.hull (entered j i) n

-- the own size of line i, which it needs by itself
abbrev pub own : Job → ℕ → ℕ
own j i = j.setting.rules.own j.hull (entered j i)

abbrev pub touch : Job → ℕ → ℕ → Bool
touch j i k = touching (entered j i) (entered j k)

-- the pull of line k on line i, where line k has the size n
abbrev pub pull : Job → ℕ → ℕ → ℕ → ℕ
pull j i k n = j.setting.rules.pull j.hull (entered j i) (entered j k) n

-- a schedule gives each line a size, by its place
abbrev pub Schedule : Type 0
Schedule = ℕ → ℕ

-- line i bears the pull of line k: where they touch, its size is no less
abbrev pub Bears : Job → Schedule → ℕ → ℕ → Type 0
Bears j sizes i k = touch j i k ≡ true → pull j i k (sizes k) ≤ sizes i

-- The schedule is lawful at line i: the size is in the line's stock, and is at least the laid size,
-- the own size, and the pull of each touching line at that line's size in the schedule.
pub record LawfulAt (j : Job) (sizes : Schedule) (i : ℕ) : Type 0 where
  pub stock : stocked j i (sizes i) ≡ true
  pub laid : (line j i).laid ≤ sizes i
  pub own : own j i ≤ sizes i
  pub pulled : (k : ℕ) → k < count j → Bears j sizes i k

-- a schedule is lawful when it is so at every line
abbrev pub Lawful : Job → Schedule → Type 0
Lawful j sizes = (i : ℕ) → i < count j → LawfulAt j sizes i

-- a lawful schedule is the least when no other has a smaller size in any line
pub record Least (j : Job) (sizes : Schedule) : Type 0 where
  pub lawful : Lawful j sizes
  pub least : (other : Schedule) → Lawful j other → (i : ℕ) → i < count j → sizes i ≤ other i

abbrev pub NoneLawful : Job → Type 0
NoneLawful j = (sizes : Schedule) → Lawful j sizes → ⊥

-- the laid sizes, read as a schedule
abbrev pub laid_sizes : Job → Schedule
laid_sizes j i = (line j i).laid
