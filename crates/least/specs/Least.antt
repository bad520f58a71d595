-- What the search for the least lawful schedule ends with.
use Rattle.std.specs.Prelude.{ℕ, ◌≤◌, List, Some, None, Option, slice_index}
use Rattle.design.specs.Schedules.{Job, count, Schedule, Least, NoneLawful}

-- a list of sizes, read as a schedule
abbrev pub listed : List ℕ → Schedule
listed sizes i = slice_index sizes i

-- a search that ends has found the least lawful schedule; or it breaks off, and there is none
abbrev pub Searched : Job → List ℕ → Option (Unit {0}) → Type 0
Searched j sizes (Some u) = Least j (listed sizes)
Searched j sizes None = NoneLawful j

-- the least lawful schedule of up to 96 lines; none where no schedule is lawful
abbrev pub ScheduledBy : Job → Option (List ℕ) → Type 0
ScheduledBy j None = count j ≤ 96 → NoneLawful j
ScheduledBy j (Some sizes) = (count j ≤ 96) × Least j (listed sizes)
