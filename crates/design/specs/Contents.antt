-- What a sheet holds.
use Rattle.std.specs.Prelude.{ℕ, Bool, true, false, List, [], map, Some, None, Option}
use Rattle.terms.specs.declared.hull.Hull.{Hull}
use Rattle.design.specs.declared.line.Line.{Line}
use Rattle.design.specs.Lines.{unscheduled, scheduled_by}

-- the hull, the lines by rising mark, whether the scheduled sizes are those of the lines as they
-- stand, and how many lines there is room for
pub record Contents : Type 0 where
  pub hull : Option Hull
  pub lines : List Line
  pub settled : Bool
  pub room : ℕ

abbrev pub new_sheet : ℕ → Contents
new_sheet room = record { hull = None; lines = []; settled = false; room = room }

abbrev pub with_lines : Contents → List Line → Contents
with_lines c ls = record { hull = c.hull; lines = ls; settled = c.settled; room = c.room }

abbrev pub with_hull : Contents → Hull → Contents
with_hull c h = record { hull = Some h; lines = c.lines; settled = c.settled; room = c.room }

-- no longer settled: every scheduled size is 0
abbrev pub unsettled : Contents → Contents
unsettled c = record { hull = c.hull; lines = map unscheduled c.lines; settled = false; room = c.room }

-- settled: each line has its size of the schedule
abbrev pub settled_at : Contents → (ℕ → ℕ) → Contents
settled_at c sizes = record { hull = c.hull; lines = scheduled_by sizes c.lines; settled = true; room = c.room }
