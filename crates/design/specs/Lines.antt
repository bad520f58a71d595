-- The lines of a sheet.
use Rattle.std.specs.Prelude.{ℕ, suc, Bool, true, cond, ◌&&◌, List, [], ◌∷◌, is_some, Some, None, Option, ◌==◌, nat_le}
use Rattle.terms.specs.declared.entry.Entry.{Entry}
use Rattle.terms.specs.declared.ground.Ground.TheVariants.{MarkUnknown, SizeOverLimit}
use Rattle.terms.specs.declared.hull.Hull.{Hull}
use Rattle.design.specs.declared.line.Line.{Line}
use Rattle.terms.specs.Questions.{Question, ◌else◌, all_yes, hull_questions, value_questions}

-- what a free place holds
abbrev pub no_line : Line
no_line = record {
  entry = record { mark = 0; kind = 0; place = 0; near = 0; far = 0; spacing = 0; span = 0; pressure = 0; height = 0; strength = 0; area = 0 };
  laid = 0;
  scheduled = 0;
}

abbrev pub mark_of : Line → ℕ
mark_of l = l.entry.mark

-- the line of a mark, if there is one
abbrev pub line_of : ℕ → List Line → Option Line
line_of m [] = None
line_of m (l ∷ ls) = cond (mark_of l == m) (Some l) (line_of m ls)

-- whether there is a line of the mark
abbrev pub there_in : ℕ → List Line → Bool
there_in m ls = is_some (line_of m ls)

-- what is asked before a size is laid on the line of a mark
abbrev pub lay_questions : List Line → ℕ → ℕ → List Question
lay_questions ls m n = there_in m ls else MarkUnknown ∷ nat_le n 60000 else SizeOverLimit ∷ []

-- whether a line, and a hull, keep the limits that they are accepted by
abbrev pub line_kept : Line → Bool
line_kept l = all_yes (value_questions l.entry) && nat_le l.laid 60000

abbrev pub hull_kept : Option Hull → Bool
hull_kept None = true
hull_kept (Some h) = all_yes (hull_questions h)

-- a line as it is entered, amended, laid, and left without a scheduled size
abbrev pub entered_as : Entry → Line
entered_as e = record { entry = e; laid = 0; scheduled = 0 }

abbrev pub amended_as : Entry → Line → Line
amended_as e l = record { entry = e; laid = l.laid; scheduled = l.scheduled }

abbrev pub laid_as : ℕ → Line → Line
laid_as n l = record { entry = l.entry; laid = n; scheduled = l.scheduled }

abbrev pub unscheduled : Line → Line
unscheduled l = record { entry = l.entry; laid = l.laid; scheduled = 0 }

abbrev pub scheduled_as : ℕ → Line → Line
scheduled_as n l = record { entry = l.entry; laid = l.laid; scheduled = n }

-- lines with the sizes of a schedule, by their places
abbrev pub scheduled_by : (ℕ → ℕ) → List Line → List Line
scheduled_by sizes [] = []
scheduled_by sizes (l ∷ ls) = scheduled_as (sizes 0) l ∷ scheduled_by (λ i. sizes (suc i)) ls
