-- Whether a trial may begin, and what it makes of a sheet.
use Rattle.std.specs.Prelude.{◌≡◌, ℕ, ◌≤◌, cond, List, Some, None, Ok, Err, Option, Result, nat_le, slice_index_or, slice_set}
use Rattle.register.specs.Keys.{place_of, changed}
use Rattle.terms.specs.declared.refusal.Refusal.{Refusal}
use Rattle.terms.specs.Questions.{first_no, all_yes, refused_at}
use Rattle.design.specs.declared.line.Line.{Line}
use Rattle.design.specs.Contents.{Contents, with_lines}
use Rattle.trial.specs.declared.Earlier.{Earlier}
use Rattle.design.specs.Lines.{no_line, mark_of, laid_as, lay_questions}

-- a trial may begin where the size could be laid
abbrev pub trial_answer : Contents → ℕ → ℕ → Result (Unit {0}) Refusal
trial_answer c m n = refused_at m (first_no (lay_questions c.lines m n))

-- What a sheet holds under a trial: the size is laid on the line of the mark, and nothing else is
-- changed. A trial that may not begin is idle: nothing at all is changed.
abbrev pub tried : Contents → ℕ → ℕ → Contents
tried c m n = cond (all_yes (lay_questions c.lines m n)) (with_lines c (changed mark_of m (laid_as n) c.lines)) c

-- the lines with a size laid at a place; a place past the end changes nothing
abbrev pub laid_at : List Line → ℕ → ℕ → List Line
laid_at ls i n = slice_set ls i (laid_as n (slice_index_or ls i no_line))

-- the same, where the size is one that may be laid
abbrev pub lay_at : List Line → ℕ → ℕ → List Line
lay_at ls i n = cond (nat_le n 60000) (laid_at ls i n) ls

-- the place where a trial lays its size: that of the line of the mark, where it may begin; else it is refused
abbrev pub MayLay : Contents → ℕ → ℕ → Result ℕ Refusal → Type 0
MayLay c m n (Ok i) = (place_of mark_of m c.lines ≡ Some i) × (n ≤ 60000)
MayLay c m n (Err e) = trial_answer c m n ≡ Err e

-- what the end of a trial leaves, by what it is to lay a size at a place: what lay there is laid again; nothing at all where the trial was idle
abbrev pub Restored : {S : Type 0} → (S → ℕ → ℕ → S → Type 0) → S → Option Earlier → S → Type 0
Restored laid s None t = t ≡ s
Restored laid s (Some e) t = laid s e.place e.size t
