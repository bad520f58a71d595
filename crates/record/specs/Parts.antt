-- What the parts of the reader promise each other.
use Rattle.std.specs.Prelude.{◌≡◌, ℕ, ◌<◌, ◌≤◌, ◌⊎◌, List, length, drop, Some, None, Option, cond, ◌==◌}
use Rattle.design.specs.Lines.{no_line}
use Rattle.sheet.specs.declared.call.Call.{Call}
use Rattle.sheet.specs.declared.call.Call.TheVariants.{Hull, Enter, Strike, Lay}
use Rattle.record.specs.declared.placed.Stage.{Stage}
use Rattle.record.specs.declared.placed.Stage.TheVariants.{BeforeHull, Body}
use Rattle.record.specs.Commands.{blank}
use Rattle.record.specs.Spelling.{spelled, byte_of, width_of}

-- the first n bytes spell a call of n bytes, or there are fewer
abbrev pub Fronts : ℕ → Option Call → List ℕ → Type 0
Fronts n None xs = length xs < n
Fronts n (Some x) xs = (n ≤ length xs) × (xs ≡ spelled x (drop n xs)) × (width_of x ≡ n)

-- how many bytes spell a call that begins with a byte: as many as spell one of zeros
abbrev pub width : ℕ → ℕ
width b =
    cond (b == byte_of (Hull blank)) (width_of (Hull blank))
    (cond (b == byte_of (Strike 0)) (width_of (Strike 0)) (cond (b == byte_of (Lay 0 0)) (width_of (Lay 0 0)) (width_of (Enter no_line.entry))))

-- a call that begins with b, of n bytes, may come at a stage
abbrev pub Awaits : Stage → ℕ → ℕ → Type 0
Awaits s b n = (((s ≡ BeforeHull) × (b ≡ 1)) ⊎ ((s ≡ Body) × (2 ≤ b) × (b ≤ 5))) × (width b ≡ n)
