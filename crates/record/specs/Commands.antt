-- Which command a byte begins.
use Rattle.std.specs.Prelude.{◌≡◌, ℕ, Ok, Err, Result}
use Rattle.terms.specs.declared.ground.Ground.{Ground}
use Rattle.terms.specs.declared.ground.Ground.TheVariants.{CommandUnknown}
use Rattle.record.specs.declared.command.Command.{Command}
use Rattle.record.specs.declared.command.Command.TheVariants as command
use Rattle.terms.specs.declared.hull.Hull.{Hull}
use Rattle.design.specs.Lines.{no_line}
use Rattle.sheet.specs.declared.call.Call.TheVariants as call
use Rattle.record.specs.Reading.{Known}
use Rattle.record.specs.Spelling.{byte_of, end}

-- a hull of zeros
abbrev pub blank : Hull
blank = record { length = 0; breadth = 0; depth = 0; draught = 0; water = 0 }

-- the byte that begins a command: that of a call of zeros, as it is spelled, or the end
abbrev pub first_byte : Command → ℕ
first_byte command.Hull = byte_of (call.Hull blank)
first_byte command.Enter = byte_of (call.Enter no_line.entry)
first_byte command.Amend = byte_of (call.Amend no_line.entry)
first_byte command.Strike = byte_of (call.Strike 0)
first_byte command.Lay = byte_of (call.Lay 0 0)
first_byte command.End = end

-- what is said of a byte: the command that it begins, or that it begins none
abbrev pub Names : ℕ → Result Command Ground → Type 0
Names b (Ok c) = b ≡ first_byte c
Names b (Err g) = (g ≡ CommandUnknown) × (Known b → ⊥)
