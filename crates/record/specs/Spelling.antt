-- How calls are spelled in a record. This is the one statement of the format: reader and writer share it.
use Rattle.std.specs.Prelude.{ℕ, ◌/◌, ◌%◌, List, [], ◌∷◌, length, slice_index}
use Rattle.terms.specs.declared.entry.Entry.{Entry}
use Rattle.sheet.specs.declared.call.Call.{Call}
use Rattle.sheet.specs.declared.call.Call.TheVariants.{Hull, Enter, Amend, Strike, Lay}

-- a number in two bytes, the high byte first, before what follows
abbrev pub pair : ℕ → List ℕ → List ℕ
pair n more = n / 256 ∷ n % 256 ∷ more

-- the entered values of a line, in two halves
abbrev pub first_half : Entry → List ℕ → List ℕ
first_half e more = pair e.mark (e.kind ∷ e.place ∷ pair e.near (pair e.far (pair e.spacing more)))

abbrev pub second_half : Entry → List ℕ → List ℕ
second_half e more = pair e.span (e.pressure ∷ pair e.height (pair e.strength (pair e.area more)))

abbrev pub entered : Entry → List ℕ → List ℕ
entered e more = first_half e (second_half e more)

-- a call: its command byte and its operands, before what follows
abbrev pub spelled : Call → List ℕ → List ℕ
spelled (Hull h) more = 0x01 ∷ pair h.length (pair h.breadth (pair h.depth (pair h.draught (h.water ∷ more))))
spelled (Enter e) more = 0x02 ∷ entered e more
spelled (Amend e) more = 0x03 ∷ entered e more
spelled (Strike m) more = 0x04 ∷ pair m more
spelled (Lay m n) more = 0x05 ∷ pair m (pair n more)

-- the command byte that ends a record
abbrev pub end : ℕ
end = 0xFF

-- the command byte of a call, and how many bytes spell it
abbrev pub byte_of : Call → ℕ
byte_of x = slice_index (spelled x []) 0

abbrev pub width_of : Call → ℕ
width_of x = length (spelled x [])

-- calls one after the other, before what follows
abbrev pub all_spelled : List Call → List ℕ → List ℕ
all_spelled [] more = more
all_spelled (x ∷ xs) more = spelled x (all_spelled xs more)
