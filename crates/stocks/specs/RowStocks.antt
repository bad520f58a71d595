-- What the struct of a listed stock holds.
use Rattle.std.specs.Prelude.{ℕ, List}
use Rattle.register.specs.Registers as register
use Rattle.stocks.specs.declared.row.Row.{Row}
use Rattle.stocks.specs.declared.rows.Rows.{Rows}

-- the rows, by rising size
abbrev pub rows_of : Rows → List Row
rows_of s = register.elements_of s.rows

-- how many rows there is room for
abbrev pub room_of : Rows → ℕ
room_of s = register.room_of s.rows
