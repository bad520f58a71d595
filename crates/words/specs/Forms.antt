-- The forms of a statement.
use Rattle.std.specs.Prelude.{ℕ, cond, List, codes}
use Rattle.std.specs.Str.{bytes_eq}
use Rattle.words.specs.declared.form.Form.{Form}
use Rattle.words.specs.declared.form.Form.TheVariants.{Any, Book, Plates, Stiffeners, Hull, Enter}

-- the form by the first word of a line
abbrev pub form_of : List ℕ → Form
form_of word =
    cond (bytes_eq word (codes "book")) Book (cond (bytes_eq word (codes "plates")) Plates (cond (bytes_eq word (codes "stiffeners")) Stiffeners (cond (bytes_eq word (codes "hull")) Hull (cond (bytes_eq word (codes "enter")) Enter Any))))

-- the words of each form, in their order
abbrev pub expected : Form → List ℕ
expected Any = codes "book, plates, stiffeners, hull or enter"
expected Book = codes "book NUMBER"
expected Plates = codes "plates FIRST STEP COUNT"
expected Stiffeners = codes "stiffeners FIRST STEP COUNT"
expected Hull = codes "hull L B D d WATER"
expected Enter = codes "enter MARK KIND PLACE NEIGHBOUR NEIGHBOUR s l P z STRENGTH AREA"
