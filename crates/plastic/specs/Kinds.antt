-- The number of each member.
use Rattle.std.specs.Prelude.{ℕ, ◌<◌, ◌⊎◌}
use Rattle.plastic.specs.declared.kind.Kind.{Kind}
use Rattle.plastic.specs.declared.kind.Kind.TheVariants.{Shell, Deck, CentreKeelsonWeb, SideKeelsonWeb, FloorWeb, FloorFace, InnerBottom, Bulwark, JoiningAngle, Floor, BottomLongitudinal}

abbrev pub number_of : Kind → ℕ
number_of Shell = 21
number_of Deck = 22
number_of CentreKeelsonWeb = 23
number_of SideKeelsonWeb = 24
number_of FloorWeb = 25
number_of FloorFace = 26
number_of InnerBottom = 27
number_of Bulwark = 28
number_of JoiningAngle = 29
number_of Floor = 30
number_of BottomLongitudinal = 31

-- the numbers of no kind
abbrev pub Unnamed : ℕ → Type 0
Unnamed n = (n < 21) ⊎ (31 < n)
