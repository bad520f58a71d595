-- The number of each member.
use Rattle.std.specs.Prelude.{ℕ, ◌<◌, ◌⊎◌}
use Rattle.steel.specs.declared.kind.Kind.{Kind}
use Rattle.steel.specs.declared.kind.Kind.TheVariants.{SidePlate, WatertightBulkhead, CollisionBulkhead, OuterWall, InnerWall, SponsonClosingPlate, WallStiffener, InnerWallStiffener}

abbrev pub number_of : Kind → ℕ
number_of SidePlate = 1
number_of WatertightBulkhead = 2
number_of CollisionBulkhead = 3
number_of OuterWall = 4
number_of InnerWall = 5
number_of SponsonClosingPlate = 6
number_of WallStiffener = 7
number_of InnerWallStiffener = 8

-- the numbers of no kind
abbrev pub Unnamed : ℕ → Type 0
Unnamed n = (n < 1) ⊎ (8 < n)
