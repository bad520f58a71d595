-- The number of each member.
use Rattle.std.specs.Prelude.{ℕ, ◌<◌, ◌⊎◌}
use Rattle.aluminium.specs.declared.kind.Kind.{Kind}
use Rattle.aluminium.specs.declared.kind.Kind.TheVariants.{Bottom, Side, Deck, Wall, CollisionOrTankBulkhead, WatertightBulkhead, KeelPlate, BottomLongitudinal, BottomTransverse, SideLongitudinal, SideTransverse, DeckLongitudinal, DeckTransverse, WallStiffener, CollisionOrTankBulkheadStiffener, WatertightBulkheadStiffener}

abbrev pub number_of : Kind → ℕ
number_of Bottom = 41
number_of Side = 42
number_of Deck = 43
number_of Wall = 44
number_of CollisionOrTankBulkhead = 45
number_of WatertightBulkhead = 46
number_of KeelPlate = 47
number_of BottomLongitudinal = 51
number_of BottomTransverse = 52
number_of SideLongitudinal = 53
number_of SideTransverse = 54
number_of DeckLongitudinal = 55
number_of DeckTransverse = 56
number_of WallStiffener = 57
number_of CollisionOrTankBulkheadStiffener = 58
number_of WatertightBulkheadStiffener = 59

-- the numbers of no kind
abbrev pub Unnamed : ℕ → Type 0
Unnamed n = (n < 41) ⊎ ((47 < n) × (n < 51)) ⊎ (59 < n)
