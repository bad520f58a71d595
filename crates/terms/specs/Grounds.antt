-- The number of each ground of refusal, and how a refusal prints.
use Rattle.std.specs.Prelude.{◌≡◌, ℕ, List, ◌++◌, codes, decimal}
use Rattle.terms.specs.declared.ground.Ground.{Ground}
use Rattle.terms.specs.declared.ground.Ground.TheVariants.{LengthOutOfRange, BreadthOutOfRange, DepthOutOfRange, DraughtOutOfRange, WaterUnknown, MarkZero, MarkTaken, MarkUnknown, PlaceUnknown, NeighbourIsItself, ValueOverLimit, SheetFull, SizeOverLimit, HullMissing, NeighbourMissing, LineUnfit, NoLawfulSchedule, NotSettled, TooFewRows, TooFewBytes, CommandUnknown, HullOutOfOrder, OperandsCutShort, BytesAfterEnd, EndMissing, BuildUpOutOfRange, RowSizeOutOfRange, RowSizeTaken, RowsFull, BookUnknown, InputTooLong, InputTooShort}
use Rattle.terms.specs.declared.refusal.Refusal.{Refusal}

abbrev pub number_of : Ground → ℕ
number_of LengthOutOfRange = 11
number_of BreadthOutOfRange = 12
number_of DepthOutOfRange = 13
number_of DraughtOutOfRange = 14
number_of WaterUnknown = 15
number_of MarkZero = 21
number_of MarkTaken = 22
number_of MarkUnknown = 23
number_of PlaceUnknown = 24
number_of NeighbourIsItself = 25
number_of ValueOverLimit = 26
number_of SheetFull = 27
number_of SizeOverLimit = 28
number_of HullMissing = 31
number_of NeighbourMissing = 32
number_of LineUnfit = 33
number_of NoLawfulSchedule = 34
number_of NotSettled = 41
number_of TooFewRows = 42
number_of TooFewBytes = 43
number_of CommandUnknown = 51
number_of HullOutOfOrder = 52
number_of OperandsCutShort = 53
number_of BytesAfterEnd = 54
number_of EndMissing = 55
number_of BuildUpOutOfRange = 61
number_of RowSizeOutOfRange = 62
number_of RowSizeTaken = 63
number_of RowsFull = 64
number_of BookUnknown = 65
number_of InputTooLong = 66
number_of InputTooShort = 67

-- n is the number of g, and of no other ground
abbrev pub Numbers : Ground → ℕ → Type 0
Numbers g n = (n ≡ number_of g) × ((other : Ground) → number_of other ≡ n → other ≡ g)

abbrev pub refusal_text : Refusal → List ℕ
refusal_text r = codes "refused " ++ (decimal (number_of r.ground) ++ (codes " at " ++ decimal r.at))
