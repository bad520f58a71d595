-- Questions that a call puts in order, and the limits of a hull and of a line.
use Rattle.std.specs.Prelude.{ℕ, Bool, cond, not, ◌&&◌, ◌||◌, List, [], ◌∷◌, is_some, Some, None, Ok, Err, Option, Result, ◌==◌, nat_le}
use Rattle.terms.specs.declared.entry.Entry.{Entry}
use Rattle.terms.specs.declared.ground.Ground.{Ground}
use Rattle.terms.specs.declared.ground.Ground.TheVariants.{LengthOutOfRange, BreadthOutOfRange, DepthOutOfRange, DraughtOutOfRange, WaterUnknown, PlaceUnknown, NeighbourIsItself, ValueOverLimit}
use Rattle.terms.specs.declared.hull.Hull.{Hull}
use Rattle.terms.specs.declared.refusal.Refusal.{Refusal}

-- a question: whether the answer is yes, and the ground of refusal where it is no
pub record Question : Type 0 where
  pub yes : Bool
  pub ground : Ground

infixl 68 ◌else◌
abbrev pub ◌else◌ : Bool → Ground → Question
b else g = record { yes = b; ground = g }

-- the ground of the first question with a no; none where every answer is yes
abbrev pub first_no : List Question → Option Ground
first_no [] = None
first_no (q ∷ qs) = cond q.yes (first_no qs) (Some q.ground)

-- whether every answer is yes
abbrev pub all_yes : List Question → Bool
all_yes qs = not (is_some (first_no qs))

-- the refusal on a ground, at a place
abbrev pub refusal_of : Ground → ℕ → Refusal
refusal_of g at = record { ground = g; at = at }

-- accepted, or refused on a ground, at a place
abbrev pub refused_at : ℕ → Option Ground → Result (Unit {0}) Refusal
refused_at at None = Ok tt
refused_at at (Some g) = Err (refusal_of g at)

abbrev pub between : ℕ → ℕ → ℕ → Bool
between low high n = nat_le low n && nat_le n high

-- what is asked of a hull
abbrev pub hull_questions : Hull → List Question
hull_questions hull =
    (between 5000 19999 hull.length else LengthOutOfRange
    ∷ between 1000 8000 hull.breadth else BreadthOutOfRange
    ∷ between 400 4000 hull.depth else DepthOutOfRange
    ∷ between 100 hull.depth hull.draught else DraughtOutOfRange
    ∷ nat_le hull.water 1 else WaterUnknown
    ∷ [])

-- a line names the mark as a neighbour
abbrev pub names : Entry → ℕ → Bool
names line mark = line.near == mark || line.far == mark

-- a line names itself as a neighbour
abbrev pub names_itself : Entry → Bool
names_itself line = names line line.mark

-- the other entered values keep their limits
abbrev pub keeps_limits : Entry → Bool
keeps_limits line =
    nat_le line.spacing 1000 && (nat_le line.span 5000 && (nat_le line.height 4000
    && (nat_le line.pressure 100 && (nat_le line.strength 500 && nat_le line.area 10000))))

-- what is asked of the entered values of a line, besides its mark
abbrev pub value_questions : Entry → List Question
value_questions line =
    (nat_le line.place 2 else PlaceUnknown
    ∷ not (names_itself line) else NeighbourIsItself
    ∷ keeps_limits line else ValueOverLimit
    ∷ [])
