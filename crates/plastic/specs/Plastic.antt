-- The clauses for reinforced-plastic fishing boats.
use Rattle.std.specs.Prelude.{Bool, true, false, cond, not, ◌&&◌, ◌||◌, List, [], ◌∷◌, ℕ, ◌+◌, ◌-◌, ◌*◌, ◌^◌, ◌≤◌, max, eqb, leb, ltb}
use Rattle.std.proofs.Common.{arith}
use Rattle.terms.specs.declared.entry.Entry.{Entry}
use Rattle.terms.specs.declared.hull.Hull.{Hull}
use Rattle.terms.specs.Rules.{Rules, Law}
use Rattle.clauses.specs.Rounding.{divided_up, per_cent}
use Rattle.clauses.specs.Panels.{bending}
use Rattle.clauses.specs.Clauses.{Clauses, Rising, rules_by, law_by, by_kind, ◌says◌, Pull, on◌by◌to◌, by_kinds, AllRise, pulls_rise}

-- 30 floor modulus, 31 bottom longitudinal
abbrev pub stiffener : Entry → Bool
stiffener line = eqb line.kind 30 || eqb line.kind 31

-- boats of 7 m and above, below 12 m; kinds 21 to 31; a stiffener has a spacing and a span
abbrev pub fits : Hull → Entry → Bool
fits hull line =
    (leb 7000 hull.length && ltb hull.length 12000) && ((leb 21 line.kind && leb line.kind 31)
    && (not (stiffener line) || (ltb 0 line.spacing && ltb 0 line.span)))

abbrev pub calm : Hull → Bool
calm hull = eqb hull.water 0

abbrev pub in_engine_room : Entry → Bool
in_engine_room line = eqb line.place 1

abbrev pub at_engine_seat : Entry → Bool
at_engine_seat line = eqb line.place 2

abbrev pub near_engine : Entry → Bool
near_engine line = in_engine_room line || at_engine_seat line

-- The head of water on a member, in thousandths of a millimetre: d + 0.026 L - z, or half the depth
-- where that is greater. The first is below 0 for a member high above the water; the difference here stops at 0, which half the depth never is below.
abbrev pub head : Hull → Entry → ℕ
head hull line = max (1000 * hull.draught + 26 * hull.length - 1000 * line.height) (500 * hull.depth)

-- the same with no difference that could pass below 0: the least number that is at or above both heads
pub record GreaterHead (hull : Hull) (line : Entry) (h : ℕ) : Type 0 where
  pub over : 1000 * hull.draught + 26 * hull.length ≤ h + 1000 * line.height
  pub half : 500 * hull.depth ≤ h
  pub least : (t : ℕ) → 1000 * hull.draught + 26 * hull.length ≤ t + 1000 * line.height → 500 * hull.depth ≤ t → h ≤ t

-- a stiffener's modulus under that head: k s H l²
abbrev pub modulus : ℕ → Hull → Entry → ℕ
modulus k hull line = divided_up (bending k line * head hull line) (10 ^ 13)

-- 0.4 L + 4.7 mm, by the whole and by 1.25 times
abbrev pub keelson : ℕ → Hull → ℕ
keelson divisor hull = divided_up (hull.length + 11750) divisor

-- 21 shell and 22 deck by the water; 23 centre and 24 side keelson web, thicker near the engine;
-- 25 floor web at least 4 mm; 30 floor and 31 bottom longitudinal by the head of water
abbrev pub own : Hull → Entry → ℕ
own hull line = by_kind line.kind
    (21 says cond (calm hull) 600 800
    ∷ 22 says cond (calm hull) 500 700
    ∷ 23 says keelson (cond (near_engine line) 20 25) hull
    ∷ 24 says cond (near_engine line) (keelson 25 hull) (divided_up (3 * hull.length + 35000) 100)
    ∷ 25 says max (divided_up hull.length 25) 400
    ∷ 30 says modulus (cond (at_engine_seat line) 51 34) hull line
    ∷ 31 says modulus 48 hull line
    ∷ [])

-- 25 floor web at the engine seat: as thick as the centre keelson; 26 floor face: as its web;
-- 27 inner bottom: 85 per cent of the shell; 28 bulwark: 80 per cent; 29 joining angle: half of the shell and half of the deck
abbrev pub pulls : Entry → List Pull
pulls line =
    (on 25 by 23 to (λ size. cond (at_engine_seat line) size 0)
    ∷ on 26 by 25 to (λ size. size)
    ∷ on 27 by 21 to (λ size. per_cent 85 size)
    ∷ on 28 by 21 to (λ size. per_cent 80 size)
    ∷ on 29 by 21 to (λ size. divided_up size 2)
    ∷ on 29 by 22 to (λ size. divided_up size 2)
    ∷ [])

abbrev pub pull : Entry → Entry → ℕ → ℕ
pull line neighbour size = by_kinds line.kind neighbour.kind (pulls line) size

abbrev pub clauses : Clauses
clauses = record { fits = fits; stiffener = stiffener; own = own; pull = pull }

abbrev pub plastic : Rules
plastic = rules_by clauses

seat_rises : (t : Bool) (m n : ℕ) → m ≤ n → cond t m 0 ≤ cond t n 0
seat_rises true m n h = h
seat_rises false m n h = omega arith

each_rises : (line : Entry) → AllRise (pulls line)
each_rises line =
    (seat_rises (at_engine_seat line), ((λ m n h. h), ((λ m n h. omega arith), ((λ m n h. omega arith), ((λ m n h. omega arith), ((λ m n h. omega arith), tt))))))

pub rising : Rising clauses
rising = λ line neighbour. pulls_rise line.kind neighbour.kind (pulls line) (each_rises line)

pub plastic_law : Law plastic
plastic_law = law_by clauses rising
