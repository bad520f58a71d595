-- The clauses for aluminium fast craft.
use Rattle.std.specs.Prelude.{Bool, cond, ◌&&◌, ◌||◌, List, [], ◌∷◌, ℕ, ◌+◌, ◌-◌, ◌*◌, ◌^◌, max, eqb, leb, ltb}
use Rattle.std.proofs.Common.{arith}
use Rattle.terms.specs.declared.entry.Entry.{Entry}
use Rattle.terms.specs.declared.hull.Hull.{Hull}
use Rattle.terms.specs.Rules.{Rules, Law}
use Rattle.clauses.specs.Rounding.{divided_up}
use Rattle.clauses.specs.Panels.{bending, panel_thickness}
use Rattle.clauses.specs.Clauses.{Clauses, Rising, rules_by, law_by, by_kind, ◌says◌, Pull, on◌by◌to◌, by_kinds, AllRise, pulls_rise}

-- 41 to 46 are panels of plating, 47 is the keel plate, 51 to 59 are stiffeners
abbrev pub panel : Entry → Bool
panel line = leb 41 line.kind && leb line.kind 46

abbrev pub keel : Entry → Bool
keel line = eqb line.kind 47

abbrev pub stiffener : Entry → Bool
stiffener line = leb 51 line.kind && leb line.kind 59

-- a panel's short edge is no longer than its long one; a stiffener has a spacing and a span; both have a strength
abbrev pub fits : Hull → Entry → Bool
fits hull line =
    keel line
    || ((panel line && (ltb 0 line.spacing && (leb line.spacing line.span && ltb 0 line.strength)))
    || (stiffener line && (ltb 0 line.spacing && (ltb 0 line.span && ltb 0 line.strength))))

-- K, in tenths: 41 bottom, 42 side, 43 deck, 44 wall, 45 collision or tank bulkhead, 46 watertight bulkhead
abbrev pub panel_factor : Entry → ℕ
panel_factor line = by_kind line.kind (41 says 250 ∷ 42 says 258 ∷ 43 says 278 ∷ 44 says 258 ∷ 45 says 258 ∷ 46 says 224 ∷ [])

-- K: 51 bottom, 53 side and 55 deck longitudinal; 52 bottom, 54 side and 56 deck transverse; 57 wall,
-- 58 collision or tank bulkhead, 59 watertight bulkhead
abbrev pub stiffener_factor : Entry → ℕ
stiffener_factor line = by_kind line.kind
    (51 says 115 ∷ 52 says 135
    ∷ 53 says 130 ∷ 54 says 150
    ∷ 55 says 130 ∷ 56 says 150
    ∷ 57 says 150 ∷ 58 says 130 ∷ 59 says 120
    ∷ [])

-- C, in thousandths: 1 for a panel twice as long as broad, else 1.08 - 0.16 s / l
abbrev pub aspect : Entry → ℕ
aspect line = cond (leb (2 * line.spacing) line.span) 1000 (divided_up (1080 * line.span - 160 * line.spacing) line.span)

-- a panel: the least thickness that stands the pressure, at least 2 mm; the keel plate: at least 2 mm;
-- a stiffener: K l² s P / σ
abbrev pub own : Hull → Entry → ℕ
own hull line =
    cond (panel line) (max (panel_thickness (panel_factor line) (aspect line) line) 200)
    (cond (keel line) 200
    (cond (stiffener line) (divided_up (bending (stiffener_factor line) line * line.pressure) (10 ^ 7 * line.strength)) 0))

-- 47 keel plate: 1 mm more than the bottom plating
abbrev pub pulls : List Pull
pulls = on 47 by 41 to (λ size. size + 100) ∷ []

abbrev pub pull : Entry → Entry → ℕ → ℕ
pull line neighbour size = by_kinds line.kind neighbour.kind pulls size

abbrev pub clauses : Clauses
clauses = record { fits = fits; stiffener = stiffener; own = own; pull = pull }

abbrev pub aluminium : Rules
aluminium = rules_by clauses

each_rises : AllRise pulls
each_rises = ((λ m n h. omega arith), tt)

pub rising : Rising clauses
rising = λ line neighbour. pulls_rise line.kind neighbour.kind pulls each_rises

pub aluminium_law : Law aluminium
aluminium_law = law_by clauses rising
