-- The clauses for steel small craft.
use Rattle.std.specs.Prelude.{Bool, not, ◌&&◌, ◌||◌, List, [], ◌∷◌, ℕ, ◌+◌, ◌*◌, ◌^◌, eqb, leb, ltb}
use Rattle.std.proofs.Common.{arith}
use Rattle.terms.specs.declared.entry.Entry.{Entry}
use Rattle.terms.specs.declared.hull.Hull.{Hull}
use Rattle.terms.specs.Rules.{Rules, Law}
use Rattle.clauses.specs.Rounding.{divided_up, per_cent}
use Rattle.clauses.specs.Panels.{bending}
use Rattle.clauses.specs.Clauses.{Clauses, Rising, rules_by, law_by, by_kind, ◌says◌, Pull, on◌by◌to◌, by_kinds, AllRise, pulls_rise}

-- 7 wall stiffener, 8 inner wall stiffener
abbrev pub stiffener : Entry → Bool
stiffener line = eqb line.kind 7 || eqb line.kind 8

-- the breadth at most 4.5 times the depth, the length at most 30 times
abbrev pub proportioned : Hull → Bool
proportioned hull = leb (2 * hull.breadth) (9 * hull.depth) && leb hull.length (30 * hull.depth)

-- kinds 1 to 8; a stiffener has a spacing and a span
abbrev pub fits : Hull → Entry → Bool
fits hull line =
    proportioned hull && ((leb 1 line.kind && leb line.kind 8)
    && (not (stiffener line) || (ltb 0 line.spacing && ltb 0 line.span)))

-- 4 outer wall 2 mm, 5 inner wall 1.5 mm, 7 wall stiffener 3 s l², 8 inner wall stiffener 0.8 of that
abbrev pub own : Hull → Entry → ℕ
own hull line = by_kind line.kind
    (4 says 200
    ∷ 5 says 150
    ∷ 7 says divided_up (bending 3 line) (10 ^ 7)
    ∷ 8 says divided_up (bending 12 line) (5 * 10 ^ 7)
    ∷ [])

-- 1 side plate and 2 watertight bulkhead: each as thick as the other; 3 collision bulkhead: 1 mm
-- more than a watertight one; 6 sponson closing plate: 80 per cent of the side plate
abbrev pub pulls : List Pull
pulls =
    (on 1 by 2 to (λ size. size)
    ∷ on 2 by 1 to (λ size. size)
    ∷ on 3 by 2 to (λ size. size + 100)
    ∷ on 6 by 1 to (λ size. per_cent 80 size)
    ∷ [])

abbrev pub pull : Entry → Entry → ℕ → ℕ
pull line neighbour size = by_kinds line.kind neighbour.kind pulls size

abbrev pub clauses : Clauses
clauses = record { fits = fits; stiffener = stiffener; own = own; pull = pull }

abbrev pub steel : Rules
steel = rules_by clauses

each_rises : AllRise pulls
each_rises = ((λ m n h. h), ((λ m n h. h), ((λ m n h. omega arith), ((λ m n h. omega arith), tt))))

pub rising : Rising clauses
rising = λ line neighbour. pulls_rise line.kind neighbour.kind pulls each_rises

pub steel_law : Law steel
steel_law = law_by clauses rising
