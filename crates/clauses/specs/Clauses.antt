-- The clauses of a rule book, and the rules that they make.
use Rattle.std.specs.Prelude.{ℕ, ◌≤◌, Bool, true, false, cond, not, ◌&&◌, ◌||◌, List, [], ◌∷◌, ◌==◌}
use Rattle.std.proofs.Common.{arith}
use Rattle.std.proofs.lemmas.Bool.{cond-false, or_left, not_from_false}
use Rattle.terms.specs.declared.entry.Entry.{Entry}
use Rattle.terms.specs.declared.hull.Hull.{Hull}
use Rattle.terms.specs.Rules.{Rules, Law}
use Rattle.clauses.specs.Rounding.{ended}

-- one row of a clause that goes by the kind of a line
pub record Row : Type 0 where
  pub kind : ℕ
  pub says : ℕ

infixl 68 ◌says◌
abbrev pub ◌says◌ : ℕ → ℕ → Row
k says n = record { kind = k; says = n }

-- what the rows say of a kind, or 0
abbrev pub by_kind : ℕ → List Row → ℕ
by_kind k [] = 0
by_kind k (row ∷ rows) = cond (k == row.kind) row.says (by_kind k rows)

-- one row of a clause of pulls: on which kind, by which kind, and to what, given the neighbour's size
pub record Pull : Type 0 where
  pub on : ℕ
  pub by : ℕ
  pub to : ℕ → ℕ

infixl 68 on◌by◌to◌
abbrev pub on◌by◌to◌ : ℕ → ℕ → (ℕ → ℕ) → Pull
on l by k to f = record { on = l; by = k; to = f }

-- what the rows say of a line's kind beside a neighbour's, at the neighbour's size, or 0
abbrev pub by_kinds : ℕ → ℕ → List Pull → ℕ → ℕ
by_kinds line neighbour [] size = 0
by_kinds line neighbour (p ∷ ps) size = cond (line == p.on && neighbour == p.by) (p.to size) (by_kinds line neighbour ps size)

-- what a book's clauses say of a line that fits: whether it is a stiffener, its own size, and the
-- pull of a touching line; 0 where they say nothing
pub record Clauses : Type 0 where
  pub fits : Hull → Entry → Bool
  pub stiffener : Entry → Bool
  pub own : Hull → Entry → ℕ
  pub pull : Entry → Entry → ℕ → ℕ

-- the rules of a book with these clauses: sizes end at 60,001, and a line that does not fit counts as plate, with 0 for its sizes
abbrev pub rules_by : Clauses → Rules
rules_by b = record {
  fits = b.fits;
  plate = λ hull line. not (b.fits hull line) || not (b.stiffener line);
  own = λ hull line. cond (b.fits hull line) (ended (b.own hull line)) 0;
  pull = λ hull line neighbour size. cond (b.fits hull line) (ended (b.pull line neighbour size)) 0;
}

-- what is left to show of such a book: a pull never falls when the neighbour's size rises
abbrev pub Rising : Clauses → Type 0
Rising b = (line neighbour : Entry) (m n : ℕ) → m ≤ n → b.pull line neighbour m ≤ b.pull line neighbour n

-- every pull of the table rises with the neighbour's size
abbrev pub AllRise : List Pull → Type 0
AllRise [] = Unit {0}
AllRise (p ∷ ps) = ((m n : ℕ) → m ≤ n → p.to m ≤ p.to n) × AllRise ps

pick_rises : (t : Bool) (a b x y : ℕ) → a ≤ x → b ≤ y → cond t a b ≤ cond t x y
pick_rises true a b x y h k = h
pick_rises false a b x y h k = k

-- and so does what the table says of any two kinds
pub pulls_rise : (line neighbour : ℕ) (ps : List Pull) → AllRise ps → (m n : ℕ) → m ≤ n → by_kinds line neighbour ps m ≤ by_kinds line neighbour ps n
pulls_rise line neighbour [] rise m n h = omega arith
pulls_rise line neighbour (p ∷ ps) rise m n h =
    pick_rises (line == p.on && neighbour == p.by) (p.to m) (by_kinds line neighbour ps m) (p.to n) (by_kinds line neighbour ps n) (rise.0 m n h)
    (pulls_rise line neighbour ps rise.1 m n h)

cond_rises : (t : Bool) (m n : ℕ) → m ≤ n → cond t (ended m) 0 ≤ cond t (ended n) 0
cond_rises true m n h = omega arith
cond_rises false m n h = omega arith

cond_ends : (t : Bool) (n : ℕ) → cond t (ended n) 0 ≤ 60001
cond_ends true n = omega arith
cond_ends false n = omega arith

pub law_by : (b : Clauses) → Rising b → Law (rules_by b)
law_by b rising = record {
  rising = λ hull line neighbour m n h. cond_rises (b.fits hull line) (b.pull line neighbour m) (b.pull line neighbour n) (rising line neighbour m n h);
  own_ends = λ hull line. cond_ends (b.fits hull line) (b.own hull line);
  pull_ends = λ hull line neighbour n. cond_ends (b.fits hull line) (b.pull line neighbour n);
  unfit_plate = λ hull line e. or_left (not (b.fits hull line)) (not (b.stiffener line)) (not_from_false (b.fits hull line) e);
  unfit_own = λ hull line e. cond-false (b.fits hull line) (ended (b.own hull line)) 0 e;
  unfit_pull = λ hull line neighbour n e. cond-false (b.fits hull line) (ended (b.pull line neighbour n)) 0 e;
}
