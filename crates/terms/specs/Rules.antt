-- What a rule book means, and the law that it owes.
use Rattle.std.specs.Prelude.{◌≡◌, ℕ, ◌≤◌, Bool, true, false}
use Rattle.terms.specs.declared.entry.Entry.{Entry}
use Rattle.terms.specs.declared.hull.Hull.{Hull}

-- A rule book: whether a line fits, whether it is plate (and not a stiffener), its own size (what
-- it needs by itself), and the pull of a touching line on it (the size that the neighbour, at the
-- neighbour's size, obliges it to). All are functions of the hull and the entered values.
pub record Rules : Type 0 where
  pub fits : Hull → Entry → Bool
  pub plate : Hull → Entry → Bool
  pub own : Hull → Entry → ℕ
  pub pull : Hull → Entry → Entry → ℕ → ℕ

-- What every rule book owes: a pull never falls when the neighbour's size rises; an own size and a
-- pull end at 60,001; a line that does not fit counts as plate, and has 0 for both.
pub record Law (b : Rules) : Type 0 where
  pub rising : (hull : Hull) (line neighbour : Entry) (m n : ℕ) → m ≤ n → b.pull hull line neighbour m ≤ b.pull hull line neighbour n
  pub own_ends : (hull : Hull) (line : Entry) → b.own hull line ≤ 60001
  pub pull_ends : (hull : Hull) (line neighbour : Entry) (n : ℕ) → b.pull hull line neighbour n ≤ 60001
  pub unfit_plate : (hull : Hull) (line : Entry) → b.fits hull line ≡ false → b.plate hull line ≡ true
  pub unfit_own : (hull : Hull) (line : Entry) → b.fits hull line ≡ false → b.own hull line ≡ 0
  pub unfit_pull : (hull : Hull) (line neighbour : Entry) (n : ℕ) → b.fits hull line ≡ false → b.pull hull line neighbour n ≡ 0
