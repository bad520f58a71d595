-- Bending of stiffeners, and panels of plating under pressure.
use Rattle.std.specs.Prelude.{ℕ, ◌*◌, ◌^◌, Bool, nat_le}
use Rattle.terms.specs.declared.entry.Entry.{Entry}
use Rattle.clauses.specs.Least.{least_up_to}

-- what a stiffener's section modulus grows with: spacing, and span twice
abbrev pub bending : ℕ → Entry → ℕ
bending factor line = factor * line.spacing * line.span * line.span

-- A panel of t hundredths of a millimetre stands its pressure when t² σ 10¹⁰ ≥ (k s C)² P, for the
-- factor k of the member and the factor C, in thousandths, of the panel's aspect.
abbrev pub stands : ℕ → ℕ → Entry → ℕ → Bool
stands k c panel t = nat_le ((k * panel.spacing * c) * (k * panel.spacing * c) * panel.pressure) (t * t * panel.strength * 10 ^ 10)

-- the least thickness that does, up to 60,001
abbrev pub panel_thickness : ℕ → ℕ → Entry → ℕ
panel_thickness k c panel = least_up_to 60001 (stands k c panel)
