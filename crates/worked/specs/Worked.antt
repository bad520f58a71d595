-- Sizes that were worked out by hand from the clauses.
use Rattle.std.specs.Prelude.{◌≡◌, ℕ}
use Rattle.terms.specs.declared.entry.Entry.{Entry}
use Rattle.terms.specs.declared.hull.Hull.{Hull}
use Rattle.plastic.specs.Plastic.{plastic}
use Rattle.aluminium.specs.Aluminium.{aluminium, aspect}

-- a line of aluminium with spacing 300 and strength 125; whatever else it has says nothing
abbrev pub alloy : Entry → ℕ → ℕ → ℕ → Entry
alloy e kind span pressure = record {
  mark = e.mark;
  kind = kind;
  place = e.place;
  near = e.near;
  far = e.far;
  spacing = 300;
  span = span;
  pressure = pressure;
  height = e.height;
  strength = 125;
  area = e.area;
}

-- a line of reinforced plastic with spacing 500 and span 2,000
abbrev pub moulded : Entry → ℕ → ℕ → ℕ → Entry
moulded e kind place height = record {
  mark = e.mark;
  kind = kind;
  place = place;
  near = e.near;
  far = e.far;
  spacing = 500;
  span = 2000;
  pressure = e.pressure;
  height = height;
  strength = e.strength;
  area = e.area;
}

-- a hull of this length with depth 1,500 and draught 800
abbrev pub long : Hull → ℕ → Hull
long h length = record { length = length; breadth = h.breadth; depth = 1500; draught = 800; water = h.water }

-- bottom panels of 300 by 600 under 20, 21, 30 and 8 kN/m², and one of 300 by 300 under 30; a bottom
-- longitudinal of 1,000; keelson and floor webs of boats of 10 m and 7 m; floors low and high in the boat
pub record WorkedSizes : Type 0 where
  pub panel_20 : (h : Hull) (e : Entry) → aluminium.own h (alloy e 41 600 20) ≡ 300
  pub panel_21 : (h : Hull) (e : Entry) → aluminium.own h (alloy e 41 600 21) ≡ 308
  pub panel_30 : (h : Hull) (e : Entry) → aluminium.own h (alloy e 41 600 30) ≡ 368
  pub panel_8 : (h : Hull) (e : Entry) → aluminium.own h (alloy e 41 600 8) ≡ 200
  pub square_aspect : (e : Entry) → aspect (alloy e 41 300 30) ≡ 920
  pub square : (h : Hull) (e : Entry) → aluminium.own h (alloy e 41 300 30) ≡ 339
  pub longitudinal : (h : Hull) (e : Entry) → aluminium.own h (alloy e 51 1000 30) ≡ 828
  pub centre_keelson : (h : Hull) (e : Entry) → plastic.own (long h 10000) (moulded e 23 0 0) ≡ 870
  pub centre_keelson_engine : (h : Hull) (e : Entry) → plastic.own (long h 10000) (moulded e 23 1 0) ≡ 1088
  pub side_keelson : (h : Hull) (e : Entry) → plastic.own (long h 10000) (moulded e 24 0 0) ≡ 650
  pub short_floor : (h : Hull) (e : Entry) → plastic.own (long h 7000) (moulded e 25 0 0) ≡ 400
  pub low_floor : (h : Hull) (e : Entry) → plastic.own (long h 10000) (moulded e 30 0 100) ≡ 6528
  pub high_floor : (h : Hull) (e : Entry) → plastic.own (long h 10000) (moulded e 30 0 400) ≡ 5100
