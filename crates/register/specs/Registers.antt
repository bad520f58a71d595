-- What a register holds.
use Rattle.std.specs.Prelude.{◌≡◌, ℕ, ◌-◌, ◌≤◌, List, length, take, drop, replicate, Option, None, if◌then◌else◌, nat_le, slice_get}
use Rattle.register.specs.declared.Register.{Register}

module _ {E : Type 0} where
  -- the elements, in their order
  abbrev pub elements_of : Register E → List E
  elements_of r = take r.count r.slots.now

  -- how many elements there is room for
  abbrev pub room_of : Register E → ℕ
  room_of r = length r.slots.now

  -- the element at a place; a register whose count is above the number of its places gives none
  abbrev pub held : Register E → ℕ → Option E
  held r place = if nat_le r.count (room_of r) then slice_get (elements_of r) place else None

  -- r is over the same places as q, and as many
  pub record SamePlaces (q r : Register E) : Type 0 where
    pub room : room_of r ≡ room_of q
    pub pointer : r.slots.ref_ptr ≡ q.slots.ref_ptr
    pub name : r.slots.ghost_name ≡ q.slots.ghost_name

  -- the count is of places that there are, and the free places hold the vacant element
  pub record Tidy (vacant : E) (r : Register E) : Type 0 where
    pub fits : r.count ≤ room_of r
    pub rest : drop r.count r.slots.now ≡ replicate (room_of r - r.count) vacant
