-- A call is read off its bytes in one way.
use Rattle.std.proofs.Common.{◌≡◌, ℕ, ◌+◌, cond, eqb, List, [], ◌∷◌, get_or, drop, sym, refl, ap, ◌∙◌, arith}
use Rattle.std.specs.Int.{w16, from_be_bytes}
use Rattle.terms.specs.declared.entry.Entry.{Entry}
use Rattle.sheet.specs.declared.call.Call.{Call}
use Rattle.sheet.specs.declared.call.Call.TheVariants.{Hull, Enter, Amend, Strike, Lay}
use Rattle.record.specs.Spelling.{pair, spelled, entered}
use Rattle.record.specs.Parts.{width}

-- the number in the two bytes from a place on
abbrev pub word : List ℕ → ℕ → ℕ
word xs i = from_be_bytes w16 (get_or xs i 0 ∷ get_or xs (i + 1) 0 ∷ [])

-- the entered values after a command byte
abbrev entry_at : List ℕ → Entry
entry_at xs = record {
  mark = word xs 1;
  kind = get_or xs 3 0;
  place = get_or xs 4 0;
  near = word xs 5;
  far = word xs 7;
  spacing = word xs 9;
  span = word xs 11;
  pressure = get_or xs 13 0;
  height = word xs 14;
  strength = word xs 16;
  area = word xs 18;
}

abbrev call_at : List ℕ → Call
call_at xs =
    cond (eqb (get_or xs 0 0) 1) (Hull (record { length = word xs 1; breadth = word xs 3; depth = word xs 5; draught = word xs 7; water = get_or xs 9 0 }))
    (cond (eqb (get_or xs 0 0) 2) (Enter (entry_at xs)) (cond (eqb (get_or xs 0 0) 3) (Amend (entry_at xs)) (cond (eqb (get_or xs 0 0) 4) (Strike (word xs 1)) (Lay (word xs 1) (word xs 3)))))

joins : (n : ℕ) → from_be_bytes w16 (pair n []) ≡ n
joins n = omega arith

entry-back : (e : Entry) (b : ℕ) (more : List ℕ) → entry_at (b ∷ entered e more) ≡ e
entry-back e b more = λ i. record {
  mark = joins e.mark i;
  kind = e.kind;
  place = e.place;
  near = joins e.near i;
  far = joins e.far i;
  spacing = joins e.spacing i;
  span = joins e.span i;
  pressure = e.pressure;
  height = joins e.height i;
  strength = joins e.strength i;
  area = joins e.area i;
}

call_back : (x : Call) (more : List ℕ) → call_at (spelled x more) ≡ x
call_back (Hull h) more = λ i. Hull (record { length = joins h.length i; breadth = joins h.breadth i; depth = joins h.depth i; draught = joins h.draught i; water = h.water })
call_back (Enter e) more = ap Enter (entry-back e 2 more)
call_back (Amend e) more = ap Amend (entry-back e 3 more)
call_back (Strike m) more = ap Strike (joins m)
call_back (Lay m n) more = λ i. Lay (joins m i) (joins n i)

abbrev rest_at : List ℕ → List ℕ
rest_at xs = drop (width (get_or xs 0 0)) xs

rest_back : (x : Call) (more : List ℕ) → rest_at (spelled x more) ≡ more
rest_back (Hull h) more = refl
rest_back (Enter e) more = refl
rest_back (Amend e) more = refl
rest_back (Strike m) more = refl
rest_back (Lay m n) more = refl

pub spelled_same : (x y : Call) (xs ys : List ℕ) → spelled x xs ≡ spelled y ys → (x ≡ y) × (xs ≡ ys)
spelled_same x y xs ys e = (sym (call_back x xs) ∙ ap call_at e ∙ call_back y ys, sym (rest_back x xs) ∙ ap rest_at e ∙ rest_back y ys)
