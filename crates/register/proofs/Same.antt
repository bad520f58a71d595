-- A tidy register is told by its places and its elements: the other places are vacant.
use Rattle.std.proofs.Common.{◌≡◌, ◌-◌, ◌≤◌, ◌++◌, length, replicate, sym, ap, ◌∙◌}
use denote.RattleType.{RattleType}
use denote.Ref.{NamedLft}
use denote.Struct.Record.{values_one}
use Rattle.std.proofs.lemmas.List.{length-take-le, take-append-drop}
use Rattle.register.specs.declared.Register.{Register}
use Rattle.register.specs.contracts.Register.{struct, the_type}
use Rattle.register.specs.Registers.{elements_of, room_of, SamePlaces, Tidy}

module _ {X : Type 0} where
  -- as many elements as the count says
  pub length-elements : (r : Register X) → r.count ≤ room_of r → length (elements_of r) ≡ r.count
  length-elements r fits = length-take-le r.count r.slots.now fits

  module _ (v : X) (q r : Register X) (before : Tidy v q) (after : Tidy v r) (e : elements_of r ≡ elements_of q) where
    same_count : r.count ≡ q.count
    same_count = sym (length-elements r after.fits) ∙ ap length e ∙ length-elements q before.fits

    same_memory : SamePlaces q r → r.slots.now ≡ q.slots.now
    same_memory p =
        sym (take-append-drop r.count r.slots.now) ∙ ap (λ l. elements_of r ++ l) after.rest
        ∙ ap (λ l. l ++ replicate (room_of r - r.count) v) e
        ∙ ap (λ n. elements_of q ++ replicate (n - r.count) v) p.room
        ∙ ap (λ n. elements_of q ++ replicate (room_of q - n) v) same_count
        ∙ ap (λ l. elements_of q ++ l) (sym before.rest) ∙ take-append-drop q.count q.slots.now

pub same_register : (a : NamedLft) (E : RattleType) (v : E.Denot) (q r : Register E.Denot) → Tidy v q → Tidy v r → SamePlaces q r → elements_of r ≡ elements_of q → r ≡ q
same_register a E v q r before after p e =
    values_one (struct a E) (the_type a E).propositions r q
    (λ j. (record { ref_ptr = p.pointer j; ghost_name = p.name j; now = same_memory v q r before after e p j }, (same_count v q r before after e j, tt)))
