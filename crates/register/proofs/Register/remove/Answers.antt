use Rattle.std.proofs.Common.{◌≡◌, ◌-◌, ◌<◌, ◌∷◌, [], length, take, drop, replicate, ap, sym, ◌∙◌, subst, arith}
use Rattle.std.specs.List.{remove}
use Rattle.std.proofs.lemmas.List.{append_assoc, length-take-le}
use Rattle.register.specs.Registers.{elements_of}
use Rattle.register.proofs.Held.{removed_held, removed_whole, remove_past, none_held, some_held}
use Rattle.register.proofs.Vacant.{one_more}
use Rattle.register.proofs.Register.remove.Goals as goal

pub returns-in_err-e-clause-elements : goal.returns-in_err-e-clause-elements
returns-in_err-e-clause-elements g c = λ fits. let s = c.args.self.now in sym (remove_past (elements_of s) c.args.place (none_held s c.args.place c.in_err-e.ensures fits))

pub take_from-requires : goal.take_from-requires
take_from-requires g c =
    let s = c.args.self.now in
    let there = some_held s c.args.place c.in_ok-e.e c.in_ok-e.ensures in
    (omega (arith, there.1, length-take-le s.count s.slots.now there.0), there.0)

pub returns-clause-elements : goal.returns-clause-elements
returns-clause-elements g c = λ fits.
    let s = c.args.self.now in
    let there = some_held s c.args.place c.in_ok-e.e c.in_ok-e.ensures in
    ap (take (s.count - 1)) c.take_from.ensures ∙ removed_held g.E.Keyed.vacant c.args.place s.count s.slots.now (omega (arith, there.1, length-take-le s.count s.slots.now fits)) fits

pub returns-clause-tidy : goal.returns-clause-tidy
returns-clause-tidy g c = λ tidy.
    let s = c.args.self.now in
    let v = g.E.Keyed.vacant in
    let there = some_held s c.args.place c.in_ok-e.e c.in_ok-e.ensures in
    let below : c.args.place < s.count = omega (arith, there.1, length-take-le s.count s.slots.now tidy.fits) in
    let is = c.take_from.ensures in
    let long = ap length is ∙ removed_whole v c.args.place s.count s.slots.now below tidy.fits in
    record {
      fits = omega (arith, tidy.fits, long);
      rest = subst (λ l. drop (s.count - 1) l ≡ replicate (length l - (s.count - 1)) v) (sym (is ∙ sym (append_assoc (remove (elements_of s) c.args.place) (v ∷ []) (drop s.count s.slots.now))))
          (one_more v s.count s.slots.now tidy.rest c.args.place below tidy.fits);
    }
