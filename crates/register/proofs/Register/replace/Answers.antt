use Rattle.std.proofs.Common.{◌-◌, replicate, ap, sym, ◌∙◌, rules, arith}
use Rattle.std.proofs.Math.Seq.{take-set-lt}
use Rattle.std.proofs.lemmas.List.{drop-set-lt, length-set, length-take-le, set_past}
use Rattle.register.specs.Registers.{elements_of}
use Rattle.register.proofs.Held.{none_held, some_held}
use Rattle.register.proofs.Register.replace.Goals as goal

pub returns-in_err-old-clause-elements : goal.returns-in_err-old-clause-elements
returns-in_err-old-clause-elements g c = λ fits. let s = c.args.self.now in sym (set_past (elements_of s) c.args.place c.args.e (none_held s c.args.place c.in_err-old.ensures fits))

pub bounds-self-place : goal.bounds-self-place
bounds-self-place g c =
    let s = c.args.self.now in
    let there = some_held s c.args.place c.in_ok-old.old c.in_ok-old.ensures in
    omega (arith, there.0, there.1, length-take-le s.count s.slots.now there.0)

pub returns-clause-elements : goal.returns-clause-elements
returns-clause-elements g c = λ fits.
    let s = c.args.self.now in
    let there = some_held s c.args.place c.in_ok-old.old c.in_ok-old.ensures in
    take-set-lt s.count s.slots.now c.args.place c.args.e (omega (arith, there.1, length-take-le s.count s.slots.now fits))

pub returns-clause-tidy : goal.returns-clause-tidy
returns-clause-tidy g c = λ tidy.
    let s = c.args.self.now in
    let v = g.E.Keyed.vacant in
    let there = some_held s c.args.place c.in_ok-old.old c.in_ok-old.ensures in
    let long = length-set s.slots.now c.args.place c.args.e in
    record {
      fits = omega (arith, tidy.fits, long);
      rest = drop-set-lt s.count s.slots.now c.args.place c.args.e (omega (arith, there.1, length-take-le s.count s.slots.now tidy.fits)) ∙ tidy.rest ∙ ap (λ k. replicate (k - s.count) v) (sym long);
    }

pub offset_bounds-self-place : goal.offset_bounds-self-place
offset_bounds-self-place g c = let h = some_held c.args.self.now c.args.place c.in_ok-old.old c.in_ok-old.ensures in search rules
