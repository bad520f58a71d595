use Rattle.std.proofs.Common.{◌≡◌, ◌-◌, ◌++◌, min, length, take, drop, replicate, ap, ◌∙◌, arith}
use Rattle.std.proofs.lemmas.List.{drop_at, length-append, length-drop, length-take-le}
use Rattle.register.specs.Keys.{each_changed}
use Rattle.register.proofs.Changed.{length-changed}
use Rattle.register.proofs.Held.{take_min, drop_min, changed_front}
use Rattle.register.proofs.Register.change_each.Goals as goal

pub returns-clause-slots : goal.returns-clause-slots
returns-clause-slots g c =
    let s = c.args.self.now in
    let f = g.C.Change.gives c.args.change.now in
    c.change_first.ensures
    ∙ ap (λ k. each_changed f (take k s.slots.now) ++ drop k s.slots.now) c.min-count.ensures
    ∙ ap (λ l. each_changed f l ++ drop (min s.count (length s.slots.now)) s.slots.now) (take_min s.count s.slots.now)
    ∙ ap (λ l. each_changed f (take s.count s.slots.now) ++ l) (drop_min s.count s.slots.now)

pub returns-clause-elements : goal.returns-clause-elements
returns-clause-elements g c = let s = c.args.self.now in ap (take s.count) (returns-clause-slots g c) ∙ changed_front s.count s.slots.now (g.C.Change.gives c.args.change.now)

pub returns-clause-tidy : goal.returns-clause-tidy
returns-clause-tidy g c = λ tidy.
    let s = c.args.self.now in
    let v = g.E.Keyed.vacant in
    let front = each_changed (g.C.Change.gives c.args.change.now) (take s.count s.slots.now) in
    let is = returns-clause-slots g c in
    let long : length front ≡ s.count = length-changed (g.C.Change.gives c.args.change.now) (take s.count s.slots.now) ∙ length-take-le s.count s.slots.now tidy.fits in
    let whole = ap length is ∙ length-append front (drop s.count s.slots.now) in
    record {
      fits = omega (arith, whole, long);
      rest = ap (drop s.count) is ∙ drop_at front (drop s.count s.slots.now) s.count long ∙ tidy.rest ∙ ap (λ k. replicate (k - s.count) v) (omega (arith, whole, long, length-drop s.count s.slots.now, tidy.fits));
    }
