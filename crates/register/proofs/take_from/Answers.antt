use Rattle.std.proofs.Common.{◌∷◌, ◌++◌, [], take, drop, ap, ◌∙◌}
use Rattle.std.specs.List.{remove}
use Rattle.std.proofs.lemmas.List.{append_assoc}
use Rattle.register.proofs.take_from.Goals as goal

pub returns : goal.returns
returns g c =
    let s = c.args.slots.now in
    let n = c.args.count in
    ap (λ l. l ++ drop n s) c.take_out.ensures ∙ append_assoc (remove (take n s) c.args.place) (g.E.Keyed.vacant ∷ []) (drop n s)
