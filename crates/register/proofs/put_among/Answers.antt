use Rattle.std.proofs.Common.{◌+◌, ◌++◌, drop, ap, ◌∙◌}
use Rattle.register.specs.Keys.{placed}
use Rattle.register.proofs.Held.{but_last}
use Rattle.register.proofs.put_among.Goals as goal

pub returns : goal.returns
returns g c =
    let s = c.args.slots.now in
    let n = c.args.count in
    ap (λ l. l ++ drop (n + 1) s) (c.put_in.ensures ∙ ap (placed g.E.Keyed.key c.args.e) (but_last g.E.Keyed.key c.args.e n s c.requires))
