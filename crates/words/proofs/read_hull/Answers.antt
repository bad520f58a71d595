use Rattle.std.proofs.Common.{refl, ap, sym, ◌∙◌, lit<, arith}
use Rattle.std.specs.Option.{option_map}
use Rattle.words.specs.Statements.{hull_limits, hull_of}
use Rattle.words.proofs.Bounds.{over_limit}
use Rattle.words.proofs.read_hull.Goals as goal

pub returns-in_err-narrowed : goal.returns-in_err-narrowed
returns-in_err-narrowed c =
    let high = c.in_err-narrowed.ensures in
    c.from_residual-in_err-narrowed.ensures
    ∙ sym (ap (option_map hull_of) (over_limit hull_limits c.args.words c.in_ok-length.field-0 refl c.in_ok-length.ensures 4 (lit< tt) (omega arith)))
