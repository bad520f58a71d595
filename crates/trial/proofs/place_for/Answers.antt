use Rattle.std.proofs.Common.{rules, Err, sym, ap, ◌∙◌}
use Rattle.terms.specs.declared.ground.Ground.TheVariants.{MarkUnknown}
use Rattle.terms.specs.Questions.{refusal_of}
use Rattle.trial.proofs.Tried.{unknown, too_large, refused}
use Rattle.trial.proofs.place_for.Goals as goal

pub returns-in_err-place : goal.returns-in_err-place
returns-in_err-place g c =
    let at = g.S.Lines.contents c.args.lines.now in
    refused at c.args.mark c.args.size (refusal_of MarkUnknown c.args.mark) c.from_residual.result (unknown at c.args.mark c.args.size (search rules)) (search rules)

pub returns-then-size-gt-LARGEST_SIZE : goal.returns-then-size-gt-LARGEST_SIZE
returns-then-size-gt-LARGEST_SIZE g c =
    too_large (g.S.Lines.contents c.args.lines.now) c.args.mark c.args.size c.in_ok-place.place (search rules) c.if-size-gt-LARGEST_SIZE.true
    ∙ ap Err (sym (search rules))
