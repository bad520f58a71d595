use Rattle.std.proofs.Common.{◌≡◌, rules, ◌∙◌}
use Rattle.std.specs.Result.{result_map_both}
use Rattle.trial.proofs.Tried.{may_begin}
use Rattle.trial.proofs.AnyTrying.may_try.Goals as goal

pub returns : goal.returns
returns g c =
    let mapped : c.map.result ≡ result_map_both (λ _. tt) (λ e. e) c.place_for.result = search rules in
    mapped ∙ may_begin (g.S.Lines.contents c.args.self.now) c.args.mark c.args.size c.place_for.result c.place_for.ensures
