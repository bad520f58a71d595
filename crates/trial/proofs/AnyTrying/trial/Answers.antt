use Rattle.std.proofs.Common.{refl, rules, ◌∙◌}
use Rattle.design.specs.Contents.{with_lines}
use Rattle.trial.specs.Trials.{lay_at}
use Rattle.trial.proofs.Tried.{lines-tried}
use Rattle.trial.proofs.AnyTrying.trial.Goals as goal

pub returns : goal.returns
returns g c =
    let may = c.in-Ok.ensures in
    let held = g.S.Lines.contents c.args.self.now in
    record {
      name = refl;
      tried = ◌∙◌ {b = with_lines held (lay_at held.lines c.in-Ok.place c.args.size)} (search rules) (lines-tried held c.args.mark c.args.size c.in-Ok.place may.0 may.1);
      back = c.put_at-earlier.ensures.back;
    }
