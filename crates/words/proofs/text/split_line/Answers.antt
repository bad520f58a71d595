use Rattle.std.proofs.Common.{ap, ◌∙◌, refl, rules, tests, arith, length-drop}
use Rattle.words.proofs.Cuts.{up_to_cut, past_line, got_past}
use Rattle.words.proofs.text.split_line.Goals as goal

pub returns : goal.returns
returns c =
    let cut = c.split_before.ensures in
    let later = ap (λ l. l.now) c.unwrap_or.ensures ∙ got_past c.split_before.result.1.now c.get.result _ refl c.get.ensures.lookup ∙ past_line cut (λ b r says. search (rules, tests)) in
    record {
      first = up_to_cut cut 10 (λ b r says. search (rules, tests));
      later = later;
      shorter = λ some. rw later (simp length-drop (omega arith));
    }
