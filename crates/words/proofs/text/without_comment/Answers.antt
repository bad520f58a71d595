use Rattle.std.proofs.Common.{rules, tests}
use Rattle.words.proofs.Cuts.{up_to_cut}
use Rattle.words.proofs.text.without_comment.Goals as goal

pub returns : goal.returns
returns c = up_to_cut c.split_before.ensures 35 (λ b r says. search (rules, tests))
