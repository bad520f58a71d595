use Rattle.std.proofs.Common.{not, rules, tests}
use Rattle.words.proofs.Cuts.{first_word, no_word, where_yes}
use Rattle.words.proofs.text.next_word.Goals as goal

pub returns : goal.returns
returns c =
    rw c.then_some.ensures
    (where_yes _ _ (not c.is_empty.result) _
    (λ none. no_word c.split_before.ensures (λ b r says. search (rules, tests)) c.split_before-2.ensures (λ b r says. search (rules, tests)) (search (rules, tests)))
    (λ some. first_word c.split_before.ensures (λ b r says. search (rules, tests)) c.split_before-2.ensures (λ b r says. search (rules, tests)) (search (rules, tests))))
