use Rattle.std.proofs.Common.{rules, tests, ◌∙◌, sym, eqb}
use Rattle.std.proofs.lemmas.Iterator.{YieldsList-from_slice}
use Rattle.std.proofs.lemmas.Iterator.Search.{any_from_yields_List}
use Rattle.design.proofs.Places.{there_any}
use Rattle.design.specs.Lines.{mark_of}
use Rattle.design.proofs.check.has_mark.Goals as goal

pub returns : goal.returns
returns c =
    any_from_yields_List (λ l. eqb (mark_of l) c.args.mark) _ _ _ c.any.ensures.ran (YieldsList-from_slice c.args.lines.now cc) (λ x b q k. search (rules, tests))
    ∙ sym (there_any c.args.mark c.args.lines.now)
