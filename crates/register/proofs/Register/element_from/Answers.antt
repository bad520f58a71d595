use Rattle.std.proofs.Common.{rules, tests, leb, ◌∙◌}
use Rattle.std.proofs.lemmas.Iterator.{YieldsList-from_slice}
use Rattle.std.proofs.lemmas.Iterator.Search.{find_from_yields_List}
use Rattle.register.specs.Registers.{elements_of}
use Rattle.register.proofs.Register.element_from.Goals as goal

pub returns : goal.returns
returns g c =
    c.copied.ensures
    ∙ find_from_yields_List (λ x. leb c.args.key (g.E.Keyed.key x)) _ _ _ c.find.ensures.ran (YieldsList-from_slice (elements_of c.args.self.now) (c.iter.ensures.rest ∙ c.elements.ensures)) (λ x b q k. search (rules, tests))
