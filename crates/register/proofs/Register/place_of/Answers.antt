use Rattle.std.proofs.Common.{rules, tests, eqb, ◌∙◌}
use Rattle.std.proofs.lemmas.Iterator.{YieldsList-from_slice}
use Rattle.std.proofs.lemmas.Iterator.Search.{position_from_yields_List}
use Rattle.register.specs.Registers.{elements_of}
use Rattle.register.proofs.Found.{place_position}
use Rattle.register.proofs.Register.place_of.Goals as goal

pub returns : goal.returns
returns g c =
    position_from_yields_List (λ x. eqb (g.E.Keyed.key x) c.args.key) _ _ _ c.position.ensures.ran (YieldsList-from_slice (elements_of c.args.self.now) (c.iter.ensures.rest ∙ c.elements.ensures)) (λ x b q k. search (rules, tests))
    ∙ place_position g.E.Keyed.key c.args.key (elements_of c.args.self.now)
