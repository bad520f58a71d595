-- No two grounds have one number.
use Rattle.std.proofs.Common.{◌≡◌, rules, ◌==◌}
use Rattle.std.specs.Prelude.{Decides}
use Rattle.terms.specs.declared.ground.Ground.{Ground}
use Rattle.terms.specs.Grounds.{number_of}

pub number_decides : (a b : Ground) → Decides (number_of a == number_of b) (a ≡ b)
number_decides a b = search rules
