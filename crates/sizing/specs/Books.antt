-- The rule books by their numbers.
use Rattle.std.specs.Prelude.{ℕ, cond, Ok, Err, Result, ◌==◌}
use Rattle.terms.specs.declared.ground.Ground.TheVariants.{BookUnknown}
use Rattle.terms.specs.declared.refusal.Refusal.{Refusal}
use Rattle.terms.specs.Questions.{refusal_of}
use Rattle.terms.specs.Rules.{Rules}
use Rattle.steel.specs.Steel.{steel}
use Rattle.plastic.specs.Plastic.{plastic}
use Rattle.aluminium.specs.Aluminium.{aluminium}
use Rattle.sizing.specs.declared.book.Book.{Book}
use Rattle.sizing.specs.declared.book.Book.TheVariants.{Steel, Plastic, Aluminium}

abbrev pub numbered : ℕ → Result Book Refusal
numbered n =
    cond (n == 1) (Ok Steel) (cond (n == 2) (Ok Plastic) (cond (n == 3) (Ok Aluminium)
    (Err (refusal_of BookUnknown 0))))

abbrev pub rules_of : Book → Rules
rules_of Steel = steel
rules_of Plastic = plastic
rules_of Aluminium = aluminium
