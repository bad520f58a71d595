-- What a member needs by itself.
use Rattle.std.specs.Prelude.{◌≡◌, ℕ, Bool, List, [], ◌∷◌, ◌++◌, Some, None, Ok, Err, Result, nat_lt}
use Rattle.terms.specs.declared.entry.Entry.{Entry}
use Rattle.terms.specs.declared.ground.Ground.TheVariants.{MarkZero, LineUnfit}
use Rattle.terms.specs.declared.hull.Hull.{Hull}
use Rattle.terms.specs.declared.refusal.Refusal.{Refusal}
use Rattle.terms.specs.Questions.{Question, ◌else◌, first_no, value_questions}
use Rattle.terms.specs.Rules.{Rules}
use Rattle.terms.specs.Stocks.{AtLeast, stock_of}
use Rattle.needs.specs.declared.need.Need.{Need}

-- what is asked of a member before a book is
abbrev pub entry_questions : Entry → List Question
entry_questions line = nat_lt 0 line.mark else MarkZero ∷ value_questions line

-- what is asked in all
abbrev pub member_questions : Rules → Hull → Entry → List Question
member_questions book hull line = entry_questions line ++ (book.fits hull line else LineUnfit ∷ [])

-- The own size by the book, and the smallest size of the member's stock that is no less, or none
-- where there is none; refused at the mark on the ground of the first question with a no.
abbrev pub Needs : Rules → (ℕ → Bool) → (ℕ → Bool) → Hull → Entry → Result Need Refusal → Type 0
Needs book plates stiffeners hull line (Ok n) =
    (first_no (member_questions book hull line) ≡ None) × (n.mark ≡ line.mark) × (n.own ≡ book.own hull line)
    × AtLeast (stock_of book plates stiffeners hull line) (book.own hull line) n.order
Needs book plates stiffeners hull line (Err e) =
    (first_no (member_questions book hull line) ≡ Some e.ground) × (e.at ≡ line.mark)
