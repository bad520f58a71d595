-- What a list of members says, and what is answered.
use Rattle.std.specs.Prelude.{◌≡◌, ℕ, Bool, cond, Some, None, Ok, Err, Option, Result}
use Rattle.std.specs.Option.{option_map}
use Rattle.terms.specs.declared.entry.Entry.{Entry}
use Rattle.terms.specs.declared.ground.Ground.{Ground}
use Rattle.terms.specs.declared.ground.Ground.TheVariants.{BuildUpOutOfRange}
use Rattle.terms.specs.declared.hull.Hull.{Hull}
use Rattle.terms.specs.declared.refusal.Refusal.{Refusal}
use Rattle.terms.specs.Questions.{first_no, hull_questions, refusal_of}
use Rattle.terms.specs.Rules.{Rules}
use Rattle.stocks.specs.BuildUps.{buildable, built}
use Rattle.stocks.specs.declared.build_up.BuildUp.{BuildUp}
use Rattle.words.specs.declared.form.Form.{Form}
use Rattle.words.specs.declared.form.Form.TheVariants as form
use Rattle.words.specs.declared.series.Series.{Series}
use Rattle.words.specs.declared.statement.Statement.{Statement}
use Rattle.words.specs.declared.statement.Statement.TheVariants as statement
use Rattle.sizing.specs.declared.book.Book.{Book}
use Rattle.sizing.specs.declared.given.Given.{Given}
use Rattle.sizing.specs.declared.fault.Fault.{Fault}
use Rattle.sizing.specs.declared.fault.Fault.TheVariants.{Refused, Missing, Expected}
use Rattle.sizing.specs.declared.reply.Reply.{Reply}
use Rattle.sizing.specs.declared.reply.Reply.TheVariants.{Noted}
use Rattle.sizing.specs.declared.reply.Reply.TheVariants as reply
use Rattle.sizing.specs.Books.{numbered, rules_of}
use Rattle.needs.specs.Needs.{Needs}

-- what the statements so far have said
pub record Said : Type 0 where
  pub book : Option Book
  pub plates : Option Series
  pub stiffeners : Option Series
  pub hull : Option Hull

-- the numbers of a build-up
abbrev pub series : BuildUp → Series
series b = record { first = b.first; step = b.step; count = b.count }

abbrev pub said : Given → Said
said g = record { book = g.book; plates = option_map series g.plates; stiffeners = option_map series g.stiffeners; hull = g.hull }

abbrev pub nothing_said : Said
nothing_said = record { book = None; plates = None; stiffeners = None; hull = None }

abbrev pub makes_stock : Series → Bool
makes_stock s = buildable s.first s.step s.count

-- what a statement gives for one of the four, or its refusal: a series that a stock is made of, or a hull
abbrev pub series_given : Series → Result Series Refusal
series_given p = cond (makes_stock p) (Ok p) (Err (refusal_of BuildUpOutOfRange 0))

abbrev pub hull_on : Hull → Option Ground → Result Hull Refusal
hull_on h None = Ok h
hull_on h (Some g) = Err (refusal_of g 0)

abbrev pub hull_given : Hull → Result Hull Refusal
hull_given h = hull_on h (first_no (hull_questions h))

-- one of the four after a statement about it: as it was where that is refused
abbrev pub after : {A : Type 0} → Result A Refusal → Option A → Option A
after (Ok x) before = Some x
after (Err e) before = before

-- what has been said after a statement
abbrev pub taken : Said → Statement → Said
taken s statement.Nothing = s
taken s (statement.Book n) = record { book = after (numbered n) s.book; plates = s.plates; stiffeners = s.stiffeners; hull = s.hull }
taken s (statement.Plates p) = record { book = s.book; plates = after (series_given p) s.plates; stiffeners = s.stiffeners; hull = s.hull }
taken s (statement.Stiffeners p) = record { book = s.book; plates = s.plates; stiffeners = after (series_given p) s.stiffeners; hull = s.hull }
taken s (statement.Hull h) = record { book = s.book; plates = s.plates; stiffeners = s.stiffeners; hull = after (hull_given h) s.hull }
taken s (statement.Enter e) = s

-- what is answered to a statement about one of the four
abbrev pub noted : {A : Type 0} → Result A Refusal → Result Reply Fault
noted (Ok x) = Ok Noted
noted (Err e) = Err (Refused e)

-- what a member is answered by a book, two stocks and a hull
abbrev pub Sized : Rules → (ℕ → Bool) → (ℕ → Bool) → Hull → Entry → Result Reply Fault → Type 0
Sized book plates stiffeners hull line (Ok Noted) = ⊥
Sized book plates stiffeners hull line (Ok (reply.Needs n)) = Needs book plates stiffeners hull line (Ok n)
Sized book plates stiffeners hull line (Err (Refused e)) = Needs book plates stiffeners hull line (Err e)
Sized book plates stiffeners hull line (Err (Missing f)) = ⊥
Sized book plates stiffeners hull line (Err (Expected f)) = ⊥

abbrev pub stock : Series → ℕ → Bool
stock p = built p.first p.step p.count

-- a member wants a book, plates, stiffeners and a hull first, in this order
abbrev pub Member : Option Book → Option Series → Option Series → Option Hull → Entry → Result Reply Fault → Type 0
Member None plates stiffeners hull line r = r ≡ Err (Missing form.Book)
Member (Some b) None stiffeners hull line r = r ≡ Err (Missing form.Plates)
Member (Some b) (Some p) None hull line r = r ≡ Err (Missing form.Stiffeners)
Member (Some b) (Some p) (Some s) None line r = r ≡ Err (Missing form.Hull)
Member (Some b) (Some p) (Some s) (Some h) line r = Sized (rules_of b) (stock p) (stock s) h line r

-- what is answered to a statement
abbrev pub Replied : Said → Statement → Result Reply Fault → Type 0
Replied s statement.Nothing r = r ≡ Ok Noted
Replied s (statement.Book n) r = r ≡ noted (numbered n)
Replied s (statement.Plates p) r = r ≡ noted (series_given p)
Replied s (statement.Stiffeners p) r = r ≡ noted (series_given p)
Replied s (statement.Hull h) r = r ≡ noted (hull_given h)
Replied s (statement.Enter e) r = Member s.book s.plates s.stiffeners s.hull e r

-- a line, by what it says or what was expected of it: what is answered, and what has been said after it
abbrev pub Heard : Result Statement Form → Said → Result Reply Fault → Said → Type 0
Heard (Ok s) before r after = (after ≡ taken before s) × Replied before s r
Heard (Err f) before r after = (after ≡ before) × (r ≡ Err (Expected f))
