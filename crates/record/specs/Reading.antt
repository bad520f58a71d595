-- What a reader answers of a record, and what reading a record into a sheet makes of the sheet.
use Rattle.std.specs.Prelude.{◌≡◌, ℕ, ◌+◌, ◌⊎◌, List, [], ◌∷◌, drop, Some, None, Ok, Err, Option, Result, ◌≢◌}
use Rattle.terms.specs.declared.ground.Ground.{Ground}
use Rattle.terms.specs.declared.ground.Ground.TheVariants.{CommandUnknown, HullOutOfOrder, OperandsCutShort, BytesAfterEnd, EndMissing}
use Rattle.terms.specs.declared.refusal.Refusal.{Refusal}
use Rattle.terms.specs.Questions.{refusal_of}
use Rattle.sheet.specs.declared.call.Call.{Call}
use Rattle.record.specs.declared.placed.Placed.{Placed}
use Rattle.record.specs.declared.placed.Stage.{Stage}
use Rattle.record.specs.declared.placed.Stage.TheVariants.{BeforeHull, Body, Ended}
use Rattle.record.specs.Spelling.{spelled, end, byte_of, width_of}

-- a byte that begins a command
abbrev pub Known : ℕ → Type 0
Known b = ((x : Call) × (byte_of x ≡ b)) ⊎ (b ≡ end)

-- the hull comes first, and only first
abbrev pub InOrder : Stage → ℕ → Type 0
InOrder BeforeHull b = b ≡ 0x01
InOrder Body b = b ≡ 0x01 → ⊥
InOrder Ended b = ⊥

-- the bytes begin with a whole command
abbrev pub Whole : List ℕ → Type 0
Whole bytes = (x : Call) × (more : List ℕ) × (bytes ≡ spelled x more)

-- a question, with the refusal of a no, before the questions after it: the refusal is that of the first no
abbrev pub asked : Type 0 → Refusal → (Refusal → Type 0) → Refusal → Type 0
asked fact refusal others e = ((fact → ⊥) × (e ≡ refusal)) ⊎ (fact × others e)

abbrev pub no_more : Refusal → Type 0
no_more e = ⊥

abbrev pub at_place : Ground → ℕ → Refusal
at_place g at = refusal_of g at

-- how the rest of a record, from a place on, is refused at a stage
abbrev pub Fault : Stage → ℕ → List ℕ → Refusal → Type 0
Fault s at [] = λ e. e ≡ at_place EndMissing at
Fault s at (b ∷ more) =
    asked (Known b) (at_place CommandUnknown at)
    (asked (InOrder s b) (at_place HullOutOfOrder at)
    (asked ((b ≡ end) ⊎ Whole (b ∷ more)) (at_place OperandsCutShort at)
    (asked (b ≡ end → more ≡ []) (at_place BytesAfterEnd (at + 1)) no_more)))

abbrev pub ToldAnswer : Type 0
ToldAnswer = Result (Option Placed) Refusal

-- what a reader at the place i answers of a record, and where it stands then: a call, whose spelling are the bytes that it passed over; that the record has ended; or a refusal, which moves nothing
abbrev pub Told : List ℕ → ℕ → Stage → ToldAnswer → ℕ → Stage → Type 0
Told xs i s (Ok (Some p)) j t =
    (p.at ≡ i) × InOrder s (byte_of p.call) × (drop i xs ≡ spelled p.call (drop j xs)) × (j ≡ i + width_of p.call) × (t ≡ Body)
Told xs i s (Ok None) j t =
    (((s ≡ Ended) × (j ≡ i)) ⊎ ((s ≡ Body) × (drop i xs ≡ end ∷ []) × (j ≡ i + 1))) × (t ≡ Ended)
Told xs i s (Err e) j t = (s ≢ Ended) × Fault s i (drop i xs) e × (j ≡ i) × (t ≡ s)

-- the answer, and where the reader stands then, follow from the record and from where it stood
abbrev pub OneAnswer : Type 0
OneAnswer =
    (xs : List ℕ) (i : ℕ) (s : Stage) (r : ToldAnswer) (j : ℕ) (t : Stage) (q : ToldAnswer) (k : ℕ) (u : Stage)
    → Told xs i s r j t → Told xs i s q k u → (r ≡ q) × (j ≡ k) × (t ≡ u)
