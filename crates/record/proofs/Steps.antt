-- What a reader answers, from what its parts found.
use Rattle.std.proofs.Common.{◌≡◌, ℕ, zero, suc, ◌+◌, ◌<◌, Bool, true, false, ◌≤◌, ◌⊎◌, List, [], ◌∷◌, length, get_or, drop, Err, sym, refl, ap, ◌∙◌, subst, inl, inr, arith}
use denote.Enum.Bare.{sameb}
use Rattle.std.proofs.Math.Bool.{not, beq}
use Rattle.std.proofs.lemmas.Bool.{false≢true}
use Rattle.terms.specs.declared.ground.Ground.TheVariants.{HullOutOfOrder, OperandsCutShort}
use Rattle.terms.specs.declared.refusal.Refusal.{Refusal}
use Rattle.design.specs.Lines.{no_line}
use Rattle.sheet.specs.declared.call.Call.{Call}
use Rattle.sheet.specs.declared.call.Call.TheVariants.{Hull, Enter, Amend, Strike, Lay}
use Rattle.record.specs.declared.command.Command.{Command}
use Rattle.record.specs.declared.command.Command.TheVariants as command
use Rattle.record.specs.declared.placed.Stage.{Stage}
use Rattle.record.specs.declared.placed.Stage.TheVariants.{BeforeHull, Body, Ended}
use Rattle.record.specs.contracts.command.Command.{the_type as commands}
use Rattle.record.specs.contracts.placed.Stage.{the_type as stages}
use Rattle.record.specs.Spelling.{spelled, end, byte_of}
use Rattle.record.specs.Reading.{Known, InOrder, Whole, Fault, Told, ToldAnswer, at_place}
use Rattle.record.specs.Commands.{first_byte}
use Rattle.record.specs.Parts.{width, Awaits}

wide : (x : Call) (more : List ℕ) → length (spelled x more) ≡ width (byte_of x) + length more
wide (Hull h) more = omega arith
wide (Enter e) more = omega arith
wide (Amend e) more = omega arith
wide (Strike m) more = omega arith
wide (Lay m n) more = omega arith

pub byte_first : (x : Call) (more : List ℕ) → get_or (spelled x more) 0 0 ≡ byte_of x
byte_first (Hull h) more = refl
byte_first (Enter e) more = refl
byte_first (Amend e) more = refl
byte_first (Strike m) more = refl
byte_first (Lay m n) more = refl

pub byte_below : (x : Call) → byte_of x < 6
byte_below (Hull h) = omega arith
byte_below (Enter e) = omega arith
byte_below (Amend e) = omega arith
byte_below (Strike m) = omega arith
byte_below (Lay m n) = omega arith

-- fewer bytes than the command wants that begins with the first of them are no whole command
cut_short : (b : ℕ) (more : List ℕ) → length (b ∷ more) < width b → b < 6 → ((b ≡ end) ⊎ Whole (b ∷ more)) → ⊥
cut_short b more short low (inl e) = omega arith
cut_short b more short low (inr (x, others, e)) =
    let f : b ≡ byte_of x = ap (λ l. get_or l 0 0) e ∙ byte_first x others in
    let w : width b ≡ width (byte_of x) = ap width f in
    omega (arith, ap length e, wide x others)

-- each byte from 1 to 5 begins a command
low_known : (b : ℕ) → 1 ≤ b → b ≤ 5 → Known b
low_known zero l u = absurd (omega arith)
low_known (suc zero) l u = inl (Hull (record { length = 0; breadth = 0; depth = 0; draught = 0; water = 0 }), refl)
low_known (suc (suc zero)) l u = inl (Enter no_line.entry, refl)
low_known (suc (suc (suc zero))) l u = inl (Amend no_line.entry, refl)
low_known (suc (suc (suc (suc zero)))) l u = inl (Strike 0, refl)
low_known (suc (suc (suc (suc (suc zero))))) l u = inl (Lay 0 0, refl)
low_known (suc (suc (suc (suc (suc (suc n)))))) l u = absurd (omega arith)

-- a call may come
awaited : (s : Stage) (b n : ℕ) → Awaits s b n → (s ≡ Ended → ⊥) × (1 ≤ b) × (b ≤ 5) × InOrder s b
awaited s b n (inl h, w) = ((λ e. cc), omega (arith, h.1), omega (arith, h.1), subst (λ (q : Stage). InOrder q b) (sym h.0) h.1)
awaited s b n (inr h, w) =
    let o : b ≡ 1 → ⊥ = λ e. omega (arith, h.1) in
    ((λ e. cc), omega (arith, h.1), h.2, subst (λ (q : Stage). InOrder q b) (sym h.0) o)

-- a command that is cut short
short_fault : (s : Stage) (i n : ℕ) (rest : List ℕ) → Awaits s (get_or rest 0 0) n → length rest < n → Fault s i rest (at_place OperandsCutShort i)
short_fault s i n [] a short = absurd (omega (arith, (awaited s 0 n a).1))
short_fault s i n (b ∷ more) a short =
    let w = awaited s b n a in
    inr (low_known b w.1 w.2, inr (w.3, inl (cut_short b more (omega (arith, a.1)) (omega (arith, w.2)), refl)))

pub told_short : (xs : List ℕ) (i n : ℕ) (s : Stage) (r : ToldAnswer) → Awaits s (get_or (drop i xs) 0 0) n → length (drop i xs) < n → r ≡ Err (at_place OperandsCutShort i) → Told xs i s r i s
told_short xs i n s r a short e =
    subst (λ (q : ToldAnswer). Told xs i s q i s) (sym e) ((awaited s _ n a).0, short_fault s i n (drop i xs) a short, refl, refl)

-- each command has a byte that begins one
known : (c : Command) → Known (first_byte c)
known command.Hull = low_known 1 (omega arith) (omega arith)
known command.Enter = low_known 2 (omega arith) (omega arith)
known command.Amend = low_known 3 (omega arith) (omega arith)
known command.Strike = low_known 4 (omega arith) (omega arith)
known command.Lay = low_known 5 (omega arith) (omega arith)
known command.End = inr refl

-- a stage and a command that the test of the order refuses
out_of_order : (s : Stage) (c : Command) → not (beq (sameb commands c command.Hull) (sameb stages s BeforeHull)) ≡ true → InOrder s (first_byte c) → ⊥
out_of_order Ended c differ o = o
out_of_order BeforeHull command.Hull differ o = false≢true differ
out_of_order BeforeHull c differ o = omega arith
out_of_order Body command.Hull differ o = o refl
out_of_order Body c differ o = false≢true differ

order_fault : (s : Stage) (i : ℕ) (rest : List ℕ) (c : Command) → get_or rest 0 0 ≡ first_byte c → 0 < length rest → (InOrder s (first_byte c) → ⊥) → Fault s i rest (at_place HullOutOfOrder i)
order_fault s i [] c e some wrong = absurd (omega arith)
order_fault s i (b ∷ more) c e some wrong = inr (subst Known (sym e) (known c), inl ((λ o. wrong (subst (InOrder s) e o)), refl))

not_ended : (s : Stage) → false ≡ sameb stages s Ended → s ≡ Ended → ⊥
not_ended BeforeHull apart e = cc
not_ended Body apart e = cc
not_ended Ended apart e = false≢true apart

-- a command out of order
pub told_order : (xs : List ℕ) (i : ℕ) (s : Stage) (c : Command) (e : Refusal) (is_hull is_first : Bool) → false ≡ sameb stages s Ended → get_or (drop i xs) 0 0 ≡ first_byte c → 0 < length (drop i xs)
    → is_hull ≡ sameb commands c command.Hull → is_first ≡ sameb stages s BeforeHull → not (beq is_hull is_first) ≡ true → e ≡ at_place HullOutOfOrder i → Told xs i s (Err e) i s
told_order xs i s c e is_hull is_first apart first some p q differ at =
    let fault = order_fault s i (drop i xs) c first some (out_of_order s c ((λ k. not (beq (sym p k) (sym q k))) ∙ differ)) in
    (not_ended s apart, subst (Fault s i (drop i xs)) (sym at) fault, refl, refl)
