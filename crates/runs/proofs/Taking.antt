-- What a run puts on a sheet, from the calls alone.
use Rattle.std.proofs.Common.{◌≡◌, ℕ, Bool, true, false, cond, not, eqb, ltb, leb, List, [], ◌∷◌, ◌++◌, map, length, is_ok, Ok, Err, Result, sym, refl, ap, ◌∙◌, subst, arith}
use Rattle.std.proofs.lemmas.List.{length-map, get_or-map}
use Rattle.std.proofs.lemmas.Simd.{map-map}
use Rattle.std.proofs.lemmas.Bool.{both_ways}
use Rattle.register.specs.Keys.{placed, without, changed}
use Rattle.terms.specs.declared.hull.Hull.{Hull}
use Rattle.terms.specs.declared.refusal.Refusal.{Refusal}
use Rattle.terms.specs.declared.ground.Ground.TheVariants.{MarkZero, MarkTaken, MarkUnknown, SheetFull, SizeOverLimit}
use Rattle.terms.specs.Questions.{◌else◌, first_no, refused_at, value_questions}
use Rattle.design.specs.declared.line.Line.{Line}
use Rattle.design.specs.Contents.{Contents, new_sheet, with_lines, unsettled}
use Rattle.design.specs.Lines.{no_line, mark_of, there_in, entered_as, amended_as, laid_as, unscheduled}
use Rattle.design.specs.Schedules.{job, Lawful}
use Rattle.design.specs.Settings.{Setting}
use Rattle.design.specs.Verdicts.{ready_hull}
use Rattle.sheet.specs.declared.call.Call.{Call}
use Rattle.sheet.specs.declared.call.Call.TheVariants as call
use Rattle.sheet.specs.Calls.{Answer, answer, changes, Does}
use Rattle.sheet.specs.Settles.{SettlesOn}
use Rattle.sheet.proofs.Scheduling.{map_scheduled}
use Rattle.runs.specs.declared.step.Step.{Step}
use Rattle.runs.specs.declared.step.Step.TheVariants.{Change, Settle}
use Rattle.runs.specs.Runs.{Run}
use Rattle.runs.specs.Laws.{drawn_by, drawn, SettleAnswer, Answered, AllAnswered, is_settle, settled_last, TakenFromTheCalls}
use Rattle.runs.proofs.Entries.{as_entered, ready_same, there_same}
use Rattle.runs.proofs.Alike.{Alike, lawful_less}

-- what a call makes of the lines does not depend on scheduled sizes, once they are cleared
bare_placed : (x : Line) (ls : List Line) → map unscheduled (placed mark_of x (map unscheduled ls)) ≡ map unscheduled (placed mark_of x ls)
bare_placed x [] = refl
bare_placed x (l ∷ ls) =
    elim (ltb (mark_of x) (mark_of l)) as (λ b. map unscheduled (cond b (x ∷ unscheduled l ∷ map unscheduled ls) (unscheduled l ∷ placed mark_of x (map unscheduled ls))) ≡ map unscheduled (cond b (x ∷ l ∷ ls) (l ∷ placed mark_of x ls)))
    [ true ↦ ap (λ y. unscheduled x ∷ unscheduled l ∷ y) (map-map unscheduled unscheduled ls) | false ↦ ap (λ y. unscheduled l ∷ y) (bare_placed x ls) ]

bare_without : (m : ℕ) (ls : List Line) → map unscheduled (without mark_of m (map unscheduled ls)) ≡ map unscheduled (without mark_of m ls)
bare_without m [] = refl
bare_without m (l ∷ ls) =
    elim (eqb (mark_of l) m) as (λ b. map unscheduled (cond b (map unscheduled ls) (unscheduled l ∷ without mark_of m (map unscheduled ls))) ≡ map unscheduled (cond b ls (l ∷ without mark_of m ls)))
    [ true ↦ map-map unscheduled unscheduled ls | false ↦ ap (λ y. unscheduled l ∷ y) (bare_without m ls) ]

bare_changed : (m : ℕ) (f : Line → Line) → ((l : Line) → unscheduled (f (unscheduled l)) ≡ unscheduled (f l)) → (ls : List Line)
    → map unscheduled (changed mark_of m f (map unscheduled ls)) ≡ map unscheduled (changed mark_of m f ls)
bare_changed m f same [] = refl
bare_changed m f same (l ∷ ls) =
    elim (eqb (mark_of l) m) as (λ b. map unscheduled (cond b (f (unscheduled l) ∷ map unscheduled ls) (unscheduled l ∷ changed mark_of m f (map unscheduled ls))) ≡ map unscheduled (cond b (f l ∷ ls) (l ∷ changed mark_of m f ls)))
    [ true ↦ (λ i. same l i ∷ map-map unscheduled unscheduled ls i) | false ↦ ap (λ y. unscheduled l ∷ y) (bare_changed m f same ls) ]

bare : (c : Contents) (ls ms : List Line) → map unscheduled ls ≡ map unscheduled ms → unsettled (with_lines c ls) ≡ unsettled (with_lines c ms)
bare c ls ms e = λ i. record { hull = c.hull; lines = e i; settled = false; room = c.room }

pub unsettled_twice : (c : Contents) → unsettled (unsettled c) ≡ unsettled c
unsettled_twice c = λ i. record { hull = c.hull; lines = map-map unscheduled unscheduled c.lines i; settled = false; room = c.room }

changes_bare : (c : Contents) (x : Call) → changes (unsettled c) x ≡ changes c x
changes_bare c (call.Hull h) = λ i. record { hull = (changes c (call.Hull h)).hull; lines = map-map unscheduled unscheduled c.lines i; settled = false; room = c.room }
changes_bare c (call.Enter e) = bare c (placed mark_of (entered_as e) (map unscheduled c.lines)) (placed mark_of (entered_as e) c.lines) (bare_placed (entered_as e) c.lines)
changes_bare c (call.Amend e) = bare c (changed mark_of e.mark (amended_as e) (map unscheduled c.lines)) (changed mark_of e.mark (amended_as e) c.lines) (bare_changed e.mark (amended_as e) (λ l. refl) c.lines)
changes_bare c (call.Strike m) = bare c (without mark_of m (map unscheduled c.lines)) (without mark_of m c.lines) (bare_without m c.lines)
changes_bare c (call.Lay m n) = bare c (changed mark_of m (laid_as n) (map unscheduled c.lines)) (changed mark_of m (laid_as n) c.lines) (bare_changed m (laid_as n) (λ l. refl) c.lines)

changes-unsettled : (c : Contents) (x : Call) → unsettled (changes c x) ≡ changes c x
changes-unsettled c (call.Hull h) = λ i. record { hull = (changes c (call.Hull h)).hull; lines = map-map unscheduled unscheduled c.lines i; settled = false; room = c.room }
changes-unsettled c (call.Enter e) = unsettled_twice (with_lines c (placed mark_of (entered_as e) c.lines))
changes-unsettled c (call.Amend e) = unsettled_twice (with_lines c (changed mark_of e.mark (amended_as e) c.lines))
changes-unsettled c (call.Strike m) = unsettled_twice (with_lines c (without mark_of m c.lines))
changes-unsettled c (call.Lay m n) = unsettled_twice (with_lines c (changed mark_of m (laid_as n) c.lines))

pub changes_open : (c : Contents) (x : Call) → (changes c x).settled ≡ false
changes_open c (call.Hull h) = refl
changes_open c (call.Enter e) = refl
changes_open c (call.Amend e) = refl
changes_open c (call.Strike m) = refl
changes_open c (call.Lay m n) = refl

-- nor does an answer
there_bare : (m : ℕ) (c : Contents) → there_in m (unsettled c).lines ≡ there_in m c.lines
there_bare m c = there_same m c.lines (unsettled c).lines (map-map as_entered unscheduled c.lines)

answer_bare : (c : Contents) (x : Call) → answer (unsettled c) x ≡ answer c x
answer_bare c (call.Hull h) = refl
answer_bare c (call.Enter e) =
    let F : Bool → ℕ → Answer = λ b n. refused_at e.mark (first_no (ltb 0 e.mark else MarkZero ∷ not b else MarkTaken ∷ (value_questions e ++ (ltb n c.room else SheetFull ∷ [])))) in
    ap (λ b. F b (length (map unscheduled c.lines))) (there_bare e.mark c) ∙ ap (F (there_in e.mark c.lines)) (length-map c.lines unscheduled)
answer_bare c (call.Amend e) = ap (λ b. refused_at e.mark (first_no (b else MarkUnknown ∷ value_questions e))) (there_bare e.mark c)
answer_bare c (call.Strike m) = ap (λ b. refused_at m (first_no (b else MarkUnknown ∷ []))) (there_bare m c)
answer_bare c (call.Lay m n) = ap (λ b. refused_at m (first_no (b else MarkUnknown ∷ leb n 60000 else SizeOverLimit ∷ []))) (there_bare m c)

by_answer : (c : Contents) (x : Call) (a : Answer) → unsettled (cond (is_ok a) (changes c x) c) ≡ cond (is_ok a) (changes (unsettled c) x) (unsettled c)
by_answer c x (Ok u) = changes-unsettled c x ∙ sym (changes_bare c x)
by_answer c x (Err e) = refl

-- one change
change-drawn : (c after : Contents) (x : Call) (r : Answer) → Does c x r after → (unsettled after ≡ drawn_by (unsettled c) (Change x)) × (r ≡ answer (unsettled c) x)
change-drawn c after x r d =
    let said : r ≡ answer (unsettled c) x = d.answers ∙ sym (answer_bare c x) in
    let F : Answer → Contents = λ a. cond (is_ok a) (changes (unsettled c) x) (unsettled c) in
    (ap unsettled d.holds ∙ by_answer c x r ∙ ap F said, said)

-- lines with and without their scheduled sizes have the same lawful schedules
alike_bare : (s : Setting) (h : Hull) (ls : List Line) → Alike s h ls (map unscheduled ls)
alike_bare s h ls = record {
  long = length-map ls unscheduled;
  entry = λ i k. ap (λ (l : Line). l.entry) (get_or-map unscheduled ls i no_line no_line k);
  laid = λ i k. let e = ap (λ (l : Line). l.laid) (get_or-map unscheduled ls i no_line no_line k) in omega arith;
}

bare_alike : (s : Setting) (h : Hull) (ls : List Line) → Alike s h (map unscheduled ls) ls
bare_alike s h ls =
    let long = length-map ls unscheduled in
    record {
      long = sym long;
      entry = λ i k. sym (ap (λ (l : Line). l.entry) (get_or-map unscheduled ls i no_line no_line (omega arith)));
      laid = λ i k. let e = ap (λ (l : Line). l.laid) (get_or-map unscheduled ls i no_line no_line (omega arith)) in omega arith;
    }

settle_answered : (s : Setting) (ls : List Line) (c after : Contents) → c.lines ≡ ls → (a : Result Hull Refusal) (r : Answer) → SettlesOn s c a r after → SettleAnswer s (map unscheduled ls) a r
settle_answered s ls c after e (Err g) r (d, _) = d
settle_answered s ls c after e (Ok h) (Ok u) (sizes, l, _) =
    (sizes, lawful_less s h (map unscheduled ls) ls (bare_alike s h ls) sizes (subst (λ (x : List Line). Lawful (job s h x) sizes) e l.lawful))
settle_answered s ls c after e (Ok h) (Err g) (d, none, _) =
    (d, λ t law. none t (subst (λ (x : List Line). Lawful (job s h x) t) (sym e) (lawful_less s h ls (map unscheduled ls) (alike_bare s h ls) t law)))

settle_drawn : (s : Setting) (c after : Contents) (a : Result Hull Refusal) (r : Answer) → SettlesOn s c a r after → unsettled after ≡ unsettled c
settle_drawn s c after (Err g) r (_, e) = ap unsettled e
settle_drawn s c after (Ok h) (Ok u) (sizes, _, e) = ap unsettled e ∙ (λ i. record { hull = c.hull; lines = map_scheduled unscheduled (λ n l. refl) sizes c.lines i; settled = false; room = c.room })
settle_drawn s c after (Ok h) (Err g) (_, _, e) = ap unsettled e

settle_flag : (s : Setting) (c after : Contents) (a : Result Hull Refusal) (r : Answer) → SettlesOn s c a r after → after.settled ≡ cond (is_ok r) true c.settled
settle_flag s c after (Err g) r (d, e) = ap (λ (x : Contents). x.settled) e ∙ ap (λ (x : Answer). cond (is_ok x) true c.settled) (sym d)
settle_flag s c after (Ok h) (Ok u) (sizes, _, e) = ap (λ (x : Contents). x.settled) e
settle_flag s c after (Ok h) (Err g) (_, _, e) = ap (λ (x : Contents). x.settled) e

change_flag : (c after : Contents) (x : Call) (r : Answer) → after ≡ cond (is_ok r) (changes c x) c → after.settled ≡ cond (is_ok r) false c.settled
change_flag c after x (Ok u) e = ap (λ (y : Contents). y.settled) e ∙ changes_open c x
change_flag c after x (Err g) e = ap (λ (y : Contents). y.settled) e

-- a sheet that is not settled has no scheduled size
abbrev Bare : Contents → Type 0
Bare c = c.settled ≡ false → c ≡ unsettled c

change_stays_bare : (c after : Contents) (x : Call) (r : Answer) → after ≡ cond (is_ok r) (changes c x) c → Bare c → Bare after
change_stays_bare c after x (Ok u) e b = λ _. e ∙ sym (changes-unsettled c x) ∙ ap unsettled (sym e)
change_stays_bare c after x (Err g) e b = subst Bare (sym e) b

settle_stays_bare : (s : Setting) (c after : Contents) (a : Result Hull Refusal) (r : Answer) → SettlesOn s c a r after → Bare c → Bare after
settle_stays_bare s c after (Err g) r (_, e) b = subst Bare (sym e) b
settle_stays_bare s c after (Ok h) (Ok u) (sizes, _, e) b = λ off. absurd (both_ways true (sym (ap (λ (x : Contents). x.settled) e) ∙ off) refl)
settle_stays_bare s c after (Ok h) (Err g) (_, _, e) b = subst Bare (sym e) b

-- a run from any sheet
record From (s : Setting) (c : Contents) (steps : List Step) (answers : List Answer) (after : Contents) : Type 0 where
  drawn : unsettled after ≡ drawn (unsettled c) steps
  answered : AllAnswered s (unsettled c) steps answers
  settled : after.settled ≡ settled_last c.settled steps answers
  unscheduled : Bare c → Bare after

-- one call, and the run after it
then_run : (s : Setting) (c mid after : Contents) (x : Step) (xs : List Step) (r : Answer) (rs : List Answer) → unsettled mid ≡ drawn_by (unsettled c) x → Answered s (unsettled c) x r
    → mid.settled ≡ cond (is_ok r) (is_settle x) c.settled → (Bare c → Bare mid) → From s mid xs rs after → From s c (x ∷ xs) (r ∷ rs) after
then_run s c mid after x xs r rs d a f b rest = record {
  drawn = rest.drawn ∙ ap (λ (y : Contents). drawn y xs) d;
  answered = (a, subst (λ (y : Contents). AllAnswered s y xs rs) d rest.answered);
  settled = rest.settled ∙ ap (λ y. settled_last y xs rs) f;
  unscheduled = λ h. rest.unscheduled (b h);
}

run-taken : (s : Setting) (c after : Contents) (steps : List Step) (answers : List Answer) → Run s c steps answers after → From s c steps answers after
run-taken s c after [] [] e = record { drawn = ap unsettled e; answered = tt; settled = ap (λ (x : Contents). x.settled) e; unscheduled = subst Bare (sym e) }
run-taken s c after [] (r ∷ rs) void = absurd void
run-taken s c after (x ∷ xs) [] void = absurd void
run-taken s c after (Change x ∷ xs) (r ∷ rs) (mid, d, rest) =
    let one = change-drawn c mid x r d in
    then_run s c mid after (Change x) xs r rs one.0 one.1 (change_flag c mid x r d.holds) (change_stays_bare c mid x r d.holds) (run-taken s mid after xs rs rest)
run-taken s c after (Settle ∷ xs) (r ∷ rs) (mid, d, rest) =
    let a = ready_hull s c.hull c.lines in
    let same : ready_hull s c.hull (map unscheduled c.lines) ≡ a = ready_same s c.hull c.hull c.lines (map unscheduled c.lines) refl (map-map as_entered unscheduled c.lines) in
    then_run s c mid after Settle xs r rs (settle_drawn s c mid a r d)
    (subst (λ (y : Result Hull Refusal). SettleAnswer s (map unscheduled c.lines) y r) (sym same) (settle_answered s c.lines c mid refl a r d))
    (settle_flag s c mid a r d) (settle_stays_bare s c mid a r d) (run-taken s mid after xs rs rest)

pub taken_from_the_calls : TakenFromTheCalls
taken_from_the_calls s room steps answers c run =
    let t = run-taken s (new_sheet room) c steps answers run in
    record { drawn = t.drawn; answered = t.answered; settled = t.settled; unscheduled = t.unscheduled (λ _. refl) }
