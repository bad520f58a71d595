-- A run is fixed by its calls.
use Rattle.std.proofs.Common.{◌≡◌, ℕ, suc, ◌<◌, cond, List, [], ◌∷◌, length, is_ok, Ok, Err, Result, sym, refl, ap, ◌∙◌, subst, le_antisymm, arith}
use Rattle.terms.specs.declared.hull.Hull.{Hull}
use Rattle.terms.specs.declared.refusal.Refusal.{Refusal}
use Rattle.design.specs.declared.line.Line.{Line}
use Rattle.design.specs.Contents.{Contents, settled_at}
use Rattle.design.specs.Lines.{scheduled_by, scheduled_as}
use Rattle.design.specs.Settings.{Setting}
use Rattle.design.specs.Verdicts.{ready_hull}
use Rattle.sheet.specs.Calls.{Answer, changes}
use Rattle.sheet.specs.Settles.{SettlesOn}
use Rattle.runs.specs.declared.step.Step.{Step}
use Rattle.runs.specs.declared.step.Step.TheVariants.{Change, Settle}
use Rattle.runs.specs.Runs.{Takes, Run}
use Rattle.runs.specs.Laws.{CallsFixTheRun}

scheduled_same : (f g : ℕ → ℕ) (ls : List Line) → ((i : ℕ) → i < length ls → f i ≡ g i) → scheduled_by f ls ≡ scheduled_by g ls
scheduled_same f g [] same = refl
scheduled_same f g (l ∷ ls) same =
    let here : f 0 ≡ g 0 = same 0 (omega arith) in
    let rest = scheduled_same (λ i. f (suc i)) (λ i. g (suc i)) ls (λ i h. same (suc i) (omega arith)) in
    λ i. scheduled_as (here i) l ∷ rest i

settles_one : (s : Setting) (c a b : Contents) (x : Result Hull Refusal) (q r : Answer) → SettlesOn s c x q a → SettlesOn s c x r b → (q ≡ r) × (a ≡ b)
settles_one s c a b (Err g) q r (d, e) (f, h) = (d ∙ sym f, e ∙ sym h)
settles_one s c a b (Ok h) (Ok _) (Ok _) (t, l, v) (u, m, w) =
    let same = scheduled_same t u c.lines (λ i k. le_antisymm (l.least u m.lawful i k) (m.least t l.lawful i k)) in
    (refl, v ∙ (λ i. record { hull = c.hull; lines = same i; settled = (settled_at c t).settled; room = c.room }) ∙ sym w)
settles_one s c a b (Ok h) (Ok _) (Err g) (t, l, v) (_, none, _) = absurd (none t l.lawful)
settles_one s c a b (Ok h) (Err g) (Ok _) (_, none, _) (u, m, w) = absurd (none u m.lawful)
settles_one s c a b (Ok h) (Err g) (Err k) (d, _, e) (f, _, n) = (ap (λ z. Err z) (d ∙ sym f), e ∙ sym n)

takes_one : (s : Setting) (c a b : Contents) (x : Step) (q r : Answer) → Takes s c x q a → Takes s c x r b → (q ≡ r) × (a ≡ b)
takes_one s c a b (Change x) q r d e =
    let same : q ≡ r = d.answers ∙ sym e.answers in
    (same, d.holds ∙ ap (λ (z : Answer). cond (is_ok z) (changes c x) c) same ∙ sym e.holds)
takes_one s c a b Settle q r d e = settles_one s c a b (ready_hull s c.hull c.lines) q r d e

pub calls_fix_the_run : CallsFixTheRun
calls_fix_the_run s c a b [] [] [] e f = (refl, e ∙ sym f)
calls_fix_the_run s c a b [] [] (r ∷ rs) e void = absurd void
calls_fix_the_run s c a b [] (q ∷ qs) rs void f = absurd void
calls_fix_the_run s c a b (x ∷ xs) [] rs void f = absurd void
calls_fix_the_run s c a b (x ∷ xs) (q ∷ qs) [] e void = absurd void
calls_fix_the_run s c a b (x ∷ xs) (q ∷ qs) (r ∷ rs) (m, d, e) (n, f, h) =
    let one = takes_one s c m n x q r d f in
    let rest = calls_fix_the_run s m a b xs qs rs e (subst (λ (z : Contents). Run s z xs rs b) (sym one.1) h) in
    (ap (λ (z : Answer). z ∷ qs) one.0 ∙ ap (λ (zs : List Answer). r ∷ zs) rest.0, rest.1)
