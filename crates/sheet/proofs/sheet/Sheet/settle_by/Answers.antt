use Rattle.std.proofs.Common.{◌≡◌, ◌≤◌, ℕ, List, length, None, Ok, Err, Option, Result, sym, refl, ap, ◌∙◌, subst, arith, rules}
use Rattle.register.proofs.Same.{length-elements}
use Rattle.terms.specs.declared.hull.Hull.{Hull}
use Rattle.terms.specs.declared.refusal.Refusal.{Refusal}
use Rattle.design.specs.declared.line.Line.{Line}
use Rattle.design.specs.Contents.{Contents}
use Rattle.design.specs.Schedules.{job, NoneLawful}
use Rattle.design.specs.Settings.{Setting}
use Rattle.design.specs.Verdicts.{ready_hull}
use Rattle.least.specs.Least.{ScheduledBy}
use Rattle.sheet.specs.Sheets.{contents}
use Rattle.sheet.specs.Calls.{Answer}
use Rattle.sheet.specs.Settles.{none_lawful_at, SettlesOn, Settles}
use Rattle.sheet.proofs.sheet.Sheet.settle_by.Goals as goal

-- what was asked of the lines and the hull, by a setting that is still the first one
module _ (s z : Setting) (c : Contents) (o : Option Hull) (ls ls' : List Line) (q : Result Hull Refusal) (h : Hull) where
  refused : q ≡ Ok h → q ≡ ready_hull s o ls → o ≡ c.hull → ls ≡ c.lines → ls' ≡ c.lines → z ≡ s → length c.lines ≤ 96
      → (found : Option (List ℕ)) → ScheduledBy (job z h ls') found → found ≡ None
      → (r : Answer) → r ≡ Err none_lawful_at → Settles s c r c
  refused was asked hull lines again same small found least none r answer =
      let ready : ready_hull s c.hull c.lines ≡ Ok h = ap (λ x. ready_hull s x c.lines) (sym hull) ∙ ap (ready_hull s o) (sym lines) ∙ sym asked ∙ was in
      let missing : length ls' ≤ 96 → NoneLawful (job z h ls') = subst (ScheduledBy (job z h ls')) none least in
      let nothing : NoneLawful (job s h c.lines) = subst (λ (x : Setting × List Line). NoneLawful (job x.0 h x.1)) (λ i. (same i, again i)) (missing (subst (λ x. length x ≤ 96) (sym again) small)) in
      subst (λ (x : Result Hull Refusal × Answer). SettlesOn s c x.0 x.1 c) (λ i. (sym ready i, sym answer i)) (refl, nothing, refl)

pub returns-in_err-sizes-clause-settles : goal.returns-in_err-sizes-clause-settles
returns-in_err-sizes-clause-settles g c =
    let t = c.args.self.now in
    refused (g.D.DesignBasis.setting c.args.basis.now) _ (contents t) c.hull.result c.lines.result.now c.lines-2.result.now c.ready_hull.result c.in_ok-hull.hull c.in_ok-hull.was c.ready_hull.ensures.value
    c.hull.ensures c.lines.ensures c.lines-2.ensures c.ready_hull.ensures.kept.same (omega (arith, length-elements t.lines t.fits, t.small)) c.least_schedule-found.result c.least_schedule-found.ensures.least c.in_err-sizes.ensures.ok_part
    c.from_residual-in_err-sizes.result (search rules)
