use Rattle.std.proofs.Common.{ℕ, true, refl, ◌∙◌}
use Rattle.register.proofs.Each.{each-changed}
use Rattle.register.proofs.Orders.{climbs-changed}
use Rattle.design.specs.Lines.{mark_of, line_kept, scheduled_as}
use Rattle.least.specs.Least.{listed}
use Rattle.sheet.specs.Sheets.{lines_of}
use Rattle.sheet.proofs.Keeping.{still_sheet}
use Rattle.sheet.proofs.Scheduling.{each_scheduled}
use Rattle.sheet.proofs.sheet.Sheet.write.Goals as goal

pub invariant_of-self : goal.invariant_of-self
invariant_of-self c =
    let s = c.args.self.now in
    let ls = lines_of s in
    let e = c.change_each.ensures in
    let f = λ (i : ℕ). scheduled_as (listed c.args.sizes.now i) in
    still_sheet s _ e.places e.tidy e.elements (climbs-changed mark_of f (λ _ _. refl) 0 ls ∙ s.climbing, each-changed line_kept f (λ _ _. refl) ls ∙ s.limits)

pub returns : goal.returns
returns c =
    let s = c.args.self.now in
    let e = c.change_each.ensures in
    λ j. record { hull = s.hull; lines = (e.elements ∙ each_scheduled (listed c.args.sizes.now) (lines_of s)) j; settled = true; room = e.places.room j }
