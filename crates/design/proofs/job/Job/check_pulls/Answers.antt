use Rattle.std.proofs.Common.{◌≡◌, ℕ, ◌≤◌, Bool, true, false, ◌&&◌, ltb, sym, ap, ◌∙◌, below_more}
use Rattle.std.proofs.lemmas.Bool.{ltb-false}
use Rattle.design.proofs.Keeping.{kept_so_far, same_setting, same_hull}
use Rattle.design.proofs.job.Job.check_pulls.Goals as goal

-- a touching line whose pull is not above a size leaves it as it is
borne : (t r : Bool) (laid pull : ℕ) → r ≡ (t && ltb laid pull) → r ≡ false → t ≡ true → pull ≤ laid
borne t r laid pull is e touches = ltb-false laid pull (ap (λ b. b && ltb laid pull) (sym touches) ∙ sym is ∙ e)

pub loop-other-preserved : goal.loop-other-preserved
loop-other-preserved g c =
    let kept = c.loop-other.invariant.0 in (
      kept_so_far kept c.is_below_pull.ensures.kept,
      below_more _ _ c.loop-other.invariant.1 (borne _ _ _ _ (rw (same_setting kept, same_hull kept) at c.is_below_pull.ensures.value) c.if-is_below_pull.false),
    )
