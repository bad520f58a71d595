use Rattle.std.proofs.Common.{◌≡◌, ℕ, Bool, false, Ok, ap, subst, rules, below_more}
use Rattle.terms.specs.Rules.{Rules}
use Rattle.design.specs.Contents.{Contents}
use Rattle.design.specs.Settings.{Setting, set_by}
use Rattle.trials.specs.Tries.{Passing}
use Rattle.trials.proofs.first_passing.Goals as goal

-- a trial by what still means the same, on what is still the same
still : (b b' : Rules) (p p' s s' : ℕ → Bool) (c c' : Contents) (m n : ℕ) (r : Bool) → b' ≡ b → p' ≡ p → s' ≡ s → c' ≡ c → r ≡ false
    → Passing (set_by b' p' s') c' m n (Ok r) → Passing (set_by b p s) c m n (Ok false)
still b b' p p' s s' c c' m n r eb ep es ec er =
    let same : ◌≡◌ {A = Setting × Contents × Bool} (set_by b' p' s', c', r) (set_by b p s, c, false) = λ j. (set_by (eb j) (ep j) (es j), ec j, er j) in
    subst (λ (x : Setting × Contents × Bool). Passing x.0 x.1 m n (Ok x.2)) same

pub loop-size-preserved : goal.loop-size-preserved
loop-size-preserved g c =
    let i = c.loop-size.invariant in (
      search rules,
      search rules,
      search rules,
      search rules,
      below_more _ _ i.4 (still _ _ _ _ _ _ _ _ _ _ _ i.1 i.2 i.3 (ap g.L.Lines.contents i.0) c.if-branch.false c.in_ok-passes_with.ensures.value),
    )
