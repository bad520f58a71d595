use Rattle.std.proofs.Common.{◌≡◌, ℕ, ◌<◌, min, List, length, take, ◌∙◌, arith}
use Rattle.std.proofs.lemmas.List.{drop-set-lt, length-take-le}
use Rattle.sheet.specs.Sheets.{contents}
use Rattle.runs.specs.declared.step.Step.{Step}
use Rattle.runs.proofs.Running.{run_next}
use Rattle.runs.proofs.perform.perform_each.Goals as goal

taken : (xs : List Step) (k n : ℕ) → n ≡ min (length xs) k → length (take n xs) ≡ n
taken xs k n e = length-take-le n xs (omega arith)

pub loop-i-preserved : goal.loop-i-preserved
loop-i-preserved g c =
    let w = c.loop-i.invariant in
    let n = c.min-count.result in
    let steps = take n c.args.steps.now in
    let long = taken c.args.steps.now _ n c.min-count.ensures in
    let h : c.loop-i.i < length steps = c.loop-i-test.true in
    let l : c.loop-i.i < length c.loop-i.answers = omega (arith, c.loop-i.auto.answers, c.min-count.ensures, long, h) in (
      c.perform.ensures.kept.same ∙ w.0,
      c.perform.ensures.kept.lent ∙ w.1,
      run_next (g.D.DesignBasis.setting c.args.basis.now) (g.D.DesignBasis.setting c.loop-i.basis) w.0 (contents c.args.sheet.now) (contents c.loop-i.sheet) (contents c.perform.new.sheet)
          steps c.loop-i.answers c.loop-i.i _ c.perform.result h l w.2 c.perform.ensures.takes,
      λ k m. drop-set-lt k c.loop-i.answers c.loop-i.i c.perform.result (omega arith) ∙ w.3 k (omega arith),
    )
