use Rattle.std.proofs.Common.{◌≡◌, find, drop}
use Rattle.design.specs.declared.line.Line.{Line}
use Rattle.design.specs.Jobs.{Kept}
use Rattle.design.specs.Verdicts.{unfit}
use Rattle.design.proofs.job.Job.check_fits.Given as goal

abbrev pub invariant-loop-line : goal.invariant-loop-line
invariant-loop-line g l =
    let test = λ (x : Line). unfit (g.D.DesignBasis.setting l.initial.self.basis.now) l.initial.self.hull x.entry in
    Kept g.D.DesignBasis.setting g.D.DesignBasis.lenders l.initial.self l.self
    × (find test l.initial.self.lines.now ≡ find test (drop l.line-index l.initial.self.lines.now))
