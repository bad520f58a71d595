use Rattle.std.proofs.Common.{◌+◌, ◌-◌, ◌/◌, sym, arith}
use Rattle.std.proofs.lemmas.Bool.{le-leb, lt-leb}
use Rattle.clauses.proofs.Searches.{resists_more, least_is}
use Rattle.clauses.specs.Least.{Least}
use Rattle.clauses.specs.Panels.{stands}
use Rattle.clauses.proofs.panel.Panel.thickness.Goals as goal

pub loop-low-preserved-then-resistance-load : goal.loop-low-preserved-then-resistance-load
loop-low-preserved-then-resistance-load c =
    let middle = c.loop-low.low + (c.loop-low.high - c.loop-low.low) / 2 in
    record {
      ordered = omega arith;
      within = omega arith;
      short = λ t h. omega (arith, resists_more c.args.self.line.strength t middle (omega arith));
      stands = c.loop-low.invariant.stands;
    }

pub returns : goal.returns
returns c =
    let p = c.args.self in
    let found = c.loop-low in
    let least : Least 60001 (stands p.factor p.aspect p.line) found.low = record {
      within = omega arith;
      short = λ t h. lt-leb _ _ (omega (arith, found.invariant.short t h));
      passes = λ h. le-leb _ _ (omega (arith, found.invariant.stands (omega arith), resists_more p.line.strength found.high found.low (omega arith)));
    } in
    record { value = sym (least_is 60001 _ _ least); least = least }
