use Rattle.std.proofs.Common.{rules}
use Rattle.sheet.specs.Sheets.{contents}
use Rattle.record.proofs.Along.{faulty, finished, further-on, turned_down}
use Rattle.record.proofs.Once.{read_once}
use Rattle.record.proofs.reading.read_into.Goals as goal

pub returns-in_err-placed-clause-once : goal.returns-in_err-placed-clause-once
returns-in_err-placed-clause-once c = read_once

pub returns-in_err-placed-clause-read : goal.returns-in_err-placed-clause-read
returns-in_err-placed-clause-read c = faulty c.loop-placed.invariant c.in_err-placed.field-0.0 _ _ c.in_err-placed.ensures.told c.from_residual.result (search rules)

pub loop-placed-preserved : goal.loop-placed-preserved
loop-placed-preserved c =
    let told = rw c.in-Some.is at c.in_ok-placed.ensures.told in
    further-on c.loop-placed.invariant c.in-Some.placed _ _ told (contents c.obey.new.sheet) c.next_call.new.self.bytes.now c.next_call.ensures.same c.next_call.new.self.within c.in_ok-obey.ensures

pub returns-in_err-obey-clause-once : goal.returns-in_err-obey-clause-once
returns-in_err-obey-clause-once c = read_once

pub returns-in_err-obey-clause-read : goal.returns-in_err-obey-clause-read
returns-in_err-obey-clause-read c =
    let told = rw c.in-Some.is at c.in_ok-placed.ensures.told in
    turned_down c.loop-placed.invariant c.in-Some.placed _ _ told (contents c.obey.new.sheet) c.in_err-obey.field-0.0 c.in_err-obey.ensures c.from_residual-in_err-obey.result (search rules)

pub returns-clause-once : goal.returns-clause-once
returns-clause-once c = read_once

pub returns-clause-read : goal.returns-clause-read
returns-clause-read c = finished c.loop-placed.invariant _ _ (rw c.in_default.is at c.in_ok-placed.ensures.told)
