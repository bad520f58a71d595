use Rattle.std.proofs.Common.{◌≡◌, Ok, subst, rules}
use Rattle.record.specs.Commands.{Names}
use Rattle.record.proofs.Steps.{told_order}
use Rattle.record.proofs.reader.Reader.next_call.Goals as goal

pub returns-then-eq-2-clause-told : goal.returns-then-eq-2-clause-told
returns-then-eq-2-clause-told c =
    let read : c.try_from.result ≡ Ok c.in_ok-command.command = search rules in
    let named = subst (Names c.in_ok-byte.byte.now) read c.try_from.ensures in
    told_order c.args.self.now.bytes.now c.args.self.now.at c.args.self.now.stage c.in_ok-command.command _ c.eq-2.result c.eq-3.result c.if-eq.ensures
    (search rules) (search rules) c.eq-2.ensures c.eq-3.ensures c.if-eq-2.true (search rules)
