use Rattle.std.proofs.Common.{inr}
use Rattle.writer.proofs.Copies.{handed}
use Rattle.writer.proofs.Trip.{round_trip}
use Rattle.writer.proofs.copying.copy_into.Goals as goal

pub returns-in_err-count-clause-law : goal.returns-in_err-count-clause-law
returns-in_err-count-clause-law c = round_trip

pub returns-clause-law : goal.returns-clause-law
returns-clause-law c = round_trip

pub returns-clause-copied : goal.returns-clause-copied
returns-clause-copied c =
    let s = c.args.sheet.now in
    inr (handed c.in_ok-count.ensures (record { hull = s.proper; lines = s.limits; rising = s.climbing }) c.read_into.ensures.read)
