use Rattle.std.proofs.Common.{◌*◌, ◌^◌, ◌<◌, arith}
use Rattle.std.proofs.lemmas.Nat.{mul-lt}
use Rattle.clauses.proofs.panel.bending_of.Goals as goal

pub returns-clause-bound : goal.returns-clause-bound
returns-clause-bound c =
    let f = c.from.result in
    let s = c.from-2.result in
    let l = c.from-3.result in
    let m = c.from-4.result in
    let a : f * s < 2 ^ 32 = mul-lt f s (2 ^ 16) (2 ^ 16) (omega arith) (omega arith) in
    let b : f * s * l < 2 ^ 48 = mul-lt (f * s) l (2 ^ 32) (2 ^ 16) a (omega arith) in
    mul-lt (f * s * l) m (2 ^ 48) (2 ^ 16) b (omega arith)
