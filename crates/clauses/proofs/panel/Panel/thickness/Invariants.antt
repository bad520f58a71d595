use Rattle.std.proofs.Common.{ℕ, ◌-◌, ◌*◌, ◌^◌, ◌<◌, ◌≤◌}
use Rattle.clauses.proofs.panel.Panel.thickness.Given as goal

-- all below `low` fall short, and `high` stands unless it is the end
abbrev pub invariant-loop-low : goal.invariant-loop-low
invariant-loop-low l = record {
  ordered : l.low ≤ l.high;
  within : l.high ≤ 60001;
  short : (t : ℕ) → t < l.low → t * t * l.self.line.strength * 10 ^ 10 < l.load;
  stands : l.high < 60001 → l.load ≤ l.high * l.high * l.self.line.strength * 10 ^ 10;
}

abbrev pub decreases-loop-low : goal.decreases-loop-low
decreases-loop-low l = l.high - l.low
