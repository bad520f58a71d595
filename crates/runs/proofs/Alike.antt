-- Schedules of lines that are entered alike, and schedules with the same sizes.
use Rattle.std.proofs.Common.{◌≡◌, ℕ, ◌<◌, ◌≤◌, List, length, sym, arith}
use Rattle.terms.specs.declared.hull.Hull.{Hull}
use Rattle.design.specs.declared.line.Line.{Line}
use Rattle.design.specs.Settings.{Setting}
use Rattle.design.specs.Schedules.{Job, job, Schedule, Lawful, Least, count, entered, line}

-- the second lines are the first but for laid and scheduled sizes, and no laid size is smaller
pub record Alike (s : Setting) (h : Hull) (ls ms : List Line) : Type 0 where
  pub long : length ms ≡ length ls
  pub entry : (i : ℕ) → i < length ls → entered (job s h ms) i ≡ entered (job s h ls) i
  pub laid : (i : ℕ) → i < length ls → (line (job s h ls) i).laid ≤ (line (job s h ms) i).laid

module _ (s : Setting) (h : Hull) (ls ms : List Line) (same : Alike s h ls ms) where
  within : (i : ℕ) → i < length ls → i < length ms
  within i l = omega (arith, same.long)

  -- what is lawful where more is laid is lawful where less is
  pub lawful_less : (t : Schedule) → Lawful (job s h ms) t → Lawful (job s h ls) t
  lawful_less t law i l =
      let at = law i (within i l) in
      record {
        stock = rw (same.entry i l) at at.stock;
        laid = let a = same.laid i l in let b = at.laid in omega arith;
        own = rw (same.entry i l) at at.own;
        pulled = λ k m. rw (same.entry i l, same.entry k m) at (at.pulled k (within k m));
      }

  module _ (t : Schedule) (below : (i : ℕ) → i < length ls → (line (job s h ms) i).laid ≤ t i) where
    -- and the other way, where it is not below what is laid
    lawful_more : Lawful (job s h ls) t → Lawful (job s h ms) t
    lawful_more law i l =
        let back : (k : ℕ) → k < length ms → k < length ls = λ k m. omega (arith, same.long) in
        let e : (k : ℕ) → k < length ms → entered (job s h ls) k ≡ entered (job s h ms) k = λ k m. sym (same.entry k (back k m)) in
        let at = law i (back i l) in
        record {
          stock = rw (e i l) at at.stock;
          laid = below i (back i l);
          own = rw (e i l) at at.own;
          pulled = λ k m. rw (e i l, e k m) at (at.pulled k (back k m));
        }

    pub least_more : Least (job s h ls) t → Least (job s h ms) t
    least_more l = record {
      lawful = lawful_more l.lawful;
      least = λ u law i k. l.least u (lawful_less u law) i (omega (arith, same.long));
    }

-- a schedule with the same sizes
module _ (j : Job) (t u : Schedule) (same : (i : ℕ) → i < count j → u i ≡ t i) where
  lawful_same : Lawful j t → Lawful j u
  lawful_same law i l =
      let at = law i l in
      record {
        stock = rw (same i l) at.stock;
        laid = rw (same i l) at.laid;
        own = rw (same i l) at.own;
        pulled = λ k m e. rw (same i l, same k m) (at.pulled k m e);
      }

  pub least_same : Least j t → Least j u
  least_same l = record { lawful = lawful_same l.lawful; least = λ v law i k. rw (same i k) (l.least v law i k) }
