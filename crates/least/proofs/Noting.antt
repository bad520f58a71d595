-- Touching lines in pairs, and what it says of a schedule that every pair bears its pull.
use Rattle.std.proofs.Common.{◌≡◌, ℕ, ◌+◌, ◌<◌, ◌≤◌, true, List, [], ◌∷◌, ◌++◌, length, Some, false, sym, ⊎_elim, subst, arith, below_more}
use Rattle.std.specs.List.{Contains}
use Rattle.std.proofs.lemmas.List.Elements.{All-push, All-contains, Contains-append_left, Contains-push}
use Rattle.std.proofs.lemmas.Bool.{or_cases, or_left, or_right}
use Rattle.design.specs.declared.line.Line.{Line}
use Rattle.design.specs.Schedules.{Job, Least, naming, entered, count, touch}
use Rattle.least.specs.declared.pairs.Pair.{Pair}
use Rattle.least.specs.Least.{listed}
use Rattle.least.specs.Steps.{Ready, Touching, Noted, NotedTo, AllNoted, Holds, HoldTo, Step, pair, entry_at}

module _ (ls : List Line) (i k : ℕ) (pairs : List Pair) where
  -- what is noted stays so when more is noted
  still : (x y : Pair) (a b : ℕ) → Noted ls pairs a b → Noted ls ((pairs ++ x ∷ []) ++ y ∷ []) a b
  still x y a b old names =
      let more : (p : Pair) → Contains pairs p → Contains ((pairs ++ x ∷ []) ++ y ∷ []) p
      = λ p c. Contains-append_left (pairs ++ x ∷ []) (y ∷ []) p (Contains-append_left pairs (x ∷ []) p c) in
      (more (pair a b) (old names).0, more (pair b a) (old names).1)

  -- line i names line k: both pairs of them are added
  pub noted_more : i < length ls → k < length ls → naming (entry_at ls i) (entry_at ls k) ≡ true
      → NotedTo ls i k pairs → NotedTo ls i (k + 1) ((pairs ++ pair i k ∷ []) ++ pair k i ∷ [])
  noted_more i-in k-in names old = record {
    each = All-push (Touching ls) (pairs ++ pair i k ∷ []) (pair k i)
        (All-push (Touching ls) pairs (pair i k) old.each
        (record { line = i-in; by = k-in; touch = or_left (naming (entry_at ls i) (entry_at ls k)) (naming (entry_at ls k) (entry_at ls i)) names }))
        (record { line = k-in; by = i-in; touch = or_right (naming (entry_at ls k) (entry_at ls i)) (naming (entry_at ls i) (entry_at ls k)) names });
    rows = λ a b a-in b-in. still (pair i k) (pair k i) a b (old.rows a b a-in b-in);
    row = below_more _ _ (λ b h. still (pair i k) (pair k i) i b (old.row b h)) (λ _. (
      Contains-append_left (pairs ++ pair i k ∷ []) (pair k i ∷ []) (pair i k) (Contains-push pairs (pair i k)),
      Contains-push (pairs ++ pair i k ∷ []) (pair k i),
    ));
  }

  -- line i does not name line k
  pub noted_same : naming (entry_at ls i) (entry_at ls k) ≡ false → NotedTo ls i k pairs → NotedTo ls i (k + 1) pairs
  noted_same other old = record { each = old.each; rows = old.rows; row = below_more _ _ old.row (λ names. cc) }

  -- the lines that line i names are all done
  pub row_done : length ls ≤ k → NotedTo ls i k pairs → NotedTo ls (i + 1) 0 pairs
  row_done all old = record {
    each = old.each;
    rows = λ a b h. below_more (λ a. (b : ℕ) → b < length ls → Noted ls pairs a b) i (λ a h b. old.rows a b h) (λ b h. old.row b (omega arith)) a h b;
    row = λ b h. absurd (omega arith);
  }

-- sizes that are right by themselves and bear every pull are the least lawful schedule
module _ (j : Job) (pairs : List Pair) (all : AllNoted j.lines pairs) where
  noted : (i k : ℕ) → i < count j → k < count j → touch j i k ≡ true → Contains pairs (pair i k)
  noted i k i-in k-in touches =
      ⊎_elim (λ names. (all.rows i k i-in k-in names).0) (λ named. (all.rows k i k-in i-in named).1) (or_cases (naming (entered j i) (entered j k)) (naming (entered j k) (entered j i)) touches)

  all_borne : (sizes : List ℕ) → Ready j sizes → HoldTo pairs j sizes → Least j (listed sizes)
  all_borne sizes ready held = record {
    lawful = λ i i-in.
        let fair = ready.fair i i-in in
        record {
          stock = fair.stock;
          laid = fair.laid;
          own = fair.own;
          pulled = λ k k-in touches. All-contains (λ p. Holds p j sizes) pairs (pair i k) held (noted i k i-in k-in touches) touches;
        };
    least = λ other law i i-in. (ready.fair i i-in).below other law;
  }

  -- a round that raises nothing ends at the least lawful schedule
  pub still_least : (old new : List ℕ) → Ready j old → Step j (HoldTo pairs) old new (Some false) → Least j (listed new)
  still_least old new ready step = subst (λ s. Least j (listed s)) (sym step.came.0) (all_borne old ready step.came.1)
