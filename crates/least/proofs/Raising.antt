-- One size raised, and parts of the search put together. Over the definitions only.
use Rattle.std.proofs.Common.{◌≡◌, ℕ, zero, suc, ◌+◌, ◌<◌, ◌≤◌, Bool, true, false, ◌||◌, cond, ◌≢◌, List, [], ◌∷◌, length, get_or, take, set, Some, None, sym, ◌∙◌, subst, ⊎_elim, arith, length-set}
use Rattle.std.proofs.lemmas.List.{get_or-set_same, get_or-set_other}
use Rattle.std.proofs.lemmas.List.Elements.{All-more}
use Rattle.std.proofs.lemmas.Bool.{cases_eq}
use Rattle.terms.specs.Stocks.{AtLeast}
use Rattle.design.specs.Settings.{Sound}
use Rattle.design.specs.Schedules.{Job, Schedule, Lawful, stocked, entered, count, pull}
use Rattle.least.specs.declared.pairs.Pair.{Pair}
use Rattle.least.specs.Steps.{Fair, Begun, Ready, Touching, Holds, HoldTo, left, After, Step, pair}

-- a size that rises leaves less
left-set : (s : List ℕ) (i n : ℕ) → i < length s → get_or s i 0 < n → n ≤ 60000 → left (set s i n) < left s
left-set [] i n h l u = absurd (omega arith)
left-set (x ∷ s) zero n h l u = omega arith
left-set (x ∷ s) (suc i) n h l u = let less = left-set s i n (omega arith) l u in omega arith

begun_set : (j : Job) (n : ℕ) (s : List ℕ) (i v : ℕ) → i < length s → Begun j n s → Fair j i v → Begun j n (set s i v)
begun_set j n s i v h b f = record {
  room = simp length-set b.room;
  fair = λ k l. ⊎_elim
      (λ (e : k ≡ i). subst (λ x. Fair j x (get_or (set s i v) x 0)) (sym e) (subst (Fair j i) (sym (get_or-set_same s i v 0 h)) f))
      (λ (ne : k ≢ i). subst (Fair j k) (sym (get_or-set_other s i k v 0 ne)) (b.fair k l))
      (cases_eq k i);
}

module _ (j : Job) (sound : Sound j.setting) where
  pub within : (i n : ℕ) → stocked j i n ≡ true → n ≤ 60000
  within i n = elim (j.setting.rules.plate j.hull (entered j i)) as (λ b. cond b (j.setting.plates n) (j.setting.stiffeners n) ≡ true → n ≤ 60000)
      [ true ↦ λ e. (sound.plates n e).1 | false ↦ λ e. (sound.stiffeners n e).1 ]

  module _ (s : List ℕ) (p : Pair) (touching : Touching j.lines p) (ready : Ready j s) where
    -- each lawful schedule is at least the pull at the sizes so far
    pulls : (t : Schedule) → Lawful j t → pull j p.line p.by (get_or s p.by 0) ≤ t p.line
    pulls t law =
        let a = (law p.line touching.line).pulled p.by touching.by touching.touch in
        let b = sound.law.rising j.hull (entered j p.line) (entered j p.by) (get_or s p.by 0) (t p.by) ((ready.fair p.by touching.by).below t law) in
        omega arith

    pub lifted : (n : ℕ) → get_or s p.line 0 < pull j p.line p.by (get_or s p.by 0) → AtLeast (stocked j p.line) (pull j p.line p.by (get_or s p.by 0)) (Some n)
        → Step j (Holds p) s (set s p.line n) (Some true)
    lifted n up (member, floor, least) =
        let old = ready.fair p.line touching.line in
        let room : p.line < length s = omega (arith, ready.room, touching.line) in
        record {
          ready = begun_set j (count j) s p.line n room ready (record {
            stock = member;
            laid = omega (arith, old.laid);
            own = omega (arith, old.own);
            below = λ t law. least (t p.line) (pulls t law) (law p.line touching.line).stock;
          });
          came = left-set s p.line n room (omega arith) (within p.line n member);
        }

    pub over : AtLeast (stocked j p.line) (pull j p.line p.by (get_or s p.by 0)) None → Step j (Holds p) s s None
    over none = record { ready = ready; came = λ t law. none (t p.line) (pulls t law) (law p.line touching.line).stock }

-- the next pair, after pairs of which none would pass the end of a stock
module _ (j : Job) (pairs : List Pair) (n : ℕ) (n-in : n < length pairs) (old mid new : List ℕ) where
  after_more : (b c : Bool) → After j (HoldTo (take n pairs)) old mid (Some b) → After j (Holds (get_or pairs n (pair 0 0))) mid new (Some c)
      → After j (HoldTo (take (n + 1) pairs)) old new (Some (b || c))
  after_more false false (e, before) (e', here) = (e' ∙ e, All-more (λ p. Holds p j old) pairs n (pair 0 0) n-in before (subst (Holds (get_or pairs n (pair 0 0)) j) e here))
  after_more false true (e, before) less = rw e at less
  after_more true false less (e', here) = rw e' less
  after_more true true less less' = omega arith

  pub step_more : (b c : Bool) → Step j (HoldTo (take n pairs)) old mid (Some b) → Step j (Holds (get_or pairs n (pair 0 0))) mid new (Some c)
      → Step j (HoldTo (take (n + 1) pairs)) old new (Some (b || c))
  step_more b c before here = record { ready = here.ready; came = after_more b c before.came here.came }

-- a part that broke off shows whatever was to be shown: nothing is lawful
pub broken_off : (j : Job) (P Q : Job → List ℕ → Type 0) (old mid new : List ℕ) → Step j P mid new None → Step j Q old new None
broken_off j P Q old mid new step = record { ready = step.ready; came = step.came }
