-- A reader goes along a record: one call more, and where it stops.
use Rattle.std.proofs.Common.{◌≡◌, ℕ, ◌≤◌, List, [], ◌∷◌, ◌++◌, length, drop, Some, None, Ok, Err, sym, refl, ap, ◌∙◌, subst, inl, inr, arith}
use Rattle.std.proofs.lemmas.List.{length-drop}
use Rattle.terms.specs.declared.refusal.Refusal.{Refusal}
use Rattle.design.specs.Contents.{Contents}
use Rattle.sheet.specs.declared.call.Call.{Call}
use Rattle.sheet.specs.Calls.{Answer, answer, changes}
use Rattle.record.specs.declared.placed.Placed.{Placed}
use Rattle.record.specs.declared.placed.Stage.{Stage}
use Rattle.record.specs.declared.placed.Stage.TheVariants.{BeforeHull, Body, Ended}
use Rattle.record.specs.Spelling.{spelled, all_spelled, byte_of}
use Rattle.record.specs.Reading.{InOrder, Told, ToldAnswer}
use Rattle.record.specs.Obeying.{Ordered, stage_after, Accepted, Obeyed, Passed, Stops, Read}

pub all_join : (xs ys : List Call) (more : List ℕ) → all_spelled (xs ++ ys) more ≡ all_spelled xs (all_spelled ys more)
all_join [] ys more = refl
all_join (x ∷ xs) ys more = ap (spelled x) (all_join xs ys more)

ordered_push : (s : Stage) (xs : List Call) (x : Call) → Ordered s xs → InOrder (stage_after s xs) (byte_of x) → Ordered s (xs ++ x ∷ [])
ordered_push s [] x o h = (h, tt)
ordered_push s (y ∷ []) x o h = (o.0, (h, tt))
ordered_push s (y ∷ z ∷ zs) x o h = (o.0, ordered_push Body (z ∷ zs) x o.1 h)

accepted_push : (b : Contents) (xs : List Call) (c : Contents) (x : Call) (d : Contents) → Accepted b xs c → answer c x ≡ Ok tt → d ≡ changes c x → Accepted b (xs ++ x ∷ []) d
accepted_push b [] c x d e a h = (ap (λ k. answer k x) (sym e) ∙ a, h ∙ ap (λ k. changes k x) e)
accepted_push b (y ∷ ys) c x d e a h = (e.0, accepted_push (changes b y) ys c x d e.1 a h)

stage_push : (s : Stage) (xs : List Call) (x : Call) → stage_after s (xs ++ x ∷ []) ≡ Body
stage_push s [] x = refl
stage_push s (y ∷ ys) x = refl

never_ended : (xs : List Call) → stage_after BeforeHull xs ≡ Ended → ⊥
never_ended [] e = cc
never_ended (x ∷ xs) e = cc

-- how far a reader of `bytes` has come: it has passed calls that were obeyed, and stands after them
pub record SoFar (bytes own : List ℕ) (before : Contents) (at : ℕ) (s : Stage) (after : Contents) : Type 0 where
  pub same : own ≡ bytes
  pub within : at ≤ length own
  pub calls : List Call
  pub passed : Passed bytes before calls (drop at bytes) after
  pub stage : s ≡ stage_after BeforeHull calls

module _ {bytes own : List ℕ} {before : Contents} {i : ℕ} {s : Stage} {c : Contents} (so : SoFar bytes own before i s c) where
  told_of : (r : ToldAnswer) (j : ℕ) (t : Stage) → Told own i s r j t → Told bytes i s r j t
  told_of r j t = subst (λ l. Told l i s r j t) so.same

  stops : (r : Answer) (d : Contents) → d ≡ c → Stops s i (drop i bytes) c r → Read bytes before r d
  stops r d e h =
      subst (Read bytes before r) (sym e)
      (record {
        calls = so.calls;
        rest = drop i bytes;
        at = i;
        place = omega (arith, length-drop i bytes, ap length so.same, so.within);
        passed = so.passed;
        stop = subst (λ (q : Stage). Stops q i (drop i bytes) c r) so.stage h;
      })

  -- the form is at fault
  pub faulty : (e : Refusal) (j : ℕ) (t : Stage) → Told own i s (Err e) j t → (r : Answer) → r ≡ Err e → Read bytes before r c
  faulty e j t h r re = subst (λ (q : Answer). Read bytes before q c) (sym re) (stops (Err e) c refl (inl (told_of (Err e) j t h).1))

  -- the end has been read
  pub finished : (j : ℕ) (t : Stage) → Told own i s (Ok None) j t → Read bytes before (Ok tt) c
  finished j t h =
      stops (Ok tt) c refl (elim (told_of (Ok None) j t h).0 as (λ _. (s ≡ Body) × (drop i bytes ≡ 255 ∷ [])) [ inl g ↦ absurd (never_ended so.calls (sym so.stage ∙ g.0)) | inr g ↦ (g.0, g.1) ])

  module _ (p : Placed) (j : ℕ) (t : Stage) (h : Told own i s (Ok (Some p)) j t) (d : Contents) where
    -- a call is obeyed
    pub further-on : (kept : List ℕ) → kept ≡ own → j ≤ length kept → Obeyed c p (Ok tt) d → SoFar bytes kept before j t d
    further-on kept e near ob =
        let f = told_of (Ok (Some p)) j t h in
        let cs = so.calls in
        record {
          same = e ∙ so.same;
          within = near;
          calls = cs ++ p.call ∷ [];
          passed = record {
            front = so.passed.front ∙ ap (all_spelled cs) f.2 ∙ sym (all_join cs (p.call ∷ []) (drop j bytes));
            ordered = ordered_push BeforeHull cs p.call so.passed.ordered (subst (λ (q : Stage). InOrder q (byte_of p.call)) so.stage f.1);
            accepted = accepted_push before cs c p.call d so.passed.accepted ob.0 ob.1;
          };
          stage = f.4 ∙ sym (stage_push BeforeHull cs p.call);
        }

    -- a call is declined
    pub turned_down : (e : Refusal) → Obeyed c p (Err e) d → (r : Answer) → r ≡ Err e → Read bytes before r d
    turned_down e ob r re =
        let f = told_of (Ok (Some p)) j t h in
        let n = ob.0 in
        subst (λ (q : Answer). Read bytes before q d) (sym re)
        (stops (Err e) d ob.1 (inr (p.call, drop j bytes, f.2, f.1, record { why = n.why; answered = n.answered; placed = n.placed ∙ ap (λ k. record { ground = n.why.ground; at = k }) f.0 })))
