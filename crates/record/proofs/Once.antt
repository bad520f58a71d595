-- What a record says is one thing: a reader's answer, and what reading makes of a sheet, follow from the bytes.
use Rattle.std.proofs.Common.{◌≡◌, ℕ, ◌+◌, ◌⊎◌, List, [], ◌∷◌, length, get_or, drop, Some, None, Ok, Err, sym, refl, ap, ◌∙◌, subst, inl, inr, arith}
use Rattle.terms.specs.declared.refusal.Refusal.{Refusal}
use Rattle.design.specs.Contents.{Contents}
use Rattle.sheet.specs.declared.call.Call.{Call}
use Rattle.sheet.specs.declared.call.Call.TheVariants.{Hull, Enter, Amend, Strike, Lay}
use Rattle.sheet.specs.Calls.{Answer, answer, changes}
use Rattle.record.specs.declared.placed.Placed.{Placed}
use Rattle.record.specs.declared.placed.Stage.{Stage}
use Rattle.record.specs.declared.placed.Stage.TheVariants.{BeforeHull, Body, Ended}
use Rattle.record.specs.Spelling.{spelled, all_spelled, end, byte_of, width_of}
use Rattle.record.specs.Reading.{Known, InOrder, Whole, asked, Fault, Told, ToldAnswer, at_place}
use Rattle.record.specs.Obeying.{Ordered, stage_after, Accepted, Declined, Stops, Read}
use Rattle.record.proofs.Back.{spelled_same}
use Rattle.record.proofs.Steps.{byte_first, byte_below}

asked_once : (P : Type 0) (x : Refusal) (o : Refusal → Type 0) → ((e f : Refusal) → o e → o f → e ≡ f) → (e f : Refusal) → asked P x o e → asked P x o f → e ≡ f
asked_once P x o h e f (inl a) (inl b) = a.1 ∙ sym b.1
asked_once P x o h e f (inl a) (inr b) = absurd (a.0 b.0)
asked_once P x o h e f (inr a) (inl b) = absurd (b.0 a.0)
asked_once P x o h e f (inr a) (inr b) = h e f a.1 b.1

fault_once : (s : Stage) (at : ℕ) (rest : List ℕ) (e f : Refusal) → Fault s at rest e → Fault s at rest f → e ≡ f
fault_once s at [] e f a b = a ∙ sym b
fault_once s at (b ∷ more) e f a d = asked_once _ _ _ (asked_once _ _ _ (asked_once _ _ _ (asked_once _ _ _ (λ e f n m. absurd n)))) e f a d

-- where every question has a yes, nothing is at fault
no_fault : (s : Stage) (at b : ℕ) (more : List ℕ) (e : Refusal) → Known b → InOrder s b → ((b ≡ end) ⊎ Whole (b ∷ more)) → (b ≡ end → more ≡ []) → Fault s at (b ∷ more) e → ⊥
no_fault s at b more e k o w l (inl n) = n.0 k
no_fault s at b more e k o w l (inr (_, inl n)) = n.0 o
no_fault s at b more e k o w l (inr (_, inr (_, inl n))) = n.0 w
no_fault s at b more e k o w l (inr (_, inr (_, inr (_, inl n)))) = n.0 l
no_fault s at b more e k o w l (inr (_, inr (_, inr (_, inr n)))) = n.1

call_no_fault : (s : Stage) (at : ℕ) (x : Call) (more : List ℕ) (e : Refusal) → InOrder s (byte_of x) → Fault s at (spelled x more) e → ⊥
call_no_fault s at (Hull h) more e o = no_fault s at _ _ e (inl (Hull h, refl)) o (inr (Hull h, more, refl)) (λ q. absurd (omega arith))
call_no_fault s at (Enter v) more e o = no_fault s at _ _ e (inl (Enter v, refl)) o (inr (Enter v, more, refl)) (λ q. absurd (omega arith))
call_no_fault s at (Amend v) more e o = no_fault s at _ _ e (inl (Amend v, refl)) o (inr (Amend v, more, refl)) (λ q. absurd (omega arith))
call_no_fault s at (Strike m) more e o = no_fault s at _ _ e (inl (Strike m, refl)) o (inr (Strike m, more, refl)) (λ q. absurd (omega arith))
call_no_fault s at (Lay m n) more e o = no_fault s at _ _ e (inl (Lay m n, refl)) o (inr (Lay m n, more, refl)) (λ q. absurd (omega arith))

-- at a whole command, in order
module _ (s : Stage) (at : ℕ) (rest : List ℕ) (x : Call) (more : List ℕ) (e : rest ≡ spelled x more) (o : InOrder s (byte_of x)) where
  pub whole_no_fault : (f : Refusal) → Fault s at rest f → ⊥
  whole_no_fault f h = call_no_fault s at x more f o (subst (λ (l : List ℕ). Fault s at l f) e h)

  pub whole_no_end : rest ≡ end ∷ [] → ⊥
  whole_no_end h = omega (arith, ap (λ (l : List ℕ). get_or l 0 0) (sym h ∙ e) ∙ byte_first x more, byte_below x)

pub end_no_fault : (s : Stage) (at : ℕ) (rest : List ℕ) (f : Refusal) → s ≡ Body → rest ≡ end ∷ [] → Fault s at rest f → ⊥
end_no_fault s at rest f b e h =
    let o : end ≡ 1 → ⊥ = λ q. omega arith in
    no_fault Body at end [] f (inr refl) o (inl refl) (λ q. refl) (subst (λ (l : List ℕ). Fault Body at l f) e (subst (λ (q : Stage). Fault q at rest f) b h))

declined_once : (c : Contents) (x y : Call) (at : ℕ) (e f : Refusal) → x ≡ y → Declined c x at e → Declined c y at f → e ≡ f
declined_once c x y at e f q a b =
    let v : a.why ≡ b.why = cc in
    a.placed ∙ ap (λ (k : Refusal). at_place k.ground at) v ∙ sym b.placed

stops_once : (s : Stage) (at : ℕ) (rest : List ℕ) (c : Contents) (r q : Answer) → Stops s at rest c r → Stops s at rest c q → r ≡ q
stops_once s at rest c (Ok u) (Ok v) a b = refl
stops_once s at rest c (Ok u) (Err f) a (inl b) = absurd (end_no_fault s at rest f a.0 a.1 b)
stops_once s at rest c (Ok u) (Err f) a (inr b) = absurd (whole_no_end s at rest b.0 b.1 b.2 b.3 a.1)
stops_once s at rest c (Err e) (Ok v) (inl a) b = absurd (end_no_fault s at rest e b.0 b.1 a)
stops_once s at rest c (Err e) (Ok v) (inr a) b = absurd (whole_no_end s at rest a.0 a.1 a.2 a.3 b.1)
stops_once s at rest c (Err e) (Err f) (inl a) (inl b) = ap Err (fault_once s at rest e f a b)
stops_once s at rest c (Err e) (Err f) (inl a) (inr b) = absurd (whole_no_fault s at rest b.0 b.1 b.2 b.3 e a)
stops_once s at rest c (Err e) (Err f) (inr a) (inl b) = absurd (whole_no_fault s at rest a.0 a.1 a.2 a.3 f b)
stops_once s at rest c (Err e) (Err f) (inr a) (inr b) =
    ap Err (declined_once c a.0 b.0 at e f (spelled_same a.0 b.0 a.1 b.1 (sym a.2 ∙ b.2)).0 a.4 b.4)

-- reading does not stop where a call is accepted
goes_on : (s : Stage) (at : ℕ) (rest : List ℕ) (c : Contents) (r : Answer) (x : Call) (more : List ℕ) → rest ≡ spelled x more → InOrder s (byte_of x) → answer c x ≡ Ok tt → Stops s at rest c r → ⊥
goes_on s at rest c (Ok u) x more e o a h = whole_no_end s at rest x more e o h.1
goes_on s at rest c (Err f) x more e o a (inl h) = whole_no_fault s at rest x more e o f h
goes_on s at rest c (Err f) x more e o a (inr h) =
    let q : x ≡ h.0 = (spelled_same x h.0 more h.1 (sym e ∙ h.2)).0 in cc (h.4.answered)

body_after : (xs : List Call) → Body ≡ stage_after Body xs
body_after [] = refl
body_after (x ∷ xs) = refl

once : (n : ℕ) (s : Stage) (b : Contents) (xs ys : List Call) (k l : List ℕ) (i j : ℕ) (c d : Contents) (r q : Answer)
    → all_spelled xs k ≡ all_spelled ys l → i + length k ≡ n → j + length l ≡ n → Ordered s xs → Ordered s ys → Accepted b xs c → Accepted b ys d
    → Stops (stage_after s xs) i k c r → Stops (stage_after s ys) j l d q → (r ≡ q) × (c ≡ d)
once n s b [] [] k l i j c d r q e p p' o o' a a' h h' =
    let ij : j ≡ i = omega (arith, ap length e) in
    let cd : d ≡ c = a' ∙ sym a in (
      stops_once s i k c r q h (subst (λ (z : ℕ). Stops s z k c q) ij (subst (λ (z : List ℕ). Stops s j z c q) (sym e) (subst (λ (z : Contents). Stops s j l z q) cd h'))),
      sym cd,
    )
once n s b [] (y ∷ ys) k l i j c d r q e p p' o o' a a' h h' =
    absurd (goes_on s i k b r y (all_spelled ys l) e o'.0 a'.0 (subst (λ (z : Contents). Stops s i k z r) a h))
once n s b (x ∷ xs) [] k l i j c d r q e p p' o o' a a' h h' =
    absurd (goes_on s j l b q x (all_spelled xs k) (sym e) o.0 a.0 (subst (λ (z : Contents). Stops s j l z q) a' h'))
once n s b (x ∷ xs) (y ∷ ys) k l i j c d r q e p p' o o' a a' h h' =
    let m = spelled_same x y (all_spelled xs k) (all_spelled ys l) e in
    once n Body (changes b x) xs ys k l i j c d r q m.1 p p' o.1 o'.1 a.1 (subst (λ (z : Call). Accepted (changes b z) ys d) (sym m.0) a'.1)
    (subst (λ (z : Stage). Stops z i k c r) (body_after xs) h) (subst (λ (z : Stage). Stops z j l d q) (body_after ys) h')

pub read_once : (bytes : List ℕ) (before : Contents) (r q : Answer) (c d : Contents) → Read bytes before r c → Read bytes before q d → (r ≡ q) × (c ≡ d)
read_once bytes before r q c d f g =
    once (length bytes) BeforeHull before f.calls g.calls f.rest g.rest f.at g.at c d r q
    (sym f.passed.front ∙ g.passed.front) f.place g.place f.passed.ordered g.passed.ordered f.passed.accepted g.passed.accepted f.stop g.stop

ended_order : (s : Stage) (b : ℕ) → s ≡ Ended → InOrder s b → ⊥
ended_order s b e o = subst (λ (q : Stage). InOrder q b) e o

-- a reader has one answer, and stands in one place after it
module _ (xs : List ℕ) (i : ℕ) (s : Stage) where
  call_not_end : (p : Placed) (j : ℕ) (t : Stage) (k : ℕ) (u : Stage) → Told xs i s (Ok (Some p)) j t → Told xs i s (Ok None) k u → ⊥
  call_not_end p j t k u a (inl b, _) = ended_order s (byte_of p.call) b.0 a.1
  call_not_end p j t k u a (inr b, _) = whole_no_end s i (drop i xs) p.call (drop j xs) a.2 a.1 b.1

  call_not_fault : (p : Placed) (j : ℕ) (t : Stage) (e : Refusal) (k : ℕ) (u : Stage) → Told xs i s (Ok (Some p)) j t → Told xs i s (Err e) k u → ⊥
  call_not_fault p j t e k u a b = whole_no_fault s i (drop i xs) p.call (drop j xs) a.2 a.1 e b.1

  end_not_fault : (j : ℕ) (t : Stage) (e : Refusal) (k : ℕ) (u : Stage) → Told xs i s (Ok None) j t → Told xs i s (Err e) k u → ⊥
  end_not_fault j t e k u (inl a, _) b = b.0 a.0
  end_not_fault j t e k u (inr a, _) b = end_no_fault s i (drop i xs) e a.0 a.1 b.1

  end-place : (j : ℕ) (t : Stage) (k : ℕ) (u : Stage) → Told xs i s (Ok None) j t → Told xs i s (Ok None) k u → j ≡ k
  end-place j t k u (inl a, _) (inl b, _) = a.1 ∙ sym b.1
  end-place j t k u (inl a, _) (inr b, _) = cc
  end-place j t k u (inr a, _) (inl b, _) = cc
  end-place j t k u (inr a, _) (inr b, _) = a.2 ∙ sym b.2

  pub told_once : (r : ToldAnswer) (j : ℕ) (t : Stage) (q : ToldAnswer) (k : ℕ) (u : Stage) → Told xs i s r j t → Told xs i s q k u → (r ≡ q) × (j ≡ k) × (t ≡ u)
  told_once (Ok (Some p)) j t (Ok (Some o)) k u a b =
      let c = (spelled_same p.call o.call (drop j xs) (drop k xs) (sym a.2 ∙ b.2)).0 in
      ((λ z. Ok (Some (record { at = (a.0 ∙ sym b.0) z; call = c z }))), a.3 ∙ ap (λ (x : Call). i + width_of x) c ∙ sym b.3, a.4 ∙ sym b.4)
  told_once (Ok (Some p)) j t (Ok None) k u a b = absurd (call_not_end p j t k u a b)
  told_once (Ok (Some p)) j t (Err e) k u a b = absurd (call_not_fault p j t e k u a b)
  told_once (Ok None) j t (Ok (Some o)) k u a b = absurd (call_not_end o k u j t b a)
  told_once (Ok None) j t (Ok None) k u a b = (refl, end-place j t k u a b, a.1 ∙ sym b.1)
  told_once (Ok None) j t (Err e) k u a b = absurd (end_not_fault j t e k u a b)
  told_once (Err e) j t (Ok (Some o)) k u a b = absurd (call_not_fault o k u e j t b a)
  told_once (Err e) j t (Ok None) k u a b = absurd (end_not_fault k u e j t b a)
  told_once (Err e) j t (Err f) k u a b = (ap Err (fault_once s i (drop i xs) e f a.1 b.1), a.2 ∙ sym b.2, a.3 ∙ sym b.3)
