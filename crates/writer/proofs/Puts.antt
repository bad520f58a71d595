-- Bytes put one after the other over others.
use Rattle.std.proofs.Common.{◌≡◌, ℕ, ◌+◌, ◌-◌, ◌*◌, ◌<◌, ◌≤◌, Bool, false, true, cond, eqb, List, [], ◌∷◌, ◌++◌, length, take, drop, sym, ap, ◌∙◌, append_assoc, zero-add, arith}
use borrow.Rule.Slice.PartMut.{put_mid}
use Rattle.std.proofs.lemmas.Bool.{eq-eqb, ne_eqb}
use Rattle.std.proofs.lemmas.List.{append-nil, length-append, length-drop, take_at, drop_at, drop-drop, drop_all, take_rest, length-take-le}
use Rattle.design.specs.declared.line.Line.{Line}
use Rattle.design.specs.Lines.{mark_of}
use Rattle.sheet.specs.declared.call.Call.TheVariants as call
use Rattle.record.specs.Spelling.{spelled, all_spelled}
use Rattle.writer.specs.declared.Cursor.{Cursor}
use Rattle.writer.specs.Putting.{Puts}
use Rattle.writer.specs.Writing.{line_bytes, lines_bytes, over}

-- bytes over others, where a front stands already
over_front : (x y f b : List ℕ) (n : ℕ) → y ≡ f ++ drop n x → length f ≡ n → over y n b ≡ f ++ (b ++ drop (n + length b) x)
over_front x y f b n e l =
    let t : take n y ≡ f = ap (take n) e ∙ take_at f (drop n x) n l in
    let d : drop n y ≡ drop n x = ap (drop n) e ∙ drop_at f (drop n x) n l in
    let r = drop-drop (length b) n y in
    let s = drop-drop (length b) n x in
    cc

over-over : (x a b : List ℕ) (n : ℕ) → n ≤ length x → over (over x n a) (n + length a) b ≡ over x n (a ++ b)
over-over x a b n h =
    let f = take n x in
    let m : n + length a + length b ≡ n + length (a ++ b) = omega (arith, length-append a b) in
    over_front x (over x n a) (f ++ a) b (n + length a) (sym (append_assoc f a (drop (n + length a) x))) (omega (arith, length-append f a, length-take-le n x h))
    ∙ append_assoc f a (b ++ drop (n + length a + length b) x)
    ∙ ap (λ l. f ++ l) (sym (append_assoc a b (drop (n + length a + length b) x)) ∙ ap (λ k. (a ++ b) ++ drop k x) m)

-- bytes, and then others
pub both : {old mid new : Cursor} {a b : List ℕ} → Puts old mid a → Puts mid new b → Puts old new (a ++ b)
both {old} {mid} {new} {a} {b} p q = record {
  here = q.here ∙ p.here;
  fits = omega (arith, p.fits, p.at, p.long, q.fits, length-append a b);
  at = omega (arith, p.at, q.at, length-append a b);
  long = q.long ∙ p.long;
  out = q.out ∙ (λ i. over (p.out i) (p.at i) b) ∙ over-over old.out.now a b old.at (omega (arith, p.fits));
}

-- a line, with what is laid on it or with nothing
pub laid : (l : Line) → 0 < l.laid → spelled (call.Enter l.entry) [] ++ spelled (call.Lay (mark_of l) l.laid) [] ≡ line_bytes l
laid l h = ap (λ b. spelled (call.Enter l.entry) (all_spelled (cond b [] (call.Lay (mark_of l) l.laid ∷ [])) [])) (sym (ne_eqb l.laid 0 (λ e. omega arith)))

pub not_laid : (l : Line) → l.laid ≡ 0 → spelled (call.Enter l.entry) [] ≡ line_bytes l
not_laid l h = ap (λ b. spelled (call.Enter l.entry) (all_spelled (cond b [] (call.Lay (mark_of l) l.laid ∷ [])) [])) (sym (eq-eqb l.laid 0 h))

lay_short : (b : Bool) (m n : ℕ) → length (all_spelled (cond b [] (call.Lay m n ∷ [])) []) ≤ 5
lay_short true m n = omega arith
lay_short false m n = omega arith

pub lines_short : (ls : List Line) → length (lines_bytes ls) ≤ 25 * length ls
lines_short [] = omega arith
lines_short (l ∷ ls) = omega (arith, length-append (line_bytes l) (lines_bytes ls), lay_short (eqb l.laid 0) (mark_of l) l.laid, lines_short ls)

-- bytes put at the front of the part of some bytes from a place on
pub part-over : (x b bytes ys : List ℕ) (n : ℕ) → b ≡ bytes → ys ≡ over (take (length x - n) (drop n x)) 0 b → put_mid n (length x - n) x ys ≡ over x n bytes
part-over x b bytes ys n same e =
    let whole : drop (length x - n) (drop n x) ≡ [] = drop_all (length x - n) (drop n x) (omega (arith, length-drop n x)) in
    let here : ys ≡ b ++ drop (n + length b) x = e ∙ (λ i. b ++ drop (zero-add (length b) i) (take_rest x n i)) ∙ ap (λ l. b ++ l) (drop-drop (length b) n x) in
    ap (λ l. take n x ++ (ys ++ l)) whole ∙ ap (λ l. take n x ++ l) (append-nil ys ∙ here) ∙ ap (over x n) same
