-- A whole record, part by part.
use Rattle.std.proofs.Common.{◌≡◌, ℕ, ◌+◌, ◌-◌, ◌<◌, ◌≤◌, Bool, true, false, cond, is_some, nat_le, List, [], ◌∷◌, ◌++◌, length, Some, None, Ok, Err, sym, refl, ap, ◌∙◌, append_assoc, arith}
use Rattle.std.specs.List.{flat_map}
use Rattle.std.proofs.lemmas.Bool.{lt-leb, le-leb}
use Rattle.std.proofs.lemmas.List.{length-append}
use Rattle.terms.specs.declared.ground.Ground.TheVariants.{HullMissing, TooFewBytes}
use Rattle.terms.specs.declared.hull.Hull.{Hull}
use Rattle.terms.specs.declared.refusal.Refusal.{Refusal}
use Rattle.terms.specs.Questions.{first_no}
use Rattle.design.specs.declared.line.Line.{Line}
use Rattle.design.specs.Contents.{Contents}
use Rattle.sheet.specs.declared.call.Call.{Call}
use Rattle.sheet.specs.declared.call.Call.TheVariants as call
use Rattle.record.specs.Reading.{at_place}
use Rattle.record.specs.Spelling.{spelled, all_spelled, end}
use Rattle.record.proofs.Along.{all_join}
use Rattle.writer.specs.Writing.{line_calls, record_of, recorded, write_questions, count_or, line_bytes, lines_bytes}

-- what is spelled before more is spelled alone, and then comes more
pub spelled_app : (x : Call) (more : List ℕ) → spelled x more ≡ spelled x [] ++ more
spelled_app (call.Hull h) more = refl
spelled_app (call.Enter e) more = refl
spelled_app (call.Amend e) more = refl
spelled_app (call.Strike m) more = refl
spelled_app (call.Lay m n) more = refl

all_app : (xs : List Call) (more : List ℕ) → all_spelled xs more ≡ all_spelled xs [] ++ more
all_app [] more = refl
all_app (x ∷ xs) more =
    ap (spelled x) (all_app xs more) ∙ spelled_app x (all_spelled xs [] ++ more)
    ∙ sym (append_assoc (spelled x []) (all_spelled xs []) more) ∙ ap (λ l. l ++ more) (sym (spelled_app x (all_spelled xs [])))

lines_app : (ls : List Line) (more : List ℕ) → all_spelled (flat_map line_calls ls) more ≡ lines_bytes ls ++ more
lines_app [] more = refl
lines_app (l ∷ ls) more =
    all_join (line_calls l) (flat_map line_calls ls) more ∙ ap (all_spelled (line_calls l)) (lines_app ls more) ∙ all_app (line_calls l) (lines_bytes ls ++ more)
    ∙ sym (append_assoc (line_bytes l) (lines_bytes ls) more)

module _ (h : Hull) (ls : List Line) where
  pub record_is : record_of (Some h) ls ≡ (spelled (call.Hull h) [] ++ lines_bytes ls) ++ (end ∷ [])
  record_is = ap (spelled (call.Hull h)) (lines_app ls (end ∷ []))

  pub record_long : length (record_of (Some h) ls) ≡ length (lines_bytes ls) + 11
  record_long = ap length record_is ∙ omega (arith, length-append (lines_bytes ls) (end ∷ []))

-- a sheet that has a hull
module _ (c : Contents) (h : Hull) (ls : List Line) (has : Some h ≡ c.hull) (lines : ls ≡ c.lines) where
  pub record_same : record_of (Some h) ls ≡ recorded c
  record_same = λ i. record_of (has i) (lines i)

  -- there is room for its record from a place on, or too little
  module _ (room place count : ℕ) (long : count ≡ length (lines_bytes ls) + 11) where
    whole : length (recorded c) ≡ count
    whole = omega (arith, record_long h ls, ap length record_same)

    answered : (b : Bool) → nat_le (place + length (recorded c)) room ≡ b → count_or (length (recorded c)) (first_no (write_questions c room place)) ≡ count_or count (cond b None (Some TooFewBytes))
    answered b e = λ i. count_or (whole i) (cond (is_some (sym has i)) (cond (e i) None (Some TooFewBytes)) (Some HullMissing))

    pub too_few : (e : Refusal) → e ≡ at_place TooFewBytes 0 → room - place < count → Err e ≡ count_or (length (recorded c)) (first_no (write_questions c room place))
    too_few e at short = ap Err at ∙ sym (answered false (lt-leb (place + length (recorded c)) room (omega (arith, whole))))

    pub enough : count ≤ room - place → Ok count ≡ count_or (length (recorded c)) (first_no (write_questions c room place))
    enough fits = sym (answered true (le-leb (place + length (recorded c)) room (omega (arith, whole))))
