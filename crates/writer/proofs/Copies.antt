-- A sheet is written and read back.
use Rattle.std.proofs.Common.{◌≡◌, ℕ, ◌+◌, Bool, true, false, cond, List, length, take, drop, is_some, Some, None, Ok, Option, sym, refl, ap, ◌∙◌, subst}
use Rattle.std.proofs.lemmas.List.{take_at}
use Rattle.terms.specs.declared.ground.Ground.{Ground}
use Rattle.terms.specs.declared.ground.Ground.TheVariants.{HullMissing}
use Rattle.terms.specs.Questions.{first_no}
use Rattle.design.specs.Contents.{Contents}
use Rattle.sheet.specs.Calls.{Answer}
use Rattle.record.specs.Obeying.{Read}
use Rattle.writer.specs.Writing.{recorded, write_questions, count_or, Wrote}
use Rattle.writer.specs.Copying.{Proper, Handed}
use Rattle.writer.proofs.Trip.{round_trip}

count_of : (n : ℕ) (o : Option Ground) (m : ℕ) → count_or n o ≡ Ok m → (o ≡ None) × (m ≡ n)
count_of n None m h = (refl, (cc))
count_of n (Some g) m h = cc

has_hull : (b : Bool) (o : Option Ground) → cond b o (Some HullMissing) ≡ None → b ≡ true
has_hull true o e = refl
has_hull false o e = cc

pub handed : {c before after : Contents} {out buffer : List ℕ} {n : ℕ} {r : Answer} → Wrote c out 0 (Ok n) buffer → Proper c → Read (take n buffer) before r after → Handed c out before r buffer after
handed {c} {before} {after} {out} {buffer} {n} {r} wrote p f =
    let k = count_of (length (recorded c)) (first_no (write_questions c (length out) 0)) n (sym wrote.answers) in
    let t : take n buffer ≡ recorded c = ap (take n) wrote.leaves ∙ take_at (recorded c) (drop (0 + length (recorded c)) out) n (sym k.1) in
    let g : Read (recorded c) before r after = subst (λ (l : List ℕ). Read l before r after) t f in
    record {
      asked = k.0;
      bytes = wrote.leaves;
      read = g;
      back = λ room new fits. round_trip c room p (has_hull (is_some c.hull) _ k.0) fits r after (subst (λ (q : Contents). Read (recorded c) q r after) new g);
    }
