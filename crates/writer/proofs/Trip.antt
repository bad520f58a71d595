-- The calls that a sheet is written as are accepted by a new sheet, and make the same of it.
use Rattle.std.proofs.Common.{◌≡◌, ℕ, ◌+◌, ◌<◌, ◌≤◌, Bool, true, false, cond, not, eqb, ltb, leb, List, [], ◌∷◌, ◌++◌, map, length, is_some, Some, None, Ok, Option, sym, refl, ap, ◌∙◌, subst, append_assoc, arith}
use Rattle.std.specs.List.{flat_map}
use Rattle.std.proofs.lemmas.List.{append-nil, length_push, map_push}
use Rattle.std.proofs.lemmas.Bool.{and_parts, ltb-true, lt-ltb, le-ltb, eqb-true, eq-eqb, ne_eqb}
use Rattle.terms.specs.declared.ground.Ground.{Ground}
use Rattle.terms.specs.declared.ground.Ground.TheVariants.{MarkZero, MarkTaken, MarkUnknown, SheetFull, SizeOverLimit}
use Rattle.terms.specs.declared.hull.Hull.{Hull}
use Rattle.terms.specs.Questions.{Question, ◌else◌, first_no, all_yes, refused_at, hull_questions, value_questions}
use Rattle.register.specs.Keys.{placed, changed, climbs, each}
use Rattle.design.specs.declared.line.Line.{Line}
use Rattle.design.specs.Contents.{Contents, new_sheet}
use Rattle.design.specs.Lines.{mark_of, line_of, there_in, entered_as, laid_as, unscheduled, line_kept, hull_kept}
use Rattle.sheet.specs.declared.call.Call.{Call}
use Rattle.sheet.specs.declared.call.Call.TheVariants as call
use Rattle.sheet.specs.Calls.{Answer, answer, changes}
use Rattle.record.specs.declared.placed.Stage.TheVariants.{Body}
use Rattle.record.specs.Spelling.{end}
use Rattle.record.specs.Obeying.{Ordered, Accepted, Read}
use Rattle.writer.specs.Writing.{line_calls, sheet_calls, record_of, recorded, lines_bytes}
use Rattle.writer.specs.Copying.{copy_in, Proper}
use Rattle.record.proofs.Once.{read_once}
use Rattle.writer.proofs.Written.{record_long}

-- questions that all have a yes
none_from : (o : Option Ground) → not (is_some o) ≡ true → o ≡ None
none_from None e = refl
none_from (Some g) e = cc

first_no_app : (qs others : List Question) → all_yes qs ≡ true → first_no (qs ++ others) ≡ first_no others
first_no_app [] others e = refl
first_no_app (q ∷ qs) others e =
    elim q.yes as (λ b. not (is_some (cond b (first_no qs) (Some q.ground))) ≡ true → cond b (first_no (qs ++ others)) (Some q.ground) ≡ first_no others)
    [ true ↦ first_no_app qs others | false ↦ λ h. cc ] e

-- every mark is at most low
abbrev AtMost : ℕ → List Line → Type 0
AtMost low [] = Unit {0}
AtMost low (x ∷ xs) = (mark_of x ≤ low) × AtMost low xs

at_most_push : (low m : ℕ) (xs : List Line) (x : Line) → AtMost low xs → low < m → mark_of x ≡ m → AtMost m (xs ++ x ∷ [])
at_most_push low m [] x a l e = (omega arith, tt)
at_most_push low m (y ∷ ys) x a l e = (omega (arith, a.0), at_most_push low m ys x a.1 l e)

-- a line whose mark is above all others
module _ (low m : ℕ) (above : low < m) where
  apart : (y : Line) → mark_of y ≤ low → eqb (mark_of y) m ≡ false
  apart y h = ne_eqb (mark_of y) m (λ e. omega arith)

  not_there : (xs : List Line) → AtMost low xs → there_in m xs ≡ false
  not_there [] a = refl
  not_there (y ∷ ys) a = ap (λ b. is_some (cond b (Some y) (line_of m ys))) (apart y a.0) ∙ not_there ys a.1

  goes_last : (xs : List Line) (x : Line) → AtMost low xs → mark_of x ≡ m → placed mark_of x xs ≡ xs ++ x ∷ []
  goes_last [] x a e = refl
  goes_last (y ∷ ys) x a e =
      ap (λ b. cond b (x ∷ y ∷ ys) (y ∷ placed mark_of x ys)) (le-ltb (mark_of x) (mark_of y) (omega (arith, a.0))) ∙ ap (λ l. y ∷ l) (goes_last ys x a.1 e)

  there_last : (xs : List Line) (x : Line) → AtMost low xs → mark_of x ≡ m → there_in m (xs ++ x ∷ []) ≡ true
  there_last [] x a e = ap (λ b. is_some (cond b (Some x) None)) (eq-eqb (mark_of x) m e)
  there_last (y ∷ ys) x a e = ap (λ b. is_some (cond b (Some y) (line_of m (ys ++ x ∷ [])))) (apart y a.0) ∙ there_last ys x a.1 e

  changed_last : (f : Line → Line) (xs : List Line) (x : Line) → AtMost low xs → mark_of x ≡ m → changed mark_of m f (xs ++ x ∷ []) ≡ xs ++ f x ∷ []
  changed_last f [] x a e = ap (λ b. cond b (f x ∷ []) (x ∷ [])) (eq-eqb (mark_of x) m e)
  changed_last f (y ∷ ys) x a e =
      ap (λ b. cond b (f y ∷ (ys ++ x ∷ [])) (y ∷ changed mark_of m f (ys ++ x ∷ []))) (apart y a.0) ∙ ap (λ l. y ∷ l) (changed_last f ys x a.1 e)

module _ (h : Hull) (room : ℕ) where
  -- an unsettled sheet
  abbrev holding : List Line → Contents
  holding ls = record { hull = Some h; lines = ls; settled = false; room = room }

  -- a line above all others, none of which is scheduled
  module _ (low : ℕ) (done : List Line) (l : Line) (most : AtMost low done) (above : low < mark_of l) (plain : map unscheduled done ≡ done) where
    entered-answer : all_yes (value_questions l.entry) ≡ true → length done < room → answer (holding done) (call.Enter l.entry) ≡ Ok tt
    entered-answer kept free =
        let vs = value_questions l.entry in
        let a : ltb 0 (mark_of l) ≡ true = lt-ltb 0 (mark_of l) (omega arith) in
        let b : not (there_in (mark_of l) done) ≡ true = ap not (not_there low (mark_of l) above done most) in
        let c : ltb (length done) room ≡ true = lt-ltb (length done) room free in
        ap (refused_at (mark_of l)) ((λ i. cond (a i) (cond (b i) (first_no (vs ++ (c i else SheetFull ∷ []))) (Some MarkTaken)) (Some MarkZero)) ∙ first_no_app vs (true else SheetFull ∷ []) kept)

    entered-lines : changes (holding done) (call.Enter l.entry) ≡ holding (done ++ entered_as l.entry ∷ [])
    entered-lines =
        ap holding (ap (map unscheduled) (goes_last low (mark_of l) above done (entered_as l.entry) most refl)
        ∙ map_push unscheduled done (entered_as l.entry) ∙ ap (λ k. k ++ entered_as l.entry ∷ []) plain)

    laid-answer : leb l.laid 60000 ≡ true → answer (holding (done ++ entered_as l.entry ∷ [])) (call.Lay (mark_of l) l.laid) ≡ Ok tt
    laid-answer small =
        let a : there_in (mark_of l) (done ++ entered_as l.entry ∷ []) ≡ true = there_last low (mark_of l) above done (entered_as l.entry) most refl in
        λ i. refused_at (mark_of l) (cond (a i) (cond (small i) None (Some SizeOverLimit)) (Some MarkUnknown))

    laid-lines : changes (holding (done ++ entered_as l.entry ∷ [])) (call.Lay (mark_of l) l.laid) ≡ holding (done ++ unscheduled l ∷ [])
    laid-lines =
        ap holding (ap (map unscheduled) (changed_last low (mark_of l) above (laid_as l.laid) done (entered_as l.entry) most refl)
        ∙ map_push unscheduled done (laid_as l.laid (entered_as l.entry)) ∙ ap (λ k. k ++ unscheduled l ∷ []) plain)

    -- what is laid on it is laid, if anything is
    lay_accepted : (b : Bool) → eqb l.laid 0 ≡ b → leb l.laid 60000 ≡ true → (xs : List Call) (after : Contents)
        → Accepted (holding (done ++ unscheduled l ∷ [])) xs after → Accepted (holding (done ++ entered_as l.entry ∷ [])) (cond b [] (call.Lay (mark_of l) l.laid ∷ []) ++ xs) after
    lay_accepted true q small xs after a =
        subst (λ n. Accepted (holding (done ++ record { entry = l.entry; laid = n; scheduled = 0 } ∷ [])) xs after) (eqb-true l.laid 0 q) a
    lay_accepted false q small xs after a = (laid-answer small, subst (λ k. Accepted k xs after) (sym laid-lines) a)

  lines-accepted : (low : ℕ) (done ls : List Line) → AtMost low done → map unscheduled done ≡ done → climbs mark_of low ls ≡ true → each line_kept ls ≡ true → length done + length ls ≤ room
      → Accepted (holding done) (flat_map line_calls ls) (holding (done ++ map unscheduled ls))
  lines-accepted low done [] most plain up kept fits = ap holding (append-nil done)
  lines-accepted low done (l ∷ ls) most plain up kept fits =
      let u = and_parts (ltb low (mark_of l)) (climbs mark_of (mark_of l) ls) up in
      let k = and_parts (line_kept l) (each line_kept ls) kept in
      let v = and_parts (all_yes (value_questions l.entry)) (leb l.laid 60000) k.0 in
      let above : low < mark_of l = ltb-true low (mark_of l) u.0 in
      let on = done ++ unscheduled l ∷ [] in
      let further = lines-accepted (mark_of l) on ls (at_most_push low (mark_of l) done (unscheduled l) most above refl)
      (map_push unscheduled done (unscheduled l) ∙ ap (λ d. d ++ unscheduled l ∷ []) plain) u.1 k.1 (omega (arith, length_push done (unscheduled l))) in
      let all = subst (λ d. Accepted (holding on) (flat_map line_calls ls) (holding d)) (append_assoc done (unscheduled l ∷ []) (map unscheduled ls)) further in (
        entered-answer low done l most above plain v.0 (omega arith),
        subst (λ c. Accepted c (cond (eqb l.laid 0) [] (call.Lay (mark_of l) l.laid ∷ []) ++ flat_map line_calls ls) (holding (done ++ unscheduled l ∷ map unscheduled ls)))
            (sym (entered-lines low done l most above plain))
            (lay_accepted low done l most above plain (eqb l.laid 0) refl v.1 (flat_map line_calls ls) (holding (done ++ unscheduled l ∷ map unscheduled ls)) all),
      )

  pub sheet-accepted : (ls : List Line) → all_yes (hull_questions h) ≡ true → climbs mark_of 0 ls ≡ true → each line_kept ls ≡ true → length ls ≤ room
      → Accepted (new_sheet room) (sheet_calls h ls) (holding (map unscheduled ls))
  sheet-accepted ls kept up limits fits =
      (ap (refused_at 0) (none_from (first_no (hull_questions h)) kept), lines-accepted 0 [] ls tt refl up limits (omega arith))

-- no hull comes after the hull
lays-ordered : (b : Bool) (m n : ℕ) (xs : List Call) → Ordered Body xs → Ordered Body (cond b [] (call.Lay m n ∷ []) ++ xs)
lays-ordered true m n xs o = o
lays-ordered false m n xs o = ((λ e. omega arith), o)

lines-ordered : (ls : List Line) → Ordered Body (flat_map line_calls ls)
lines-ordered [] = tt
lines-ordered (l ∷ ls) = ((λ e. omega arith), lays-ordered (eqb l.laid 0) (mark_of l) l.laid (flat_map line_calls ls) (lines-ordered ls))

pub reads_back : (h : Hull) (ls : List Line) (room : ℕ) → all_yes (hull_questions h) ≡ true → climbs mark_of 0 ls ≡ true → each line_kept ls ≡ true → length ls ≤ room
    → Read (record_of (Some h) ls) (new_sheet room) (Ok tt) (record { hull = Some h; lines = map unscheduled ls; settled = false; room = room })
reads_back h ls room kept up limits fits = record {
  calls = sheet_calls h ls;
  rest = end ∷ [];
  at = length (lines_bytes ls) + 10;
  place = omega (arith, record_long h ls);
  passed = record { front = refl; ordered = (refl, lines-ordered ls); accepted = sheet-accepted h room ls kept up limits fits };
  stop = (refl, refl);
}

reads_with : (o : Option Hull) (ls : List Line) (room : ℕ) → hull_kept o ≡ true → is_some o ≡ true → climbs mark_of 0 ls ≡ true → each line_kept ls ≡ true → length ls ≤ room
    → Read (record_of o ls) (new_sheet room) (Ok tt) (record { hull = o; lines = map unscheduled ls; settled = false; room = room })
reads_with None ls room kept there_in up limits fits = cc
reads_with (Some h) ls room kept there_in up limits fits = reads_back h ls room kept up limits fits

pub round_trip : (c : Contents) (room : ℕ) → Proper c → is_some c.hull ≡ true → length c.lines ≤ room
    → (r : Answer) (after : Contents) → Read (recorded c) (new_sheet room) r after → (r ≡ Ok tt) × (after ≡ copy_in room c)
round_trip c room p some fits r after f =
    read_once (recorded c) (new_sheet room) r (Ok tt) after (copy_in room c) f (reads_with c.hull c.lines room p.hull some p.rising p.lines fits)
