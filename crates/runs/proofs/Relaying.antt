-- Laying lines of a settled sheet back at their scheduled sizes.
use Rattle.std.proofs.Common.{◌≡◌, ℕ, zero, suc, ◌<◌, ◌≤◌, Bool, true, false, cond, eqb, leb, ◌⊎◌, List, [], ◌∷◌, map, length, get_or, is_ok, Some, Ok, Err, Result, sym, refl, ap, ◌∙◌, subst, inl, inr, ⊎_elim, le_antisymm, arith}
use Rattle.std.proofs.lemmas.List.{get_or_past}
use Rattle.std.proofs.lemmas.Bool.{both_ways, cases_lt, le-leb}
use Rattle.register.specs.Keys.{changed}
use Rattle.terms.specs.declared.entry.Entry.{Entry}
use Rattle.terms.specs.declared.ground.Ground.TheVariants.{MarkUnknown, SizeOverLimit}
use Rattle.terms.specs.declared.hull.Hull.{Hull}
use Rattle.terms.specs.declared.refusal.Refusal.{Refusal}
use Rattle.terms.specs.Questions.{◌else◌, first_no, refused_at}
use Rattle.design.specs.declared.line.Line.{Line}
use Rattle.design.specs.Contents.{Contents, new_sheet, settled_at}
use Rattle.design.specs.Lines.{no_line, mark_of, line_of, there_in, entered_as, laid_as, unscheduled, scheduled_by}
use Rattle.design.specs.Schedules.{job, Schedule, Least}
use Rattle.design.specs.Settings.{Setting, Sound}
use Rattle.design.specs.Verdicts.{ready_hull}
use Rattle.least.proofs.Raising.{within}
use Rattle.sheet.specs.declared.call.Call.{Call}
use Rattle.sheet.specs.declared.call.Call.TheVariants as call
use Rattle.sheet.specs.Calls.{Answer, answer, changes}
use Rattle.sheet.specs.Settles.{SettlesOn}
use Rattle.sheet.proofs.Scheduling.{map_scheduled, length_scheduled, scheduled_at}
use Rattle.runs.specs.declared.step.Step.{Step}
use Rattle.runs.specs.declared.step.Step.TheVariants.{Change, Settle}
use Rattle.runs.specs.Runs.{Run}
use Rattle.runs.specs.Laws.{sizes_of, SettledBy, ASettledSheetHasTheLeast, size_or_none, size_for, laying_back, AllThere, AsBefore, LayingBackChangesNothing}
use Rattle.runs.proofs.Entries.{as_entered, ready_same, there_same}
use Rattle.runs.proofs.Alike.{Alike, least_more}
use Rattle.runs.proofs.Settling.{written}
use Rattle.runs.proofs.Taking.{changes_open}

abbrev Kept : Setting → Contents → Type 0
Kept s c = c.settled ≡ true → SettledBy s c

change-keeps : (s : Setting) (c after : Contents) (x : Call) (r : Answer) → after ≡ cond (is_ok r) (changes c x) c → Kept s c → Kept s after
change-keeps s c after x (Ok u) e kept = λ t. absurd (both_ways after.settled (ap (λ (y : Contents). y.settled) e ∙ changes_open c x) t)
change-keeps s c after x (Err g) e kept = subst (Kept s) (sym e) kept

-- the sheet with the schedule written has it as its least
standing_at : (s : Setting) (c : Contents) (h : Hull) (sizes : Schedule) → ready_hull s c.hull c.lines ≡ Ok h → Least (job s h c.lines) sizes → SettledBy s (settled_at c sizes)
standing_at s c h sizes ready l =
    let ls = c.lines in
    let ms = scheduled_by sizes ls in
    let at = scheduled_at sizes ls in
    let alike : Alike s h ls ms = record {
      long = length_scheduled sizes ls;
      entry = λ i k. ap (λ (x : Line). x.entry) (at i k);
      laid = λ i k. let e = ap (λ (x : Line). x.laid) (at i k) in omega arith;
    } in
    let t = written s c (settled_at c sizes) h sizes l refl in
    record {
      hull = h;
      ready = ready_same s c.hull c.hull ls ms refl (map_scheduled as_entered (λ n l. refl) sizes ls) ∙ ready;
      least = least_more s h ls ms alike (sizes_of (settled_at c sizes)) (λ i k. let e = ap (λ (x : Line). x.laid) (at i k) in let a = (t.lawful i k).laid in omega arith) t;
    }

settle_keeps : (s : Setting) (c after : Contents) (a : Result Hull Refusal) (r : Answer) → ready_hull s c.hull c.lines ≡ a → SettlesOn s c a r after → Kept s c → Kept s after
settle_keeps s c after (Err g) r e (_, same) kept = subst (Kept s) (sym same) kept
settle_keeps s c after (Ok h) (Ok u) e (sizes, l, same) kept = λ _. subst (SettledBy s) (sym same) (standing_at s c h sizes e l)
settle_keeps s c after (Ok h) (Err g) e (_, _, same) kept = subst (Kept s) (sym same) kept

run-keeps : (s : Setting) (c after : Contents) (xs : List Step) (rs : List Answer) → Run s c xs rs after → Kept s c → Kept s after
run-keeps s c after [] [] e kept = subst (Kept s) (sym e) kept
run-keeps s c after [] (r ∷ rs) void kept = absurd void
run-keeps s c after (x ∷ xs) [] void kept = absurd void
run-keeps s c after (Change x ∷ xs) (r ∷ rs) (mid, d, rest) kept = run-keeps s mid after xs rs rest (change-keeps s c mid x r d.holds kept)
run-keeps s c after (Settle ∷ xs) (r ∷ rs) (mid, d, rest) kept = run-keeps s mid after xs rs rest (settle_keeps s c mid (ready_hull s c.hull c.lines) r refl d kept)

-- the same line, laid as it was or at its scheduled size
pub record RelaidLine (x y : Line) : Type 0 where
  pub entry : y.entry ≡ x.entry
  pub laid : (y.laid ≡ x.laid) ⊎ (y.laid ≡ x.scheduled)

abbrev pub Relaid : List Line → List Line → Type 0
Relaid [] [] = Unit {0}
Relaid [] (y ∷ ys) = ⊥
Relaid (x ∷ xs) [] = ⊥
Relaid (x ∷ xs) (y ∷ ys) = RelaidLine x y × Relaid xs ys

relaid_refl : (xs : List Line) → Relaid xs xs
relaid_refl [] = tt
relaid_refl (x ∷ xs) = (record { entry = refl; laid = inl refl }, relaid_refl xs)

relaid_bare : (xs ys : List Line) → Relaid xs ys → Relaid xs (map unscheduled ys)
relaid_bare [] [] r = tt
relaid_bare [] (y ∷ ys) r = absurd r
relaid_bare (x ∷ xs) [] r = absurd r
relaid_bare (x ∷ xs) (y ∷ ys) r = (record { entry = r.0.entry; laid = r.0.laid }, relaid_bare xs ys r.1)

pub relaid_entries : (xs ys : List Line) → Relaid xs ys → map as_entered ys ≡ map as_entered xs
relaid_entries [] [] r = refl
relaid_entries [] (y ∷ ys) r = absurd r
relaid_entries (x ∷ xs) [] r = absurd r
relaid_entries (x ∷ xs) (y ∷ ys) r = let e = r.0.entry in let f = relaid_entries xs ys r.1 in λ i. entered_as (e i) ∷ f i

relaid_long : (xs ys : List Line) → Relaid xs ys → length ys ≡ length xs
relaid_long [] [] r = refl
relaid_long [] (y ∷ ys) r = absurd r
relaid_long (x ∷ xs) [] r = absurd r
relaid_long (x ∷ xs) (y ∷ ys) r = ap suc (relaid_long xs ys r.1)

relaid_at : (xs ys : List Line) → Relaid xs ys → (i : ℕ) → i < length xs → RelaidLine (get_or xs i no_line) (get_or ys i no_line)
relaid_at [] ys r i h = absurd (omega arith)
relaid_at (x ∷ xs) [] r i h = absurd r
relaid_at (x ∷ xs) (y ∷ ys) r zero h = r.0
relaid_at (x ∷ xs) (y ∷ ys) r (suc i) h = relaid_at xs ys r.1 i (omega arith)

-- one more line laid at its scheduled size
lay_back : (m : ℕ) (xs ys : List Line) → Relaid xs ys → Relaid xs (changed mark_of m (laid_as (size_for m xs)) ys)
lay_back m [] [] r = tt
lay_back m [] (y ∷ ys) r = absurd r
lay_back m (x ∷ xs) [] r = absurd r
lay_back m (x ∷ xs) (y ∷ ys) r =
    let e : eqb (mark_of y) m ≡ eqb (mark_of x) m = ap (λ (z : Entry). eqb z.mark m) r.0.entry in
    let rest = lay_back m xs ys r.1 in
    let F : Bool → Bool → Type 0 = λ b d. Relaid (x ∷ xs) (cond d (laid_as (size_or_none (cond b (Some x) (line_of m xs))) y ∷ ys) (y ∷ changed mark_of m (laid_as (size_or_none (cond b (Some x) (line_of m xs)))) ys)) in
    subst (F (eqb (mark_of x) m)) (sym e)
    (elim (eqb (mark_of x) m) as (λ b. F b b) [ true ↦ (record { entry = r.0.entry; laid = inr refl }, r.1) | false ↦ (r.0, rest) ])

-- the size for a mark is one of the scheduled sizes, or none
size_small : (m : ℕ) (ls : List Line) → ((i : ℕ) → i < length ls → (get_or ls i no_line).scheduled ≤ 60000) → size_for m ls ≤ 60000
size_small m [] small = omega arith
size_small m (l ∷ ls) small =
    elim (eqb (mark_of l) m) as (λ b. size_or_none (cond b (Some l) (line_of m ls)) ≤ 60000)
    [ true ↦ small 0 (omega arith) | false ↦ size_small m ls (λ i h. small (suc i) (omega arith)) ]

-- a sheet that differs from c in lines laid at their scheduled sizes
pub record Back (c d : Contents) : Type 0 where
  pub hull : d.hull ≡ c.hull
  pub lines : Relaid c.lines d.lines

pub back_refl : (c : Contents) → Back c c
back_refl c = record { hull = refl; lines = relaid_refl c.lines }

pub back-laid : (c d : Contents) (m : ℕ) → Back c d → Back c (changes d (call.Lay m (size_for m c.lines)))
back-laid c d m b = record { hull = b.hull; lines = relaid_bare c.lines (changed mark_of m (laid_as (size_for m c.lines)) d.lines) (lay_back m c.lines d.lines b.lines) }

module _ (s : Setting) (sound : Sound s) (c : Contents) (st : SettledBy s c) where
  lay_accepted : (d : Contents) (m : ℕ) → Back c d → there_in m c.lines ≡ true → answer d (call.Lay m (size_for m c.lines)) ≡ Ok tt
  lay_accepted d m b is =
      let l : there_in m d.lines ≡ true = there_same m c.lines d.lines (relaid_entries c.lines d.lines b.lines) ∙ is in
      let n : leb (size_for m c.lines) 60000 ≡ true = le-leb (size_for m c.lines) 60000 (size_small m c.lines (λ i h. within (job s st.hull c.lines) sound i (sizes_of c i) (st.least.lawful i h).stock)) in
      let F : Bool → Bool → Answer = λ x y. refused_at m (first_no (x else MarkUnknown ∷ y else SizeOverLimit ∷ [])) in
      ap (λ x. F x (leb (size_for m c.lines) 60000)) l ∙ ap (F true) n

  still_least : (d : Contents) → Back c d → Least (job s st.hull d.lines) (sizes_of c)
  still_least d b =
      let at = relaid_at c.lines d.lines b.lines in
      let laws = st.least.lawful in
      least_more s st.hull c.lines d.lines
      (record {
        long = relaid_long c.lines d.lines b.lines;
        entry = λ i h. (at i h).entry;
        laid = λ i h. let a = (laws i h).laid in ⊎_elim (λ f. omega arith) (λ f. omega arith) (at i h).laid;
      })
      (sizes_of c) (λ i h. let a = (laws i h).laid in ⊎_elim (λ f. omega arith) (λ f. omega arith) (at i h).laid) st.least

  ready-back : (d : Contents) → Back c d → ready_hull s d.hull d.lines ≡ Ok st.hull
  ready-back d b = ready_same s c.hull d.hull c.lines d.lines b.hull (relaid_entries c.lines d.lines b.lines) ∙ st.ready

  -- the sizes are those of one least schedule
  same_sizes : (d after : Contents) (sizes : Schedule) → Back c d → Least (job s st.hull d.lines) sizes → after ≡ settled_at d sizes → (i : ℕ) → sizes_of after i ≡ sizes_of c i
  same_sizes d after sizes b l e i =
      let new = written s d after st.hull sizes l e in
      let old = still_least d b in
      let n = relaid_long c.lines d.lines b.lines in
      let k : length after.lines ≡ length d.lines = ap (λ (x : Contents). length x.lines) e ∙ length_scheduled sizes d.lines in
      ⊎_elim
      (λ (h : i < length d.lines). le_antisymm (new.least (sizes_of c) old.lawful i h) (old.least (sizes_of after) new.lawful i h))
      (λ (h : length d.lines ≤ i).
      ap (λ (x : Line). x.scheduled) (get_or_past after.lines i no_line (omega arith)) ∙ sym (ap (λ (x : Line). x.scheduled) (get_or_past c.lines i no_line (omega arith))))
      (cases_lt i (length d.lines))

  settle_accepted : (d after : Contents) (r : Answer) → Back c d → SettlesOn s d (Ok st.hull) r after → (r ≡ Ok tt) × (after.settled ≡ true) × ((i : ℕ) → sizes_of after i ≡ sizes_of c i)
  settle_accepted d after (Err g) b (_, none, _) = absurd (none (sizes_of c) (still_least d b).lawful)
  settle_accepted d after (Ok u) b (sizes, l, e) = (refl, ap (λ (x : Contents). x.settled) e, same_sizes d after sizes b l e)

  pub laid-back : (marks : List ℕ) (rs : List Answer) (d after : Contents) → Back c d → AllThere c marks → Run s d (laying_back c marks) rs after → AsBefore c after rs
  laid-back [] [] d after b is void = absurd void
  laid-back [] (r ∷ []) d after b is (mid, does, e) =
      let x = settle_accepted d mid r b (subst (λ (a : Result Hull Refusal). SettlesOn s d a r mid) (ready-back d b) does) in
      record { accepted = (x.0, tt); settled = ap (λ (y : Contents). y.settled) e ∙ x.1; sizes = λ i. ap (λ (y : Contents). sizes_of y i) e ∙ x.2 i }
  laid-back [] (r ∷ q ∷ rs) d after b is (mid, does, void) = absurd void
  laid-back (m ∷ marks) [] d after b is void = absurd void
  laid-back (m ∷ marks) (r ∷ rs) d after b is (mid, does, rest) =
      let ok : r ≡ Ok tt = does.answers ∙ lay_accepted d m b is.0 in
      let next = changes d (call.Lay m (size_for m c.lines)) in
      let e : mid ≡ next = does.holds ∙ ap (λ (a : Answer). cond (is_ok a) next d) ok in
      let x = laid-back marks rs mid after (subst (Back c) (sym e) (back-laid c d m b)) is.1 rest in
      record { accepted = (ok, x.accepted); settled = x.settled; sizes = x.sizes }

pub a_settled_sheet_has_the_least : ASettledSheetHasTheLeast
a_settled_sheet_has_the_least s c (room, steps, past, run) = run-keeps s (new_sheet room) c steps past run (λ t. absurd (both_ways false refl t))

pub laying_back_changes_nothing : LayingBackChangesNothing
laying_back_changes_nothing s sound c after marks answers reached settled is again =
    laid-back s sound c (a_settled_sheet_has_the_least s c reached settled) marks answers c after (back_refl c) is again
