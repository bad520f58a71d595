-- What a settle answers and writes.
use Rattle.std.proofs.Common.{◌≡◌, ℕ, ◌<◌, List, map, length, get_or, Some, None, Ok, Err, Option, Result, sym, refl, ap, ◌∙◌, subst, arith}
use Rattle.std.proofs.lemmas.List.{ext_get_or, length-map, get_or-map}
use Rattle.terms.specs.declared.ground.Ground.{Ground}
use Rattle.terms.specs.declared.ground.Ground.TheVariants.{HullMissing, NeighbourMissing, LineUnfit, NoLawfulSchedule}
use Rattle.terms.specs.declared.hull.Hull.{Hull}
use Rattle.terms.specs.declared.refusal.Refusal.{Refusal}
use Rattle.terms.specs.Questions.{refusal_of}
use Rattle.design.specs.declared.line.Line.{Line}
use Rattle.design.specs.Contents.{Contents, settled_at}
use Rattle.std.specs.List.{find}
use Rattle.design.specs.Lines.{no_line, mark_of, entered_as}
use Rattle.design.specs.Schedules.{job, Schedule, Lawful, Least}
use Rattle.design.specs.Settings.{Setting}
use Rattle.design.specs.Verdicts.{names_missing, unfit, refused_by, ready_hull}
use Rattle.sheet.specs.Calls.{Answer}
use Rattle.sheet.specs.Settles.{none_lawful_at, SettlesOn}
use Rattle.sheet.proofs.Scheduling.{scheduled_at}
use Rattle.runs.specs.Laws.{sizes_of, LeastWritten, SettleWritesTheLeast, LaidMore, LayingMoreLowersNothing}
use Rattle.runs.proofs.Entries.{as_entered, ready_same}
use Rattle.runs.proofs.Alike.{lawful_less, least_same}

-- the questions that are put before never give that ground
other_ground : (g : Ground) (at : ℕ) → (g ≡ NoLawfulSchedule → ⊥) → ◌≡◌ {A = Result Hull Refusal} (Err (refusal_of g at)) (Err none_lawful_at) → ⊥
other_ground g at apart e = let z : refusal_of g at ≡ none_lawful_at = cc in apart (ap (λ (r : Refusal). r.ground) z)

refused_other : (g : Ground) → (g ≡ NoLawfulSchedule → ⊥) → (o : Option Line) (r : Result Hull Refusal) → (r ≡ Err none_lawful_at → ⊥) → refused_by g o r ≡ Err none_lawful_at → ⊥
refused_other g apart None r other = other
refused_other g apart (Some l) r other = other_ground g (mark_of l) apart

ready_other : (s : Setting) (o : Option Hull) (ls : List Line) → ready_hull s o ls ≡ Err none_lawful_at → ⊥
ready_other s None ls e = other_ground HullMissing 0 (λ z. cc) e
ready_other s (Some h) ls e =
    refused_other NeighbourMissing (λ z. cc) (find (λ l. names_missing ls l.entry) ls) (refused_by LineUnfit (find (λ l. unfit s h l.entry) ls) (Ok h))
    (refused_other LineUnfit (λ z. cc) (find (λ l. unfit s h l.entry) ls) (Ok h) (λ z. cc)) e

-- the sizes that are written are those of the schedule
pub sizes_written : (c : Contents) (sizes : Schedule) (i : ℕ) → i < length c.lines → sizes_of (settled_at c sizes) i ≡ sizes i
sizes_written c sizes i h = ap (λ (l : Line). l.scheduled) (scheduled_at sizes c.lines i h)

module _ (s : Setting) (c after : Contents) where
  pub written : (h : Hull) (sizes : Schedule) → Least (job s h c.lines) sizes → after ≡ settled_at c sizes → Least (job s h c.lines) (sizes_of after)
  written h sizes l e = least_same (job s h c.lines) sizes (sizes_of after) (λ i k. ap (λ (x : Contents). sizes_of x i) e ∙ sizes_written c sizes i k) l

  pub settled-by : (a : Result Hull Refusal) (r : Answer) → ready_hull s c.hull c.lines ≡ a → SettlesOn s c a r after → LeastWritten s c after r
  settled-by (Err g) r ready (e, _) = record {
    accepted = λ f. absurd (cc);
    refused = λ f. let z : g ≡ none_lawful_at = cc in absurd (ready_other s c.hull c.lines (ready ∙ ap (λ x. Err x) z));
    for_want = λ h f _. cc;
  }
  settled-by (Ok h) (Ok u) ready (sizes, l, e) = record {
    accepted = λ _. (h, ready, written h sizes l e);
    refused = λ f. absurd (cc);
    for_want = λ k f none. let z : h ≡ k = cc in absurd (none sizes (subst (λ (x : Hull). Lawful (job s x c.lines) sizes) z l.lawful));
  }
  settled-by (Ok h) (Err g) ready (e, none, _) = record {
    accepted = λ f. absurd (cc);
    refused = λ _. (h, ready, none);
    for_want = λ k f _. ap (λ x. Err x) e;
  }

pub settle_writes_the_least : SettleWritesTheLeast
settle_writes_the_least s c after r _ does = settled-by s c after (ready_hull s c.hull c.lines) r refl does

entries_at : (ls ms : List Line) → length ms ≡ length ls → ((i : ℕ) → i < length ls → (get_or ms i no_line).entry ≡ (get_or ls i no_line).entry) → map as_entered ms ≡ map as_entered ls
entries_at ls ms l same =
    ext_get_or no_line (map as_entered ms) (map as_entered ls) (length-map ms as_entered ∙ l ∙ sym (length-map ls as_entered))
    (λ i h.
    let n = length-map ms as_entered in
    get_or-map as_entered ms i no_line no_line (omega arith) ∙ ap entered_as (same i (omega arith)) ∙ sym (get_or-map as_entered ls i no_line no_line (omega arith)))

-- what is lawful for the sheet where more is laid is lawful for the other
lawful_other : (s : Setting) (h : Hull) (c d : Contents) → LaidMore c d → (t : Schedule) → Lawful (job s h d.lines) t → Lawful (job s h c.lines) t
lawful_other s h c d m = lawful_less s h c.lines d.lines (record { long = m.long; entry = m.entry; laid = m.laid })

pub laying_more_lowers_nothing : LayingMoreLowersNothing
laying_more_lowers_nothing s c d c' d' q r rc rd more dc dd =
    let a = settle_writes_the_least s c c' q rc dc in
    let b = settle_writes_the_least s d d' r rd dd in
    let same : ready_hull s d.hull d.lines ≡ ready_hull s c.hull c.lines = ready_same s c.hull d.hull c.lines d.lines more.hull (entries_at c.lines d.lines more.long more.entry) in
    record {
      sizes = λ e f i h.
          let x = a.accepted e in
          let y = b.accepted f in
          let both = sym y.1 ∙ same ∙ x.1 in
          let one : y.0 ≡ x.0 = cc in
          x.2.least (sizes_of d') (lawful_other s x.0 c d more (sizes_of d') (subst (λ (k : Hull). Lawful (job s k d.lines) (sizes_of d')) one y.2.lawful)) i h;
      refused = λ e.
          let x = a.refused e in
          b.for_want x.0 (same ∙ x.1) (λ t law. x.2 t (lawful_other s x.0 c d more t law));
    }
