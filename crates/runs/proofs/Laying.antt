-- Lays, one after the other, at the sizes of the lines as they stood before the first.
use Rattle.std.proofs.Common.{◌≡◌, ℕ, ◌+◌, ◌<◌, cond, List, [], ◌∷◌, ◌++◌, length, get_or, take, is_ok, Some, None, Ok, Err, Option, sym, refl, ap, ◌∙◌, subst}
use Rattle.std.proofs.lemmas.List.{take_more}
use Rattle.register.specs.Keys.{place_of}
use Rattle.register.proofs.Orders.{found}
use Rattle.design.specs.declared.line.Line.{Line}
use Rattle.design.specs.Contents.{Contents}
use Rattle.design.specs.Lines.{mark_of}
use Rattle.design.specs.Settings.{Setting, Sound}
use Rattle.design.proofs.Places.{at_place, line_is}
use Rattle.sheet.specs.declared.call.Call.TheVariants as call
use Rattle.sheet.specs.Calls.{Answer, changes, Does}
use Rattle.runs.specs.declared.step.Step.{Step}
use Rattle.runs.specs.declared.step.Step.TheVariants.{Change, Settle}
use Rattle.runs.specs.Runs.{Takes, Run}
use Rattle.runs.specs.Laws.{size_or_none, size_for, lays, AllAccepted, first_refusal, LaidBack}
use Rattle.std.specs.Result.{result_and}
use Rattle.runs.specs.Back.{SizesTo, size_at, LaidTo}
use Rattle.runs.proofs.Entries.{place_same}
use Rattle.runs.proofs.Relaying.{Relaid, relaid_entries, Back, back_refl, back-laid, laid-back}
use Rattle.runs.proofs.Running.{run_more}

size-there : (xs : List Line) (sizes : List ℕ) (m : ℕ) (o : Option ℕ) → SizesTo xs (length xs) sizes → place_of mark_of m xs ≡ o → size_at sizes o ≡ size_or_none (at_place o xs)
size-there xs sizes m None all e = refl
size-there xs sizes m (Some p) all e = all p (found mark_of m xs p e).within

-- the size that stands at the place of a mark is the one scheduled for it before
size_is : (xs ys : List Line) (sizes : List ℕ) (m : ℕ) → SizesTo xs (length xs) sizes → Relaid xs ys → size_at sizes (place_of mark_of m ys) ≡ size_for m xs
size_is xs ys sizes m all r = ap (size_at sizes) (place_same m xs ys (relaid_entries xs ys r)) ∙ size-there xs sizes m (place_of mark_of m xs) all refl ∙ ap size_or_none (sym (line_is m xs))

lays_more : (c : Contents) (ms : List ℕ) (m : ℕ) → lays c (ms ++ m ∷ []) ≡ lays c ms ++ (Change (call.Lay m (size_for m c.lines)) ∷ [])
lays_more c [] m = refl
lays_more c (n ∷ ms) m = ap (λ (y : List Step). Change (call.Lay n (size_for n c.lines)) ∷ y) (lays_more c ms m)

pub refusal_more : (rs : List Answer) (r : Answer) → first_refusal (rs ++ r ∷ []) ≡ result_and (first_refusal rs) r
refusal_more [] (Ok u) = refl
refusal_more [] (Err e) = refl
refusal_more (Ok u ∷ rs) r = refusal_more rs r
refusal_more (Err e ∷ rs) r = refl

-- the first marks are laid, and the sheet is else as it was
pub record Laying (c : Contents) (marks : List ℕ) (r : Answer) (d : Contents) : Type 0 where
  pub laid : LaidTo c marks r d
  pub back : Back c d

pub laying_none : (c : Contents) → Laying c [] (Ok tt) c
laying_none c = record { laid = record { answers = []; run = λ s. refl; answer = refl }; back = back_refl c }

back-answer : (c d : Contents) (m : ℕ) (q : Answer) → Back c d → Back c (cond (is_ok q) (changes d (call.Lay m (size_for m c.lines))) d)
back-answer c d m (Ok u) b = back-laid c d m b
back-answer c d m (Err e) b = b

pub laying_more : (c d after : Contents) (sizes marks : List ℕ) (i : ℕ) (first q r : Answer) → SizesTo c.lines (length c.lines) sizes → i < length marks
    → Laying c (take i marks) first d → Does d (call.Lay (get_or marks i 0) (size_at sizes (place_of mark_of (get_or marks i 0) d.lines))) q after → r ≡ result_and first q → Laying c (take (i + 1) marks) r after
laying_more c d after sizes marks i first q r all h old does e =
    let m = get_or marks i 0 in
    let n = size_for m c.lines in
    let does' : Does d (call.Lay m n) q after = subst (λ (k : ℕ). Does d (call.Lay m k) q after) (size_is c.lines d.lines sizes m all old.back.lines) does in
    let more : Laying c (take i marks ++ m ∷ []) r after = record {
      laid = record {
        answers = old.laid.answers ++ q ∷ [];
        run = λ s. subst (λ (xs : List Step). Run s c xs (old.laid.answers ++ q ∷ []) after) (sym (lays_more c (take i marks) m)) (run_more s c d after (lays c (take i marks)) old.laid.answers (Change (call.Lay m n)) q (old.laid.run s) does');
        answer = e ∙ ap (λ a. result_and a q) old.laid.answer ∙ sym (refusal_more old.laid.answers q);
      };
      back = subst (Back c) (sym does'.holds) (back-answer c d m q old.back);
    } in
    subst (λ ms. Laying c ms r after) (sym (take_more marks i 0 h)) more

all_ok : (rs : List Answer) → AllAccepted rs → first_refusal rs ≡ Ok tt
all_ok [] ok = refl
all_ok (r ∷ rs) ok = ap (λ (a : Answer). first_refusal (a ∷ rs)) ok.0 ∙ all_ok rs ok.1

-- the lays, and the settle after them
pub settled_back : (s : Setting) → Sound s → (c d after : Contents) (marks : List ℕ) (first q r : Answer) → LaidTo c marks first d → Takes s d Settle q after → r ≡ result_and first q → LaidBack s c marks r after
settled_back s sound c d after marks first q r laid takes e =
    let run = run_more s c d after (lays c marks) laid.answers Settle q (laid.run s) takes in
    let said = e ∙ ap (λ a. result_and a q) laid.answer ∙ sym (refusal_more laid.answers q) in
    record {
      answers = laid.answers ++ q ∷ [];
      run = run;
      answer = said;
      keeps = λ st is. let x = laid-back s sound c st marks (laid.answers ++ q ∷ []) c after (back_refl c) is run in (said ∙ all_ok (laid.answers ++ q ∷ []) x.accepted, x);
    }
