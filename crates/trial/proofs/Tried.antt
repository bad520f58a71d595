-- What a trial answers, and what it makes of the lines, said by the place where it lays its size.
use Rattle.std.proofs.Common.{◌≡◌, ℕ, ◌<◌, ◌≤◌, Bool, true, cond, leb, List, [], ◌∷◌, is_some, Some, None, Ok, Err, Option, Result, sym, ap, ◌∙◌, subst, le-leb}
use borrow.Author.Tests.{lt-leb}
use Rattle.std.specs.Result.{result_map_both}
use Rattle.register.specs.Keys.{place_of, changed}
use Rattle.register.proofs.Orders.{found}
use Rattle.terms.specs.declared.ground.Ground.TheVariants.{MarkUnknown, SizeOverLimit}
use Rattle.terms.specs.declared.refusal.Refusal.{Refusal}
use Rattle.terms.specs.Questions.{Question, ◌else◌, first_no, all_yes, refusal_of, refused_at}
use Rattle.design.specs.Contents.{Contents, with_lines}
use Rattle.design.specs.Lines.{mark_of, laid_as, lay_questions, no_line}
use Rattle.design.proofs.Places.{there_is}
use Rattle.trial.specs.Trials.{trial_answer, tried, lay_at, laid_at, MayLay}

module _ (c : Contents) (m n : ℕ) where
  -- the two questions of a trial, by the place of the line and by the limit
  abbrev asked : Option ℕ → Bool → List Question
  asked o b = is_some o else MarkUnknown ∷ b else SizeOverLimit ∷ []

  by_place : (o : Option ℕ) → place_of mark_of m c.lines ≡ o → lay_questions c.lines m n ≡ asked o (leb n 60000)
  by_place o e = ap (λ t. t else MarkUnknown ∷ leb n 60000 else SizeOverLimit ∷ []) (there_is m c.lines) ∙ ap (λ p. asked p (leb n 60000)) e

  pub unknown : place_of mark_of m c.lines ≡ None → trial_answer c m n ≡ Err (refusal_of MarkUnknown m)
  unknown e = ap (λ qs. refused_at m (first_no qs)) (by_place None e)

  -- a refusal of the trial
  pub refused : (e : Refusal) (r : Result ℕ Refusal) → trial_answer c m n ≡ Err e → r ≡ Err e → MayLay c m n r
  refused e r is answer = subst (MayLay c m n) (sym answer) is

  module _ (p : ℕ) (e : place_of mark_of m c.lines ≡ Some p) where
    known : (b : Bool) → leb n 60000 ≡ b → lay_questions c.lines m n ≡ asked (Some p) b
    known b is = by_place (Some p) e ∙ ap (asked (Some p)) is

    pub too_large : 60000 < n → trial_answer c m n ≡ Err (refusal_of SizeOverLimit m)
    too_large h = ap (λ qs. refused_at m (first_no qs)) (known _ (lt-leb n 60000 h))

    begins : n ≤ 60000 → trial_answer c m n ≡ Ok tt
    begins h = ap (λ qs. refused_at m (first_no qs)) (known true (le-leb n 60000 h))

    pub lines-tried : n ≤ 60000 → with_lines c (lay_at c.lines p n) ≡ tried c m n
    lines-tried h =
        ap (λ b. with_lines c (cond b (laid_at c.lines p n) c.lines)) (le-leb n 60000 h)
        ∙ ap (with_lines c) ((found mark_of m c.lines p e).put (laid_as n) no_line)
        ∙ sym (ap (λ qs. cond (all_yes qs) (with_lines c (changed mark_of m (laid_as n) c.lines)) c) (known true (le-leb n 60000 h)))

  -- whether a trial may begin, by where it would lay its size
  pub may_begin : (r : Result ℕ Refusal) → MayLay c m n r → result_map_both (λ _. tt) (λ e. e) r ≡ trial_answer c m n
  may_begin (Ok p) may = sym (begins p may.0 may.1)
  may_begin (Err e) is = sym is
