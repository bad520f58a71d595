-- A run, and one call more.
use Rattle.std.proofs.Common.{◌≡◌, ℕ, ◌+◌, ◌<◌, List, [], ◌∷◌, ◌++◌, length, get_or, take, set, sym, refl, subst}
use Rattle.std.proofs.lemmas.List.{take_more, take_more_set}
use Rattle.design.specs.Contents.{Contents}
use Rattle.design.specs.Settings.{Setting}
use Rattle.sheet.specs.Calls.{Answer}
use Rattle.runs.specs.declared.step.Step.{Step}
use Rattle.runs.specs.Runs.{Takes, Run}

pub run_more : (s : Setting) (c mid after : Contents) (xs : List Step) (rs : List Answer) (x : Step) (r : Answer)
    → Run s c xs rs mid → Takes s mid x r after → Run s c (xs ++ x ∷ []) (rs ++ r ∷ []) after
run_more s c mid after [] [] x r e d = (after, subst (λ (m : Contents). Takes s m x r after) e d, refl)
run_more s c mid after [] (q ∷ rs) x r void d = absurd void
run_more s c mid after (y ∷ xs) [] x r void d = absurd void
run_more s c mid after (y ∷ xs) (q ∷ rs) x r (m, first, rest) d = (m, first, run_more s m mid after xs rs x r rest d)

pub run_next : (s s' : Setting) → s' ≡ s → (c mid after : Contents) (xs : List Step) (rs : List Answer) (i : ℕ) (d : Step) (r : Answer) → i < length xs → i < length rs
    → Run s c (take i xs) (take i rs) mid → Takes s' mid (get_or xs i d) r after → Run s c (take (i + 1) xs) (take (i + 1) (set rs i r)) after
run_next s s' e c mid after xs rs i d r h l run takes =
    subst (λ (ys : List Step). Run s c ys (take (i + 1) (set rs i r)) after) (sym (take_more xs i d h))
    (subst (λ (qs : List Answer). Run s c (take i xs ++ get_or xs i d ∷ []) qs after) (sym (take_more_set rs i r l))
    (run_more s c mid after (take i xs) (take i rs) (get_or xs i d) r run (subst (λ (z : Setting). Takes z mid (get_or xs i d) r after) e takes)))
