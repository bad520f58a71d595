-- Lines with the sizes of a schedule.
use Rattle.std.proofs.Common.{◌≡◌, ℕ, suc, ◌<◌, List, [], ◌∷◌, map, length, get_or, sym, refl, ap, ◌∙◌}
use Rattle.register.specs.Keys.{each_changed}
use Rattle.register.proofs.Changed.{length-changed, changed_at, changed_map}
use Rattle.design.specs.declared.line.Line.{Line}
use Rattle.design.specs.Lines.{no_line, unscheduled, scheduled_as, scheduled_by}

pub each_scheduled : (f : ℕ → ℕ) (ls : List Line) → each_changed (λ i. scheduled_as (f i)) ls ≡ scheduled_by f ls
each_scheduled f [] = refl
each_scheduled f (l ∷ ls) = ap (λ y. scheduled_as (f 0) l ∷ y) (each_scheduled (λ i. f (suc i)) ls)

-- no size is one of 0 for each line
pub none_scheduled : (ls : List Line) → scheduled_by (λ _. 0) ls ≡ map unscheduled ls
none_scheduled ls = sym (each_scheduled (λ _. 0) ls) ∙ changed_map unscheduled ls

-- what a line says besides its scheduled size
pub map_scheduled : (g : Line → Line) → ((n : ℕ) (l : Line) → g (scheduled_as n l) ≡ g l) → (f : ℕ → ℕ) (ls : List Line) → map g (scheduled_by f ls) ≡ map g ls
map_scheduled g same f [] = refl
map_scheduled g same f (l ∷ ls) = λ i. same (f 0) l i ∷ map_scheduled g same (λ k. f (suc k)) ls i

module _ (f : ℕ → ℕ) (ls : List Line) where
  pub length_scheduled : length (scheduled_by f ls) ≡ length ls
  length_scheduled = ap length (sym (each_scheduled f ls)) ∙ length-changed (λ i. scheduled_as (f i)) ls

  pub scheduled_at : (i : ℕ) → i < length ls → get_or (scheduled_by f ls) i no_line ≡ scheduled_as (f i) (get_or ls i no_line)
  scheduled_at i h = ap (λ l. get_or l i no_line) (sym (each_scheduled f ls)) ∙ changed_at (λ k. scheduled_as (f k)) ls i no_line h
