-- What a job means whose design basis is lent.
use Rattle.std.specs.Prelude.{◌≡◌, ℕ, List}
use Rattle.design.specs.declared.job.Job as lent
use Rattle.design.specs.Schedules.{Job, job}
use Rattle.design.specs.Settings.{Setting}

-- the job, where this is what a basis means
abbrev pub job_of : {D : Type 0} → (D → Setting) → lent.Job D → Job
job_of setting j = job (setting j.basis.now) j.hull j.lines.now

-- the same job, and the basis is borrowed from the same lender and has the same parts. A relation of its own beside that of a basis that is lent, since a job has the loan
-- in it; it stands in the contract of each method that a job is lent to, since no type says what a call leaves of what it is lent.
pub record Kept {D : Type 0} (setting : D → Setting) (lenders : D → List ℕ) (old new : lent.Job D) : Type 0 where
  pub job : job_of setting new ≡ job_of setting old
  pub lent : lenders new.basis.now ≡ lenders old.basis.now
  pub name : new.basis.ghost_name ≡ old.basis.ghost_name
