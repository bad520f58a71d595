-- What settle answers, and what the sheet holds after it.
use Rattle.std.specs.Prelude.{◌≡◌, Ok, Err, Result}
use Rattle.terms.specs.declared.ground.Ground.TheVariants.{NoLawfulSchedule}
use Rattle.terms.specs.Questions.{refusal_of}
use Rattle.terms.specs.declared.hull.Hull.{Hull}
use Rattle.terms.specs.declared.refusal.Refusal.{Refusal}
use Rattle.design.specs.Contents.{Contents, settled_at}
use Rattle.design.specs.Schedules.{job, Schedule, Least, NoneLawful}
use Rattle.design.specs.Settings.{Setting}
use Rattle.design.specs.Verdicts.{ready_hull}
use Rattle.sheet.specs.Calls.{Answer}

-- refused for want of a lawful schedule
abbrev pub none_lawful_at : Refusal
none_lawful_at = refusal_of NoLawfulSchedule 0

-- by the answer to the questions that are put before: refused by them; or the least lawful schedule
-- is written; or there is none, and nothing changes
abbrev pub SettlesOn : Setting → Contents → Result Hull Refusal → Answer → Contents → Type 0
SettlesOn s c (Err e) r after = (r ≡ Err e) × (after ≡ c)
SettlesOn s c (Ok h) (Ok u) after = (sizes : Schedule) × Least (job s h c.lines) sizes × (after ≡ settled_at c sizes)
SettlesOn s c (Ok h) (Err e) after = (e ≡ none_lawful_at) × NoneLawful (job s h c.lines) × (after ≡ c)

-- a sheet that holds c answers r to settle, by a design basis, and holds `after` then
abbrev pub Settles : Setting → Contents → Answer → Contents → Type 0
Settles s c r after = SettlesOn s c (ready_hull s c.hull c.lines) r after
