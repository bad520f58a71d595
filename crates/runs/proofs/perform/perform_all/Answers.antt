use Rattle.std.proofs.Common.{rules}
use Rattle.runs.proofs.Taking.{taken_from_the_calls}
use Rattle.runs.proofs.Fixing.{calls_fix_the_run}
use Rattle.runs.proofs.Settling.{settle_writes_the_least, laying_more_lowers_nothing}
use Rattle.runs.proofs.Relaying.{a_settled_sheet_has_the_least, laying_back_changes_nothing}
use Rattle.runs.proofs.perform.perform_all.Goals as goal

pub returns : goal.returns
returns g c = record {
  count = search rules;
  run = search rules;
  rest = search rules;
  book = search rules;
  plates = search rules;
  stiffeners = search rules;
  taken = taken_from_the_calls;
  fixed = calls_fix_the_run;
  least = settle_writes_the_least;
  settled = a_settled_sheet_has_the_least;
  raises = laying_more_lowers_nothing;
  keeps = laying_back_changes_nothing;
}
