use Rattle.std.proofs.Common.{refl}
use Rattle.clauses.specs.Least.{least_up_to, least_from}
use Rattle.worked.proofs.worked_sizes.Goals as goal

pub returns : goal.returns
unfolding least_up_to least_from
returns c = record {
  panel_20 = λ h e. refl;
  panel_21 = λ h e. refl;
  panel_30 = λ h e. refl;
  panel_8 = λ h e. refl;
  square_aspect = λ e. refl;
  square = λ h e. refl;
  longitudinal = λ h e. refl;
  centre_keelson = λ h e. refl;
  centre_keelson_engine = λ h e. refl;
  side_keelson = λ h e. refl;
  short_floor = λ h e. refl;
  low_floor = λ h e. refl;
  high_floor = λ h e. refl;
}
