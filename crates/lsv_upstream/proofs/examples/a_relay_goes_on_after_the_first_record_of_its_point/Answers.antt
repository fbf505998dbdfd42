use Rattle.std.proofs.Common.{refl}
use Rattle.lsv_upstream.proofs.examples.a_relay_goes_on_after_the_first_record_of_its_point.Goals as goal

pub returns : goal.returns
returns c = record { kept = refl; anew = refl }
