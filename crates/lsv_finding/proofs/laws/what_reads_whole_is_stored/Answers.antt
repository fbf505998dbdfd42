use Rattle.std.proofs.Common.{refl}
use Rattle.lsv_finding.proofs.Stored.{exit_in, log_in, whole_is_stored}
use Rattle.lsv_finding.proofs.laws.what_reads_whole_is_stored.Goals as goal

pub returns : goal.returns
returns c = λ image n body head records opened all sound fits.
    let exit = exit_in n image body head opened fits in
    (log_in n image body head opened records exit.0, refl, whole_is_stored n image body head opened records exit.0 all sound exit.1)
