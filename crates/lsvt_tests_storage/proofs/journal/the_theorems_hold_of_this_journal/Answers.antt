use Rattle.lsv_disk.specs.Memory.Value.{view_of_disk}
use Rattle.lsv_journal.specs.Last.{old_file}
use Rattle.lsv_journal.proofs.Laws.{may_be_made_by}
use Rattle.lsvt_tests_storage.specs.declared.journal.TheConstants.{SLOTS}
use Rattle.lsvt_tests_storage.proofs.journal.the_theorems_hold_of_this_journal.Goals as goal

pub script-requires : goal.script-requires
script-requires g c told =
    may_be_made_by 12 SLOTS (view_of_disk c.in_ok-disk.disk) (c.in_ok-disk.ensures.absent SLOTS) (λ content left. c.in_ok-disk.ensures.durable (old_file SLOTS) content left)
