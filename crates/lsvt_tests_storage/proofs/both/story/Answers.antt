use Rattle.lsv_disk.specs.Memory.Value.{view_of_disk}
use Rattle.lsv_disk.specs.declared.file.Owner.{Owner}
use Rattle.lsv_bundle.specs.Shape.{journal_of}
use Rattle.lsv_journal.specs.Last.{MayBeMade, old_file}
use Rattle.lsv_journal.proofs.Laws.{may_be_made_by}
use Rattle.lsvt_tests_storage.specs.declared.both.TheConstants.{EVENTS, RELAY}
use Rattle.lsvt_tests_storage.proofs.both.story.Goals as goal

pub script-answer-requires : goal.script-answer-requires
script-answer-requires c =
    let may : (owner : Owner) → MayBeMade 89 (journal_of owner) (view_of_disk c.in_ok-disk.disk) =
    λ (owner : Owner). may_be_made_by 89 (journal_of owner) (view_of_disk c.in_ok-disk.disk) (c.in_ok-disk.ensures.absent (journal_of owner)) (λ content left. c.in_ok-disk.ensures.durable (old_file (journal_of owner)) content left) in
    record { lines = λ told. may EVENTS; relay = λ told. may RELAY }
