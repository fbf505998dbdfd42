use Rattle.std.proofs.Common.{◌∙◌}
use Rattle.lsv_bundle.proofs.Laws.{staging_represents}
use Rattle.lsvt_tests_storage.proofs.bundle.read_back.Goals as goal

pub flush-requires : goal.flush-requires
flush-requires g c = record {
  represents = λ told whole. staging_represents c.in_ok-bundle.bundle c.unstage.new.self (g.D.Disk.view c.create.new.disk)
      (c.unstage.ensures.value.same ∙ c.in_ok-stage-2.ensures.value.same ∙ c.in_ok-stage.ensures.value.same) (c.in_ok-bundle.ensures.represents told);
}
