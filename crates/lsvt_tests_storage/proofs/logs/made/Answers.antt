use Rattle.std.proofs.Common.{refl}
use Rattle.lsv_info.specs.Layout.{head_text}
use Rattle.lsv_iolog.specs.Value.{LogValue, bare, made, with_record}
use Rattle.lsv_iolog.proofs.Representing.{stages_represents}
use Rattle.lsvt_tests_storage.proofs.logs.made.Goals as goal

-- the log that was made, with the record staged
pub flush-requires : goal.flush-requires
flush-requires g c = record {
  represents = λ tells whole.
      let value : LogValue = bare (made (head_text c.args.head.now)) in
      (with_record value c.args.r.now, stages_represents c.in_ok-log.log c.append.new.self value c.args.r.now (g.D.Disk.view c.create.new.disk) c.in_ok-append.ensures.staged c.requires.valid refl (c.in_ok-log.ensures.represents tells));
}
