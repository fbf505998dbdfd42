-- For private clauses: a sender that has handed out nothing.
use Rattle.std.specs.Prelude.{◌≡◌}
use Rattle.lsv_disk.specs.View.{DiskView}
use Rattle.lsv_iolog.specs.Reading.{HasCuts, IsBehind}
use Rattle.lsv_record.specs.Records.{elapsed}
use Rattle.lsv_send_args.specs.Request.{Sending}
use Rattle.lsv_send.specs.Handing.{Source}
use Rattle.lsv_send.specs.Opening.{IsNew, opening_of}
use Rattle.lsv_send.specs.Talks.{IsOf}
use Rattle.lsv_send.specs.declared.sender.Sender.{Sender}

-- of this log, over this disk
pub record IsReadyOver (source : Source) (s : Sender) (disk : DiskView) : Type 0 where
  pub is : IsOf source s
  pub behind : IsBehind s.log source.skipped disk
  pub opening : s.opening ≡ opening_of source.what source.head
  pub sent : s.sent ≡ elapsed source.skipped
  pub cuts : HasCuts source.number source.body.extra disk.reads

-- the sender has handed out nothing; and if the disk tells its content, it stands after the records that are passed over
pub record IsReady (tells : Type 0) (s : Sender) (disk : DiskView) : Type 0 where
  pub what : Sending
  pub new : IsNew what s.log.number s
  pub over : tells → (source : Source) × IsReadyOver source s disk
