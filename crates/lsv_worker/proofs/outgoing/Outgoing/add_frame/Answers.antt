use Rattle.lsv_msg.specs.Messages.{server_bytes}
use Rattle.lsv_wire.specs.Frame.{frame_of}
use Rattle.lsv_worker.proofs.Speaking.{spoken}
use Rattle.lsv_worker.proofs.outgoing.Outgoing.add_frame.Goals as goal

pub returns-in-Ok-clause-goes : goal.returns-in-Ok-clause-goes
returns-in-Ok-clause-goes c = λ output answers h. spoken c.args.self.now c.put_server.new.out output answers (frame_of (server_bytes c.args.message.now)) c.requires c.in-Ok.ensures.ok h
