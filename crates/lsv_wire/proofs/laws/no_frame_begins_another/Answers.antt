use Rattle.lsv_wire.proofs.Streams.{same_message, whole_frame}
use Rattle.lsv_wire.proofs.laws.no_frame_begins_another.Goals as goal

pub returns : goal.returns
returns c = record { message = same_message; frame = whole_frame }
