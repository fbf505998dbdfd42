use Rattle.std.proofs.Common.{sym}
use Rattle.lsv_wire.proofs.Streams.{framed-more, framed-piece}
use Rattle.lsv_wire.proofs.laws.a_stream_is_read_from_the_front.Goals as goal

pub returns : goal.returns
returns c = record { message = framed-more; piece = λ messages rest piece. sym (framed-piece messages rest piece) }
