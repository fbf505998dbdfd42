use Rattle.lsv_upstream.proofs.Storable.{exit_timed, head_timed}
use Rattle.lsv_upstream.proofs.laws.what_is_replayed_is_storable.Goals as goal

pub returns : goal.returns
returns c = λ image n log head exit replays is read. record {
  valid = replays.is.valid;
  in_time = replays.is.in_time;
  begun = head_timed log.head head is;
  ended = λ e some. let (text, reads) = read e some in exit_timed text e reads;
}
