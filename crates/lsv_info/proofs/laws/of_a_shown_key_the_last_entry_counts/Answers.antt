use Rattle.lsv_info.proofs.Counting.{info_order, info_last, seen_order, seen_last}
use Rattle.lsv_info.proofs.laws.of_a_shown_key_the_last_entry_counts.Goals as goal

pub returns : goal.returns
returns c = record { order = info_order; members = info_last; order_read = seen_order; read = seen_last }
