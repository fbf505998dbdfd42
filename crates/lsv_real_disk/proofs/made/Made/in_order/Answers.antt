use Rattle.lsv_real_disk.proofs.MadeLemmas.{order_permutes}
use Rattle.lsv_real_disk.proofs.made.Made.in_order.Goals as goal

pub returns-in_ok-moved-in-Some : goal.returns-in_ok-moved-in-Some
returns-in_ok-moved-in-Some c = order_permutes _ _ _ _ _ c.in_ok-order.ensures.items c.in_ok-extend_from_slice.ensures.items c.reverse.ensures.permutation c.in_ok-moved-in-Some.ensures
