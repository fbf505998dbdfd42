use Rattle.std.proofs.Common.{rules, ◌+◌, ◌≡◌, ℕ, arith}
use Rattle.lsv_real_disk.proofs.relay_disk.RelayDiskDisk.root.Goals as goal

-- neither disk counts a fault: the own one has its store, and the other is opened
pub returns-then-has_store-clause-frame : goal.returns-then-has_store-clause-frame
returns-then-has_store-clause-frame o c = record {
  untouched = λ told. absurd told;
  faults = λ f. let first = c.open_for_relay.ensures in let second = c.root.ensures.frame.faults f in omega (arith, first, second);
}
