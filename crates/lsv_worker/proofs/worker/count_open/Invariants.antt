use Rattle.std.proofs.Common.{◌≡◌, ◌≤◌, length, take}
use Rattle.lsv_worker.specs.Worker.{open_in}
use Rattle.lsv_worker.proofs.worker.count_open.Given as goal

abbrev pub invariant-loop-link : goal.invariant-loop-link
invariant-loop-link l = record {
  few : l.count ≤ l.link-index;
  are : l.count ≡ length (open_in (take l.link-index l.links));
}
