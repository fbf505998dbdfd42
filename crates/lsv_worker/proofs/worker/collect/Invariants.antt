use Rattle.std.proofs.Common.{◌≢◌, ◌<◌, ◌≤◌, ℕ, get_or}
use Rattle.std.specs.List.{Contains}
use Rattle.std.specs.Vec.{vec_capacity, vec_len}
use Rattle.lsv_worker.specs.Worker.{IsBlocked}
use Rattle.lsv_worker.specs.declared.link.Link.{Link}
use Rattle.lsv_worker.specs.declared.link.Blocked.TheVariants as blocks
use Rattle.lsv_worker.proofs.worker.collect.Given as goal

abbrev pub invariant-loop-link : goal.invariant-loop-link
invariant-loop-link l = record {
  held : (i : ℕ) (d : Link) → i < l.link-index → (get_or l.links i d).blocked ≢ blocks.No → Contains l.held.items (get_or l.links i d).number;
  blocked_by : (m : ℕ) → Contains l.held.items m → IsBlocked l.links m;
  room : vec_len l.held ≤ l.link-index;
  capacity : vec_capacity l.fn.held ≤ vec_capacity l.held;
}
