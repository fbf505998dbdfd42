use Rattle.std.proofs.Common.{◌≢◌, ◌<◌, ℕ, get_or}
use Rattle.lsv_worker.specs.declared.link.Link.{Link}
use Rattle.lsv_worker.proofs.worker.place_of.Given as goal

abbrev pub invariant-loop-place : goal.invariant-loop-place
invariant-loop-place l = (i : ℕ) (d : Link) → i < l.place → (get_or l.links i d).conn.seq ≢ l.seq
