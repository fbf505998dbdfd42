use Rattle.std.proofs.Common.{◌≡◌, ◌<◌, ℕ, true, get_or}
use Rattle.lsv_worker.specs.Incoming.{has_left}
use Rattle.lsv_worker.specs.declared.link.Link.{Link}
use Rattle.lsv_worker.proofs.worker.have_left.Given as goal

abbrev pub invariant-loop-link : goal.invariant-loop-link
invariant-loop-link l = (i : ℕ) (d : Link) → i < l.link-index → ((get_or l.links i d).shut ≡ true) × (has_left (get_or l.links i d).incoming.stage ≡ true)
