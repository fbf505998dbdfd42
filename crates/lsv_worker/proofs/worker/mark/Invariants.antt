use Rattle.std.proofs.Common.{◌≡◌, ◌<◌, ◌≤◌, ◌==◌, ℕ, get_or}
use Rattle.lsv_worker.specs.declared.link.Link.{Link}
use Rattle.lsv_worker.specs.Worker.{owed_if}
use Rattle.lsv_worker.proofs.worker.mark.Given as goal

abbrev pub invariant-loop-link : goal.invariant-loop-link
invariant-loop-link l = record {
  done : (i : ℕ) (d : Link) → i < l.link-index → get_or l.links i d ≡ owed_if ((get_or l.initial.links i d).number == l.number) (get_or l.initial.links i d);
  rest : (i : ℕ) (d : Link) → l.link-index ≤ i → get_or l.links i d ≡ get_or l.initial.links i d;
}
