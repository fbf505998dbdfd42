use Rattle.std.proofs.Common.{◌==◌, rules, arith}
use Rattle.lsv_worker.specs.Worker.{owed_if}
use Rattle.lsv_worker.proofs.Notes.{map_at}
use Rattle.lsv_worker.proofs.worker.mark.Goals as goal

pub returns : goal.returns
returns c = map_at (λ link. owed_if (link.number == c.args.number) link) c.args.links.now c.loop-link.links (search rules) (λ i d within. c.loop-link.invariant.done i d (omega arith))
