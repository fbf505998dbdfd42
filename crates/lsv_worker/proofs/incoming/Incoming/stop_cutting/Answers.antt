use Rattle.std.proofs.Common.{refl}
use Rattle.lsv_worker.specs.declared.incoming.Incoming.{Incoming}
use Rattle.lsv_worker.specs.declared.incoming.Stage.TheVariants.{OutOfMemory}
use Rattle.lsv_worker.proofs.Cutting.{rest_free, stage_out_of_memory}
use Rattle.lsv_worker.proofs.incoming.Incoming.stop_cutting.Goals as goal

pub returns-clause-goes : goal.returns-clause-goes
returns-clause-goes c = λ rest read put marks h.
    let old : Incoming = record c.args.self.now { rest = rest } in
    rest_free (record old { route = c.settle.new.self; stage = OutOfMemory }) c.args.self.now.rest refl read put marks
    (stage_out_of_memory old c.settle.new.self c.settle.ensures.none c.settle.ensures.some c.requires read put marks h)
