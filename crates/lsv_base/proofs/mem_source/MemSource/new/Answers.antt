use Rattle.std.proofs.Common.{ap, ◌∙◌}
use Rattle.std.specs.List.{concat}
use Rattle.lsv_base.proofs.Filled.{concat-from_filled}
use Rattle.lsv_base.proofs.mem_source.MemSource.new.Goals as goal

pub returns-clause-rest : goal.returns-clause-rest
returns-clause-rest c = ap concat c.new.ensures ∙ concat-from_filled c.args.pieces
