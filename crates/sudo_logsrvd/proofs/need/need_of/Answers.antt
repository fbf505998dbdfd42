use Rattle.std.proofs.Common.{subst}
use Rattle.lsv_args.specs.Reading.{HasRanges, IsInRange, asked_in, options_in}
use Rattle.lsv_args.specs.declared.command.Command.{Command}
use Rattle.sudo_logsrvd.proofs.need.need_of.Goals as goal

-- the words of `serve` ask for as many workers as may be
pub returns-in-Ok-Serve-clause-few : goal.returns-in-Ok-Serve-clause-few
returns-in-Ok-Serve-clause-few c =
    let ranges : HasRanges (options_in c.in-Ok-Serve.opts) = subst (λ (k : Command). IsInRange (asked_in k)) c.in-Ok-Serve.field-0-is c.in-Ok-Serve.ensures.in_range in
    (ranges.least_workers, ranges.most_workers)
