use Rattle.std.proofs.Common.{◌∙◌}
use Rattle.lsv_args.proofs.Parsed.{number_parsed}
use Rattle.lsv_args.proofs.read.number_in.Goals as goal

pub returns : goal.returns
returns c = c.ok.ensures.value ∙ number_parsed c.args.text.now c.parse.result c.parse.ensures.value.0
