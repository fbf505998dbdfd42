use Rattle.std.proofs.Common.{◌∙◌, arith}
use Rattle.lsv_replay_args.proofs.Decimals.{number_not_text, number_parsed}
use Rattle.lsv_replay_args.proofs.decimal.digits_in.Goals as goal

pub returns-in_default : goal.returns-in_default
returns-in_default c = number_not_text c.args.digits.now c.in_default.ensures.cases.0

pub returns : goal.returns
returns c =
    let arm = c.in-48-to-57 in
    c.ok.ensures.value ∙ number_parsed c.args.digits.now c.parse.result (omega arith) (omega arith) (omega arith) (rw c.in-Ok.ensures.cases.0 at c.parse.ensures.value.0)
