use Rattle.std.proofs.Common.{◌∙◌, sym, arith}
use Rattle.lsv_conf.proofs.Ports.{port_not_text, port_parsed}
use Rattle.lsv_conf.proofs.address.is_port.Goals as goal

pub returns-in_default : goal.returns-in_default
returns-in_default c = sym (port_not_text c.args.digits.now c.in_default.ensures.cases.0)

pub returns : goal.returns
returns c =
    let arm = c.in-49-to-57 in
    c.is_ok.ensures.value ∙ port_parsed c.args.digits.now c.parse.result (omega arith) (omega arith) (omega arith) (rw c.in-Ok.ensures.cases.0 at c.parse.ensures.value.0)
