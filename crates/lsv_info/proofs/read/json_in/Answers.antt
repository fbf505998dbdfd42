use Rattle.std.proofs.Common.{refl, arith}
use Rattle.serde_json.specs.Errors.{IsMemory}
use Rattle.lsv_info.proofs.Reading.{json_found, json_refused}
use Rattle.lsv_info.proofs.read.json_in.Goals as goal

pub returns-in-Ok-clause-json : goal.returns-in-Ok-clause-json
returns-in-Ok-clause-json c = json_found c.args.bytes.now _ c.in-Ok.ensures.ok.0 c.in-Ok.ensures.ok.1

pub returns-in-Err-2-clause-refused : goal.returns-in-Err-2-clause-refused
returns-in-Err-2-clause-refused c =
    let other : IsMemory c.in-Err-2.field-0 → ⊥ = grind arith in
    λ _. (refl, json_refused c.args.bytes.now (c.in-Err-2.ensures.err other))
