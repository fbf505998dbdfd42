use Rattle.std.proofs.Common.{◌∙◌, ap, sym, arith}
use Rattle.serde_json.specs.Errors.{IsMemory}
use Rattle.lsv_tally.proofs.Json.{json_found, json_refused}
use Rattle.lsv_tally.specs.Events.{is_event_in}
use Rattle.lsv_tally.proofs.line.reads_as_json.Goals as goal

pub returns-in-Ok : goal.returns-in-Ok
returns-in-Ok c = c.is_event.ensures ∙ ap is_event_in (sym (json_found c.args.line.now _ c.in-Ok.ensures.ok.0 c.in-Ok.ensures.ok.1))

pub returns-in-Err-2 : goal.returns-in-Err-2
returns-in-Err-2 c =
    let other : IsMemory c.in-Err-2.field-0 → ⊥ = grind arith in
    ap is_event_in (sym (json_refused c.args.line.now (c.in-Err-2.ensures.err other)))
