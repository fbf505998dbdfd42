use Rattle.std.proofs.Common.{◌≢◌, ◌∙◌, [], length, arith, refl, sym}
use Rattle.lsv_port.specs.Memory.Value.{port_state}
use Rattle.lsv_load.proofs.Seated.{greeted_more, no_bytes}
use Rattle.lsv_load.proofs.run.are_greeted.Goals as goal

pub loop-before-init : goal.loop-before-init
loop-before-init c = λ i first last. absurd (omega (arith, first, last))

pub loop-before-preserved : goal.loop-before-preserved
loop-before-preserved c = greeted_more (λ i. ((port_state c.args.port.now).link i).output ≢ []) c.loop-before.before c.loop-before.invariant
    (λ none. no_bytes (length c.output.result.now) c.output.result.now refl (sym c.is_empty.ensures ∙ c.if-is_empty.false) (c.output.ensures ∙ none))
