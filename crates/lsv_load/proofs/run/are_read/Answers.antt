use Rattle.std.proofs.Common.{◌≡◌, ◌∙◌, arith, refl, sym}
use Rattle.lsv_gen.specs.Load.{conversation}
use Rattle.lsv_port.specs.Memory.Value.{port_state}
use Rattle.lsv_load.proofs.Seated.{greeted_more}
use Rattle.lsv_load.proofs.run.are_read.Goals as goal

pub loop-before-init : goal.loop-before-init
loop-before-init c = λ i first last. absurd (omega (arith, first, last))

pub loop-before-preserved : goal.loop-before-preserved
loop-before-preserved c =
    greeted_more (λ i. ((port_state c.args.port.now).link i).input ≡ conversation i) c.loop-before.before c.loop-before.invariant
    (sym c.input.ensures ∙ c.if-not-are_same.ensures refl ∙ c.as_slice.ensures ∙ c.in_ok-sent.ensures)
