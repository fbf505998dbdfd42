use Rattle.std.proofs.Common.{◌∙◌, ◌++◌, List, take, refl, ap, append_assoc, arith}
use Rattle.lsv_play.specs.declared.screen.Item.{Item}
use Rattle.lsv_play.specs.Schedule.{play}
use Rattle.lsv_play.proofs.Parts.{on_err, part_there}
use Rattle.lsv_play.proofs.show.play.Goals as goal

pub returns-in_err-play_record-clause-part : goal.returns-in_err-play_record-clause-part
returns-in_err-play_record-clause-part g c =
    let o = c.args.o.now in
    let records = c.args.records.now in
    let i = c.loop-r.r-index in
    let one = c.in_err-play_record.ensures.part in
    on_err c.from_residual.result (
      play o (take i records) ++ one.0,
      part_there o records i c.r-item.result one.0 c.loop-r-test.true c.r-item.is one.1,
      λ told. one.2 told ∙ (ap (λ (items : List Item). items ++ one.0) (c.loop-r.invariant.shown told) ∙ append_assoc (g.S.Screen.shown c.args.screen.now) (play o (take i records)) one.0),
    )

pub returns-in_err-play_record-clause-cause : goal.returns-in_err-play_record-clause-cause
returns-in_err-play_record-clause-cause g c = record {
  monotone = omega (arith, c.loop-r.invariant.faults, c.in_err-play_record.ensures.cause.monotone);
  risen = λ failed small. omega (arith, c.loop-r.invariant.faults, c.in_err-play_record.ensures.cause.risen refl small);
}
