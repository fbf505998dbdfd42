-- Each log is added to those before it, or is the reason why there is no sum.
use Rattle.std.proofs.Common.{◌≡◌, ◌∙◌, ◌+◌, ◌++◌, ◌<◌, ◌∷◌, [], ℕ, List, Some, take, length, arith, sym, ap, subst}
use Rattle.std.specs.List.{Contains}
use Rattle.std.proofs.lemmas.List.{take_more}
use Rattle.std.proofs.lemmas.List.Elements.{Contains-get_or}
use Rattle.lsv_disk.specs.View.{DiskView}
use Rattle.lsv_gen.specs.Summary.{totals_of}
use Rattle.lsv_iolog.specs.declared.fault.ViewFault.TheVariants as views
use Rattle.lsv_iolog.specs.Recovered.{Replays}
use Rattle.lsv_iolog.proofs.Viewing.{err_of}
use Rattle.lsv_record.specs.Points.{Stored}
use Rattle.lsv_load.specs.Faults.{HasReplayCause}
use Rattle.lsv_load.specs.InnerSums.{IsSumming}
use Rattle.lsv_load.proofs.Summing.{ok_holds, replay_fails, summing_goes_on}
use Rattle.lsv_load.proofs.replay.sum_up.Goals as goal

pub returns-in-Err-clause-cause : goal.returns-in-Err-clause-cause
returns-in-Err-clause-cause g c =
    let old : DiskView = g.D.Disk.view c.args.disk.now in
    let now : DiskView = g.D.Disk.view c.loop-number.disk in
    let later : DiskView = g.D.Disk.view c.add_log.new.disk in
    let within : c.loop-number.number-index < length c.args.numbers.now = omega arith in
    let one_of : Contains c.args.numbers.now c.number-item.result = subst (Contains c.args.numbers.now) (sym c.number-item.is) (Contains-get_or c.args.numbers.now c.loop-number.number-index c.number-item.result within) in
    subst (HasReplayCause g.D.Disk.tells c.args.numbers.now old later) (sym c.fault_of.ensures)
    (replay_fails g.D.Disk.tells c.args.numbers.now c.number-item.result old now later c.in-Err.fault one_of c.loop-number.invariant.disk (λ told. c.add_log.ensures.reads told) (λ told. c.in-Err.ensures.unread told)
    (λ at. c.in-Err.ensures.cause.risen (err_of c.in-Err.fault views.Disk at)))

pub loop-number-preserved : goal.loop-number-preserved
loop-number-preserved g c =
    let old : DiskView = g.D.Disk.view c.args.disk.now in
    let now : DiskView = g.D.Disk.view c.loop-number.disk in
    let later : DiskView = g.D.Disk.view c.add_log.new.disk in
    let within : c.loop-number.number-index < length c.args.numbers.now = omega arith in
    let more : take (c.loop-number.number-index + 1) c.args.numbers.now ≡ take c.loop-number.number-index c.args.numbers.now ++ c.number-item.result ∷ [] =
    take_more c.args.numbers.now c.loop-number.number-index c.number-item.result within ∙ ap (λ (n : ℕ). take c.loop-number.number-index c.args.numbers.now ++ n ∷ []) (sym c.number-item.is) in
    subst (λ (numbers : List ℕ). IsSumming g.D.Disk.tells numbers old later c.add_log.new.totals) (sym more)
    (summing_goes_on g.D.Disk.tells (take c.loop-number.number-index c.args.numbers.now) c.number-item.result old now later c.loop-number.totals c.add_log.new.totals c.loop-number.invariant (λ told. c.add_log.ensures.reads told) c.add_log.ensures.cause.monotone
    (λ told. ok_holds c.add_log.result
    ((stored : List Stored) → c.loop-number.totals ≡ totals_of stored → (log : Stored) × Replays now.reads c.number-item.result (Some log) × (c.add_log.new.totals ≡ totals_of (stored ++ log ∷ []))) c.in_default.not-Err (c.add_log.ensures.added told)))
