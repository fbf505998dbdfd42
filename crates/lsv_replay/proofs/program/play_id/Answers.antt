-- What the log's playing puts.
use Rattle.std.proofs.Common.{◌≡◌, ◌∙◌, ℕ, List, [], Option, Some, ap, refl, subst, sym}
use Rattle.lsv_base.specs.LogNo.{log_no_in}
use Rattle.lsv_replay_args.specs.Asked.{manner_in}
use Rattle.lsv_replay_args.specs.Request.{Play}
use Rattle.lsv_replay.specs.Replay.{PlaysNumber}
use Rattle.lsv_replay.specs.Tasks.{IsOfTask}
use Rattle.lsv_replay.specs.declared.status.ReplayStatus.{ReplayStatus}
use Rattle.lsv_replay.proofs.Replayed.{play_status}
use Rattle.lsv_replay.proofs.program.play_id.Goals as goal

pub returns-clause-plays : goal.returns-clause-plays
returns-clause-plays g c told =
    let puts = c.play_log.ensures.played told in
    let number : Some c.in-Some.number ≡ log_no_in c.args.id.now = c.in-Some.ensures.computed ∙ ap (λ (text : List ℕ). log_no_in text) c.as_slice.ensures in (
      puts.0,
      puts.1,
      subst (λ (n : Option ℕ). PlaysNumber (manner_in c.args.options.now) n (g.D.Disk.view c.args.disk.now).reads c.of_playing.result puts.0) number
          (c.args.options.now, refl, (c.play_log.result, c.of_playing.ensures, puts.2)),
    )

pub returns-clause-status : goal.returns-clause-status
returns-clause-status g c =
    let number : log_no_in c.args.id.now ≡ Some c.in-Some.number = sym (c.in-Some.ensures.computed ∙ ap (λ (text : List ℕ). log_no_in text) c.as_slice.ensures) in
    subst (λ (status : ReplayStatus). IsOfTask (Play [] (manner_in c.args.options.now) c.args.id.now) status) (sym c.of_playing.ensures)
    (play_status [] (manner_in c.args.options.now) c.args.id.now c.in-Some.number c.play_log.result number)
