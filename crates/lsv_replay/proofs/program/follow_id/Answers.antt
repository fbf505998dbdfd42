-- What the log's following puts.
use Rattle.std.proofs.Common.{◌≡◌, ◌∙◌, ℕ, List, [], Option, Some, None, ap, append-nil, refl, subst, sym}
use Rattle.lsv_base.specs.LogNo.{log_no_in}
use Rattle.lsv_replay_args.specs.Asked.{manner_in}
use Rattle.lsv_replay_args.specs.Request.{Follow}
use Rattle.lsv_replay.specs.Replay.{FollowsNumber}
use Rattle.lsv_replay.specs.Tasks.{IsOfTask}
use Rattle.lsv_replay.specs.declared.status.ReplayStatus.{ReplayStatus}
use Rattle.lsv_replay.specs.declared.status.ReplayStatus.TheVariants.{Absent}
use Rattle.lsv_replay.proofs.Replayed.{beside_none, follow_status, noted_none}
use Rattle.lsv_replay.proofs.program.follow_id.Goals as goal

pub returns-in-Some-clause-follows : goal.returns-in-Some-clause-follows
returns-in-Some-clause-follows g c told =
    let puts = c.follow_log-answer.ensures.followed told in
    let number : Some c.in-Some.number ≡ log_no_in c.args.id.now = c.in-Some.ensures.computed ∙ ap (λ (text : List ℕ). log_no_in text) c.as_slice.ensures in (
      puts.0,
      puts.1,
      puts.2,
      puts.3,
      subst (λ (n : Option ℕ). FollowsNumber (manner_in c.args.options.now) n (g.O.Others.later c.args.others.now (g.D.Disk.view c.args.disk.now).reads) puts.1 c.of_following.result puts.0) number
          (c.args.options.now, refl, (c.follow_log-answer.result, c.of_following.ensures, puts.4)),
    )

pub returns-in-Some-clause-status : goal.returns-in-Some-clause-status
returns-in-Some-clause-status g c =
    let number : log_no_in c.args.id.now ≡ Some c.in-Some.number = sym (c.in-Some.ensures.computed ∙ ap (λ (text : List ℕ). log_no_in text) c.as_slice.ensures) in
    subst (λ (status : ReplayStatus). IsOfTask (Follow [] (manner_in c.args.options.now) c.args.id.now) status) (sym c.of_following.ensures)
    (follow_status [] (manner_in c.args.options.now) c.args.id.now c.in-Some.number c.follow_log-answer.result number)

pub returns-in-None-clause-beside : goal.returns-in-None-clause-beside
returns-in-None-clause-beside g c told =
    beside_none (g.O.Others.later c.args.others.now (g.D.Disk.view c.args.disk.now).reads) (g.D.Disk.view c.args.disk.now) (g.met.O.Others.none c.args.others.now (g.D.Disk.view c.args.disk.now).reads)

pub returns-in-None-clause-follows : goal.returns-in-None-clause-follows
returns-in-None-clause-follows g c told =
    let none : None ≡ log_no_in c.args.id.now = c.in-None.ensures.computed ∙ ap (λ (text : List ℕ). log_no_in text) c.as_slice.ensures in (
      [],
      [],
      λ told_too. sym (append-nil (g.S.Screen.shown c.args.screen.now)),
      noted_none g.O.Others.notes g.S.Screen.tells (g.O.Others.noted c.args.others.now) (g.S.Screen.shown c.args.screen.now),
      subst (λ (n : Option ℕ). FollowsNumber (manner_in c.args.options.now) n (g.O.Others.later c.args.others.now (g.D.Disk.view c.args.disk.now).reads) [] Absent []) none (refl, refl),
    )
