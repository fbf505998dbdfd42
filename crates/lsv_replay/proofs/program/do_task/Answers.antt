-- Only a log that is followed is read beside others.
use Rattle.std.proofs.Common.{[], sym, subst}
use Rattle.lsv_disk.specs.View.{Image}
use Rattle.lsv_base.specs.LogNo.{log_no_in}
use Rattle.lsv_replay_args.specs.Asked.{manner_in, task_in}
use Rattle.lsv_replay_args.specs.declared.request.Task.{Task}
use Rattle.lsv_replay.specs.Replay.{Does, ListsWords, PlaysNumber}
use Rattle.lsv_replay.proofs.Replayed.{noted_none, reads_beside}
use Rattle.lsv_replay.proofs.program.do_task.Goals as goal

pub returns-in-Play-clause-does : goal.returns-in-Play-clause-does
returns-in-Play-clause-does g c told =
    let puts = c.play_id.ensures.plays told in
    let first = g.met.O.Others.none c.args.others.now (g.D.Disk.view c.args.disk.now).reads in (
      puts.0,
      [],
      puts.1,
      noted_none g.O.Others.notes g.S.Screen.tells (g.O.Others.noted c.args.others.now) (g.S.Screen.shown c.args.screen.now),
      subst (λ (t : Task). Does (task_in [] t) (g.O.Others.later c.args.others.now (g.D.Disk.view c.args.disk.now).reads) [] c.play_id.result puts.0) (sym c.in-Play.is)
          (subst (λ (image : Image). PlaysNumber (manner_in c.in-Play.options) (log_no_in c.in-Play.id) image c.play_id.result puts.0) (sym first) puts.2),
    )

pub returns-in-Play-clause-beside : goal.returns-in-Play-clause-beside
returns-in-Play-clause-beside g c told =
    reads_beside (g.O.Others.later c.args.others.now (g.D.Disk.view c.args.disk.now).reads) (g.D.Disk.view c.args.disk.now) (g.D.Disk.view c.play_id.new.disk) (g.met.O.Others.none c.args.others.now (g.D.Disk.view c.args.disk.now).reads) (c.play_id.ensures.reads told)

pub returns-in-List-clause-does : goal.returns-in-List-clause-does
returns-in-List-clause-does g c told =
    let puts = c.list_searched.ensures.lists told in
    let first = g.met.O.Others.none c.args.others.now (g.D.Disk.view c.args.disk.now).reads in (
      puts.0,
      [],
      puts.1,
      noted_none g.O.Others.notes g.S.Screen.tells (g.O.Others.noted c.args.others.now) (g.S.Screen.shown c.args.screen.now),
      subst (λ (t : Task). Does (task_in [] t) (g.O.Others.later c.args.others.now (g.D.Disk.view c.args.disk.now).reads) [] c.list_searched.result puts.0) (sym c.in-List.is)
          (subst (λ (image : Image). ListsWords c.in-List.words image c.list_searched.result puts.0) (sym first) puts.2),
    )

pub returns-in-List-clause-beside : goal.returns-in-List-clause-beside
returns-in-List-clause-beside g c told =
    reads_beside (g.O.Others.later c.args.others.now (g.D.Disk.view c.args.disk.now).reads) (g.D.Disk.view c.args.disk.now) (g.D.Disk.view c.list_searched.new.disk) (g.met.O.Others.none c.args.others.now (g.D.Disk.view c.args.disk.now).reads) (c.list_searched.ensures.reads told)
