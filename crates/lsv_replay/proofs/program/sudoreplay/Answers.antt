-- The words are read, and then what they ask for is done.
use Rattle.std.proofs.Common.{ℕ, List, [], inl, inr, append-nil, refl, subst, sym}
use Rattle.std.specs.String.{string_bytes}
use Rattle.lsv_disk.specs.View.{DiskView, Image}
use Rattle.lsv_replay_args.specs.Asked.{asked_in, task_in}
use Rattle.lsv_replay.specs.Replay.{Does, IsUsage}
use Rattle.lsv_replay.proofs.Replayed.{beside_nothing, does_anywhere, noted_none, not_to_follow, read_only, root_beside, rooted_image, words_of_task}
use Rattle.lsv_replay.proofs.program.sudoreplay.Goals as goal

pub returns-in-Err-Usage-clause-words : goal.returns-in-Err-Usage-clause-words
returns-in-Err-Usage-clause-words g c = (rw c.in-Err-Usage.field-0-is at c.in-Err-Usage.ensures.usage) refl

pub returns-in-Err-Usage-clause-runs : goal.returns-in-Err-Usage-clause-runs
returns-in-Err-Usage-clause-runs g c told =
    let usage : IsUsage c.args.words.now = (rw c.in-Err-Usage.field-0-is at c.in-Err-Usage.ensures.usage) refl in
    ([], [], λ told_too. sym (append-nil (g.S.Screen.shown c.args.screen.now)), noted_none g.O.Others.notes g.S.Screen.tells (g.O.Others.noted c.args.others.now) (g.S.Screen.shown c.args.screen.now), inl (usage, refl, refl))

pub returns-in-Err-NoMem-clause-runs : goal.returns-in-Err-NoMem-clause-runs
returns-in-Err-NoMem-clause-runs g c told =
    ([], [], λ told_too. sym (append-nil (g.S.Screen.shown c.args.screen.now)), noted_none g.O.Others.notes g.S.Screen.tells (g.O.Others.noted c.args.others.now) (g.S.Screen.shown c.args.screen.now), inr (inl (refl, refl)))

pub returns-in-Err-Usage-clause-beside : goal.returns-in-Err-Usage-clause-beside
returns-in-Err-Usage-clause-beside g c told =
    beside_nothing (g.O.Others.later c.args.others.now (g.D.Disk.view c.args.disk.now).reads) (g.D.Disk.view c.args.disk.now) (g.met.O.Others.none c.args.others.now (g.D.Disk.view c.args.disk.now).reads)

pub returns-in-Err-NoMem-clause-beside : goal.returns-in-Err-NoMem-clause-beside
returns-in-Err-NoMem-clause-beside g c told =
    beside_nothing (g.O.Others.later c.args.others.now (g.D.Disk.view c.args.disk.now).reads) (g.D.Disk.view c.args.disk.now) (g.met.O.Others.none c.args.others.now (g.D.Disk.view c.args.disk.now).reads)

pub returns-clause-runs : goal.returns-clause-runs
returns-clause-runs g c told =
    let old : DiskView = g.D.Disk.view c.args.disk.now in
    let mid : DiskView = g.D.Disk.view c.root.new.self in
    let dir : List ℕ = string_bytes c.in-Ok.request.dir in
    let task = c.in-Ok.request.task in
    let further : Image → ℕ → Image = g.O.Others.later c.args.others.now in
    let puts = c.do_task.ensures.does told in (
      puts.0,
      puts.1,
      puts.2,
      puts.3,
      inr (inr (
        asked_in c.in-Ok.request,
        c.in-Ok.ensures.ok,
        subst (λ (image : Image). Does (task_in dir task) (further image) puts.1 c.do_task.result puts.0) (rooted_image old mid (c.root.ensures.frame.untouched told)) (does_anywhere [] dir task (further mid.reads) puts.1 c.do_task.result puts.0 puts.4),
      )),
    )

pub returns-clause-words : goal.returns-clause-words
returns-clause-words g c = words_of_task c.args.words.now (string_bytes c.in-Ok.request.dir) [] c.in-Ok.request.task c.do_task.result c.in-Ok.ensures.ok c.do_task.ensures.status

pub returns-clause-reads : goal.returns-clause-reads
returns-clause-reads g c told none =
    read_only (g.D.Disk.view c.args.disk.now) (g.D.Disk.view c.root.new.self) (g.D.Disk.view c.do_task.new.disk) (c.root.ensures.frame.untouched told)
    (c.do_task.ensures.reads told (not_to_follow c.args.words.now (string_bytes c.in-Ok.request.dir) c.in-Ok.request.task c.in-Ok.ensures.ok none))

pub returns-clause-beside : goal.returns-clause-beside
returns-clause-beside g c told =
    root_beside (g.O.Others.later c.args.others.now) (g.D.Disk.view c.args.disk.now) (g.D.Disk.view c.root.new.self) (g.D.Disk.view c.do_task.new.disk) (c.root.ensures.frame.untouched told) (c.do_task.ensures.beside told)
