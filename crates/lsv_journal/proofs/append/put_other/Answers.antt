use Rattle.std.proofs.Common.{length, Some, rules, refl}
use Rattle.std.proofs.lemmas.Result.{on_ok_weaker}
use Rattle.lsv_disk.proofs.Composition.{write_calls}
use Rattle.lsv_journal.proofs.Leaving.{tears_other, put_run, put_leaves}
use Rattle.lsv_journal.proofs.Appending.{other_place, other_prepared}
use Rattle.lsv_journal.proofs.append.put_other.Goals as goal

pub write_at-requires-clause-reaches : goal.write_at-requires-clause-reaches
write_at-requires-clause-reaches g c told =
    other_place (length c.args.body.now) c.args.selected ((g.D.Disk.view c.args.disk.now).reads c.args.f) (c.requires.stands told) c.begin-at.result (search rules)

pub returns-clause-any_moment : goal.returns-clause-any_moment
returns-clause-any_moment g c told =
    let n = length c.args.body.now in
    put_run n (Some c.args.selected) c.args.f c.begin-at.result n (g.D.Disk.view c.args.disk.now) (g.D.Disk.view c.write_at.new.self) (tears_other n c.args.selected c.begin-at.result (search rules)) (c.requires.leaves told) (c.write_at.ensures.crash told)
    (c.write_at.ensures.frame told) (g.met.D.Disk.only_now told c.args.disk.now) (g.met.D.Disk.only_now told c.write_at.new.self)

pub returns-clause-leaves : goal.returns-clause-leaves
returns-clause-leaves g c told =
    let n = length c.args.body.now in
    put_leaves n (Some c.args.selected) c.args.f c.begin-at.result n (g.D.Disk.view c.args.disk.now) (g.D.Disk.view c.write_at.new.self) (tears_other n c.args.selected c.begin-at.result (search rules)) (c.requires.leaves told) (c.write_at.ensures.crash told)
    (c.requires.stands told) (c.write_at.ensures.torn told)

pub returns-clause-prepared : goal.returns-clause-prepared
returns-clause-prepared g c told =
    on_ok_weaker c.write_at.result
    (other_prepared (length c.args.body.now) c.args.selected ((g.D.Disk.view c.args.disk.now).reads c.args.f) ((g.D.Disk.view c.write_at.new.self).reads c.args.f) (c.requires.stands told) c.begin-at.result (search rules) c.args.body.now refl)
    (c.write_at.ensures.written told)

pub returns-clause-calls : goal.returns-clause-calls
returns-clause-calls g c told = write_calls c.args.f (g.D.Disk.view c.args.disk.now) (g.D.Disk.view c.write_at.new.self) (c.write_at.ensures.frame told)
