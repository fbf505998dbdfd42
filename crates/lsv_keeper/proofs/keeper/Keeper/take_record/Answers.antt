use Rattle.lsv_keeper.proofs.CallLemmas.{done_if_writing}
use Rattle.std.proofs.Common.{◌≡◌, ◌∙◌, Some, refl, subst, sym, ◌∷◌, [], None}
use Rattle.lsv_disk.specs.View.{DiskView}
use Rattle.lsv_request.specs.declared.refusal.Refusal.{Refusal}
use Rattle.lsv_request.specs.declared.request.Request.TheVariants as request
use Rattle.lsv_session.specs.declared.connection.ConnId.{ConnId}
use Rattle.lsv_session.specs.declared.connection.ConnState.TheVariants.{Dead}
use Rattle.lsv_machine.specs.Failures.{AsksFor}
use Rattle.lsv_machine.specs.Machine.{log_of}
use Rattle.lsv_keeper.specs.Rows.{Left, RowGives}
use Rattle.lsv_keeper.specs.Value.{KeeperView}
use Rattle.lsv_keeper.specs.Views.{view_of}
use Rattle.lsv_keeper.specs.declared.outcome.Outcome.TheVariants as outcome
use Rattle.lsv_keeper.specs.Syncing.{NoLog}
use Rattle.lsv_keeper.proofs.ExitEnds.{keeps_from}
use Rattle.lsv_keeper.proofs.Frames.{Laws}
use Rattle.lsv_keeper.proofs.Opens.{given_ok}
use Rattle.lsv_keeper.proofs.Recording.{record_staged}
use Rattle.lsv_keeper.proofs.Refusing.{keeps_same, record_refused, refused_moved, staged_keeps, written_open}
use Rattle.lsv_keeper.proofs.Syncing.{nothing}
use Rattle.lsv_keeper.proofs.Causes.{at_each, does_same, staged_does, still, then_quiet, unstaged_does, does_as, does_free, told_some}
use Rattle.lsv_request.specs.declared.refusal.Refusal.TheVariants.{DeviceFault}
use Rattle.lsv_keeper.specs.Logs.{open_logs}
use Rattle.lsv_keeper.proofs.keeper.Keeper.take_record.Goals as goal

pub release_refused-requires : goal.release_refused-requires
release_refused-requires g c = record {
  moved = λ told_is.
      let (m, at) = c.requires.stands told_is in
      let (was, left, here, no_room, put) = c.in-Refused.ensures in
      (view_of c.args.self.now, left, m, refused_moved (view_of c.args.self.now) c.append.new.self c.args.log c.args.r was left c.in-Refused.fault here no_room put, at);
  room = c.requires.room;
}

pub returns-in-Staged : goal.returns-in-Staged
returns-in-Staged g c now =
    done_if_writing g.D.Disk.tells now c.args.conn c.args.log (request.Record c.args.r) outcome.Nothing (view_of c.args.self.now) (view_of (record c.args.self.now { logs = c.append.new.self; waiting = c.insert_once.new.numbers })) (g.D.Disk.view c.args.disk.now) (g.D.Disk.view c.args.disk.now)
    (staged_keeps (view_of c.args.self.now) c.append.new.self c.insert_once.new.numbers.items c.args.log
    (given_ok c.insert_once.result _ (c.insert_once.ensures.room c.requires.waiting) c.insert_once.ensures.inserted))
    tt
    (λ told_is m job at is state asks. let disk : DiskView = g.D.Disk.view c.args.disk.now in
    let laws : Laws disk = record { reads_itself = g.met.D.Disk.reads_itself told_is c.args.disk.now; is_now = g.met.D.Disk.is_now told_is c.args.disk.now; only_now = g.met.D.Disk.only_now told_is c.args.disk.now } in
    let (its, after, here, took, is_logs) = c.in-Staged.ensures in
    record_staged (view_of c.args.self.now) c.append.new.self c.insert_once.new.numbers.items now job c.args.log c.args.r its after m disk laws at
    (subst (λ (k : ConnId). AsksFor (m.states k) job.body (request.Record c.args.r)) (sym is) asks) (subst (λ (k : ConnId). log_of (m.states k) ≡ Some c.args.log) (sym is) state) c.requires.valid here took is_logs
    (given_ok c.insert_once.result _ (c.insert_once.ensures.room c.requires.waiting) c.insert_once.ensures.inserted))
    (λ told_is m at state. nothing NoLog (view_of c.args.self.now) _ (g.D.Disk.view c.args.disk.now) refl refl)
    (λ is. does_free (does_as (told_some None) (let (its, after, here, took, is_logs) = c.in-Staged.ensures in
    staged_does _ c.args.conn c.args.log _ c.args.r its after (view_of c.args.self.now) c.append.new.self c.insert_once.new.numbers.items (g.D.Disk.view c.args.disk.now) (λ e. cc) is here took is_logs
    (given_ok c.insert_once.result _ (c.insert_once.ensures.room c.requires.waiting) c.insert_once.ensures.inserted))))

pub returns-in-Refused : goal.returns-in-Refused
returns-in-Refused g c now =
    done_if_writing g.D.Disk.tells now c.args.conn c.args.log (request.Record c.args.r) (outcome.Refused c.log_refusal.result) (view_of c.args.self.now) (view_of c.release_refused.new.self) (g.D.Disk.view c.args.disk.now) (g.D.Disk.view c.release_refused.new.disk)
    (keeps_from (view_of c.args.self.now) (view_of c.release_refused.new.self) c.append.new.self c.release_refused.ensures.keeps)
    tt
    (λ told_is m job at is state asks. let v : KeeperView = view_of c.args.self.now in
    let v' : KeeperView = view_of c.release_refused.new.self in
    let old : DiskView = g.D.Disk.view c.args.disk.now in
    let new : DiskView = g.D.Disk.view c.release_refused.new.disk in
    let laws : Laws old = record { reads_itself = g.met.D.Disk.reads_itself told_is c.args.disk.now; is_now = g.met.D.Disk.is_now told_is c.args.disk.now; only_now = g.met.D.Disk.only_now told_is c.args.disk.now } in
    let (was, its, here, no_room, put) = c.in-Refused.ensures in
    let left = c.release_refused.ensures.left told_is v m (its, refused_moved v c.append.new.self c.args.log c.args.r was its c.in-Refused.fault here no_room put) at state in
    subst (λ (why : Refusal). RowGives v now job (outcome.Refused why) m v' old new) (sym c.log_refusal.ensures)
    (record_refused v v' now job c.args.log c.args.r was its c.in-Refused.fault m old new laws at
    (subst (λ (k : ConnId). AsksFor (m.states k) job.body (request.Record c.args.r)) (sym is) asks) (subst (λ (k : ConnId). log_of (m.states k) ≡ Some c.args.log) (sym is) state) here no_room
    (subst (λ (k : ConnId). Left k Dead v m v' old new) (sym is) left)))
    (λ told_is m at state. let v : KeeperView = view_of c.args.self.now in
    let (was, its, here, no_room, put) = c.in-Refused.ensures in
    c.release_refused.ensures.syncs told_is v m (its, refused_moved v c.append.new.self c.args.log c.args.r was its c.in-Refused.fault here no_room put) at state)
    (λ is. does_free (does_as (told_some (Some c.log_refusal.result)) (let (was, left, here, no_room, put) = c.in-Refused.ensures in
    then_quiet (λ e. let f : c.log_refusal.result ≡ DeviceFault = cc in sym c.log_refusal.ensures ∙ f)
    (unstaged_does (c.args.conn ∷ []) c.args.log _ c.args.r c.in-Refused.fault was left (view_of c.args.self.now) c.append.new.self (g.D.Disk.view c.args.disk.now) here no_room put) (c.release_refused.ensures.does is))))

pub returns : goal.returns
returns g c now =
    done_if_writing g.D.Disk.tells now c.args.conn c.args.log (request.Record c.args.r) outcome.Nothing (view_of c.args.self.now) (view_of (record c.args.self.now { logs = c.append.new.self })) (g.D.Disk.view c.args.disk.now) (g.D.Disk.view c.args.disk.now)
    (keeps_same (view_of c.args.self.now) c.append.new.self)
    tt
    (λ told_is m job at is state asks. absurd (written_open (view_of c.args.self.now) (g.D.Disk.view c.args.disk.now) m c.args.conn c.args.log at state c.in-NotOpen.ensures.0))
    (λ told_is m at state. nothing NoLog (view_of c.args.self.now) _ (g.D.Disk.view c.args.disk.now) refl refl)
    (λ is. does_free (does_as (told_some None) (does_same (λ e. cc) (still (g.D.Disk.view c.args.disk.now)) refl refl refl (λ n. at_each (open_logs c.append.new.self) (open_logs c.args.self.now.logs) c.in-NotOpen.ensures.1 n) refl refl)))
