use Rattle.lsv_request.specs.declared.request.Request.TheVariants as request
use Rattle.lsv_keeper.proofs.Refusing.{keeps_same as keeps_logs}
use Rattle.lsv_keeper.proofs.CallLemmas.{done_if_writing}
use Rattle.std.proofs.Common.{◌≡◌, ◌∙◌, ℕ, None, Some, ap, arith, refl, subst, sym, inl}
use Rattle.std.specs.Prelude.{Err, true, Result, false}
use Rattle.lsv_disk.specs.View.{DiskView, Image, IsCrashImage}
use Rattle.lsv_info.specs.Layout.{exit_text}
use Rattle.lsv_iolog.specs.Recovered.{Replays, IsOfLog}
use Rattle.lsv_iolog.specs.Represents.{Represents}
use Rattle.lsv_iolog.specs.Value.{LogValue, bare, finished, is_complete}
use Rattle.lsv_iolog.specs.declared.fault.LogFault.{LogFault}
use Rattle.lsv_iolog.specs.declared.fault.LogFault.TheVariants as faults
use Rattle.lsv_iolog.proofs.Representing.{every_image}
use Rattle.lsv_request.specs.declared.refusal.Refusal.{Refusal}
use Rattle.lsv_request.specs.declared.refusal.Refusal.TheVariants as refusals
use Rattle.lsv_session.specs.declared.connection.ConnState.TheVariants.{Dead}
use Rattle.lsv_session.specs.declared.job.Job.{Job}
use Rattle.lsv_keeper.specs.Leaving.{Departs, TakenOut}
use Rattle.lsv_keeper.specs.Represents as keepers
use Rattle.lsv_keeper.specs.Rows.{Left, RowGives}
use Rattle.lsv_keeper.specs.declared.logs.OpenLog.{OpenLog}
use Rattle.lsv_keeper.specs.Value.{KeeperView, log_in, sessions_of}
use Rattle.lsv_keeper.specs.Views.{view_of}
use Rattle.lsv_keeper.specs.declared.outcome.Outcome.TheVariants as outcome
use Rattle.lsv_keeper.specs.Syncing.{NoLog, Syncs}
use Rattle.lsv_keeper.proofs.Departing.{departs_keeps, departs_owed, room_one, value_of}
use Rattle.lsv_keeper.proofs.ExitEnds.{EndsLog, closed_ones, departs_from, keeps_from, keeps_line, log_failed, log_line_refused, log_not_ended, log_told, stands_told, unended_out}
use Rattle.lsv_keeper.proofs.Frames.{Laws}
use Rattle.lsv_keeper.proofs.Opens.{one_open}
use Rattle.lsv_keeper.proofs.Refusing.{written_open}
use Rattle.lsv_keeper.proofs.Syncing.{ended_once, followed, line_quiet}
use Rattle.lsv_keeper.proofs.Causes.{at_each, departs_goes, does_needs, does_none, finish_cause, none_taken, own_rose, quiet_then, refused_is, still, taken_then}
use Rattle.lsv_keeper.specs.Logs.{open_logs, with_open}
use Rattle.lsv_keeper.specs.Causes.{LetsGo}
use Rattle.lsv_keeper.proofs.keeper.Keeper.end_log.Goals as goal

abbrev err : {T : Type 0} → Refusal → Result T Refusal
err why = Err why

pub returns-in_default : goal.returns-in_default
returns-in_default g c =
    done_if_writing g.D.Disk.tells c.args.now c.args.conn c.args.log (request.Exit c.args.exit) outcome.Nothing (view_of c.args.self.now) (view_of (record c.args.self.now { logs = c.take.new.self })) (g.D.Disk.view c.args.disk.now) (g.D.Disk.view c.args.disk.now)
    (keeps_logs (view_of c.args.self.now) c.take.new.self)
    tt
    (λ told_is m job at is state asks. absurd (written_open (view_of c.args.self.now) (g.D.Disk.view c.args.disk.now) m c.args.conn c.args.log at state (λ its here. let e : None ≡ Some its = sym c.in_default.is ∙ c.take.ensures.taken ∙ here in absurd (cc))))
    (λ told_is m at state. absurd (written_open (view_of c.args.self.now) (g.D.Disk.view c.args.disk.now) m c.args.conn c.args.log at state (λ its here. let e : None ≡ Some its = sym c.in_default.is ∙ c.take.ensures.taken ∙ here in absurd (cc))))
    (λ is. none_taken c.args.log c.take.new.self (sym c.take.ensures.taken ∙ c.in_default.is) c.take.ensures.rest (does_none (λ e. cc)))

pub release-requires : goal.release-requires
release-requires g c = record { room = let x = room_one ((sessions_of (view_of c.args.self.now)).states c.args.conn) Dead in let y = c.requires.room in omega arith }

pub returns-then-is_complete : goal.returns-then-is_complete
returns-then-is_complete g c =
    done_if_writing g.D.Disk.tells c.args.now c.args.conn c.args.log (request.Exit c.args.exit) outcome.Nothing (view_of c.args.self.now) (view_of c.release.new.self) (g.D.Disk.view c.args.disk.now) (g.D.Disk.view c.args.disk.now)
    (let v : KeeperView = view_of c.args.self.now in
    let v1 : KeeperView = view_of c.release.new.self in
    departs_keeps (Some c.args.log) c.args.conn Dead v v1 (departs_from v v1 c.take.new.self (Some c.args.log) c.args.conn Dead c.release.ensures.departs) c.release.ensures.room)
    tt
    (λ told_is m job at is state asks. let v : KeeperView = view_of c.args.self.now in
    let here : log_in v c.args.log ≡ Some c.in-Some.its = sym c.in-Some.ensures.taken in
    absurd (written_open v (g.D.Disk.view c.args.disk.now) m c.args.conn c.args.log at state
    (λ o there. subst (λ (x : OpenLog). is_complete x.log ≡ true) (one_open (log_in v) c.args.log c.in-Some.its o here there) (sym c.is_complete.ensures ∙ c.if-is_complete.true))))
    (λ told_is m at state. let v : KeeperView = view_of c.args.self.now in
    let here : log_in v c.args.log ≡ Some c.in-Some.its = sym c.in-Some.ensures.taken in
    absurd (written_open v (g.D.Disk.view c.args.disk.now) m c.args.conn c.args.log at state
    (λ o there. subst (λ (x : OpenLog). is_complete x.log ≡ true) (one_open (log_in v) c.args.log c.in-Some.its o here there) (sym c.is_complete.ensures ∙ c.if-is_complete.true))))
    (λ is. taken_then c.args.log c.take.new.self (λ all e. absurd (cc)) (at_each (open_logs c.take.new.self) (with_open c.args.log None (open_logs c.args.self.now.logs)) c.take.ensures.rest)
    (departs_goes c.args.log c.args.conn Dead (record (view_of c.args.self.now) { logs = c.take.new.self }) (view_of c.release.new.self) (g.D.Disk.view c.args.disk.now) (g.D.Disk.view c.args.disk.now) refl c.release.ensures.departs c.release.ensures.logs (λ linked. linked c.args.conn c.args.log is) (still (g.D.Disk.view c.args.disk.now))))

pub finish-requires-clause-represents : goal.finish-requires-clause-represents
finish-requires-clause-represents g c told_is whole =
    let (m, at) = c.requires.stands told_is in
    value_of (view_of c.args.self.now) (g.D.Disk.view c.args.disk.now) m c.args.log c.in-Some.its at (sym c.in-Some.ensures.taken)

pub returns-in-Ok-exit_line : goal.returns-in-Ok-exit_line
returns-in-Ok-exit_line g c =
    done_if_writing g.D.Disk.tells c.args.now c.args.conn c.args.log (request.Exit c.args.exit) (outcome.Finished c.in-Ok.point) (view_of c.args.self.now) (view_of c.exit_line.new.self) (g.D.Disk.view c.args.disk.now) (g.D.Disk.view c.exit_line.new.disk)
    (let v1 : KeeperView = view_of c.release-in-Ok.new.self in
    let departs : Departs (Some c.args.log) c.args.conn Dead (view_of c.args.self.now) v1 = departs_from (view_of c.args.self.now) v1 c.take.new.self (Some c.args.log) c.args.conn Dead c.release-in-Ok.ensures.departs in
    keeps_line (view_of c.args.self.now) v1 (view_of c.exit_line.new.self) (departs_keeps (Some c.args.log) c.args.conn Dead (view_of c.args.self.now) v1 departs c.release-in-Ok.ensures.room)
    (departs_owed (Some c.args.log) c.args.conn Dead (view_of c.args.self.now) v1 departs) c.exit_line.ensures.frame.keeps c.exit_line.ensures.frame.same)
    tt
    (λ told_is m job at is state asks. let v : KeeperView = view_of c.args.self.now in
    let old : DiskView = g.D.Disk.view c.args.disk.now in
    let mid : DiskView = g.D.Disk.view c.finish.new.disk in
    let laws : Laws old = record { reads_itself = g.met.D.Disk.reads_itself told_is c.args.disk.now; is_now = g.met.D.Disk.is_now told_is c.args.disk.now; only_now = g.met.D.Disk.only_now told_is c.args.disk.now } in
    let laws' : Laws mid = record { reads_itself = g.met.D.Disk.reads_itself told_is c.finish.new.disk; is_now = g.met.D.Disk.is_now told_is c.finish.new.disk; only_now = g.met.D.Disk.only_now told_is c.finish.new.disk } in
    let its : Job = record { conn = c.args.conn; body = job.body } in
    let same_job : its ≡ job = λ i. record { conn = sym is i; body = job.body } in
    let here : log_in v c.args.log ≡ Some c.in-Some.its = sym c.in-Some.ensures.taken in
    let v1 : KeeperView = view_of c.release-in-Ok.new.self in
    let v2 : KeeperView = view_of c.exit_line.new.self in
    let new : DiskView = g.D.Disk.view c.exit_line.new.disk in
    let ends : EndsLog c.in-Some.its.log (exit_text c.args.exit) old mid = record { moments = λ value rep. c.finish.ensures.any_moment told_is value rep; monotone = c.finish.ensures.cause.monotone; room = c.in-Ok.ensures.fits } in
    let departs : Departs (Some c.args.log) c.args.conn Dead v v1 = departs_from v v1 c.take.new.self (Some c.args.log) c.args.conn Dead c.release-in-Ok.ensures.departs in
    let closed = closed_ones v v1 c.take.new.self c.args.log c.release-in-Ok.ensures.logs c.take.ensures.rest in
    let all : (image : Image) → IsCrashImage mid image → (value : LogValue) → Represents c.in-Some.its.log value old → Replays image c.in-Some.its.log.number (Some (finished value (exit_text c.args.exit))) =
    (λ image left value rep. subst (λ (n : ℕ). Replays image n (Some (finished value (exit_text c.args.exit)))) c.finish.ensures.counts.number
    (every_image c.finish.new.self (bare (finished value (exit_text c.args.exit))) mid (c.in-Ok.ensures.represents told_is value rep) image left)) in
    let stands = stands_told v v1 old mid m c.args.log c.args.now its c.args.exit c.in-Some.its laws laws' at asks state here ends departs closed all in
    subst (λ (j : Job). RowGives v c.args.now j (outcome.Finished c.in-Ok.point) m v2 old new) same_job
    (log_told v v1 old mid m c.args.log c.args.now its c.args.exit c.in-Some.its laws laws' at asks state here ends departs closed v2 new c.in-Ok.point all c.in-Ok.ensures.elapsed
    (c.exit_line.ensures.frame.beside told_is _ stands) (λ y rep. c.in-Ok-exit_line.ensures.added told_is y rep)))
    (λ told_is m at state. let v : KeeperView = view_of c.args.self.now in
    let v1 : KeeperView = view_of c.release-in-Ok.new.self in
    let old : DiskView = g.D.Disk.view c.args.disk.now in
    let mid : DiskView = g.D.Disk.view c.finish.new.disk in
    let here : log_in v c.args.log ≡ Some c.in-Some.its = sym c.in-Some.ensures.taken in
    let departs : Departs (Some c.args.log) c.args.conn Dead v v1 = departs_from v v1 c.take.new.self (Some c.args.log) c.args.conn Dead c.release-in-Ok.ensures.departs in
    let ended = ended_once c.args.log c.in-Some.its v v1 old mid m c.args.conn Dead at state here departs (c.finish.ensures.calls told_is) in
    followed NoLog v v1 (view_of c.exit_line.new.self) old mid (g.D.Disk.view c.exit_line.new.disk) ended (line_quiet NoLog v1 (view_of c.exit_line.new.self) mid (g.D.Disk.view c.exit_line.new.disk) c.exit_line.ensures.frame.same (c.exit_line.ensures.frame.syncs told_is)))
    (λ is. quiet_then (λ e. absurd (cc))
    (taken_then c.args.log c.take.new.self (λ all none. absurd none) (at_each (open_logs c.take.new.self) (with_open c.args.log None (open_logs c.args.self.now.logs)) c.take.ensures.rest)
    (departs_goes c.args.log c.args.conn Dead (record (view_of c.args.self.now) { logs = c.take.new.self }) (view_of c.release-in-Ok.new.self) (g.D.Disk.view c.args.disk.now) (g.D.Disk.view c.finish.new.disk) refl c.release-in-Ok.ensures.departs c.release-in-Ok.ensures.logs (λ linked. linked c.args.conn c.args.log is) c.finish.ensures.cause.monotone))
    (does_needs (λ e. sym c.release-in-Ok.ensures.departs.beside.log_exit ∙ e) c.in-Ok-exit_line.ensures.frame.does))

pub returns-in-Ok : goal.returns-in-Ok
returns-in-Ok g c =
    done_if_writing g.D.Disk.tells c.args.now c.args.conn c.args.log (request.Exit c.args.exit) (outcome.Refused c.in-Err-exit_line.why) (view_of c.args.self.now) (view_of c.exit_line.new.self) (g.D.Disk.view c.args.disk.now) (g.D.Disk.view c.exit_line.new.disk)
    (let v1 : KeeperView = view_of c.release-in-Ok.new.self in
    let departs : Departs (Some c.args.log) c.args.conn Dead (view_of c.args.self.now) v1 = departs_from (view_of c.args.self.now) v1 c.take.new.self (Some c.args.log) c.args.conn Dead c.release-in-Ok.ensures.departs in
    keeps_line (view_of c.args.self.now) v1 (view_of c.exit_line.new.self) (departs_keeps (Some c.args.log) c.args.conn Dead (view_of c.args.self.now) v1 departs c.release-in-Ok.ensures.room)
    (departs_owed (Some c.args.log) c.args.conn Dead (view_of c.args.self.now) v1 departs) c.exit_line.ensures.frame.keeps c.exit_line.ensures.frame.same)
    tt
    (λ told_is m job at is state asks. let v : KeeperView = view_of c.args.self.now in
    let old : DiskView = g.D.Disk.view c.args.disk.now in
    let mid : DiskView = g.D.Disk.view c.finish.new.disk in
    let laws : Laws old = record { reads_itself = g.met.D.Disk.reads_itself told_is c.args.disk.now; is_now = g.met.D.Disk.is_now told_is c.args.disk.now; only_now = g.met.D.Disk.only_now told_is c.args.disk.now } in
    let laws' : Laws mid = record { reads_itself = g.met.D.Disk.reads_itself told_is c.finish.new.disk; is_now = g.met.D.Disk.is_now told_is c.finish.new.disk; only_now = g.met.D.Disk.only_now told_is c.finish.new.disk } in
    let its : Job = record { conn = c.args.conn; body = job.body } in
    let same_job : its ≡ job = λ i. record { conn = sym is i; body = job.body } in
    let here : log_in v c.args.log ≡ Some c.in-Some.its = sym c.in-Some.ensures.taken in
    let v1 : KeeperView = view_of c.release-in-Ok.new.self in
    let v2 : KeeperView = view_of c.exit_line.new.self in
    let new : DiskView = g.D.Disk.view c.exit_line.new.disk in
    let ends : EndsLog c.in-Some.its.log (exit_text c.args.exit) old mid = record { moments = λ value rep. c.finish.ensures.any_moment told_is value rep; monotone = c.finish.ensures.cause.monotone; room = c.in-Ok.ensures.fits } in
    let departs : Departs (Some c.args.log) c.args.conn Dead v v1 = departs_from v v1 c.take.new.self (Some c.args.log) c.args.conn Dead c.release-in-Ok.ensures.departs in
    let closed = closed_ones v v1 c.take.new.self c.args.log c.release-in-Ok.ensures.logs c.take.ensures.rest in
    let all : (image : Image) → IsCrashImage mid image → (value : LogValue) → Represents c.in-Some.its.log value old → Replays image c.in-Some.its.log.number (Some (finished value (exit_text c.args.exit))) =
    (λ image left value rep. subst (λ (n : ℕ). Replays image n (Some (finished value (exit_text c.args.exit)))) c.finish.ensures.counts.number
    (every_image c.finish.new.self (bare (finished value (exit_text c.args.exit))) mid (c.in-Ok.ensures.represents told_is value rep) image left)) in
    let stands = stands_told v v1 old mid m c.args.log c.args.now its c.args.exit c.in-Some.its laws laws' at asks state here ends departs closed all in
    subst (λ (j : Job). RowGives v c.args.now j (outcome.Refused c.in-Err-exit_line.why) m v2 old new) same_job
    (log_line_refused v v1 old mid m c.args.log c.args.now its c.args.exit c.in-Some.its laws laws' at asks state here ends departs closed v2 new c.in-Err-exit_line.why all
    (c.exit_line.ensures.frame.beside told_is _ stands) (λ y rep. c.in-Err-exit_line.ensures.refused told_is y rep)))
    (λ told_is m at state. let v : KeeperView = view_of c.args.self.now in
    let v1 : KeeperView = view_of c.release-in-Ok.new.self in
    let old : DiskView = g.D.Disk.view c.args.disk.now in
    let mid : DiskView = g.D.Disk.view c.finish.new.disk in
    let here : log_in v c.args.log ≡ Some c.in-Some.its = sym c.in-Some.ensures.taken in
    let departs : Departs (Some c.args.log) c.args.conn Dead v v1 = departs_from v v1 c.take.new.self (Some c.args.log) c.args.conn Dead c.release-in-Ok.ensures.departs in
    let ended = ended_once c.args.log c.in-Some.its v v1 old mid m c.args.conn Dead at state here departs (c.finish.ensures.calls told_is) in
    followed NoLog v v1 (view_of c.exit_line.new.self) old mid (g.D.Disk.view c.exit_line.new.disk) ended (line_quiet NoLog v1 (view_of c.exit_line.new.self) mid (g.D.Disk.view c.exit_line.new.disk) c.exit_line.ensures.frame.same (c.exit_line.ensures.frame.syncs told_is)))
    (λ is. quiet_then (λ e. ap (λ (w : Refusal). err w) (refused_is c.in-Err-exit_line.why e))
    (taken_then c.args.log c.take.new.self (λ all none. absurd none) (at_each (open_logs c.take.new.self) (with_open c.args.log None (open_logs c.args.self.now.logs)) c.take.ensures.rest)
    (departs_goes c.args.log c.args.conn Dead (record (view_of c.args.self.now) { logs = c.take.new.self }) (view_of c.release-in-Ok.new.self) (g.D.Disk.view c.args.disk.now) (g.D.Disk.view c.finish.new.disk) refl c.release-in-Ok.ensures.departs c.release-in-Ok.ensures.logs (λ linked. linked c.args.conn c.args.log is) c.finish.ensures.cause.monotone))
    (does_needs (λ e. sym c.release-in-Ok.ensures.departs.beside.log_exit ∙ e) c.in-Err-exit_line.ensures.frame.does))

pub returns-in-Disk : goal.returns-in-Disk
returns-in-Disk g c =
    done_if_writing g.D.Disk.tells c.args.now c.args.conn c.args.log (request.Exit c.args.exit) (outcome.Refused refusals.DeviceFault) (view_of c.args.self.now) (view_of c.release-in-Disk.new.self) (g.D.Disk.view c.args.disk.now) (g.D.Disk.view c.finish.new.disk)
    (let v : KeeperView = view_of c.args.self.now in
    let v1 : KeeperView = view_of c.release-in-Disk.new.self in
    departs_keeps (Some c.args.log) c.args.conn Dead v v1 (departs_from v v1 c.take.new.self (Some c.args.log) c.args.conn Dead c.release-in-Disk.ensures.departs) c.release-in-Disk.ensures.room)
    tt
    (λ told_is m job at is state asks. let v : KeeperView = view_of c.args.self.now in
    let v1 : KeeperView = view_of c.release-in-Disk.new.self in
    let old : DiskView = g.D.Disk.view c.args.disk.now in
    let mid : DiskView = g.D.Disk.view c.finish.new.disk in
    let laws : Laws old = record { reads_itself = g.met.D.Disk.reads_itself told_is c.args.disk.now; is_now = g.met.D.Disk.is_now told_is c.args.disk.now; only_now = g.met.D.Disk.only_now told_is c.args.disk.now } in
    let laws' : Laws mid = record { reads_itself = g.met.D.Disk.reads_itself told_is c.finish.new.disk; is_now = g.met.D.Disk.is_now told_is c.finish.new.disk; only_now = g.met.D.Disk.only_now told_is c.finish.new.disk } in
    let its : Job = record { conn = c.args.conn; body = job.body } in
    let same_job : its ≡ job = λ i. record { conn = sym is i; body = job.body } in
    let here : log_in v c.args.log ≡ Some c.in-Some.its = sym c.in-Some.ensures.taken in
    let failed : c.finish.result ≡ Err faults.Disk = c.in-Err.is ∙ ap (λ (f : LogFault). Err f) c.in-Disk.is in
    let ends : EndsLog c.in-Some.its.log (exit_text c.args.exit) old mid = record { moments = λ value rep. c.finish.ensures.any_moment told_is value rep; monotone = c.finish.ensures.cause.monotone; room = c.finish.ensures.room failed } in
    let departs : Departs (Some c.args.log) c.args.conn Dead v v1 = departs_from v v1 c.take.new.self (Some c.args.log) c.args.conn Dead c.release-in-Disk.ensures.departs in
    let closed = closed_ones v v1 c.take.new.self c.args.log c.release-in-Disk.ensures.logs c.take.ensures.rest in
    subst (λ (j : Job). RowGives v c.args.now j (outcome.Refused refusals.DeviceFault) m v1 old mid) same_job
    (log_failed v v1 old mid m c.args.log c.args.now its c.args.exit c.in-Some.its laws laws' at asks state here ends departs closed (c.finish.ensures.cause.risen failed)))
    (λ told_is m at state. let v : KeeperView = view_of c.args.self.now in
    let v1 : KeeperView = view_of c.release-in-Disk.new.self in
    let old : DiskView = g.D.Disk.view c.args.disk.now in
    let mid : DiskView = g.D.Disk.view c.finish.new.disk in
    let here : log_in v c.args.log ≡ Some c.in-Some.its = sym c.in-Some.ensures.taken in
    let departs : Departs (Some c.args.log) c.args.conn Dead v v1 = departs_from v v1 c.take.new.self (Some c.args.log) c.args.conn Dead c.release-in-Disk.ensures.departs in
    let ended = ended_once c.args.log c.in-Some.its v v1 old mid m c.args.conn Dead at state here departs (c.finish.ensures.calls told_is) in
    ended)
    (λ is. let failed : c.finish.result ≡ Err faults.Disk = c.in-Err.is ∙ ap (λ (f : LogFault). Err f) c.in-Disk.is in
    taken_then c.args.log c.take.new.self (λ all e. inl (own_rose (IsOfLog c.in-Some.its.log.number) _ (g.D.Disk.view c.args.disk.now) (g.D.Disk.view c.finish.new.disk) (λ file own. inl (c.in-Some.its.log.number, own)) c.finish.ensures.cause failed)) (at_each (open_logs c.take.new.self) (with_open c.args.log None (open_logs c.args.self.now.logs)) c.take.ensures.rest)
    (departs_goes c.args.log c.args.conn Dead (record (view_of c.args.self.now) { logs = c.take.new.self }) (view_of c.release-in-Disk.new.self) (g.D.Disk.view c.args.disk.now) (g.D.Disk.view c.finish.new.disk) refl c.release-in-Disk.ensures.departs c.release-in-Disk.ensures.logs (λ linked. linked c.args.conn c.args.log is) c.finish.ensures.cause.monotone))

pub let_go-requires : goal.let_go-requires
let_go-requires g c = record {
  taken_out = λ told_is.
      let v : KeeperView = view_of c.args.self.now in
      let (m, at) = c.requires.stands told_is in
      let here : log_in v c.args.log ≡ Some c.in-Some.its = sym c.in-Some.ensures.taken in
      let left : OpenLog = record { log = c.finish.new.self; mask = c.in-Some.its.mask } in
      let un = c.in-Err.ensures.unchanged c.in_default-fault.not-Disk in
      (v, m, unended_out v c.take.new.self c.args.log c.in-Some.its left here un.0 c.take.ensures.rest, subst (λ d. keepers.Represents v (g.D.Disk.view d) m) (sym un.1) at);
  writes_none = refl;
  room = let x = room_one ((sessions_of (view_of c.args.self.now)).states c.args.conn) Dead in let y = c.requires.room in omega arith;
}

pub returns : goal.returns
returns g c =
    done_if_writing g.D.Disk.tells c.args.now c.args.conn c.args.log (request.Exit c.args.exit) (outcome.Refused c.log_refusal.result) (view_of c.args.self.now) (view_of c.let_go.new.self) (g.D.Disk.view c.args.disk.now) (g.D.Disk.view c.let_go.new.disk)
    (keeps_from (view_of c.args.self.now) (view_of c.let_go.new.self) c.take.new.self c.let_go.ensures.gone.keeps)
    tt
    (λ told_is m job at is state asks.
    let v : KeeperView = view_of c.args.self.now in
    let v' : KeeperView = view_of c.let_go.new.self in
    let old : DiskView = g.D.Disk.view c.args.disk.now in
    let new : DiskView = g.D.Disk.view c.let_go.new.disk in
    let laws : Laws old = record { reads_itself = g.met.D.Disk.reads_itself told_is c.args.disk.now; is_now = g.met.D.Disk.is_now told_is c.args.disk.now; only_now = g.met.D.Disk.only_now told_is c.args.disk.now } in
    let its : Job = record { conn = c.args.conn; body = job.body } in
    let same_job : its ≡ job = λ i. record { conn = sym is i; body = job.body } in
    let here : log_in v c.args.log ≡ Some c.in-Some.its = sym c.in-Some.ensures.taken in
    let left : OpenLog = record { log = c.finish.new.self; mask = c.in-Some.its.mask } in
    let un = c.in-Err.ensures.unchanged c.in_default-fault.not-Disk in
    let out : TakenOut c.args.log left v (record v { logs = c.take.new.self }) = unended_out v c.take.new.self c.args.log c.in-Some.its left here un.0 c.take.ensures.rest in
    let gone : Left c.args.conn Dead v m v' old new =
    subst (λ d. Left c.args.conn Dead v m v' (g.D.Disk.view d) new) un.1
    (c.let_go.ensures.gone.left told_is v m out (subst (λ d. keepers.Represents v (g.D.Disk.view d) m) (sym un.1) at) state) in
    subst (λ (j : Job). RowGives v c.args.now j (outcome.Refused c.log_refusal.result) m v' old new) same_job
    (subst (λ (why : Refusal). RowGives v c.args.now its (outcome.Refused why) m v' old new) (sym c.log_refusal.ensures)
    (log_not_ended v v' old new m c.args.log c.args.now its c.args.exit c.in-Some.its c.in-Err.fault laws at asks state here c.in-Err.ensures.fault c.in_default-fault.not-Disk
    (λ e. c.finish.ensures.broken.0 (c.in-Err.is ∙ ap (λ (f : LogFault). Err f) e)) (λ e. c.finish.ensures.full (c.in-Err.is ∙ ap (λ (f : LogFault). Err f) e)) gone)))
    (λ told_is m at state.
    let v : KeeperView = view_of c.args.self.now in
    let here : log_in v c.args.log ≡ Some c.in-Some.its = sym c.in-Some.ensures.taken in
    let left : OpenLog = record { log = c.finish.new.self; mask = c.in-Some.its.mask } in
    let un = c.in-Err.ensures.unchanged c.in_default-fault.not-Disk in
    let out : TakenOut c.args.log left v (record v { logs = c.take.new.self }) = unended_out v c.take.new.self c.args.log c.in-Some.its left here un.0 c.take.ensures.rest in
    subst (λ d. Syncs NoLog v (view_of c.let_go.new.self) (g.D.Disk.view d) (g.D.Disk.view c.let_go.new.disk)) un.1
    (c.let_go.ensures.gone.syncs told_is v m out (subst (λ d. keepers.Represents v (g.D.Disk.view d) m) (sym un.1) at) state))
    (λ is.
    let un = c.in-Err.ensures.unchanged c.in_default-fault.not-Disk in
    taken_then c.args.log c.take.new.self
    (λ all e. absurd (finish_cause c.in-Err.fault c.in_default-fault.not-Disk
    (λ broken. let q : true ≡ false = sym (c.finish.ensures.broken.0 (c.in-Err.is ∙ ap (λ (f : LogFault). Err f) broken)) ∙ all c.args.log c.in-Some.its (sym c.in-Some.ensures.taken) in cc)
    c.in-Err.ensures.fault (sym c.log_refusal.ensures ∙ refused_is c.log_refusal.result e)))
    (at_each (open_logs c.take.new.self) (with_open c.args.log None (open_logs c.args.self.now.logs)) c.take.ensures.rest)
    (subst (λ d. LetsGo c.args.log (record (view_of c.args.self.now) { logs = c.take.new.self }) (view_of c.let_go.new.self) (g.D.Disk.view d) (g.D.Disk.view c.let_go.new.disk)) un.1 (c.let_go.ensures.gone.does is)))
