-- Each place where an accept that opens a log may stop, and its end.
use Rattle.std.proofs.Common.{◌≡◌, ◌≤◌, Some, None, sym, ◌∙◌, ap, subst, inl, inr, refl}
use Rattle.std.specs.Prelude.{false, is_some, true}
use Rattle.lsv_disk.specs.declared.file.Owner.TheVariants as owners
use Rattle.lsv_disk.specs.declared.file.Part.TheVariants as parts
use Rattle.lsv_event.specs.Lines.{line_of}
use Rattle.lsv_event.specs.declared.event.Event.TheVariants as event
use Rattle.lsv_info.specs.Layout.{head_text}
use Rattle.lsv_iolog.specs.Recovered.{IsOfLog, Replays}
use Rattle.lsv_iolog.specs.Value.{made}
use Rattle.lsv_iolog.specs.declared.fault.LogFault.TheVariants as faults
use Rattle.lsv_request.specs.declared.refusal.Refusal.{Refusal}
use Rattle.lsv_session.specs.Table.{sessions, spare_owners}
use Rattle.lsv_session.specs.declared.connection.ConnState.TheVariants.{Running}
use Rattle.lsv_session.specs.declared.table.Table.{Table}
use Rattle.lsv_machine.specs.Machine.{Machine, is_running}
use Rattle.lsv_machine.specs.Work.{makes}
use Rattle.lsv_keeper.specs.declared.logs.OpenLogs.{OpenLogs}
use Rattle.lsv_keeper.specs.Accepting.{Stopped}
use Rattle.lsv_keeper.specs.Logs.{spare_logs}
use Rattle.lsv_keeper.specs.Represents.{Represents}
use Rattle.lsv_keeper.specs.Value.{KeeperView, sessions_of}
use Rattle.lsv_keeper.specs.Views.{view_of}
use Rattle.lsv_keeper.specs.Syncing.{NoLog}
use Rattle.lsv_keeper.proofs.Beginning.{reserved_keeps, reserved_represents}
use Rattle.lsv_keeper.proofs.Counting.{owner_rose}
use Rattle.lsv_keeper.proofs.Frames.{Laws}
use Rattle.lsv_keeper.proofs.Making.{begun_keeps, create_err, drawn_keeps, lined_keeps, lined_room, made_reads, named_line, ready, room_in_any}
use Rattle.lsv_keeper.proofs.Reporting.{if_err_as}
use Rattle.lsv_keeper.proofs.Stopping.{MadeIt, begins, line_stops, made_it, none_drawn, not_made, nothing_done}
use Rattle.lsv_keeper.proofs.Syncing.{drawn_quiet, followed, fresh_one, line_quiet, making, owns_one, reserved_fresh, reserved_quiet}
use Rattle.lsv_keeper.proofs.Causes.{create_cause, does_all, does_any, does_caused, does_reserved, does_same, does_then, does_unfaulted, none_of_some, own_rose, owns_does, quiet_then, same_err, still}
use Rattle.lsv_keeper.specs.Causes.{StoreRose}
use Rattle.lsv_request.specs.declared.refusal.Refusal.TheVariants.{DeviceFault}
use Rattle.lsv_keeper.proofs.keeper.Keeper.open_log.Goals as goal

-- ---- No memory

pub returns-in_default-clause-frame : goal.returns-in_default-clause-frame
returns-in_default-clause-frame g c = record {
  keeps = reserved_keeps (view_of c.args.self.now) (view_of c.prepare.new.self) c.prepare.ensures.reserved.same;
  syncs = λ told m at. reserved_quiet NoLog (view_of c.args.self.now) (view_of c.prepare.new.self) (g.D.Disk.view c.args.disk.now) c.prepare.ensures.reserved.same;
  does = does_reserved (λ e. cc) (still (g.D.Disk.view c.args.disk.now)) c.prepare.ensures.reserved.same;
}

pub returns-in_default-clause-stopped : goal.returns-in_default-clause-stopped
returns-in_default-clause-stopped g c told m at =
    let d0 = c.args.disk.now in
    nothing_done (view_of c.args.self.now) (view_of c.prepare.new.self) (g.D.Disk.view d0) c.args.now c.args.conn c.args.head m
    (record { reads_itself = g.met.D.Disk.reads_itself told d0; is_now = g.met.D.Disk.is_now told d0; only_now = g.met.D.Disk.only_now told d0 })
    at (ap is_running (at.states c.args.conn) ∙ c.requires.free) c.prepare.ensures.reserved.same

-- ---- No number

pub draw-requires : goal.draw-requires
draw-requires g c = record { stands = λ told. (let (m, at) = c.requires.stands told in (m, reserved_represents (view_of c.args.self.now) (view_of c.prepare.new.self) (g.D.Disk.view c.args.disk.now) m c.prepare.ensures.reserved.same at)) }

pub returns-in_err-number-clause-frame : goal.returns-in_err-number-clause-frame
returns-in_err-number-clause-frame g c = record {
  keeps = drawn_keeps (view_of c.args.self.now) (view_of c.prepare.new.self) (view_of c.draw.new.self) c.prepare.ensures.reserved.same c.draw.ensures.frame.same;
  syncs = λ told m at.
      let v : KeeperView = view_of c.args.self.now in
      let v1 : KeeperView = view_of c.prepare.new.self in
      let v2 : KeeperView = view_of c.draw.new.self in
      let old = g.D.Disk.view c.args.disk.now in
      let mid = g.D.Disk.view c.draw.new.disk in
      followed NoLog v v1 v2 old old mid (reserved_quiet NoLog v v1 old c.prepare.ensures.reserved.same) (drawn_quiet NoLog v1 v2 old mid c.draw.ensures.frame.same c.draw.ensures.frame.past (c.draw.ensures.frame.syncs told));
  does =
      quiet_then (λ e. same_err c.from_residual.result c.in_err-number.field-0.0 DeviceFault c.from_residual.ensures.1 e) (does_reserved (λ none. none) (still (g.D.Disk.view c.args.disk.now)) c.prepare.ensures.reserved.same) (does_all c.in_err-number.ensures.frame.does);
}

pub returns-in_err-number-clause-stopped : goal.returns-in_err-number-clause-stopped
returns-in_err-number-clause-stopped g c told =
    let v : KeeperView = view_of c.args.self.now in
    let v1 : KeeperView = view_of c.prepare.new.self in
    let v2 : KeeperView = view_of c.draw.new.self in
    let old = g.D.Disk.view c.args.disk.now in
    let new = g.D.Disk.view c.draw.new.disk in
    let why = c.in_err-number.field-0.0 in
    if_err_as (λ (w : Refusal). (m : Machine) → Represents v old m → Stopped v c.args.now c.args.conn (m.states c.args.conn) c.args.head m w v2 old new) c.from_residual.result why c.from_residual.ensures.1 (λ m at.
    let at1 = reserved_represents v v1 old m c.prepare.ensures.reserved.same at in
    none_drawn v v1 v2 old new c.args.now c.args.conn c.args.head m why (ap is_running (at.states c.args.conn) ∙ c.requires.free) (reserved_keeps v v1 c.prepare.ensures.reserved.same)
    (c.draw.ensures.frame.beside told m at1) (c.in_err-number.ensures.none told m at1))

-- ---- Another writes the log of the number

pub returns-then-is_some-clause-frame : goal.returns-then-is_some-clause-frame
returns-then-is_some-clause-frame g c = record {
  keeps = drawn_keeps (view_of c.args.self.now) (view_of c.prepare.new.self) (view_of c.draw.new.self) c.prepare.ensures.reserved.same c.draw.ensures.frame.same;
  syncs = λ told m at.
      let v : KeeperView = view_of c.args.self.now in
      let v1 : KeeperView = view_of c.prepare.new.self in
      let old = g.D.Disk.view c.args.disk.now in
      let mid = g.D.Disk.view c.draw.new.disk in
      followed NoLog v v1 (view_of c.draw.new.self) old old mid (reserved_quiet NoLog v v1 old c.prepare.ensures.reserved.same) (drawn_quiet NoLog v1 (view_of c.draw.new.self) old mid c.draw.ensures.frame.same c.draw.ensures.frame.past (c.draw.ensures.frame.syncs told));
  does = quiet_then (λ e. absurd (cc)) (does_reserved (λ none. none) (still (g.D.Disk.view c.args.disk.now)) c.prepare.ensures.reserved.same) (does_all c.in_ok-number.ensures.frame.does);
}

pub returns-then-is_some-clause-stopped : goal.returns-then-is_some-clause-stopped
returns-then-is_some-clause-stopped g c told m at =
    let v : KeeperView = view_of c.args.self.now in
    let v1 : KeeperView = view_of c.prepare.new.self in
    let old = g.D.Disk.view c.args.disk.now in
    let at1 = reserved_represents v v1 old m c.prepare.ensures.reserved.same at in
    let its = ready v v1 (view_of c.draw.new.self) old (g.D.Disk.view c.draw.new.disk) m c.in_ok-number.number at c.prepare.ensures.reserved.same c.draw.ensures.frame.same (c.in_ok-number.ensures.drawn told m at1) (c.draw.ensures.frame.beside told m at1) in
    absurd (let q : false ≡ true = ap is_some (sym its.free) ∙ (ap is_some (sym c.owner.ensures) ∙ (sym c.is_some.ensures ∙ c.if-is_some.true)) in cc)

-- ---- No log

pub create-requires-clause-unmade : goal.create-requires-clause-unmade
create-requires-clause-unmade g c told =
    let (m, at) = c.requires.stands told in
    let v : KeeperView = view_of c.args.self.now in
    let v1 : KeeperView = view_of c.prepare.new.self in
    let old = g.D.Disk.view c.args.disk.now in
    let at1 = reserved_represents v v1 old m c.prepare.ensures.reserved.same at in
    (ready v v1 (view_of c.draw.new.self) old (g.D.Disk.view c.draw.new.disk) m c.in_ok-number.number at c.prepare.ensures.reserved.same c.draw.ensures.frame.same (c.in_ok-number.ensures.drawn told m at1) (c.draw.ensures.frame.beside told m at1)).unmade

pub returns-in-Err-clause-frame : goal.returns-in-Err-clause-frame
returns-in-Err-clause-frame g c = record {
  keeps = drawn_keeps (view_of c.args.self.now) (view_of c.prepare.new.self) (view_of c.draw.new.self) c.prepare.ensures.reserved.same c.draw.ensures.frame.same;
  syncs = λ told m at.
      let v : KeeperView = view_of c.args.self.now in
      let v1 : KeeperView = view_of c.prepare.new.self in
      let v2 : KeeperView = view_of c.draw.new.self in
      let old = g.D.Disk.view c.args.disk.now in
      let mid = g.D.Disk.view c.draw.new.disk in
      let there = g.D.Disk.view c.create.new.disk in
      let n = c.in_ok-number.number in
      let at1 = reserved_represents v v1 old m c.prepare.ensures.reserved.same at in
      let fresh = reserved_fresh n v v1 c.prepare.ensures.reserved.same (c.in_ok-number.ensures.fresh told m at1) in
      let made = making n v v1 v2 old mid there c.prepare.ensures.reserved.same c.draw.ensures.frame.same c.draw.ensures.frame.past (c.draw.ensures.frame.syncs told) (c.create.ensures.calls told) in
      fresh_one n v v2 old there fresh made;
  does =
      let n = c.in_ok-number.number in
      let mid = (g.D.Disk.view c.draw.new.disk) in
      let new = (g.D.Disk.view c.create.new.disk) in
      let why : c.in-Err.fault ≡ faults.Disk → StoreRose mid new = λ is. own_rose (IsOfLog n) _ mid new (λ file own. inl (n, own)) c.in-Err.ensures.cause (create_err c.in-Err.fault faults.Disk is) in
      quiet_then (λ e. e) (does_then (λ none. absurd none) (does_reserved (λ none. none) (still (g.D.Disk.view c.args.disk.now)) c.prepare.ensures.reserved.same) (does_any (does_unfaulted c.in_ok-number.ensures.frame.does)))
      (does_caused (λ all e. inl (create_cause (StoreRose mid new) c.in-Err.fault why c.in-Err.ensures.fault (sym c.create_refusal.ensures ∙ (let f : c.create_refusal.result ≡ DeviceFault = cc in f))))
      (does_same (λ none. none) c.create.ensures.cause.monotone refl refl refl (λ i. refl) refl refl));
}

pub returns-in-Err-clause-stopped : goal.returns-in-Err-clause-stopped
returns-in-Err-clause-stopped g c told m at =
    let v : KeeperView = view_of c.args.self.now in
    let v1 : KeeperView = view_of c.prepare.new.self in
    let v2 : KeeperView = view_of c.draw.new.self in
    let d1 = c.draw.new.disk in
    let d2 = c.create.new.disk in
    let old = g.D.Disk.view c.args.disk.now in
    let mid = g.D.Disk.view d1 in
    let new = g.D.Disk.view d2 in
    let n = c.in_ok-number.number in
    let fault = c.in-Err.fault in
    let at1 = reserved_represents v v1 old m c.prepare.ensures.reserved.same at in
    let its = ready v v1 v2 old mid m n at c.prepare.ensures.reserved.same c.draw.ensures.frame.same (c.in_ok-number.ensures.drawn told m at1) (c.draw.ensures.frame.beside told m at1) in
    subst (λ (why : Refusal). Stopped v c.args.now c.args.conn (m.states c.args.conn) c.args.head m why v2 old new) (sym c.create_refusal.ensures)
    (not_made v v2 old mid new c.args.now c.args.conn c.args.head m n fault
    (record { reads_itself = g.met.D.Disk.reads_itself told d1; is_now = g.met.D.Disk.is_now told d1; only_now = g.met.D.Disk.only_now told d1 })
    (record { reads_itself = g.met.D.Disk.reads_itself told d2; is_now = g.met.D.Disk.is_now told d2; only_now = g.met.D.Disk.only_now told d2 })
    at (ap is_running (at.states c.args.conn) ∙ c.requires.free) its.keeps its.drawn c.in_ok-number.ensures.within its.represents its.beside
    (c.create.ensures.any_moment told) (c.create.ensures.nothing told) c.create.ensures.cause.monotone c.in-Err.ensures.fault
    (λ is. c.in-Err.ensures.full (create_err fault (faults.Full parts.Head) is))
    (λ is. owner_rose (owners.Log n) (IsOfLog n) _ mid new (λ file own. own) c.in-Err.ensures.cause (create_err fault faults.Disk is)))

-- ---- No line

pub add_line-requires : goal.add_line-requires
add_line-requires g c = record { timed = (c.requires.timed, c.requires.submit) }

pub returns-in_err-add_line-clause-frame : goal.returns-in_err-add_line-clause-frame
returns-in_err-add_line-clause-frame g c = record {
  keeps = lined_keeps (view_of c.args.self.now) (view_of c.prepare.new.self) (view_of c.draw.new.self) (view_of c.add_line.new.self) c.prepare.ensures.reserved.same c.draw.ensures.frame.same c.add_line.ensures.frame.keeps c.add_line.ensures.frame.same;
  syncs = λ told m at.
      let v : KeeperView = view_of c.args.self.now in
      let v1 : KeeperView = view_of c.prepare.new.self in
      let v2 : KeeperView = view_of c.draw.new.self in
      let old = g.D.Disk.view c.args.disk.now in
      let mid = g.D.Disk.view c.draw.new.disk in
      let there = g.D.Disk.view c.create.new.disk in
      let n = c.in_ok-number.number in
      let at1 = reserved_represents v v1 old m c.prepare.ensures.reserved.same at in
      let fresh = reserved_fresh n v v1 c.prepare.ensures.reserved.same (c.in_ok-number.ensures.fresh told m at1) in
      let made = making n v v1 v2 old mid there c.prepare.ensures.reserved.same c.draw.ensures.frame.same c.draw.ensures.frame.past (c.draw.ensures.frame.syncs told) (c.create.ensures.calls told) in
      let v3 : KeeperView = view_of c.add_line.new.self in
      let new = g.D.Disk.view c.add_line.new.disk in
      fresh_one n v v3 old new fresh (followed (λ i. i ≡ n) v v2 v3 old there new made (line_quiet (λ i. i ≡ n) v2 v3 there new c.add_line.ensures.frame.same (c.add_line.ensures.frame.syncs told)));
  does =
      quiet_then (λ e. same_err c.from_residual-in_err-add_line.result c.in_err-add_line.field-0.0 DeviceFault c.from_residual-in_err-add_line.ensures.1 e)
      (does_then (λ none. absurd none) (does_then (λ none. absurd none) (does_reserved (λ none. none) (still (g.D.Disk.view c.args.disk.now)) c.prepare.ensures.reserved.same) (does_any (does_unfaulted c.in_ok-number.ensures.frame.does)))
      (does_same (λ none. none) c.create.ensures.cause.monotone refl refl refl (λ i. refl) refl refl))
      c.in_err-add_line.ensures.frame.does;
}

pub returns-in_err-add_line-clause-stopped : goal.returns-in_err-add_line-clause-stopped
returns-in_err-add_line-clause-stopped g c told =
    let v : KeeperView = view_of c.args.self.now in
    let v1 : KeeperView = view_of c.prepare.new.self in
    let v2 : KeeperView = view_of c.draw.new.self in
    let v3 : KeeperView = view_of c.add_line.new.self in
    let d0 = c.args.disk.now in
    let d1 = c.draw.new.disk in
    let d2 = c.create.new.disk in
    let old = g.D.Disk.view d0 in
    let mid = g.D.Disk.view d1 in
    let there = g.D.Disk.view d2 in
    let new = g.D.Disk.view c.add_line.new.disk in
    let laws1 : Laws mid = record { reads_itself = g.met.D.Disk.reads_itself told d1; is_now = g.met.D.Disk.is_now told d1; only_now = g.met.D.Disk.only_now told d1 } in
    let laws2 : Laws there = record { reads_itself = g.met.D.Disk.reads_itself told d2; is_now = g.met.D.Disk.is_now told d2; only_now = g.met.D.Disk.only_now told d2 } in
    let n = c.in_ok-number.number in
    let why = c.in_err-add_line.field-0.0 in
    if_err_as (λ (w : Refusal). (m : Machine) → Represents v old m → Stopped v c.args.now c.args.conn (m.states c.args.conn) c.args.head m w v3 old new) c.from_residual-in_err-add_line.result why c.from_residual-in_err-add_line.ensures.1 (λ m at.
    let at1 = reserved_represents v v1 old m c.prepare.ensures.reserved.same at in
    let its = ready v v1 v2 old mid m n at c.prepare.ensures.reserved.same c.draw.ensures.frame.same (c.in_ok-number.ensures.drawn told m at1) (c.draw.ensures.frame.beside told m at1) in
    let made_is : Replays there.reads n (Some (made (head_text c.args.head))) = made_reads c.in-Ok-create.log n (head_text c.args.head) there laws2 c.in-Ok-create.ensures.number (c.in-Ok-create.ensures.represents told) in
    let it : MadeIt v v2 old there m n c.args.head = made_it v v2 old mid there m n c.args.head laws1 laws2 at its.keeps its.drawn its.represents its.beside (c.create.ensures.any_moment told) c.create.ensures.cause.monotone c.in-Ok-create.ensures.fits made_is in
    let line = line_of v2.kind (event.Accept c.args.now c.peer_of.result (Some n) c.args.head) in
    let refused = c.in_err-add_line.ensures.refused told (makes n (head_text c.args.head) m) it.represents in
    line_stops v v2 v3 old there new c.args.now c.args.conn c.args.head m n line why laws2 (ap is_running (at.states c.args.conn) ∙ c.requires.free) its.keeps its.drawn c.in_ok-number.ensures.within it
    (named_line v v2 c.args.now c.args.conn c.args.head n c.peer_of.result its.keeps c.peer_of.ensures) refused.0 refused.1 (c.add_line.ensures.frame.beside told (makes n (head_text c.args.head) m) it.represents))

-- ---- The log is begun

pub own-requires-clause-owners : goal.own-requires-clause-owners
own-requires-clause-owners g c =
    let same : (view_of c.add_line.new.self).table ≡ (view_of c.prepare.new.self).table = c.add_line.ensures.frame.same.table ∙ ap (λ (x : KeeperView). x.table) c.draw.ensures.frame.same in
    subst (λ (t : Table). 1 ≤ spare_owners t) (sym same) c.in-Ok.ensures.reserved.ok.0

pub own-requires-clause-logs : goal.own-requires-clause-logs
own-requires-clause-logs g c =
    let same : (view_of c.add_line.new.self).logs ≡ (view_of c.prepare.new.self).logs = c.add_line.ensures.frame.same.logs ∙ ap (λ (x : KeeperView). x.logs) c.draw.ensures.frame.same in
    subst (λ (t : OpenLogs). 1 ≤ spare_logs t) (sym same) c.in-Ok.ensures.reserved.ok.1

pub own-requires-clause-room : goal.own-requires-clause-room
own-requires-clause-room g c =
    let v3 : KeeperView = view_of c.add_line.new.self in
    room_in_any (view_of c.args.self.now) v3 ((sessions_of v3).states c.args.conn) (Running (Some c.in_ok-number.number))
    (lined_room (view_of c.args.self.now) (view_of c.prepare.new.self) (view_of c.draw.new.self) v3 c.prepare.ensures.reserved.same c.draw.ensures.frame.same c.add_line.ensures.frame.same) c.requires.room

pub returns-clause-frame : goal.returns-clause-frame
returns-clause-frame g c = record {
  keeps =
      begun_keeps (view_of c.args.self.now) (view_of c.prepare.new.self) (view_of c.draw.new.self) (view_of c.add_line.new.self) (view_of c.own.new.self)
      c.prepare.ensures.reserved.same c.draw.ensures.frame.same c.add_line.ensures.frame.keeps c.add_line.ensures.frame.same c.own.ensures.keeps c.own.ensures.owed;
  syncs = λ told m at.
      let v : KeeperView = view_of c.args.self.now in
      let v1 : KeeperView = view_of c.prepare.new.self in
      let v2 : KeeperView = view_of c.draw.new.self in
      let old = g.D.Disk.view c.args.disk.now in
      let mid = g.D.Disk.view c.draw.new.disk in
      let there = g.D.Disk.view c.create.new.disk in
      let n = c.in_ok-number.number in
      let at1 = reserved_represents v v1 old m c.prepare.ensures.reserved.same at in
      let fresh = reserved_fresh n v v1 c.prepare.ensures.reserved.same (c.in_ok-number.ensures.fresh told m at1) in
      let made = making n v v1 v2 old mid there c.prepare.ensures.reserved.same c.draw.ensures.frame.same c.draw.ensures.frame.past (c.draw.ensures.frame.syncs told) (c.create.ensures.calls told) in
      let v3 : KeeperView = view_of c.add_line.new.self in
      let v4 : KeeperView = view_of c.own.new.self in
      let new = g.D.Disk.view c.add_line.new.disk in
      let its = ready v v1 v2 old mid m n at c.prepare.ensures.reserved.same c.draw.ensures.frame.same (c.in_ok-number.ensures.drawn told m at1) (c.draw.ensures.frame.beside told m at1) in
      let free : (sessions_of v3).owner n ≡ None = ap (λ (t : Table). (sessions t).owner n) c.add_line.ensures.frame.same.table ∙ its.free in
      fresh_one n v v4 old new fresh
      (followed (λ i. i ≡ n) v v3 v4 old new new (followed (λ i. i ≡ n) v v2 v3 old there new made (line_quiet (λ i. i ≡ n) v2 v3 there new c.add_line.ensures.frame.same (c.add_line.ensures.frame.syncs told)))
      (owns_one n c.args.conn (record { log = c.in-Ok-create.log; mask = c.in-Ok.prepared.mask }) v3 v4 new (c.own.ensures.owns free)));
  does =
      let n = c.in_ok-number.number in
      let v1 : KeeperView = view_of c.prepare.new.self in
      let v2 : KeeperView = view_of c.draw.new.self in
      let v3 : KeeperView = view_of c.add_line.new.self in
      let at2 : (sessions_of v2).owner n ≡ None = sym c.owner.ensures ∙ none_of_some c.owner.result (sym c.is_some.ensures ∙ c.if-is_some.false) in
      let free : (sessions_of v3).owner n ≡ None = ap (λ (t : Table). (sessions t).owner n) c.add_line.ensures.frame.same.table ∙ at2 in
      does_then (λ e. absurd (cc))
      (does_then (λ none. inr none) (does_then (λ none. absurd none) (does_then (λ none. absurd none) (does_reserved (λ none. none) (still (g.D.Disk.view c.args.disk.now)) c.prepare.ensures.reserved.same) (does_any (does_unfaulted c.in_ok-number.ensures.frame.does)))
      (does_same (λ none. none) c.create.ensures.cause.monotone refl refl refl (λ i. refl) refl refl))
      c.in_ok-add_line.ensures.frame.does)
      (owns_does free c.in-Ok-create.ensures.whole (c.own.ensures.owns free) (still (g.D.Disk.view c.add_line.new.disk)));
}

pub returns-clause-begun : goal.returns-clause-begun
returns-clause-begun g c told m at =
    let v : KeeperView = view_of c.args.self.now in
    let v1 : KeeperView = view_of c.prepare.new.self in
    let v2 : KeeperView = view_of c.draw.new.self in
    let v3 : KeeperView = view_of c.add_line.new.self in
    let v4 : KeeperView = view_of c.own.new.self in
    let d0 = c.args.disk.now in
    let d1 = c.draw.new.disk in
    let d2 = c.create.new.disk in
    let d3 = c.add_line.new.disk in
    let old = g.D.Disk.view d0 in
    let mid = g.D.Disk.view d1 in
    let there = g.D.Disk.view d2 in
    let new = g.D.Disk.view d3 in
    let laws1 : Laws mid = record { reads_itself = g.met.D.Disk.reads_itself told d1; is_now = g.met.D.Disk.is_now told d1; only_now = g.met.D.Disk.only_now told d1 } in
    let laws2 : Laws there = record { reads_itself = g.met.D.Disk.reads_itself told d2; is_now = g.met.D.Disk.is_now told d2; only_now = g.met.D.Disk.only_now told d2 } in
    let laws3 : Laws new = record { reads_itself = g.met.D.Disk.reads_itself told d3; is_now = g.met.D.Disk.is_now told d3; only_now = g.met.D.Disk.only_now told d3 } in
    let n = c.in_ok-number.number in
    let at1 = reserved_represents v v1 old m c.prepare.ensures.reserved.same at in
    let its = ready v v1 v2 old mid m n at c.prepare.ensures.reserved.same c.draw.ensures.frame.same (c.in_ok-number.ensures.drawn told m at1) (c.draw.ensures.frame.beside told m at1) in
    let made_is : Replays there.reads n (Some (made (head_text c.args.head))) = made_reads c.in-Ok-create.log n (head_text c.args.head) there laws2 c.in-Ok-create.ensures.number (c.in-Ok-create.ensures.represents told) in
    let it : MadeIt v v2 old there m n c.args.head = made_it v v2 old mid there m n c.args.head laws1 laws2 at its.keeps its.drawn its.represents its.beside (c.create.ensures.any_moment told) c.create.ensures.cause.monotone c.in-Ok-create.ensures.fits made_is in
    let line = line_of v2.kind (event.Accept c.args.now c.peer_of.result (Some n) c.args.head) in
    let added = c.in_ok-add_line.ensures.added told (makes n (head_text c.args.head) m) it.represents in
    let free : (sessions_of v3).owner n ≡ None = ap (λ (t : Table). (sessions t).owner n) c.add_line.ensures.frame.same.table ∙ its.free in
    begins v v2 v3 v4 old there new c.args.now c.args.conn c.args.head m n (record { log = c.in-Ok-create.log; mask = c.in-Ok.prepared.mask }) line laws2 laws3 at
    (ap is_running (at.states c.args.conn) ∙ c.requires.free) its.keeps
    (lined_keeps v v1 v2 v3 c.prepare.ensures.reserved.same c.draw.ensures.frame.same c.add_line.ensures.frame.keeps c.add_line.ensures.frame.same) c.own.ensures.keeps its.drawn c.in_ok-number.ensures.within it
    (named_line v v2 c.args.now c.args.conn c.args.head n c.peer_of.result its.keeps c.peer_of.ensures) added.0 added.1 (c.add_line.ensures.frame.beside told (makes n (head_text c.args.head) m) it.represents)
    (c.in-Ok-create.ensures.represents told) c.in-Ok-create.ensures.number c.in-Ok.ensures.mask (c.own.ensures.owns free)
