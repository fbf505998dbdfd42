-- Accepts, as the methods have them: what each of their ends gives.
use Rattle.std.proofs.Common.{◌≡◌, ◌≢◌, ◌≤◌, ◌<◌, ℕ, List, refl, sym, ◌∙◌, ap, subst, inl, inr, arith, Option, Some, None, ◌⊎◌}
use Rattle.std.specs.Prelude.{◌&&◌, not, Bool, true, false, Result, Err, IsErrOf}
use Rattle.lsv_disk.specs.View.{DiskView, Elsewhere}
use Rattle.lsv_disk.specs.declared.file.Owner.TheVariants as owners
use Rattle.lsv_base.specs.declared.time.TimeSpec.{TimeSpec}
use Rattle.lsv_event.specs.Lines.{line_of}
use Rattle.lsv_event.specs.declared.event.Event.TheVariants as event
use Rattle.lsv_event.specs.declared.event.Kind.{Kind}
use Rattle.lsv_event.specs.declared.event.Peer.{Peer}
use Rattle.lsv_info.specs.declared.times.Head.{Head}
use Rattle.lsv_iolog.specs.Recovered.{IsUnmade, Replays}
use Rattle.lsv_iolog.specs.Represents as logs
use Rattle.lsv_iolog.specs.Value.{IoLogView, bare, made}
use Rattle.lsv_iolog.proofs.Representing.{every_image}
use Rattle.lsv_iolog.specs.declared.fault.LogFault.{LogFault}
use Rattle.lsv_request.specs.declared.refusal.Refusal.{Refusal}
use Rattle.lsv_seq.specs.Drawn.{numbers_file}
use Rattle.lsv_seq.specs.Entry.{most}
use Rattle.lsv_seq.specs.Represents as numbers
use Rattle.lsv_seq.specs.Value.{IsPassedOver, IsSameLane, lane_of, last_of, next_of, pending_of}
use Rattle.lsv_seq.specs.declared.fault.DrawFault.{DrawFault}
use Rattle.lsv_seq.specs.declared.fault.DrawFault.TheVariants as faults
use Rattle.lsv_seq.specs.declared.numbers.Numbers.{Numbers}
use Rattle.lsv_session.specs.Table.{room_for, spare}
use Rattle.lsv_session.specs.declared.connection.ConnId.{ConnId}
use Rattle.lsv_session.specs.declared.connection.ConnState.{ConnState}
use Rattle.lsv_session.specs.declared.connection.ConnState.TheVariants.{Dead}
use Rattle.lsv_session.specs.declared.job.Job.{Job}
use Rattle.lsv_machine.specs.Failures.{AsksFor, MayDraw}
use Rattle.lsv_machine.specs.Machine.{Machine, Settings, is_running}
use Rattle.lsv_machine.specs.Work.{draws}
use Rattle.lsv_machine.proofs.Changing.{drawn_is}
use Rattle.lsv_keeper.specs.declared.outcome.Outcome.TheVariants as outcome
use Rattle.lsv_keeper.specs.Accepting.{Begun, DrawsNone, Stopped, draw_refusal}
use Rattle.lsv_keeper.specs.Represents.{Represents}
use Rattle.lsv_keeper.specs.Rows.{Beside, IsOfJob, Left, OwnerRose, RowGives}
use Rattle.lsv_keeper.specs.Value.{IsReserved, Keeps, KeeperView, SameSessions, event_line, owed, peer_of, room, sessions_of, settings_of}
use Rattle.lsv_keeper.proofs.Accepting.{asked, begun_row, stopped_row}
use Rattle.lsv_keeper.proofs.Beginning.{reserved_keeps}
use Rattle.lsv_keeper.proofs.Drawing.{draw_failed, numbers_spent}
use Rattle.lsv_keeper.proofs.Frames.{Laws, job_apart, unmade_stays}
use Rattle.lsv_keeper.proofs.Reporting.{room_one}
use Rattle.lsv_keeper.proofs.Telling.{beside_as, same_settings}

-- ---- Errors

pub draw_err : (e d : DrawFault) → e ≡ d → IsErrOf {T = ℕ} (Err e) d
draw_err e d is = ap (λ (x : DrawFault). let y : Result ℕ DrawFault = Err x in y) is

pub create_err : (e d : LogFault) → e ≡ d → IsErrOf {T = IoLogView} (Err e) d
create_err e d is = ap (λ (x : LogFault). let y : Result IoLogView LogFault = Err x in y) is

-- ---- A draw

-- no number is drawn
pub draws_none : (v : KeeperView) (drawn : Numbers) (old new : DiskView) (m : Machine) (fault : DrawFault) → Represents v old m → IsSameLane v.numbers drawn → IsPassedOver v.numbers drawn
    → ((last : ℕ) → fault ≡ faults.Spent last → (last_of drawn ≡ last) × (pending_of drawn ≡ None) × (most < next_of drawn)) → (fault ≡ faults.Disk → pending_of drawn ≡ Some (next_of drawn))
    → ((kept : List ℕ) (now : Option (List ℕ)) → fault ≢ faults.Changed kept now) → (fault ≡ faults.Disk → OwnerRose (owners.Numbers (lane_of v.numbers)) old new)
    → numbers.Represents drawn new → Elsewhere (λ g. g ≡ numbers_file (lane_of v.numbers)) old new → DrawsNone v m (draw_refusal fault) (record v { numbers = drawn }) old new
draws_none v drawn old new m (faults.Spent last) at same over spent failed unchanged rose here elsewhere =
    let s = spent last refl in
    let r = numbers_spent v drawn old new m at same over s.1 s.2 here elsewhere in
    inl (refl, r.0, r.1)
draws_none v drawn old new m faults.Disk at same over spent failed unchanged rose here elsewhere =
    inr (refl, subst (λ (x : ℕ). OwnerRose (owners.Numbers x) old new) at.numbers.lane_is (rose refl), draw_failed v drawn old new m at same over (failed refl) here elsewhere)
draws_none v drawn old new m (faults.Changed kept now) at same over spent failed unchanged rose here elsewhere = absurd (unchanged kept now refl)

-- ---- What is kept

-- with room, and a draw after it
pub drawn_keeps : (v v1 v2 : KeeperView) → IsReserved v v1 → v2 ≡ record v1 { numbers = v2.numbers } → Keeps v v2
drawn_keeps v v1 v2 res e =
    let k = reserved_keeps v v1 res in
    record {
      lane = ap (λ (x : KeeperView). x.lane) e ∙ k.lane;
      lanes = ap (λ (x : KeeperView). x.lanes) e ∙ k.lanes;
      log_exit = ap (λ (x : KeeperView). x.log_exit) e ∙ k.log_exit;
      kind = ap (λ (x : KeeperView). x.kind) e ∙ k.kind;
      texts = ap (λ (x : KeeperView). x.texts) e ∙ k.texts;
      room_is = let s : room v2 ≡ room v1 = ap room e in let t = res.room_is in omega arith;
      owed = let s : owed v2 ≡ owed v1 = ap owed e in let t : owed v1 ≡ owed v = ap owed res.others in omega arith;
    }

pub drawn_room : (v v1 v2 : KeeperView) → IsReserved v v1 → v2 ≡ record v1 { numbers = v2.numbers } → room v2 ≡ room v
drawn_room v v1 v2 res e = ap room e ∙ res.room_is

-- and a line, whether it is added or not
pub lined_keeps : (v v1 v2 v3 : KeeperView) → IsReserved v v1 → v2 ≡ record v1 { numbers = v2.numbers } → Keeps v2 v3 → SameSessions v2 v3 → Keeps v v3
lined_keeps v v1 v2 v3 res e k same =
    let j = drawn_keeps v v1 v2 res e in
    record {
      lane = k.lane ∙ j.lane;
      lanes = k.lanes ∙ j.lanes;
      log_exit = k.log_exit ∙ j.log_exit;
      kind = k.kind ∙ j.kind;
      texts = k.texts ∙ j.texts;
      room_is = let s : room v3 ≡ room v2 = ap spare same.table in let t = drawn_room v v1 v2 res e in omega arith;
      owed = let s : owed v2 ≡ owed v1 = ap owed e in let t : owed v1 ≡ owed v = ap owed res.others in let o = k.owed in omega arith;
    }

pub lined_room : (v v1 v2 v3 : KeeperView) → IsReserved v v1 → v2 ≡ record v1 { numbers = v2.numbers } → SameSessions v2 v3 → room v3 ≡ room v
lined_room v v1 v2 v3 res e same = ap spare same.table ∙ drawn_room v v1 v2 res e

-- what is kept where room is as it was, and then by a call after which no more is owed
pub keeps_then : (v v1 v2 : KeeperView) → Keeps v v1 → room v1 ≡ room v → Keeps v1 v2 → owed v2 ≤ owed v1 → Keeps v v2
keeps_then v v1 v2 k same j fewer = record {
  lane = j.lane ∙ k.lane;
  lanes = j.lanes ∙ k.lanes;
  log_exit = j.log_exit ∙ k.log_exit;
  kind = j.kind ∙ k.kind;
  texts = j.texts ∙ k.texts;
  room_is = let r = j.room_is in omega arith;
  owed = let o = k.owed in omega arith;
}

-- a line was added, and a connection comes to write a log
pub begun_keeps : (v v1 v2 v3 v4 : KeeperView) → IsReserved v v1 → v2 ≡ record v1 { numbers = v2.numbers } → Keeps v2 v3 → SameSessions v2 v3 → Keeps v3 v4 → owed v4 ≡ owed v3 → Keeps v v4
begun_keeps v v1 v2 v3 v4 res e k same j owes = keeps_then v v3 v4 (lined_keeps v v1 v2 v3 res e k same) (lined_room v v1 v2 v3 res e same) j (omega arith)

-- there is room for any state
pub room_in_any : (v v1 : KeeperView) (s t : ConnState) → room v1 ≡ room v → 1 ≤ room v → room_for s t ≤ room v1
room_in_any v v1 s t same enough = let one = room_one s t in omega arith

-- ---- A number that was drawn

-- nothing of its log is there, and nobody writes it
pub record Ready (v v2 : KeeperView) (old mid : DiskView) (m : Machine) (n : ℕ) : Type 0 where
  pub keeps : Keeps v v2
  pub drawn : MayDraw (settings_of v) m n
  pub represents : Represents v2 mid (draws n m)
  pub beside : Beside v.lane v.lanes None old mid
  pub unmade : IsUnmade n mid
  pub free : (sessions_of v2).owner n ≡ None

pub ready : (v v1 v2 : KeeperView) (old mid : DiskView) (m : Machine) (n : ℕ) → Represents v old m → IsReserved v v1 → v2 ≡ record v1 { numbers = v2.numbers }
    → MayDraw (settings_of v1) m n × Represents v2 mid (draws n m) → Beside v1.lane v1.lanes None old mid → Ready v v2 old mid m n
ready v v1 v2 old mid m n at res e d b =
    let k = reserved_keeps v v1 res in
    let may : MayDraw (settings_of v) m n = subst (λ (x : Settings). MayDraw x m n) (same_settings v v1 k) d.0 in
    let is = drawn_is (settings_of v) m n at.sound may in
    let its : Beside v.lane v.lanes None old mid = beside_as v v1 None old mid k b in
    record {
      keeps = drawn_keeps v v1 v2 res e;
      drawn = may;
      represents = d.1;
      beside = its;
      unmade = unmade_stays n (IsOfJob v.lane None) old mid (job_apart v.lane n None (λ q. let f : None ≡ Some n = q in absurd (cc))) its.run.elsewhere (at.unmade n is.0 is.1);
      free = sym (d.1.owner n) ∙ (at.sound.none_above n is.0 is.1).1;
    }

-- its log was made, and so it reads
pub made_reads : (log : IoLogView) (n : ℕ) (head : List ℕ) (disk : DiskView) → Laws disk → log.number ≡ n → logs.Represents log (bare (made head)) disk → Replays disk.reads n (Some (made head))
made_reads log n head disk laws number at = subst (λ (x : ℕ). Replays disk.reads x (Some (made head))) number (every_image log (bare (made head)) disk at disk.reads laws.reads_itself)

-- its event line names it
pub named_line : (v v2 : KeeperView) (now : TimeSpec) (k : ConnId) (head : Head) (n : ℕ) (peer : Peer) → Keeps v v2 → peer ≡ peer_of k
    → line_of v2.kind (event.Accept now peer (Some n) head) ≡ event_line v.kind now k (asked head) (Some n)
named_line v v2 now k head n peer keeps is =
    ap (λ (x : Kind). line_of x (event.Accept now peer (Some n) head)) keeps.kind ∙ ap (λ (p : Peer). line_of v.kind (event.Accept now p (Some n) head)) is

-- ---- Rows

-- where a session runs, or no records will follow, it opens none
pub opens_none : (running more : Bool) → (running ≡ true) ⊎ (more ≡ false) → (not running && more) ≡ false
opens_none running more (inl e) = ap (λ (x : Bool). not x && more) e
opens_none true more (inr e) = refl
opens_none false more (inr e) = e

-- its log was begun
pub begun_at : (v v' : KeeperView) (old new : DiskView) (now : TimeSpec) (k : ConnId) (head : Head) (m : Machine) (n : ℕ) (text : List ℕ) → Laws old → is_running (m.states k) ≡ false → Begun v now k n head m v' old new
    → (job : Job) → job.conn ≡ k → AsksFor (m.states k) job.body (asked head) → RowGives v now job (outcome.Log n text) m v' old new
begun_at v v' old new now k head m n text laws r x job e a =
    subst (λ (j : ConnId). is_running (m.states j) ≡ false → Begun v now j n head m v' old new → AsksFor (m.states j) job.body (asked head) → RowGives v now job (outcome.Log n text) m v' old new) e
    (λ r x a. begun_row v v' old new now job head m n text laws r a x) r x a

-- it stopped short, and the connection left
pub stopped_at : (v v1 v2 : KeeperView) (old mid new : DiskView) (now : TimeSpec) (k : ConnId) (head : Head) (m : Machine) (why : Refusal) → Laws old → Laws mid → Keeps v v1 → is_running (m.states k) ≡ false
    → (x : Stopped v now k (m.states k) head m why v1 old mid) → Left k Dead v1 x.left v2 mid new → (job : Job) → job.conn ≡ k → AsksFor (m.states k) job.body (asked head) → RowGives v now job (outcome.Refused why) m v2 old new
stopped_at v v1 v2 old mid new now k head m why laws laws1 keeps r x left job e a =
    subst (λ (j : ConnId). is_running (m.states j) ≡ false → (y : Stopped v now j (m.states j) head m why v1 old mid) → Left j Dead v1 y.left v2 mid new → AsksFor (m.states j) job.body (asked head) → RowGives v now job (outcome.Refused why) m v2 old new) e
    (λ r y left a. stopped_row v v1 v2 old mid new now job head m why laws laws1 keeps r a y left) r x left a
