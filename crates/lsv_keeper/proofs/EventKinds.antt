-- Rejects, alerts and accepts that open no log: each leaves its line, and what it does besides.
use Rattle.std.proofs.Common.{◌≡◌, refl, sym, subst, inr, None}
use Rattle.std.specs.Prelude.{◌&&◌, not, Bool, true, false, if◌then◌else◌}
use Rattle.lsv_base.specs.declared.time.TimeSpec.{TimeSpec}
use Rattle.lsv_event.specs.Lines.{line_of}
use Rattle.lsv_event.specs.declared.event.Event.TheVariants as event
use Rattle.lsv_request.specs.declared.request.Accept.{Accept}
use Rattle.lsv_request.specs.declared.request.Report.{Report}
use Rattle.lsv_request.specs.declared.request.Request.TheVariants as request
use Rattle.lsv_session.specs.declared.connection.ConnId.{ConnId}
use Rattle.lsv_session.specs.declared.connection.ConnState.{ConnState}
use Rattle.lsv_session.specs.declared.connection.ConnState.TheVariants.{Alerted, Running}
use Rattle.lsv_machine.specs.Machine.{Machine, is_running, log_of}
use Rattle.lsv_keeper.specs.declared.report.Next.{Next}
use Rattle.lsv_keeper.specs.declared.report.Next.TheVariants as next
use Rattle.lsv_keeper.specs.Accepting.{EntersNoLog, IsEventOf, unless_running}
use Rattle.lsv_keeper.specs.Value.{KeeperView, peer_of, settings_of}
use Rattle.lsv_keeper.proofs.Accepting.{idle_of}

-- each of these, with what is done besides
abbrev IsReject : KeeperView → TimeSpec → ConnId → ConnState → Report → Machine → Next → Type 0
IsReject v now k s report m after = IsEventOf (settings_of v) now k s (request.Reject report) (line_of v.kind (event.Reject now (peer_of k) report.reason (record { submit = report.time; info = report.info }))) after m

abbrev IsAlert : KeeperView → TimeSpec → ConnId → ConnState → Report → Machine → Next → Type 0
IsAlert v now k s report m after = IsEventOf (settings_of v) now k s (request.Alert report) (line_of v.kind (event.Alert now (peer_of k) report.reason (record { submit = report.time; info = report.info }))) after m

abbrev IsAccept : KeeperView → TimeSpec → ConnId → ConnState → Accept → Machine → Next → Type 0
IsAccept v now k s accept m after = IsEventOf (settings_of v) now k s (request.Accept accept) (line_of v.kind (event.Accept now (peer_of k) (log_of s) accept.head)) after m

pub reject_event : (v : KeeperView) (now : TimeSpec) (k : ConnId) (s : ConnState) (report : Report) (m : Machine)
    → IsEventOf (settings_of v) now k s (request.Reject report) (line_of v.kind (event.Reject now (peer_of k) report.reason (record { submit = report.time; info = report.info }))) (unless_running s next.Ends) m
reject_event v now k s report m = go (is_running s) refl
  where
    go : (b : Bool) → is_running s ≡ b → IsReject v now k s report m (if is_running s then next.Stays else next.Ends)
    go true r = subst (λ (b : Bool). IsReject v now k s report m (if b then next.Stays else next.Ends)) (sym r) (record {
      line_is = refl;
      has_one = refl;
      opens_none = refl;
      does = λ n. rw r refl;
      first = λ n. refl;
      idle = tt;
      lets_go = λ failed left x. x;
      loses_line = λ failed left x. x;
      notes_none = λ n l. refl;
      reads_none = λ n shut answers. refl;
    })
    go false r = subst (λ (b : Bool). IsReject v now k s report m (if b then next.Stays else next.Ends)) (sym r) (record {
      line_is = refl;
      has_one = refl;
      opens_none = refl;
      does = λ n. rw r refl;
      first = λ n. refl;
      idle = idle_of s r;
      lets_go = λ failed left x. x;
      loses_line = λ failed left x. x;
      notes_none = λ n l. refl;
      reads_none = λ n shut answers. refl;
    })

pub alert_event : (v : KeeperView) (now : TimeSpec) (k : ConnId) (s : ConnState) (report : Report) (m : Machine)
    → IsEventOf (settings_of v) now k s (request.Alert report) (line_of v.kind (event.Alert now (peer_of k) report.reason (record { submit = report.time; info = report.info }))) (unless_running s (next.Enters Alerted)) m
alert_event v now k s report m = go (is_running s) refl
  where
    go : (b : Bool) → is_running s ≡ b → IsAlert v now k s report m (if is_running s then next.Stays else next.Enters Alerted)
    go true r = subst (λ (b : Bool). IsAlert v now k s report m (if b then next.Stays else next.Enters Alerted)) (sym r) (record {
      line_is = refl;
      has_one = refl;
      opens_none = refl;
      does = λ n. rw r refl;
      first = λ n. refl;
      idle = tt;
      lets_go = λ failed left x. x;
      loses_line = λ failed left x. x;
      notes_none = λ n l. refl;
      reads_none = λ n shut answers. refl;
    })
    go false r = subst (λ (b : Bool). IsAlert v now k s report m (if b then next.Stays else next.Enters Alerted)) (sym r) (record {
      line_is = refl;
      has_one = refl;
      opens_none = refl;
      does = λ n. rw r refl;
      first = λ n. refl;
      idle = idle_of s r;
      lets_go = λ failed left x. x;
      loses_line = λ failed left x. x;
      notes_none = λ n l. refl;
      reads_none = λ n shut answers. refl;
    })

pub accept_event : (v : KeeperView) (now : TimeSpec) (k : ConnId) (s : ConnState) (accept : Accept) (m : Machine) → (not (is_running s) && accept.expect_iobufs) ≡ false
    → IsEventOf (settings_of v) now k s (request.Accept accept) (line_of v.kind (event.Accept now (peer_of k) (log_of s) accept.head)) (unless_running s (next.Enters (Running None))) m
accept_event v now k s accept m none = go (is_running s) refl
  where
    go : (b : Bool) → is_running s ≡ b → IsAccept v now k s accept m (if is_running s then next.Stays else next.Enters (Running None))
    go true r = subst (λ (b : Bool). IsAccept v now k s accept m (if b then next.Stays else next.Enters (Running None))) (sym r) (record {
      line_is = refl;
      has_one = refl;
      opens_none = none;
      does = λ n. rw r refl;
      first = λ n. rw none refl;
      idle = tt;
      lets_go = λ failed left x. x;
      loses_line = λ failed left x. inr (none, x);
      notes_none = λ n l. refl;
      reads_none = λ n shut answers. refl;
    })
    go false r =
        let e : accept.expect_iobufs ≡ false = rw r at none in
        subst (λ (b : Bool). IsAccept v now k s accept m (if b then next.Stays else next.Enters (Running None))) (sym r) (record {
          line_is = refl;
          has_one = refl;
          opens_none = none;
          does = λ n. rw (r, e) refl;
          first = λ n. rw none refl;
          idle = idle_of s r;
          lets_go = λ failed left x. x;
          loses_line = λ failed left x. inr (none, x);
          notes_none = λ n l. refl;
          reads_none = λ n shut answers. refl;
        })

-- in a session a connection enters no other state
pub enters_none : (s : ConnState) (after : Next) → EntersNoLog after → EntersNoLog (unless_running s after)
enters_none s after none = go (is_running s)
  where
    go : (b : Bool) → EntersNoLog (if b then next.Stays else after)
    go true = tt
    go false = none
