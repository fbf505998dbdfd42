-- A conversation from its beginning to its end.
use Rattle.std.proofs.Common.{◌≡◌, ◌∙◌, ◌++◌, ◌≤◌, inl, inr, ℕ, Bool, true, false, List, [], length, None, Result, Ok, Err, IfOk, IfErr, refl, sym, ap, subst, append-nil, arith}
use Rattle.lsv_dialogue.specs.Ends.{Broke, Conversation, Ended, IsCausedBy, Ran}
use Rattle.lsv_dialogue.specs.Events.{Event, heard}
use Rattle.lsv_dialogue.specs.Manner.{Manner}
use Rattle.lsv_dialogue.specs.declared.ends.Cause.{Cause}
use Rattle.lsv_dialogue.specs.declared.ends.Cause.TheVariants as causes
use Rattle.lsv_dialogue.specs.declared.ends.Judged.{Judged}
use Rattle.lsv_dialogue.specs.declared.ends.End.{End}
use Rattle.lsv_dialogue.specs.declared.ends.End.TheVariants as ends
use Rattle.lsv_dialogue.specs.declared.ends.TalkFault.{TalkFault}
use Rattle.lsv_dialogue.specs.declared.ends.TalkFault.TheVariants as talks
use Rattle.lsv_dialogue.specs.declared.ends.Wants.TheVariants as wants
use Rattle.lsv_disk.specs.Throughout.{OnlyReads}
use Rattle.lsv_disk.specs.View.{DiskView, HasOwnCause}
use Rattle.lsv_disk.proofs.Composition.{OnlyNow}
use Rattle.lsv_iolog.specs.Reading.{IsBehind}
use Rattle.lsv_iolog.specs.Recovered.{IsOfLog}
use Rattle.lsv_iolog.specs.declared.fault.LogFault.{LogFault}
use Rattle.lsv_iolog.specs.declared.fault.LogFault.TheVariants as logs
use Rattle.lsv_iolog.specs.declared.fault.ViewFault.TheVariants as views
use Rattle.lsv_iolog.specs.Faults.{of_view}
use Rattle.lsv_iolog.proofs.Scans.{reads_nothing}
use Rattle.lsv_link.specs.Link.{Continues, LinkCounts, LinkState}
use Rattle.lsv_link.specs.declared.connection.Connection.{Connection}
use Rattle.lsv_msg.specs.declared.messages.ServerMessage.{ServerMessage}
use Rattle.lsv_record.specs.Records.{elapsed}
use Rattle.lsv_record.specs.declared.records.Record.{Record}
use Rattle.lsv_defs.specs.Causes.{HasRisen}
use Rattle.lsv_send.specs.Handing.{HasWaited, SaysAt, said_at, wants_at}
use Rattle.lsv_send.specs.Judging.{is_done}
use Rattle.lsv_send.specs.Lines.{lines_of}
use Rattle.lsv_send.specs.Opening.{IsNew, begins_of, opening_of, stop_of}
use Rattle.lsv_send_args.specs.Request.{Sending}
use Rattle.lsv_send.specs.Ready.{IsReadyOver}
use Rattle.lsv_send.specs.Disk.{IsOfSomeLog}
use Rattle.lsv_send.specs.Sending.{PrintsBy, Talked}
use Rattle.lsv_send.specs.Status.{HasLinkCause, of_fault, of_log, of_talk}
use Rattle.lsv_send.specs.declared.status.SendStatus.{SendStatus}
use Rattle.lsv_send.specs.declared.status.SendStatus.TheVariants.{Refused}
use Rattle.lsv_send.specs.Talks.{Begins, Fails, IsOf, PrintsAt, StandsAt, Start, Talks, Told, far_of, told_start}
use Rattle.lsv_send.specs.declared.fault.SendFault.{SendFault}
use Rattle.lsv_send.specs.declared.fault.SendFault.TheVariants as faults
use Rattle.lsv_send.specs.declared.sender.Place.{Place}
use Rattle.lsv_send.specs.declared.sender.Place.TheVariants.{Opening}
use Rattle.lsv_send.specs.declared.sender.Sender.{Sender}
use Rattle.lsv_send.proofs.Manners.{broke_as, ended_as, manner_by}
use Rattle.lsv_send.proofs.Stepping.{wants_more}
use Rattle.lsv_send.proofs.Telling.{begins_goes, begins_here, begins_not, within_none}

-- ---- the beginning

told_none : (start : Start) (s : Sender) → IsOf start.source s → s.place ≡ Opening → s.known ≡ false → s.more ≡ false → s.exited ≡ false → s.reached ≡ false → IsReadyOver start.source s start.disk → OnlyNow start.disk → Told start s start.disk []
told_none start s is place known more exited reached over now =
    let reads = reads_nothing start.disk now in
    let records = start.source.skipped ++ [] in
    let behind : IsBehind s.log (start.source.skipped ++ []) start.disk = subst (λ (rs : List Record). IsBehind s.log rs start.disk) (sym (append-nil start.source.skipped)) over.behind in record {
      hands = record {
        more = [];
        exit = None;
        begins = begins_here start.source.number start.source.body s.log start.disk start.disk records is.number is.body reads behind;
        within = within_none (stop_of start.source.what) start.source.skipped;
        says = subst (λ (q : Place). SaysAt q start.source start.disk.reads [] None) (sym place) (record { more_is = refl; exit_is = refl });
        said_is = ap (λ (q : Place). said_at q (opening_of start.source.what start.source.head) [] None) (sym place);
        waited = subst (λ (q : Place). HasWaited q (begins_of start.source.what) []) (sym place) tt;
        known = known;
        sent = over.sent ∙ ap elapsed (sym (append-nil start.source.skipped));
        rest = more;
        exited = exited;
        reached = reached;
      };
      stands = subst (λ (q : Place). StandsAt q s.log records start.disk) (sym place) behind;
      opening = λ e. over.opening;
      cuts = over.cuts;
      reads = reads;
    }

-- nothing was heard or said
pub talks_none : (dt st same : Type 0) (start : Begins dt) (s : Sender) (what : Sending) → (dt → OnlyNow start.disk) → same → IsNew what start.number s → ((d : dt) → IsReadyOver (start.source d) s start.disk) → Talks dt st start s start.disk start.printed start.faults same []
talks_none dt st same start s what now keeps new over = record {
  number = new.number;
  begins = λ e. begins_not what (sym new.begins ∙ e);
  goes_on = ap is_done new.begins ∙ begins_goes what;
  starts = λ none. new.place;
  two = λ at. new.opening;
  is = λ d. (over d).is;
  told = λ d. told_none (told_start start d) s (over d).is new.place new.known new.more new.exited new.reached (over d) (now d);
  prints = λ k. sym (append-nil start.printed);
  sink = omega arith;
  counts = λ f. omega arith;
  keeps = keeps;
}

-- it wants to go on
pub wants_first : (what : Sending) (n : ℕ) (s : Sender) → IsNew what n s → wants_at (far_of s) ≡ wants.More
wants_first what n s new = wants_more s (ap is_done new.place)

-- ---- the end

-- what was printed before a call failed
printed_by : (fault : SendFault) (lines old new : List ℕ) → PrintsAt fault lines old new → (printed : List ℕ) × (new ≡ old ++ printed) × PrintsBy fault lines printed
printed_by faults.Sink lines old new (front, part, is) = (front, is, part)
printed_by faults.NoMem lines old new (front, part, is) = (front, is, part)
printed_by (faults.Log fault) lines old new is = (lines, is, refl)

-- what is known of the disk and the sink at the end
abbrev pub Leaves : (dt same : Type 0) (old new : DiskView) (n count count' : ℕ) (ended : Result End (TalkFault SendFault)) → Type 0
Leaves dt same old new n count count' ended = same × (dt → OnlyReads old new) × HasOwnCause (IsOfLog n) (ended ≡ Err (talks.Speaker (faults.Log views.Disk))) old new × (count ≤ count') × (ended ≡ Err (talks.Speaker faults.Sink) → HasRisen count count')

left_ended : (dt st same : Type 0) (start : Begins dt) (s : Sender) (disk : DiskView) (printed : List ℕ) (count : ℕ) (events : List Event) (end : End) → Talks dt st start s disk printed count same events → Leaves dt same start.disk disk start.number start.faults count (Ok end)
left_ended dt st same start s disk printed count events end t = (
  t.keeps,
  λ d. (t.told d).reads,
  record { monotone = t.counts; risen = λ e. absurd (let no : Ok end ≡ Err (talks.Speaker (faults.Log views.Disk)) = e in cc) },
  t.sink,
  λ e. absurd (let no : Ok end ≡ Err (talks.Speaker faults.Sink) = e in cc),
)

left_nomem : (dt st same : Type 0) (start : Begins dt) (s : Sender) (disk : DiskView) (printed : List ℕ) (count : ℕ) (events : List Event) → Talks dt st start s disk printed count same events → Leaves dt same start.disk disk start.number start.faults count (Err talks.NoMem)
left_nomem dt st same start s disk printed count events t = (
  t.keeps,
  λ d. (t.told d).reads,
  record { monotone = t.counts; risen = λ e. absurd (let no : talks.NoMem ≡ talks.Speaker (faults.Log views.Disk) = cc in cc) },
  t.sink,
  λ e. absurd (let no : talks.NoMem ≡ talks.Speaker faults.Sink = cc in cc),
)

left_failed : (dt st same : Type 0) (start : Begins dt) (disk : DiskView) (printed : List ℕ) (count : ℕ) (events : List Event) (fault : SendFault) → Fails dt st start disk printed count same events fault → Leaves dt same start.disk disk start.number start.faults count (Err (talks.Speaker fault))
left_failed dt st same start disk printed count events fault f = (
  f.keeps,
  f.reads,
  record { monotone = f.cause.monotone; risen = λ e. f.cause.risen (let same_fault : fault ≡ faults.Log views.Disk = cc in same_fault) },
  f.sink,
  λ e. f.sink_cause (let same_fault : fault ≡ faults.Sink = cc in same_fault),
)

-- a sender over a world: what it handed out, and how that ended
module _ {W : Type 0} (dt st : Type 0) (start : Begins dt) (disk_of : W → DiskView) (put_of : W → List ℕ) (count_of : W → ℕ) (same_of : W → Type 0) where
  abbrev TalksIn : Sender → W → List Event → Type 0
  TalksIn s w events = Talks dt st start s (disk_of w) (put_of w) (count_of w) (same_of w) events

  abbrev FailsIn : Sender → W → List Event → SendFault → Type 0
  FailsIn s w events fault = Fails dt st start (disk_of w) (put_of w) (count_of w) (same_of w) events fault

  abbrev Its : Manner Sender W SendFault
  Its = manner_by TalksIn FailsIn

  pub talked_by : (tells : Type 0) (s : Sender) (w : W) (server : List ℕ) (old new : LinkState) (before after : LinkCounts) (r : Result End (TalkFault SendFault)) (d : dt) → st
      → IfOk r (λ end. Ran tells server old new (λ conn. Ended Its tells s w before after conn end)) → IfErr r (λ fault. Ran tells server old new (λ conn. Broke Its tells s w before after conn fault))
      → (printed : List ℕ) × (put_of w ≡ start.printed ++ printed) × Talked tells (start.source d) start.disk.reads server r (record { old = old; new = new; before = before; after = after; printed = printed })
  talked_by tells s w server old new before after (Ok end) d k ok err = (
    lines_of (heard ok.went.events),
    ok.went.talks.prints k,
    record {
      conn = ok.conn;
      added = ok.added;
      went = record { far = far_of s; ended = ended_as TalksIn FailsIn (start.source d) start.disk.reads (λ x v es t. (t.told d).hands) (λ x v es f t. t.told d) tells s w before after ok.conn end ok.went; prints = refl };
    },
  )
  talked_by tells s w server old new before after (Err talks.NoMem) d k ok err = (
    lines_of (heard err.went.events),
    err.went.fails.prints k,
    record {
      conn = err.conn;
      added = err.added;
      went = record { far = far_of s; broke = broke_as TalksIn FailsIn (start.source d) start.disk.reads (λ x v es t. (t.told d).hands) (λ x v es f t. t.told d) tells s w before after err.conn talks.NoMem err.went; prints = refl };
    },
  )
  talked_by tells s w server old new before after (Err (talks.Speaker fault)) d k ok err =
      let p = printed_by fault (lines_of (heard err.went.events)) start.printed (put_of w) (err.went.fails.prints k) in (
        p.0,
        p.1,
        record {
          conn = err.conn;
          added = err.added;
          went = record { far = far_of s; broke = broke_as TalksIn FailsIn (start.source d) start.disk.reads (λ x v es t. (t.told d).hands) (λ x v es f t. t.told d) tells s w before after err.conn (talks.Speaker fault) err.went; prints = p.2 };
        },
      )

  pub leaves_by : (tells : Type 0) (s : Sender) (w : W) (before after : LinkCounts) (r : Result End (TalkFault SendFault)) → IfOk r (λ end. (conn : Connection) × Ended Its tells s w before after conn end)
      → IfErr r (λ fault. (conn : Connection) × Broke Its tells s w before after conn fault) → Leaves dt (same_of w) start.disk (disk_of w) start.number start.faults (count_of w) r
  leaves_by tells s w before after (Ok end) ok err = left_ended dt st (same_of w) start s (disk_of w) (put_of w) (count_of w) ok.1.events end ok.1.talks
  leaves_by tells s w before after (Err talks.NoMem) ok err = left_nomem dt st (same_of w) start s (disk_of w) (put_of w) (count_of w) err.1.events err.1.fails
  leaves_by tells s w before after (Err (talks.Speaker fault)) ok err = left_failed dt st (same_of w) start (disk_of w) (put_of w) (count_of w) err.1.events fault err.1.fails

-- ---- the link's counts

abbrev pub IsUnrefused : SendStatus → Type 0
IsUnrefused status = (status ≡ Refused causes.Unreached → ⊥) × (status ≡ Refused causes.Failed → ⊥) × (status ≡ Refused causes.NotYet → ⊥)

-- such a status asks nothing of the counts
pub other_cause : (status : SendStatus) (before after : LinkCounts) → Continues before after → IsUnrefused status → HasLinkCause status before after
other_cause status before after k u = record { continues = k; unreached = λ e. absurd (u.0 e); failed = λ e. absurd (u.1 e); waited = λ e. absurd (u.2 e) }

pub unrefused_log : (fault : LogFault) → IsUnrefused (of_log fault)
unrefused_log logs.NoMem = (λ e. cc, λ e. cc, λ e. cc)
unrefused_log logs.Absent = (λ e. cc, λ e. cc, λ e. cc)
unrefused_log (logs.Damaged part) = (λ e. cc, λ e. cc, λ e. cc)
unrefused_log logs.Complete = (λ e. cc, λ e. cc, λ e. cc)
unrefused_log (logs.NoPoint point) = (λ e. cc, λ e. cc, λ e. cc)
unrefused_log logs.Disk = (λ e. cc, λ e. cc, λ e. cc)
unrefused_log logs.Broken = (λ e. cc, λ e. cc, λ e. cc)
unrefused_log (logs.Full part) = (λ e. cc, λ e. cc, λ e. cc)
unrefused_log (logs.TooLong point) = (λ e. cc, λ e. cc, λ e. cc)

-- nothing was asked of the link
pub link_none : (status : SendStatus) (counts : LinkCounts) → IsUnrefused status → HasLinkCause status counts counts
link_none status counts u = other_cause status counts counts (record { faults = omega arith; full = omega arith; waits = omega arith }) u

unrefused_fault : (fault : SendFault) → IsUnrefused (of_fault fault)
unrefused_fault (faults.Log fault) = unrefused_log (of_view fault)
unrefused_fault faults.Sink = (λ e. cc, λ e. cc, λ e. cc)
unrefused_fault faults.NoMem = (λ e. cc, λ e. cc, λ e. cc)

stopped_cause : (judges : ServerMessage → Judged) (quiet tells : Type 0) (cause : Cause) (c : Conversation) → Continues c.before c.after → IsCausedBy judges quiet tells cause c → HasLinkCause (Refused cause) c.before c.after
stopped_cause judges quiet tells causes.Unreached c k caused =
    record { continues = k; unreached = λ e. caused.0; failed = λ e. absurd (let no : causes.Unreached ≡ causes.Failed = cc in cc); waited = λ e. absurd (let no : causes.Unreached ≡ causes.NotYet = cc in cc) }
stopped_cause judges quiet tells causes.NotYet c k caused =
    record { continues = k; unreached = λ e. absurd (let no : causes.NotYet ≡ causes.Unreached = cc in cc); failed = λ e. absurd (let no : causes.NotYet ≡ causes.Failed = cc in cc); waited = λ e. elim caused [ inl full ↦ inl full.full | inr silent ↦ inr silent.waited.waits ] }
stopped_cause judges quiet tells causes.Failed c k caused =
    record { continues = k; unreached = λ e. absurd (let no : causes.Failed ≡ causes.Unreached = cc in cc); failed = λ e. caused.0; waited = λ e. absurd (let no : causes.Failed ≡ causes.NotYet = cc in cc) }
stopped_cause judges quiet tells causes.Ended c k caused = other_cause (Refused causes.Ended) c.before c.after k (λ e. cc, λ e. cc, λ e. cc)
stopped_cause judges quiet tells (causes.Said text) c k caused = other_cause (Refused (causes.Said text)) c.before c.after k (λ e. cc, λ e. cc, λ e. cc)
stopped_cause judges quiet tells (causes.Malformed fault) c k caused = other_cause (Refused (causes.Malformed fault)) c.before c.after k (λ e. cc, λ e. cc, λ e. cc)
stopped_cause judges quiet tells (causes.TooLarge n) c k caused = other_cause (Refused (causes.TooLarge n)) c.before c.after k (λ e. cc, λ e. cc, λ e. cc)
stopped_cause judges quiet tells (causes.Strange point) c k caused = other_cause (Refused (causes.Strange point)) c.before c.after k (λ e. cc, λ e. cc, λ e. cc)
stopped_cause judges quiet tells (causes.LongId n) c k caused = other_cause (Refused (causes.LongId n)) c.before c.after k (λ e. cc, λ e. cc, λ e. cc)
stopped_cause judges quiet tells causes.Chatter c k caused = other_cause (Refused causes.Chatter) c.before c.after k (λ e. cc, λ e. cc, λ e. cc)
stopped_cause judges quiet tells (causes.TooLong n) c k caused = other_cause (Refused (causes.TooLong n)) c.before c.after k (λ e. cc, λ e. cc, λ e. cc)

pub link_by : {S W : Type 0} (manner : Manner S W SendFault) (tells : Type 0) (s : S) (w : W) (before after : LinkCounts) (r : Result End (TalkFault SendFault)) → IfOk r (λ end. (conn : Connection) × Ended manner tells s w before after conn end)
    → IfErr r (λ fault. (conn : Connection) × Broke manner tells s w before after conn fault) → HasLinkCause (of_talk r) before after
link_by manner tells s w before after (Ok ends.Over) ok err = other_cause (of_talk (Ok ends.Over)) before after ok.1.matches.continues (λ e. cc, λ e. cc, λ e. cc)
link_by manner tells s w before after (Ok (ends.Stopped cause)) ok err = stopped_cause (manner.judges s) (manner.quiet s) tells cause _ ok.1.matches.continues ok.1.cause.caused
link_by manner tells s w before after (Err talks.NoMem) ok err = other_cause (of_talk (Err talks.NoMem)) before after err.1.matches.continues (λ e. cc, λ e. cc, λ e. cc)
link_by manner tells s w before after (Err (talks.Speaker fault)) ok err = other_cause (of_fault fault) before after err.1.matches.continues (unrefused_fault fault)

pub some_log : (n : ℕ) (failed : Type 0) (old new : DiskView) → HasOwnCause (IsOfLog n) failed old new → HasOwnCause IsOfSomeLog failed old new
some_log n failed old new cause = record { monotone = cause.monotone; risen = λ e. let one = cause.risen e in (one.0, (n, one.1), one.2) }
