-- The end of a turn: what the flush of one log gives.
use Rattle.std.proofs.Common.{◌≡◌, ◌≢◌, ◌<◌, ℕ, List, [], ◌∷◌, ◌++◌, map, refl, sym, ◌∙◌, ap, subst, inr, arith, Option, Some, None, append-nil}
use Rattle.std.specs.Prelude.{if◌then◌else◌, ◌==◌}
use Rattle.lsv_disk.specs.Throughout.{Throughout}
use Rattle.lsv_disk.specs.View.{DiskView, Image, IsCrashImage}
use Rattle.lsv_disk.specs.declared.file.Owner.TheVariants.{Log, Numbers, Events}
use Rattle.lsv_iolog.specs.Moments.{IsEither}
use Rattle.lsv_iolog.specs.Recovered.{IsOfLog, Replays}
use Rattle.lsv_iolog.specs.Represents as logs
use Rattle.lsv_iolog.specs.Value.{LogValue, all_of, bare, flushed}
use Rattle.lsv_iolog.proofs.Representing.{every_image}
use Rattle.lsv_record.specs.Points.{Stored}
use Rattle.lsv_record.specs.Records.{elapsed}
use Rattle.lsv_record.specs.declared.records.Record.{Record}
use Rattle.lsv_session.specs.declared.connection.ConnId.{ConnId}
use Rattle.lsv_session.specs.declared.connection.ConnState.TheVariants.{Dead}
use Rattle.lsv_session.specs.declared.reply.Reply.{Reply}
use Rattle.lsv_machine.specs.Answers.{Answer, CommitPoint, reply_of, say}
use Rattle.lsv_machine.specs.Failures.{IsRefused}
use Rattle.lsv_machine.specs.Machine.{LogState, LogState.There, Machine, leaves, log_of, with_log, without_log}
use Rattle.lsv_machine.specs.Turns.{raised}
use Rattle.lsv_machine.specs.Work.{next_number}
use Rattle.lsv_machine.proofs.Changing.{NotAbove, log_sound, owned_not_above}
use Rattle.lsv_machine.proofs.Choices.{EqOr.equal, EqOr.unequal, eq_or}
use Rattle.lsv_machine.proofs.RecordLemmas.{raised_within}
use Rattle.lsv_keeper.specs.declared.logs.OpenLog.{OpenLog}
use Rattle.lsv_keeper.specs.declared.logs.OpenLogs.{OpenLogs}
use Rattle.lsv_keeper.specs.Leaving.{Departs, EndsFlush}
use Rattle.lsv_keeper.specs.Logs.{Flushes, open_logs, with_open}
use Rattle.lsv_keeper.specs.Represents.{Held, LogIs, Masks, Represents}
use Rattle.lsv_keeper.specs.Rows.{Left}
use Rattle.lsv_keeper.specs.Tails.{LogGives, none_waits}
use Rattle.lsv_keeper.specs.Value.{KeeperView, log_in, settings_of}
use Rattle.lsv_keeper.proofs.Counting.{only}
use Rattle.lsv_keeper.proofs.Departing.{left_some, not_its}
use Rattle.lsv_keeper.proofs.Frames.{Laws, log_apart}
use Rattle.lsv_keeper.proofs.Losing.{LeftLog, left_log, lost_log}
use Rattle.lsv_keeper.proofs.Standing.{events_stay, numbers_stay, represents_one}
use Rattle.lsv_keeper.proofs.Tailing.{commit_ends, flushed_part, run}

-- the open log of a number, where this number has another one, or none
opened_here : (n : ℕ) (its : Option OpenLog) (logs : ℕ → Option OpenLog) → with_open n its logs n ≡ its
opened_here n its logs = elim (eq_or n n) [ equal p t ↦ rw t refl | unequal p t ↦ absurd (p refl) ]

opened_beside : (n j : ℕ) (its : Option OpenLog) (logs : ℕ → Option OpenLog) → j ≢ n → with_open n its logs j ≡ logs j
opened_beside n j its logs ne = elim (eq_or j n) [ equal p t ↦ absurd (ne p) | unequal p t ↦ rw t refl ]

other_log : (n j : ℕ) (x : LogState) (m : Machine) → j ≢ n → (with_log n x m).logs j ≡ m.logs j
other_log n j x m ne = elim (eq_or j n) [ equal p t ↦ absurd (ne p) | unequal p t ↦ rw t refl ]

this_log : (n : ℕ) (x : LogState) (m : Machine) → (with_log n x m).logs n ≡ x
this_log n x m = elim (eq_or n n) [ equal p t ↦ rw t refl | unequal p t ↦ absurd (p refl) ]

-- a stored log with nothing staged, flushed, is itself
bare_flushed : (x : Stored) → flushed (bare x) ≡ x
bare_flushed x = ap (λ (rs : List Record). record x { records = rs }) (append-nil x.records)

-- ---- A commit point

pub committed_gives : (n : ℕ) (k : ConnId) (point : ℕ) (v : KeeperView) (logs' : OpenLogs) (m : Machine) (old new : DiskView) (said said' : List Reply) → Laws old → Laws new → Represents v old (none_waits m) → m.owner n ≡ Some k
    → ((its : OpenLog) (value : LogValue) → log_in v n ≡ Some its → logs.Represents its.log value old → Flushes n its value (Some point) (open_logs v.logs) (open_logs logs') old new)
    → said' ≡ said ++ map reply_of (say k (CommitPoint point) ∷ []) → LogGives n v m said said' (record v { logs = logs' }) old new
committed_gives n k point v logs' m old new said said' laws laws' at own flushes told = record {
  tail = record { answers = say k (CommitPoint (elapsed (all_of h.value))) ∷ []; failed = [] };
  after = with_log n x m;
  told = told ∙ ap (λ (c : ℕ). said ++ map reply_of (say k (CommitPoint c) ∷ [])) (f.leaves.0 ∙ h.represents.time);
  ended = commit_ends n k v m old new laws laws' at own h f.moments f.monotone h.there now;
  own = λ o c. absurd (let low = c.1 in omega arith);
  others = λ i ne. refl;
  represents = represents_one (Some n) v v' old new (none_waits m) (none_waits (with_log n x m)) (IsOfLog n) at its_run.elsewhere (λ j ne. log_apart j n (λ e. ne (ap Some (sym e)))) (record {
    lane = refl;
    lanes = refl;
    keeps_texts = refl;
    sound = log_sound (settings_of v) n (flushed h.value) promised (none_waits m) not_above at.sound;
    texts = refl;
    states = at.states;
    owner = at.owner;
    waiting = at.waiting;
    noting = at.noting;
    rising = at.rising;
    waits = at.waits;
    others = λ j ne. (other_log n j x m (λ e. ne (ap Some (sym e))), refl, ap (λ (f : ℕ → Option OpenLog). f j) f.leaves.1.3 ∙ opened_beside n j (Some next) (open_logs v.logs) (λ e. ne (ap Some (sym e))));
    its = subst (LogIs v' new (none_waits (with_log n x m)) n) (sym own) (record {
      its = next;
      here = ap (λ (f : ℕ → Option OpenLog). f n) f.leaves.1.3 ∙ opened_here n (Some next) (open_logs v.logs);
      value = bare (flushed h.value);
      represents = f.leaves.1.2;
      number = f.leaves.1.1 ∙ h.number;
      going = h.going;
      mask = subst (Masks v.texts h.its.mask) (sym (append-nil (all_of h.value))) h.mask;
      promised = promised;
      there = this_log n x m ∙ ap (λ (s : Stored). There s promised) (sym (bare_flushed (flushed h.value)));
      enough = raised_within h.promised (all_of h.value) (elapsed (all_of h.value)) (flushed_part v old (none_waits m) n h).enough;
    });
    numbers = numbers_stay v.lane v.lanes v.numbers old new (next_number (settings_of v) m) m.failed_draws (IsOfLog n) its_run.elsewhere (λ file a b. (let e : Numbers v.lane ≡ Log n = sym a ∙ b in cc)) at.numbers;
    later = omega arith;
    made = λ j e of above. absurd (not_above (subst (λ i. Rattle.lsv_machine.specs.Machine.IsOfLane v.lane v.lanes i) (let f : n ≡ j = cc in sym f) of) (let f : n ≡ j = cc in subst (λ i. m.last < i) (sym f) above));
    events = events_stay v.lane v.events old new (none_waits m) (none_waits (with_log n x m)) (IsOfLog n) its_run.elsewhere (λ file a b. (let e : Events v.lane ≡ Log n = sym a ∙ b in cc)) refl refl (λ e. e) at.events;
  });
}
  where
    h : Held v old (none_waits m) n
    h = subst (LogIs v old (none_waits m) n) own (at.logs n)

    f : Flushes n h.its h.value (Some point) (open_logs v.logs) (open_logs logs') old new
    f = flushes h.its h.value h.here h.represents

    v' : KeeperView
    v' = record v { logs = logs' }

    promised : ℕ
    promised = raised h.promised (all_of h.value) (elapsed (all_of h.value))

    x : LogState
    x = There (flushed h.value) promised

    next : OpenLog
    next = record h.its { log = f.leaves.1.0 }

    not_above : NotAbove (settings_of v) m.last n
    not_above = owned_not_above (settings_of v) (none_waits m) n k at.sound own

    its_run : Throughout (IsOfLog n) (IsEither n (Some h.value.stored) (Some (flushed h.value))) old new
    its_run = run n k v m old new laws laws' at own h f.moments f.monotone

    now : (image : Image) → IsCrashImage new image → Replays image n (Some (flushed h.value))
    now image is = subst (λ i. Replays image i (Some (flushed h.value))) (f.leaves.1.1 ∙ h.number) (every_image f.leaves.1.0 (bare (flushed h.value)) new f.leaves.1.2 image is)

-- ---- A log that failed

some_one : (n i : ℕ) → Some n ≡ Some i → i ≡ n
some_one n i e = cc

no_waiting : (o : Option ℕ) → without_log o [] ≡ []
no_waiting None = refl
no_waiting (Some n) = refl

pub lost_gives : (n : ℕ) (k : ConnId) (v v' : KeeperView) (logs' : OpenLogs) (m : Machine) (old new : DiskView) (said said' : List Reply) (answers : List Answer) → Laws old → Laws new → Represents v old (none_waits m) → m.owner n ≡ Some k
    → ((its : OpenLog) (value : LogValue) → log_in v n ≡ Some its → logs.Represents its.log value old → Flushes n its value None (open_logs v.logs) (open_logs logs') old new)
    → Departs (Some n) k Dead (record v { logs = logs' }) v' → v'.logs ≡ logs' → IsRefused k answers
    → said' ≡ said ++ map reply_of answers → LogGives n v m said said' v' old new
lost_gives n k v v' logs' m old new said said' answers laws laws' at own flushes d same_logs refused told = record {
  tail = record { answers = answers; failed = Log n ∷ [] };
  after = leaves k Dead (with_log n its.log m);
  told = told;
  ended = lost_log n k v v' m old new laws at left answers refused own (f.leaves.1.0, f.leaves.1.1 ∙ ap Log h.number, f.leaves.1.2) its;
  own = λ o c. sym (only (Log n) o c);
  others = λ i ne. rw (not_its (log_of (m.states k)) i (λ e. ne (let f : Some n ≡ Some i = sym writes ∙ e in some_one n i f))) refl;
  represents = subst (Represents v' new) (ap (leaves k Dead) its.now ∙ ap (λ (w : List ℕ). record (leaves k Dead (with_log n its.log m)) { waiting = w }) (no_waiting (log_of (m.states k)))) left.represents;
}
  where
    h : Held v old (none_waits m) n
    h = subst (LogIs v old (none_waits m) n) own (at.logs n)

    f : Flushes n h.its h.value None (open_logs v.logs) (open_logs logs') old new
    f = flushes h.its h.value h.here h.represents

    writes : log_of (m.states k) ≡ Some n
    writes = at.sound.owns n k own

    ends : (its : OpenLog) (value : LogValue) → log_in v n ≡ Some its → logs.Represents its.log value old → EndsFlush its.log value old new
    ends its value here rep = let g = flushes its value here rep in record { moments = g.moments; monotone = g.monotone; ends = inr g.leaves.1 }

    open_ones : (j : ℕ) → log_in v' j ≡ (if j == n then None else log_in v j)
    open_ones j = ap (λ (l : OpenLogs). open_logs l j) same_logs ∙ ap (λ (g : ℕ → Option OpenLog). g j) f.leaves.0

    left : Left k Dead v (none_waits m) v' old new
    left = left_some v v' old new (none_waits m) k Dead n laws laws' at writes refl (record { beside = record { lane = d.beside.lane; lanes = d.beside.lanes; log_exit = d.beside.log_exit; kind = d.beside.kind; texts = d.beside.texts; numbers = d.beside.numbers; events = d.beside.events; noting = d.beside.noting }; states = d.states; owner = d.owner; waiting = d.waiting }) open_ones ends

    its : LeftLog n (none_waits m) left.left
    its = left_log left.failed n (log_of (m.states k)) (none_waits m) left.left (flushed h.value) h.promised writes h.there h.going (flushed_part v old (none_waits m) n h).enough left.log
