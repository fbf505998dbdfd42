-- Rows of exits: what the log's files hold at each moment, and what the keeper and its disk then stand for.
use Rattle.std.proofs.Common.{◌≡◌, ◌≤◌, ◌+◌, ◌^◌, ℕ, List, [], ◌∷◌, length, take, refl, sym, ◌∙◌, ap, subst, inl, inr, arith, Option, Some, None, ◌⊎◌, length-append}
use Rattle.std.specs.Prelude.{◌==◌, Bool, true, false, if◌then◌else◌, nat_le, Result, Ok}
use Rattle.std.proofs.lemmas.List.{take_at}
use Rattle.std.proofs.lemmas.List.Elements.{Contains-push}
use Rattle.lsv_base.specs.declared.time.TimeSpec.{TimeSpec}
use Rattle.lsv_disk.specs.Throughout.{Jointly, Throughout}
use Rattle.lsv_disk.specs.View.{DiskView, Elsewhere, Image, IsCrashImage}
use Rattle.lsv_disk.specs.declared.file.FileId.{FileId}
use Rattle.lsv_disk.specs.declared.file.Owner.{Owner}
use Rattle.lsv_disk.specs.declared.file.Owner.TheVariants as owners
use Rattle.lsv_info.specs.Layout.{exit_text}
use Rattle.lsv_info.specs.declared.times.Exit.{Exit}
use Rattle.lsv_iolog.specs.Moments.{IsEither}
use Rattle.lsv_iolog.specs.Recovered.{IsOfLog, Replays}
use Rattle.lsv_iolog.specs.Value.{all_of, finished, flushed}
use Rattle.lsv_record.specs.Points.{Stored}
use Rattle.lsv_record.specs.declared.records.Record.{Record}
use Rattle.lsv_request.specs.declared.refusal.Refusal.{Refusal}
use Rattle.lsv_request.specs.declared.refusal.Refusal.TheVariants as refusals
use Rattle.lsv_request.specs.declared.request.Request.{Request}
use Rattle.lsv_request.specs.declared.request.Request.TheVariants as request
use Rattle.lsv_session.specs.declared.connection.ConnId.{ConnId}
use Rattle.lsv_session.specs.declared.connection.ConnState.TheVariants.{Dead}
use Rattle.lsv_session.specs.declared.job.Body.{Body}
use Rattle.lsv_session.specs.declared.job.Job.{Job}
use Rattle.lsv_machine.specs.Answers.{Answer, CommitPoint, Saying, Saying.Error, Saying.LogId, Shut, refusal, say}
use Rattle.lsv_machine.specs.Disks.{AllGood, GoodOr}
use Rattle.lsv_machine.specs.Durable.{GoodAt, GoodFor}
use Rattle.lsv_machine.specs.Failures.{Act, AsksFor, Closes, IsRefused, IsSet, Step, WantsMemory}
use Rattle.lsv_machine.specs.History.{Ledger, answered, asked, becomes, heard, heard_all, is_exit, is_gone, noted, reads_log, reopened, request_in, tells_log, writes}
use Rattle.lsv_machine.specs.Machine.{LogState, LogState.There, Machine, is_dead, leaves, log_of, with_log}
use Rattle.lsv_machine.specs.Silence.{AllTo}
use Rattle.lsv_machine.specs.Stands.{StandsFor, as_list}
use Rattle.lsv_machine.specs.Starts.{ReadsAs}
use Rattle.lsv_machine.specs.Turns.{Happened.Did}
use Rattle.lsv_machine.specs.Work.{adds_line, fits_file, line_fits}
use Rattle.lsv_machine.proofs.Changing.{NotAbove, log_sound, owned_not_above}
use Rattle.lsv_machine.proofs.Fits.{writes_its}
use Rattle.lsv_machine.proofs.RecordLemmas.{prefix_all}
use Rattle.lsv_keeper.specs.Exits.{LineAdded, LineRefused}
use Rattle.lsv_keeper.specs.Leaving.{Departs}
use Rattle.lsv_keeper.specs.Reading.{reading_of}
use Rattle.lsv_keeper.specs.Represents.{Free, Held, LogIs, Represents}
use Rattle.lsv_keeper.specs.Rows.{AllRose, Beside, IsPartOf, LineFault, OwnerRose, RowGives, RowIs}
use Rattle.lsv_keeper.specs.Value.{KeeperView, event_line, log_in, settings_of}
use Rattle.lsv_keeper.specs.declared.outcome.Outcome.TheVariants as outcome
use Rattle.lsv_keeper.proofs.Acting.{Ends, Owned, OwnIf, OwnKeeps, acted, concerns_ends, ends_owes, ends_refused, ends_refusal, ends_wants, keeps_before, keeps_owned, owned, owned_owes, part_good, about_own, about_some}
use Rattle.lsv_keeper.proofs.Counting.{counts_did, rose_none, rose_one, rose_second}
use Rattle.lsv_keeper.proofs.Departing.{departs_changes, its_log, not_its, owner_then, rested}
use Rattle.lsv_keeper.proofs.ExitSteps.{Exits, line_of_exit, lined_act, step_full, step_line_lost, step_line_wants, step_lined, step_log_failed, step_quiet}
use Rattle.lsv_keeper.proofs.Frames.{Laws, beside_on, beside_wider, log_apart, resting}
use Rattle.lsv_keeper.proofs.Leaving.{act_of}
use Rattle.lsv_keeper.proofs.Numbering.{beside_its}
use Rattle.lsv_keeper.proofs.Standing.{Changes, represents_one}

-- ---- What a history says after an exit

-- head, records and exit are the same
record Alike (l l' : Ledger) : Type 0 where
  head : l'.head ≡ l.head
  shown : l'.shown ≡ l.shown
  exit : l'.exit ≡ l.exit

alike_on : (a b c : Ledger) → Alike a b → Alike b c → Alike a c
alike_on a b c s t = record { head = t.head ∙ s.head; shown = t.shown ∙ s.shown; exit = t.exit ∙ s.exit }

commit_alike : (b f : Bool) (p : Option ℕ) (l : Ledger) → Alike l (if b then record l { promised = p; finished = f } else l)
commit_alike true f p l = record { head = refl; shown = refl; exit = refl }
commit_alike false f p l = record { head = refl; shown = refl; exit = refl }

heard_alike : (exits : Bool) (k : ConnId) (says : Saying) (l : Ledger) → Alike l (heard exits k says l)
heard_alike exits k (CommitPoint point) l = commit_alike (writes l k) _ _ l
heard_alike exits k Shut l = record { head = refl; shown = refl; exit = refl }
heard_alike exits k (LogId n) l = record { head = refl; shown = refl; exit = refl }
heard_alike exits k (Error why) l = record { head = refl; shown = refl; exit = refl }

all_alike : (exits : Bool) (answers : List Answer) (l : Ledger) → Alike l (heard_all exits answers l)
all_alike exits [] l = record { head = refl; shown = refl; exit = refl }
all_alike exits (a ∷ answers) l = alike_on l (heard exits a.conn a.says l) (heard_all exits answers (heard exits a.conn a.says l)) (heard_alike exits a.conn a.says l) (all_alike exits answers (heard exits a.conn a.says l))

reopened_alike : (k : ConnId) (b : Bool) (l : Ledger) → Alike l (reopened k b l)
reopened_alike k true l = record { head = refl; shown = refl; exit = refl }
reopened_alike k false l = record { head = refl; shown = refl; exit = refl }

-- the ledger with this exit
abbrev exits_in : List ℕ → Ledger → Ledger
exits_in text l = record l { exit = Some text }

asked_exit : (n : ℕ) (k : ConnId) (b : Body) (answers : List Answer) (in_cut : Bool) (exit : Exit) (l : Ledger) → request_in b ≡ Ok (request.Exit exit) → writes l k ≡ true
    → asked n k (request_in b) answers in_cut l ≡ exits_in (exit_text exit) l
asked_exit n k b answers in_cut exit l request_is its =
    ap (λ (w : Result Request Refusal). asked n k w answers in_cut l) request_is ∙ ap (λ (t : Bool). if t then exits_in (exit_text exit) l else l) its

-- after an exit of its writer the log has the same head and records, and that exit
exit_alike : (n : ℕ) (act : Act) (exit : Exit) (l : Ledger) → request_in act.job.body ≡ Ok (request.Exit exit) → writes l act.job.conn ≡ true → Alike (exits_in (exit_text exit) l) (noted n l (Did act))
exit_alike n act exit l request_is its =
    let k = act.job.conn in
    let what = request_in act.job.body in
    let one = asked n k what act.answers act.in_cut l in
    let two = heard_all (is_exit what) act.answers one in
    subst (λ (x : Ledger). Alike x (noted n l (Did act))) (asked_exit n k act.job.body act.answers act.in_cut exit l request_is its)
    (alike_on one two (reopened k (is_gone act.job.body) two) (all_alike (is_exit what) act.answers one) (reopened_alike k (is_gone act.job.body) two))

-- what is told of a log that ended
abbrev pub told_end : ConnId → ℕ → List Answer
told_end k point = say k (CommitPoint point) ∷ say k Shut ∷ []

finish_promises : (k : ConnId) (point : ℕ) (l : Ledger) → writes l k ≡ true → (heard_all true (told_end k point) l).promised ≡ becomes l.promised (length l.shown)
finish_promises k point l its = rw its refl

reopened_promised : (k : ConnId) (b : Bool) (l : Ledger) → (reopened k b l).promised ≡ l.promised
reopened_promised k true l = refl
reopened_promised k false l = refl

-- all records are promised by a commit point that answers an exit
all_promised : (n : ℕ) (k : ConnId) (b : Body) (in_cut : Bool) (point p : ℕ) (exit : Exit) (l : Ledger) → request_in b ≡ Ok (request.Exit exit) → writes l k ≡ true → l.promised ≡ Some p
    → (answered n k b (told_end k point) in_cut l).promised ≡ Some (length l.shown)
all_promised n k b in_cut point p exit l request_is its told_is =
    reopened_promised k (is_gone b) (heard_all (is_exit (request_in b)) (told_end k point) (asked n k (request_in b) (told_end k point) in_cut l))
    ∙ ap (λ (x : Ledger). (heard_all (is_exit (request_in b)) (told_end k point) x).promised) (asked_exit n k b (told_end k point) in_cut exit l request_is its)
    ∙ ap (λ (w : Result Request Refusal). (heard_all (is_exit w) (told_end k point) (exits_in (exit_text exit) l)).promised) request_is
    ∙ finish_promises k point (exits_in (exit_text exit) l) its
    ∙ ap (λ (o : Option ℕ). becomes o (length l.shown)) told_is

-- ---- What the images hold

module _ (v : KeeperView) (old new : DiskView) (m : Machine) (n : ℕ) (now : TimeSpec) (job : Job) (exit : Exit) (laws : Laws old) (laws' : Laws new) (at : Represents v old m)
    (state : log_of (m.states job.conn) ≡ Some n) (request_is : request_in job.body ≡ Ok (request.Exit exit)) (h : Held v old m n)
    (moments : Throughout (IsOfLog n) (IsEither n (Some h.value.stored) (Some (finished h.value (exit_text exit)))) old new) where
  own : m.owner n ≡ Some job.conn
  own = at.sound.owned job.conn n state

  long : h.promised ≤ length (all_of h.value)
  long = let x = h.enough in omega (arith, length-append {A = Record})

  pub either_now : (image : Image) → IsCrashImage new image → IsEither n (Some h.value.stored) (Some (finished h.value (exit_text exit))) image
  either_now image is = moments.each new.moment image moments.later (omega arith) (laws'.is_now image is)

  its : (l : Ledger) → StandsFor (settings_of v) n m l → writes l job.conn ≡ true
  its l stands = writes_its l job.conn (stands.agrees.writers ∙ ap as_list own)

  owns : (l : Ledger) → StandsFor (settings_of v) n m l → AllGood (reading_of v.lane v.lanes) l n (IsCrashImage old) → Owned l (flushed h.value) h.promised × ((flushed h.value).records ≡ l.shown)
  owns l stands all = owned v old m n job.conn (flushed h.value) h.promised l at laws own h.there stands (all old.reads laws.reads_itself)

  part : IsPartOf (flushed h.value) h.promised h.value.stored
  part = record {
    head = refl;
    left = length h.value.stored.records;
    records = sym (take_at h.value.stored.records h.value.staged (length h.value.stored.records) refl);
    enough = h.enough;
    going = h.going;
  }

  was_part : (l : Ledger) (image : Image) → Owned l (flushed h.value) h.promised → Replays image n (Some h.value.stored) → GoodAt (reading_of v.lane v.lanes) l n image
  was_part l image o reads = part_good v.lane v.lanes n l (flushed h.value) h.value.stored h.promised image o part reads

  is_set : (l l' : Ledger) (p : ℕ) (image : Image) → Alike (exits_in (exit_text exit) l) l' → Owned l (flushed h.value) h.promised → all_of h.value ≡ l.shown → l'.promised ≡ Some p → p ≤ length (all_of h.value)
      → Replays image n (Some (finished h.value (exit_text exit))) → GoodAt (reading_of v.lane v.lanes) l' n image
  is_set l l' p image alike o shown promised enough reads = record {
    found = Some (finished h.value (exit_text exit));
    is = reads;
    good = subst (λ (t : Option ℕ). GoodFor l' t (Some (finished h.value (exit_text exit)))) (sym promised) (record {
      head = o.head ∙ sym alike.head;
      prefix = prefix_all (all_of h.value) l'.shown (shown ∙ sym alike.shown);
      enough = enough;
      exit = (alike.exit, shown ∙ sym alike.shown);
    });
  }

  -- it ended, and so it is told
  pub keeps_told : (point : ℕ) (line : List ℕ) → ((image : Image) → IsCrashImage new image → Replays image n (Some (finished h.value (exit_text exit))))
      → OwnKeeps v n (lined_act job now (told_end job.conn point) line) m old new
  keeps_told point line all_new = keeps_owned v n job.conn (lined_act job now (told_end job.conn point) line) m old new own settled
    where
      set_good : (l : Ledger) → StandsFor (settings_of v) n m l → Owned l (flushed h.value) h.promised × ((flushed h.value).records ≡ l.shown) → (image : Image) → Replays image n (Some (finished h.value (exit_text exit)))
          → GoodAt (reading_of v.lane v.lanes) (noted n l (Did (lined_act job now (told_end job.conn point) line))) n image
      set_good l stands (o, shown) image reads = is_set l (noted n l (Did (lined_act job now (told_end job.conn point) line))) (length l.shown) image
          (exit_alike n (lined_act job now (told_end job.conn point) line) exit l request_is (its l stands)) o shown
          (all_promised n job.conn job.body false point o.told exit l request_is (its l stands) o.is_told)
          (subst (λ (rs : List Record). length rs ≤ length (all_of h.value)) shown (omega arith)) reads

      settled : (l : Ledger) → StandsFor (settings_of v) n m l → AllGood (reading_of v.lane v.lanes) l n (IsCrashImage old)
          → Jointly (GoodOr (reading_of v.lane v.lanes) l (noted n l (Did (lined_act job now (told_end job.conn point) line))) n) old new
          × AllGood (reading_of v.lane v.lanes) (noted n l (Did (lined_act job now (told_end job.conn point) line))) n (IsCrashImage new)
      settled l stands all = (
        record {
          later = moments.later;
          past = moments.past;
          keeps = moments.keeps;
          each = λ j from to image left. elim (moments.each j image from to left) [
            | inl reads ↦ inl (was_part l image (owns l stands all).0 reads)
            | inr reads ↦ inr (set_good l stands (owns l stands all) image reads)
          ];
        },
        λ image is. set_good l stands (owns l stands all) image (all_new image is),
      )

  -- its session ended otherwise
  pub keeps_ended : (answers : List Answer) (failed : List Owner) → Ends job.conn answers → OwnKeeps v n (act_of job now answers failed) m old new
  keeps_ended answers failed ends = keeps_owned v n job.conn (act_of job now answers failed) m old new own settled
    where
      then_owned : (l : Ledger) → Owned l (flushed h.value) h.promised → Owned (noted n l (Did (act_of job now answers failed))) (flushed h.value) h.promised
      then_owned l o = owned_owes l (noted n l (Did (act_of job now answers failed))) (flushed h.value) h.promised (ends_owes n (act_of job now answers failed) ends l) o

      set_good : (l : Ledger) → StandsFor (settings_of v) n m l → Owned l (flushed h.value) h.promised × ((flushed h.value).records ≡ l.shown) → (image : Image) → Replays image n (Some (finished h.value (exit_text exit)))
          → GoodAt (reading_of v.lane v.lanes) (noted n l (Did (act_of job now answers failed))) n image
      set_good l stands (o, shown) image reads =
          let o' = then_owned l o in
          is_set l (noted n l (Did (act_of job now answers failed))) o'.told image (exit_alike n (act_of job now answers failed) exit l request_is (its l stands)) o shown o'.is_told
          (let x = o'.enough in let y = long in omega arith) reads

      settled : (l : Ledger) → StandsFor (settings_of v) n m l → AllGood (reading_of v.lane v.lanes) l n (IsCrashImage old)
          → Jointly (GoodOr (reading_of v.lane v.lanes) l (noted n l (Did (act_of job now answers failed))) n) old new
          × AllGood (reading_of v.lane v.lanes) (noted n l (Did (act_of job now answers failed))) n (IsCrashImage new)
      settled l stands all = (
        record {
          later = moments.later;
          past = moments.past;
          keeps = moments.keeps;
          each = λ j from to image left. elim (moments.each j image from to left) [
            | inl reads ↦ inl (was_part l image (owns l stands all).0 reads)
            | inr reads ↦ inr (set_good l stands (owns l stands all) image reads)
          ];
        },
        λ image is. elim (either_now image is) [
          | inl reads ↦ was_part (noted n l (Did (act_of job now answers failed))) image (then_owned l (owns l stands all).0) reads
          | inr reads ↦ set_good l stands (owns l stands all) image reads
        ],
      )

  pub beside_end : ((file : FileId) → old.faults file ≤ new.faults file) → Beside v.lane v.lanes (Some n) old new
  beside_end up = beside_its v m n (IsEither n (Some h.value.stored) (Some (finished h.value (exit_text exit)))) old new laws laws' at (owned_not_above (settings_of v) m n job.conn at.sound own) moments up

-- ---- What the keeper and its disk stand for once the log is let go

not_numbers : (lane i : ℕ) (file : FileId) → file.owner ≡ owners.Numbers lane → IsOfLog i file → ⊥
not_numbers lane i file own t = let e : owners.Numbers lane ≡ owners.Log i = sym own ∙ t in cc

not_events : (lane i : ℕ) (file : FileId) → file.owner ≡ owners.Events lane → IsOfLog i file → ⊥
not_events lane i file own t = let e : owners.Events lane ≡ owners.Log i = sym own ∙ t in cc

-- a log that is as it reads now, which its connection let go
pub let_go_as : (v v' : KeeperView) (old new : DiskView) (m : Machine) (k : ConnId) (n : ℕ) (x : Stored) (promised : ℕ) → Represents v old m → log_of (m.states k) ≡ Some n → Departs (Some n) k Dead v v'
    → ((i : ℕ) → log_in v' i ≡ (if i == n then None else log_in v i)) → Elsewhere (IsOfLog n) old new → Replays new.reads n (Some x) → promised ≤ length x.records
    → Represents v' new (leaves k Dead (with_log n (There x promised) m))
let_go_as v v' old new m k n x promised at is d open_ones elsewhere reads enough =
    represents_one (Some n) v v' old new m (leaves k Dead left) (IsOfLog n) at elsewhere (λ i other. log_apart i n (λ e. other (ap Some (sym e)))) changes
  where
    own : m.owner n ≡ Some k
    own = at.sound.owned k n is

    left : Machine
    left = with_log n (There x promised) m

    not_above : NotAbove (settings_of v) m.last n
    not_above = owned_not_above (settings_of v) m n k at.sound own

    unwritten : (leaves k Dead left).owner n ≡ None
    unwritten = owner_then (Some n) k Dead v v' old new m left (IsOfLog n) at is refl d (rested m n (There x promised)) n ∙ ap (λ (b : Bool). if b then None else m.owner n) (its_log n)

    log_then : (leaves k Dead left).logs n ≡ There x promised
    log_then = ap (λ (b : Bool). if b then There x promised else m.logs n) (its_log n)

    free : Free v' new (leaves k Dead left) n
    free = record {
      closed = open_ones n ∙ ap (λ (b : Bool). if b then None else log_in v n) (its_log n);
      reads = subst (λ (y : LogState). ReadsAs (Replays new.reads n) y) (sym log_then) reads;
      enough = λ stored p e.
          let f : There x promised ≡ There stored p = sym log_then ∙ e in
          let g : x ≡ stored = cc in
          let i : promised ≡ p = cc in
          subst (λ (y : Stored). p ≤ length y.records) g (subst (λ (q : ℕ). q ≤ length x.records) i enough);
    }

    changes : Changes (Some n) v v' new m (leaves k Dead left)
    changes = departs_changes (Some n) k Dead v v' old new m left (IsOfLog n) at is refl d (rested m n (There x promised)) (log_sound (settings_of v) n x promised m not_above at.sound)
        elsewhere (not_numbers v.lane n) (not_events v.lane n) (λ i other. ap (λ (b : Bool). if b then There x promised else m.logs i) (not_its (Some n) i other)) open_ones
        (subst (λ (o : Option ConnId). LogIs v' new (leaves k Dead left) n o) (sym unwritten) free)
        (λ i e. subst (λ (y : ℕ). NotAbove (settings_of v) m.last y) (let f : n ≡ i = cc in f) not_above)

-- ---- Rows

own_on : (v : KeeperView) (o : Option ℕ) (act : Act) (m : Machine) (a b c : DiskView) → Laws b → OwnIf v o act m a b → Beside v.lane v.lanes None b c → OwnIf v o act m a c
own_on v None act m a b c laws keeps beside = tt
own_on v (Some n) act m a b c laws keeps beside = keeps_before v n act m a b c keeps (resting v.lane v.lanes None n b c laws (λ e. cc) beside)

exit_reads : (n : ℕ) (shut : Bool) (what : Result Request Refusal) (exit : Exit) (answers : List Answer) → what ≡ Ok (request.Exit exit) → reads_log n shut what answers ≡ true → ⊥
exit_reads n shut what exit answers e reads = let f : reads_log n shut (Ok (request.Exit exit)) answers ≡ true = subst (λ (w : Result Request Refusal). reads_log n shut w answers ≡ true) e reads in cc

-- it is set as before
pub record SetAlike (old new : KeeperView) : Type 0 where
  pub lane : new.lane ≡ old.lane
  pub lanes : new.lanes ≡ old.lanes
  pub log_exit : new.log_exit ≡ old.log_exit
  pub kind : new.kind ≡ old.kind

-- what is told of an exit that goes well
pub record SaysEnd (k : ConnId) (said : List Answer) : Type 0 where
  pub to : AllTo k said
  pub no_log : (n : ℕ) → tells_log n said ≡ false

pub says_shut : (k : ConnId) → SaysEnd k (say k Shut ∷ [])
says_shut k = record { to = (refl, tt); no_log = λ n. refl }

pub says_told : (k : ConnId) (point : ℕ) → SaysEnd k (told_end k point)
says_told k point = record { to = (refl, (refl, tt)); no_log = λ n. refl }

module _ (v w w' : KeeperView) (now : TimeSpec) (job : Job) (exit : Exit) (said : List Answer) (whole left m : Machine) (one two three : DiskView) (laws : Laws one) (laws' : Laws two)
    (request_is : request_in job.body ≡ Ok (request.Exit exit)) (x : Exits v now job exit said whole left m) (same : SetAlike v w)
    (first : Beside v.lane v.lanes (log_of (m.states job.conn)) one two) (second : Beside w.lane w.lanes None two three) where
  lane_second : Beside v.lane v.lanes None two three
  lane_second = subst (λ (y : ℕ). Beside y v.lanes None two three) same.lane (subst (λ (y : ℕ). Beside w.lane y None two three) same.lanes second)

  both : Beside v.lane v.lanes (log_of (m.states job.conn)) one three
  both = beside_on v.lane v.lanes (log_of (m.states job.conn)) one two three first (beside_wider v.lane v.lanes (log_of (m.states job.conn)) two three lane_second)

  line_then : event_line w.kind now job.conn (request.Exit exit) (log_of (m.states job.conn)) ≡ line_of_exit v now job exit m
  line_then = ap (λ y. event_line y now job.conn (request.Exit exit) (log_of (m.states job.conn))) same.kind

  fits_then : (b : Bool) (line : List ℕ) (y : Machine) → line ≡ line_of_exit v now job exit m → y.lines ≡ m.lines → y.fresh ≡ m.fresh → line_fits line y ≡ b → line_fits (line_of_exit v now job exit m) m ≡ b
  fits_then b line y e lines fresh fits =
      ap (λ (t : List ℕ). line_fits t m) (sym e) ∙ ap (λ (t : List ℕ). nat_le (length t + length m.fresh + length line) (2 ^ 40)) (sym lines)
      ∙ ap (λ (t : List ℕ). nat_le (length y.lines + length t + length line) (2 ^ 40)) (sym fresh) ∙ fits

  -- its line was added, or exits have none
  pub row_told : SaysEnd job.conn said → ((line : List ℕ) → OwnIf v (log_of (m.states job.conn)) (lined_act job now said line) m one two)
      → LineAdded job.conn (event_line w.kind now job.conn (request.Exit exit) (log_of (m.states job.conn))) (leaves job.conn Dead whole) w w' three → RowIs v now job said m w' one three
  row_told says keeps (inl (none, stands)) = (
    leaves job.conn Dead whole,
    acted v now job (log_of (m.states job.conn)) (act_of job now said []) m (leaves job.conn Dead whole) one three laws refl refl
        (step_quiet v now job exit said whole left m x (sym same.log_exit ∙ none)) (counts_did (act_of job now said []) one three both.monotone (rose_none one three) refl)
        (about_own v.lane v.lanes m (act_of job now said []) x.owned)
        (record {
          own = λ n e. e;
          to = says.to;
          told = λ n e. absurd (let f : false ≡ true = sym (says.no_log n) ∙ e in cc);
          read = λ n e. absurd (exit_reads n (is_dead (m.states job.conn)) (request_in job.body) exit said request_is e);
        })
        both (own_on v (log_of (m.states job.conn)) (act_of job now said []) m one two three laws' (keeps []) lane_second),
    stands,
  )
  row_told says keeps (inr (has, fits, stands)) =
      let line = line_of_exit v now job exit m in
      let after = adds_line job.conn line (leaves job.conn Dead whole) in (
        after,
        acted v now job (log_of (m.states job.conn)) (lined_act job now said line) m after one three laws refl refl
            (step_lined v now job exit said whole left m x (sym same.log_exit ∙ has)
            (fits_then true (event_line w.kind now job.conn (request.Exit exit) (log_of (m.states job.conn))) (leaves job.conn Dead whole) line_then x.lines.0 x.fresh.0 fits))
            (counts_did (lined_act job now said line) one three both.monotone (rose_none one three) refl)
            (about_own v.lane v.lanes m (lined_act job now said line) x.owned)
            (record {
              own = λ n e. e;
              to = says.to;
              told = λ n e. absurd (let f : false ≡ true = sym (says.no_log n) ∙ e in cc);
              read = λ n e. absurd (exit_reads n (is_dead (m.states job.conn)) (request_in job.body) exit said request_is e);
            })
            both (own_on v (log_of (m.states job.conn)) (lined_act job now said line) m one two three laws' (keeps line) lane_second),
        subst (λ (t : List ℕ). Represents w' three (adds_line job.conn t (leaves job.conn Dead whole))) line_then stands,
      )

  ends_row : (answers : List Answer) (failed : List Owner) → Ends job.conn answers → Step (settings_of v) m (act_of job now answers failed) (leaves job.conn Dead left) → AllRose failed one three
      → OwnIf v (log_of (m.states job.conn)) (act_of job now answers failed) m one two → Represents w' three (leaves job.conn Dead left) → RowIs v now job answers m w' one three
  ends_row answers failed ends step rose keeps stands = (
    leaves job.conn Dead left,
    acted v now job (log_of (m.states job.conn)) (act_of job now answers failed) m (leaves job.conn Dead left) one three laws refl refl step
        (counts_did (act_of job now answers failed) one three both.monotone rose refl) (about_own v.lane v.lanes m (act_of job now answers failed) x.owned) (concerns_ends (log_of (m.states job.conn)) m (act_of job now answers failed) (λ n e. e) ends)
        both (own_on v (log_of (m.states job.conn)) (act_of job now answers failed) m one two three laws' keeps lane_second),
    stands,
  )

  -- its line was refused
  pub row_line_refused : (why : Refusal) → ((answers : List Answer) (failed : List Owner) → Ends job.conn answers → OwnIf v (log_of (m.states job.conn)) (act_of job now answers failed) m one two)
      → LineRefused (event_line w.kind now job.conn (request.Exit exit) (log_of (m.states job.conn))) why (leaves job.conn Dead left) w w' two three → RowGives v now job (outcome.Refused why) m w' one three
  row_line_refused why keeps refused answers tells = go refused.fault tells
    where
      has : v.log_exit ≡ true
      has = sym same.log_exit ∙ refused.has

      wants : WantsMemory job.conn answers → RowIs v now job answers m w' one three
      wants is = ends_row answers [] (ends_wants job.conn answers is) (step_line_wants v now job exit said answers whole left m x is) (rose_none one three) (keeps answers [] (ends_wants job.conn answers is)) refused.represents

      full : (why ≡ refusals.LogFull) × (line_fits (event_line w.kind now job.conn (request.Exit exit) (log_of (m.states job.conn))) (leaves job.conn Dead left) ≡ false)
          → answers ≡ refusal job.conn why → RowIs v now job answers m w' one three
      full (is, no_room) e =
          let e' : answers ≡ refusal job.conn refusals.LogFull = e ∙ ap (refusal job.conn) is in
          let ends : Ends job.conn answers = subst (Ends job.conn) (sym e') (ends_refusal job.conn refusals.LogFull refl) in
          ends_row answers [] ends (step_full v now job exit said whole left m x answers e' has
          (fits_then false (event_line w.kind now job.conn (request.Exit exit) (log_of (m.states job.conn))) (leaves job.conn Dead left) line_then x.lines.1 x.fresh.1 no_room))
          (rose_none one three) (keeps answers [] ends) refused.represents

      lost : OwnerRose (owners.Events w.lane) two three → IsRefused job.conn answers → RowIs v now job answers m w' one three
      lost rose is =
          let rose' : OwnerRose (owners.Events v.lane) two three = subst (λ (y : ℕ). OwnerRose (owners.Events y) two three) same.lane rose in
          ends_row answers (owners.Events v.lane ∷ []) (ends_refused job.conn answers is) (step_line_lost v now job exit said answers whole left m x has is)
          (rose_second (owners.Events v.lane ∷ []) one two three first.monotone (rose_one (owners.Events v.lane) two three rose'))
          (keeps answers (owners.Events v.lane ∷ []) (ends_refused job.conn answers is)) refused.represents

      go : LineFault w.lane (event_line w.kind now job.conn (request.Exit exit) (log_of (m.states job.conn))) (leaves job.conn Dead left) why two three
          → (answers ≡ refusal job.conn why) ⊎ WantsMemory job.conn answers → RowIs v now job answers m w' one three
      go fault (inr is) = wants is
      go (inl none) (inl e) = full none e
      go (inr (inl is)) (inl e) = wants (inl (e ∙ ap (refusal job.conn) is))
      go (inr (inr (is, rose))) (inl e) = lost rose (inl (e ∙ ap (refusal job.conn) is))

-- its log failed: its exit is set or not, as it reads now
pub row_log_failed : (v v' : KeeperView) (old new : DiskView) (m : Machine) (n : ℕ) (now : TimeSpec) (job : Job) (exit : Exit) → Laws old → Laws new → (at : Represents v old m) → is_dead (m.states job.conn) ≡ false
    → AsksFor (m.states job.conn) job.body (request.Exit exit) → log_of (m.states job.conn) ≡ Some n → request_in job.body ≡ Ok (request.Exit exit) → (h : Held v old m n)
    → Throughout (IsOfLog n) (IsEither n (Some h.value.stored) (Some (finished h.value (exit_text exit)))) old new → ((file : FileId) → old.faults file ≤ new.faults file) → OwnerRose (owners.Log n) old new
    → fits_file (exit_text exit) ≡ true → Departs (Some n) job.conn Dead v v' → ((i : ℕ) → log_in v' i ≡ (if i == n then None else log_in v i)) → RowGives v now job (outcome.Refused refusals.DeviceFault) m v' old new
row_log_failed v v' old new m n now job exit laws laws' at alive asks state request_is h moments up rose fits d open_ones answers is =
    go (either_now v old new m n now job exit laws laws' at state request_is h moments new.reads laws'.reads_itself)
  where
    ends : Ends job.conn answers
    ends = ends_refused job.conn answers is

    row : (x : Stored) → Closes (owners.Log n ∷ []) n (m.logs n) (There x h.promised) ⊎ IsSet (exit_text exit) (m.logs n) (There x h.promised) → Replays new.reads n (Some x) → h.promised ≤ length x.records
        → RowIs v now job answers m v' old new
    row x left reads enough = (
      leaves job.conn Dead (with_log n (There x h.promised) m),
      acted v now job (Some n) (act_of job now answers (owners.Log n ∷ [])) m (leaves job.conn Dead (with_log n (There x h.promised) m)) old new laws refl refl
          (step_log_failed v now job exit n answers (with_log n (There x h.promised) m) m alive asks state (There x h.promised, left, refl) is)
          (counts_did (act_of job now answers (owners.Log n ∷ [])) old new up (rose_one (owners.Log n) old new rose) refl)
          (about_some v.lane v.lanes n m (act_of job now answers (owners.Log n ∷ [])) (inr (inl (job.conn, at.sound.owned job.conn n state))))
          (concerns_ends (Some n) m (act_of job now answers (owners.Log n ∷ [])) (λ i e. sym state ∙ e) ends)
          (beside_end v old new m n now job exit laws laws' at state request_is h moments up)
          (keeps_ended v old new m n now job exit laws laws' at state request_is h moments answers (owners.Log n ∷ []) ends),
      let_go_as v v' old new m job.conn n x h.promised at state d open_ones moments.elsewhere reads enough,
    )

    front : take (length h.value.stored.records) (all_of h.value) ≡ h.value.stored.records
    front = take_at h.value.stored.records h.value.staged (length h.value.stored.records) refl

    go : IsEither n (Some h.value.stored) (Some (finished h.value (exit_text exit))) new.reads → RowIs v now job answers m v' old new
    go (inl reads) = row (record (flushed h.value) { records = take (length h.value.stored.records) (all_of h.value) })
        (inl (inr (Contains-push [] (owners.Log n), record { stored = flushed h.value; promised = h.promised; was = h.there; unfinished = h.going; left = length h.value.stored.records; enough = h.enough; now = refl })))
        (subst (λ (rs : List Record). Replays new.reads n (Some (record h.value.stored { records = rs }))) (sym front) reads)
        (let y = h.enough in subst (λ (rs : List Record). h.promised ≤ length rs) (sym front) y)
    go (inr reads) = row (finished h.value (exit_text exit)) (inr (record { fits = fits; stored = flushed h.value; promised = h.promised; was = h.there; now = refl })) reads
        (let y = h.enough in omega (arith, length-append {A = Record}))
