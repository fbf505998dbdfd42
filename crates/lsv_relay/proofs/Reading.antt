-- A log is read: to a point, and further.
use Rattle.std.proofs.Common.{◌≡◌, ◌≢◌, ◌≤◌, ◌⊎◌, inl, inr, ◌++◌, ◌∷◌, ◌+◌, ◌-◌, ◌^◌, ◌<◌, List, [], ℕ, length, map, refl, sym, ◌∙◌, ap, subst, Some, None, Result, Ok, Err, IfOk, OnOk, append-nil, arith}
use Rattle.std.specs.Prelude.{Bool, true, false, min}
use Rattle.lsv_bundle.specs.Body.{encoded}
use Rattle.lsv_bundle.specs.Committed.{HasEntry}
use Rattle.lsv_bundle.specs.declared.body.Body.{Body}
use Rattle.lsv_bundle.proofs.Laws.{one_body}
use Rattle.lsv_disk.specs.Throughout.{OnlyReads}
use Rattle.lsv_disk.specs.View.{DiskView, Image}
use Rattle.lsv_disk.specs.declared.file.Part.TheVariants.{Exit as ExitPart, Head as HeadPart}
use Rattle.lsv_disk.proofs.Composition.{unchanged_reads}
use Rattle.lsv_info.specs.Reading.{exit_of, head_of}
use Rattle.lsv_info.specs.declared.times.Exit.{Exit}
use Rattle.lsv_iolog.specs.Reading.{IsBehind, IsWhole, ViewState, committed_laid, committed_text}
use Rattle.lsv_iolog.specs.Recovered as logs
use Rattle.lsv_msg.specs.declared.messages.ClientMessage.{ClientMessage}
use Rattle.lsv_play.proofs.Stored.{some_of_all}
use Rattle.lsv_record.specs.Layout.{Begins, IsLayout}
use Rattle.lsv_record.specs.Points.{first}
use Rattle.lsv_record.specs.declared.laid.Laid.{Laid}
use Rattle.lsv_record.specs.declared.records.Record.{Record}
use Rattle.lsv_record.proofs.Once.{one_begins, one_layout}
use Rattle.lsv_request.specs.Stored.{exit_message, record_message}
use Rattle.lsv_transcript.specs.Reading.{GivesNext, HasPassed, Passes}
use Rattle.lsv_transcript.specs.declared.messages.Batch.{Batch}
use Rattle.lsv_info.specs.declared.times.Head.{Head}
use Rattle.lsv_kept.specs.Value.{KeepingView}
use Rattle.lsv_kept.specs.declared.state.Kept.{Kept}
use Rattle.lsv_kept.specs.declared.state.State.{State}
use Rattle.lsv_kept.specs.declared.state.State.TheVariants as states
use Rattle.lsv_relay.specs.Inner.{GivesExit, GivesRecords, HasStarted, IsLogOf}
use Rattle.lsv_relay.specs.Talks.{AreAllOf, HasLog, IsOpened, IsWay, Way, Way.Anew, Way.Resumes, opening_of}
use Rattle.lsv_relay.specs.Value.{RelayView, aim_of, state_of}
use Rattle.lsv_relay.specs.declared.fault.RelayFault.{RelayFault}
use Rattle.lsv_relay.specs.declared.relay.Meter.{Meter}
use Rattle.lsv_relay.specs.declared.relay.Place.{Place}
use Rattle.lsv_relay.specs.declared.relay.Place.TheVariants as places
use Rattle.lsv_relay.proofs.Saying.{talk_by}
use Rattle.lsv_relay.proofs.Logs.{SameLog, behind_here, log_stays, whole_stays}

some_bytes : (a b : List ℕ) → Some a ≡ Some b → a ≡ b
some_bytes a b e = cc

one_entry : (n : ℕ) (a b : Body) (image : Image) → HasEntry (logs.owner_of n) a image → HasEntry (logs.owner_of n) b image → a ≡ b
one_entry n a b image one two = one_body a b one.is_body two.is_body (some_bytes (encoded a) (encoded b) (sym one.last ∙ two.last))

pub same_log : (n : ℕ) (old new : DiskView) → OnlyReads old new → SameLog n old new
same_log n old new reads file own = unchanged_reads old new reads.unchanged file

-- how a view moves while it reads: its log is the same
pub record Moves (view next : ViewState) : Type 0 where
  pub number : next.number ≡ view.number
  pub head : next.head ≡ view.head
  pub body : next.body ≡ view.body

-- the log that was read further
pub log_next : (n : ℕ) (view next : ViewState) (records more : List Record) (old new : DiskView) → OnlyReads old new → HasLog n view records old → Moves view next → IsBehind next more new → HasLog n next more new
log_next n view next records more old new reads log moves behind =
    let stays = log_stays n old new (same_log n old new reads) view records log in
    record {
      number = moves.number ∙ stays.number;
      entry = subst (λ (b : Body). HasEntry (logs.owner_of n) b new.reads) (sym moves.body) stays.entry;
      complete = ap (λ (b : Body). b.kind) moves.body ∙ stays.complete;
      head = ap (λ (b : Body). head_of (committed_text n b new HeadPart)) moves.body ∙ (stays.head ∙ ap Ok (sym moves.head));
      behind = behind;
    }

-- ---- the next records

no_records : (more : List Record) → (let none : List ClientMessage = [] in none) ≡ map record_message more → more ≡ []
no_records [] e = refl
no_records (r ∷ more) e = absurd (cc (e))

some_allowed : (most : ℕ) (W : Type 0) → 0 < most → (most ≡ 0) ⊎ W → W
some_allowed most W some (inl none) = absurd (omega (arith, none, some))
some_allowed most W some (inr whole) = whole

-- without a message all records were read
pub ends_whole : (most : ℕ) (view : ViewState) (disk : DiskView) (records : List Record) (batch : Batch) → 0 < most → GivesNext view disk records batch most → batch.messages ≡ [] → IsWhole view records disk × IsBehind view records disk
ends_whole most view disk records batch some gives none = (
  some_allowed most (IsWhole view records disk) some (gives.end none),
  subst (λ (rs : List Record). IsBehind view rs disk) (ap (λ (more : List Record). records ++ more) (no_records gives.more (sym none ∙ gives.messages_are)) ∙ append-nil records) gives.behind,
)

pub gives_records : (most : ℕ) (old new : RelayView) (view next : ViewState) (batch : Batch) (d0 d1 : DiskView) → OnlyReads d0 d1 → Moves view next → ((records : List Record) → IsBehind view records d0 → GivesNext next d1 records batch most)
    → new.at ≡ places.Sends next → new.meter ≡ record old.meter { sent = min (old.meter.sent + batch.elapsed) (2 ^ 64 - 1) } → (records : List Record) → HasLog old.number view records d0 → GivesRecords old new view next d1 batch.messages records
gives_records most old new view next batch d0 d1 reads moves gives at meter records log =
    let g = gives records log.behind in
    record {
      at = at;
      more = g.more;
      messages_are = g.messages_are;
      piece = g.piece;
      log = log_next old.number view next records (records ++ g.more) d0 d1 reads log moves g.behind;
      same = (moves.head, moves.body);
      meter = meter ∙ ap (λ (e : ℕ). let m : Meter = record old.meter { sent = min (old.meter.sent + e) (2 ^ 64 - 1) } in m) g.elapsed_is;
    }

pub gives_exit : (old new : RelayView) (view next : ViewState) (exit : Exit) (d0 d1 : DiskView) → OnlyReads d0 d1 → Moves view next → ((records : List Record) → IsBehind view records d0 → IsWhole next records d1 × IsBehind next records d1)
    → exit_of (committed_text next.number next.body d1 ExitPart) ≡ Ok exit → new.at ≡ places.Over → new.meter ≡ record old.meter { ended = true } → (records : List Record) → HasLog old.number view records d0 → GivesExit old new view next d1 (exit_message exit ∷ []) records
gives_exit old new view next exit d0 d1 reads moves gives exit_is at meter records log =
    let g = gives records log.behind in
    record {
      at = at;
      exit = exit;
      messages_are = refl;
      exit_is = ap (λ (b : Body). exit_of (committed_text old.number b d1 ExitPart)) (sym moves.body) ∙ (ap (λ (k : ℕ). exit_of (committed_text k next.body d1 ExitPart)) (sym (moves.number ∙ log.number)) ∙ exit_is);
      log = log_next old.number view next records records d0 d1 reads log moves g.1;
      whole = g.0;
      same = (moves.head, moves.body);
      meter = meter;
    }

-- ---- to a point

-- none of all records ends at a point that was looked for in vain
none_ends : (n point : ℕ) (view : ViewState) (records : List Record) (disk : DiskView) → HasLog n view records disk → Passes false view disk records point → (rs : List Record) → AreAllOf n disk rs → first rs point ≡ None
none_ends n point view records disk log passes rs all = go passes
  where
    laid : committed_laid view.number view.body disk ≡ committed_laid n all.body disk
    laid = ap (λ (k : ℕ). committed_laid k view.body disk) log.number ∙ ap (λ (b : Body). committed_laid n b disk) (one_entry n view.body all.body disk.reads log.entry all.entry)

    here : Begins (committed_laid n all.body disk) records
    here = subst (λ (l : Laid). Begins l records) laid log.behind.begins

    rest : (more : List Record) × (rs ≡ records ++ more)
    rest = some_of_all (committed_laid n all.body disk) rs records all.layout all.begins here (one_begins (committed_laid n all.body disk) records rs here all.begins)

    go : Passes false view disk records point → first rs point ≡ None
    go (inl none) = ap (λ (l : List Record). first l point) rest.1 ∙ none rest.0
    go (inr (none, whole)) = ap (λ (l : List Record). first l point) (sym (one_layout (committed_laid n all.body disk) records rs here.valid all.begins.valid (subst (λ (l : Laid). IsLayout l records) laid whole.layout) all.layout)) ∙ none

-- a record ends there
pub passed_at : (n point : ℕ) (view next : ViewState) (old new : DiskView) (found : Bool) → found ≡ true → OnlyReads old new → HasLog n view [] old → Moves view next → HasPassed found next new point → (records : List Record) × HasLog n next records new × (first records point ≡ Some (length records))
passed_at n point view next old new true is reads log moves passed = (passed.records, log_next n view next [] passed.records old new reads log moves passed.behind, passed.passes)
passed_at n point view next old new false is reads log moves passed = absurd (cc (is))

-- none does
pub passed_none : (n point : ℕ) (view next : ViewState) (old new : DiskView) (found : Bool) → found ≡ false → OnlyReads old new → HasLog n view [] old → Moves view next → HasPassed found next new point → (rs : List Record) → AreAllOf n new rs → first rs point ≡ None
passed_none n point view next old new false is reads log moves passed rs all = none_ends n point next passed.records new (log_next n view next [] passed.records old new reads log moves passed.behind) passed.passes rs all
passed_none n point view next old new true is reads log moves passed rs all = absurd (cc (is))

-- the log was only read since
pub whole_further : (view next : ViewState) (records : List Record) (old new : DiskView) → OnlyReads old new → next ≡ view → IsWhole view records old × IsBehind view records old → IsWhole next records new × IsBehind next records new
whole_further view next records old new reads is whole =
    subst (λ (v : ViewState). IsWhole v records new × IsBehind v records new) (sym is) (
      whole_stays view.number old new (same_log view.number old new reads) view records refl whole.0,
      behind_here view.number old new (same_log view.number old new reads) view records refl whole.1,
    )

-- ---- how a connection opens

two : (way : Way) (head : Head) → length (opening_of way head) ≡ 2
two (Resumes id point n) head = refl
two Anew head = refl

pub opening_few : (way : Way) (head : Head) (ms : List ClientMessage) → ms ≡ opening_of way head → length ms ≤ 2
opening_few way head ms is = let h : length ms ≡ 2 = ap length is ∙ two way head in omega (arith, h)

pub opening_some : (way : Way) (head : Head) (ms : List ClientMessage) → ms ≡ opening_of way head → ms ≢ []
opening_some way head ms is none = let h : length ms ≡ 2 = ap length is ∙ two way head in let k : length ms ≡ 0 = ap length none in omega (arith, h, k)

-- it goes on with the log
pub resumes_started : (old new : RelayView) (view : ViewState) (records : List Record) (id : List ℕ) (point : ℕ) (opening : List ClientMessage) (disk : DiskView) → state_of old ≡ states.Kept (record { id = id; point = Some point }) → HasLog old.number view records disk
    → first records point ≡ Some (length records) → new.at ≡ places.Sends view → new.keeping ≡ old.keeping → new.meter ≡ record { waits = false; known = true; asked = true; sent = point; ended = false; whole = false } → view.body.elapsed ≡ (aim_of old).total
    → ((n : ℕ) (head : Head) → opening ≡ opening_of (Resumes id point n) head) → HasStarted old new opening disk
resumes_started old new view records id point opening disk state log ends at keeping meter time is = record {
  view = view;
  way = Resumes id point (length records);
  records = records;
  log = log;
  is_way = (state, ends);
  passed = refl;
  at = at;
  opening_is = is (length records) view.head;
  total = ap (λ (k : KeepingView). k.aim.total) keeping ∙ sym time;
  waits = ap (λ (m : Meter). m.waits) meter;
  talk_is = ap (λ (k : KeepingView). talk_by k new.meter) keeping ∙ ap (talk_by old.keeping) meter;
}

-- or sends it whole
pub anew_started : (old new : RelayView) (view : ViewState) (opening : List ClientMessage) (disk : DiskView) → IsWay (state_of old) old.number disk [] Anew → HasLog old.number view [] disk
    → new.at ≡ places.Sends view → new.keeping ≡ old.keeping → new.meter ≡ record { waits = true; known = false; asked = false; sent = 0; ended = false; whole = false } → view.body.elapsed ≡ (aim_of old).total → opening ≡ opening_of Anew view.head → HasStarted old new opening disk
anew_started old new view opening disk way log at keeping meter time is = record {
  view = view;
  way = Anew;
  records = [];
  log = log;
  is_way = way;
  passed = refl;
  at = at;
  opening_is = is;
  total = ap (λ (k : KeepingView). k.aim.total) keeping ∙ sym time;
  waits = ap (λ (m : Meter). m.waits) meter;
  talk_is = ap (λ (k : KeepingView). talk_by k new.meter) keeping ∙ ap (talk_by old.keeping) meter;
}

-- nothing ends there
pub no_point_way : (state : State) (kept : Kept) (n : ℕ) (disk : DiskView) → state ≡ states.Kept kept → ((p : ℕ) → kept.point ≡ Some p → ⊥) → IsWay state n disk [] Anew
no_point_way state kept n disk is none id point same rs all =
    absurd (none point (let h : states.Kept kept ≡ states.Kept (record { id = id; point = Some point }) = sym is ∙ same in let k : kept ≡ record { id = id; point = Some point } = cc (h) in ap (λ (x : Kept). x.point) k))

pub none_way : (state : State) (id : List ℕ) (p n : ℕ) (disk : DiskView) → state ≡ states.Kept (record { id = id; point = Some p }) → ((rs : List Record) → AreAllOf n disk rs → first rs p ≡ None) → IsWay state n disk [] Anew
none_way state id p n disk is none other point same rs all =
    let h : states.Kept (record { id = id; point = Some p }) ≡ states.Kept (record { id = other; point = Some point }) = sym is ∙ same in
    let k : (let x : Kept = record { id = id; point = Some p } in x) ≡ record { id = other; point = Some point } = cc (h) in
    let q : Some p ≡ Some point = ap (λ (x : Kept). x.point) k in
    let e : p ≡ point = cc (q) in
    subst (λ (x : ℕ). first rs x ≡ None) e (none rs all)

-- a log is begun anew
pub anew_ok : (r : Result (List ClientMessage) RelayFault) (old new : RelayView) (view : ViewState) (disk : DiskView) → OnOk r (new.at ≡ places.Sends view) → OnOk r (new.meter ≡ record { waits = true; known = false; asked = false; sent = 0; ended = false; whole = false })
    → IfOk r (λ opening. opening ≡ opening_of Anew view.head) → new.keeping ≡ old.keeping → IsWay (state_of old) old.number disk [] Anew → HasLog old.number view [] disk → view.body.elapsed ≡ (aim_of old).total → IfOk r (λ opening. HasStarted old new opening disk)
anew_ok (Err e) old new view disk at meter is keeping way log time = tt
anew_ok (Ok opening) old new view disk at meter is keeping way log time = anew_started old new view opening disk way log at keeping meter time is

-- the log that was opened
pub begun_log : (n total : ℕ) (ended : Bool) (p : Place) (view : ViewState) (disk : DiskView) → p ≡ places.Starts view → IsOpened n p disk → HasLog n view [] disk
begun_log n total ended p view disk is opened = subst (λ (q : Place). IsOpened n q disk) is opened

pub begun_time : (n total : ℕ) (ended : Bool) (p : Place) (view : ViewState) → p ≡ places.Starts view → IsLogOf n total ended p → view.body.elapsed ≡ total
begun_time n total ended p view is log = (subst (λ (q : Place). IsLogOf n total ended q) is log).1
