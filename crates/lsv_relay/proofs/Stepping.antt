-- A call goes on with what was said and heard.
use Rattle.std.proofs.Common.{◌≡◌, ◌⊎◌, inl, inr, ◌++◌, ◌∷◌, ◌+◌, ◌≤◌, ◌<◌, ◌-◌, ◌^◌, List, [], ℕ, length, length-append, drop, map, refl, sym, ◌∙◌, ap, subst, Some, append_assoc, append-nil, arith}
use Rattle.std.specs.Prelude.{Bool, true, false, not, ◌&&◌, min}
use Rattle.std.specs.List.{list_any}
use Rattle.std.proofs.Math.Seq.{take-append-add, take-length}
use Rattle.std.proofs.lemmas.List.{drop-append-le, take-append-le}
use Rattle.lsv_bundle.specs.declared.body.Body.{Body}
use Rattle.lsv_dialogue.specs.Events.{Event, Event.Heard, Event.Late, all_said, heard, said}
use Rattle.lsv_disk.specs.Throughout.{OnlyReads, Throughout}
use Rattle.lsv_disk.specs.View.{DiskView}
use Rattle.lsv_disk.specs.declared.file.Part.TheVariants.{Exit as ExitPart}
use Rattle.lsv_info.specs.Reading.{exit_of}
use Rattle.lsv_info.specs.declared.times.Head.{Head}
use Rattle.lsv_iolog.specs.Reading.{ViewState, committed_text}
use Rattle.lsv_kept.specs.Aim.{AimView}
use Rattle.lsv_kept.specs.Kept.{IsOfRelay}
use Rattle.lsv_kept.specs.Value.{KeepingView}
use Rattle.lsv_kept.specs.declared.state.State.{State}
use Rattle.lsv_msg.specs.declared.messages.ClientMessage.{ClientMessage}
use Rattle.lsv_msg.specs.declared.messages.ServerMessage.{ServerMessage}
use Rattle.lsv_record.specs.Points.{first}
use Rattle.lsv_record.specs.Records.{elapsed}
use Rattle.lsv_record.specs.declared.records.Record.{Record}
use Rattle.lsv_record.proofs.Layouts.{elapsed-append}
use Rattle.lsv_record.proofs.Points.{first_append, first_some}
use Rattle.lsv_request.specs.Stored.{exit_message, record_message}
use Rattle.lsv_transcript.specs.Transcript.{is_id}
use Rattle.lsv_relay.specs.Inner.{Answers, GivesExit, GivesRecords, IsSamePlace}
use Rattle.lsv_relay.specs.Talk.{Talk, begun, goes, goes_on}
use Rattle.lsv_relay.specs.Talks.{HasLog, InOrder, IsAllSaid, IsDurable, IsPiece, IsSaid, IsWay, KeepsOneOf, Stands, Talks, TalksAt, Way, opening_of, resumes, Way.Anew, Way.Resumes, sent_before, skipped, states_of}
use Rattle.lsv_relay.specs.Value.{IsStarted, RelayView, aim_of, is_broken, state_of, talk_of}
use Rattle.lsv_relay.specs.declared.relay.Meter.{Meter}
use Rattle.lsv_relay.specs.declared.relay.Place.{Place}
use Rattle.lsv_relay.specs.declared.relay.Place.TheVariants as places
use Rattle.lsv_relay.proofs.Logs.{SameLog, log_elsewhere, log_stays, text_stays, way_stays, whole_stays}
use Rattle.lsv_relay.proofs.Moments.{heard_moves, reads_durable, reads_keep, then_heard, then_still}
use Rattle.lsv_relay.proofs.Saying.{all_behind, goes_append, hears_sent, records_said, said_all, heard_all, same_sent, said_append, talk_by, waits_less, waits_more, waits_none, waits_one}
use Rattle.lsv_relay.proofs.Talking.{unsaid}

-- ---- states after events

pub state_at_end : (total : ℕ) (talk : Talk) (events : List Event) → states_of total talk events (length events) ≡ (goes_on total events talk).state
state_at_end total talk events = ap (λ (es : List Event). (goes_on total es talk).state) (take-length events)

pub state_before : (total : ℕ) (talk : Talk) (events more : List Event) (j : ℕ) → j ≤ length events → states_of total talk (events ++ more) j ≡ states_of total talk events j
state_before total talk events more j le = ap (λ (es : List Event). (goes_on total es talk).state) (take-append-le j events more le)

-- one event more
pub state_next : (total : ℕ) (talk : Talk) (events : List Event) (e : Event) → states_of total talk (events ++ e ∷ []) (length events + 1) ≡ (goes total e (goes_on total events talk)).state
state_next total talk events e = ap (λ (es : List Event). (goes_on total es talk).state) (take-append-add events (e ∷ []) 1) ∙ ap (λ (t : Talk). t.state) (goes_append total events (e ∷ []) talk)

pub longer_events : (events more : List Event) → length events ≤ length (events ++ more)
longer_events events more = let h = length-append events more in omega (arith, h)

one_longer : (events : List Event) (e : Event) → length events < length (events ++ e ∷ [])
one_longer events e = let h : length (events ++ e ∷ []) ≡ length events + 1 = length-append events (e ∷ []) in omega (arith, h)

-- ---- what was said, with some events more

module _ (began : DiskView) (state : State) (r0 r2 : RelayView) (view next : ViewState) (d0 d2 : DiskView) (events more : List Event) (ending ending2 : List ClientMessage) (is : IsSaid began state r0 view d0 events ending)
    (records2 : List Record) (number : r2.number ≡ r0.number) (aim : aim_of r2 ≡ aim_of r0) (log2 : HasLog r0.number next records2 d2) (body : next.body ≡ view.body) (head : next.head ≡ view.head) (same_log : SameLog r0.number d0 d2)
    (further : (point k : ℕ) → first is.records point ≡ Some k → first records2 point ≡ Some k)
    (said2 : (map record_message (drop (skipped is.way) is.records) ++ ending) ++ said more ≡ map record_message (drop (skipped is.way) records2) ++ ending2)
    (sent2 : r2.meter.sent ≡ elapsed records2) (waits2 : r2.meter.waits ≡ (r0.meter.waits && not (list_any is_id (heard more)))) (none2 : r2.meter.waits ≡ true → records2 ≡ [])
    (talk2 : talk_of r2 ≡ goes_on (aim_of r0).total more (talk_of r0))
    (moments2 : InOrder r0.number (aim_of r0) began d2 (states_of (aim_of r0).total (begun state (resumes is.way) (sent_before is.way)) (events ++ more)) (length (events ++ more))) where
  abbrev start : Talk
  start = begun state (resumes is.way) (sent_before is.way)

  said_is : said (events ++ more) ≡ opening_of is.way view.head ++ (map record_message (drop (skipped is.way) records2) ++ ending2)
  said_is = said_append events more ∙ (ap (λ (l : List ClientMessage). l ++ said more) is.said_is
      ∙ (append_assoc (opening_of is.way view.head) (map record_message (drop (skipped is.way) is.records) ++ ending) (said more)
      ∙ ap (λ (l : List ClientMessage). opening_of is.way view.head ++ l) said2))

  pub more_said : IsSaid began state r2 next d2 (events ++ more) ending2
  more_said = record {
    records = records2;
    log = subst (λ (n : ℕ). HasLog n next records2 d2) (sym number) log2;
    way = is.way;
    is_way = subst (λ (n : ℕ). IsWay state n d2 records2 is.way) (sym number) (way_stays state r0.number d0 d2 is.records records2 is.way same_log is.is_way further);
    sent = sent2;
    said_is = said_is ∙ ap (λ (h : Head). opening_of is.way h ++ (map record_message (drop (skipped is.way) records2) ++ ending2)) (sym head);
    waits = waits2 ∙ (ap (λ (w : Bool). w && not (list_any is_id (heard more))) is.waits ∙ waits_more (resumes is.way) events more);
    none_yet = none2;
    total = ap (λ (a : AimView). a.total) aim ∙ (is.total ∙ ap (λ (b : Body). b.elapsed) (sym body));
    talk_is = talk2 ∙ (ap (goes_on (aim_of r0).total more) is.talk_is ∙ (sym (goes_append (aim_of r0).total events more start) ∙ ap (λ (a : AimView). goes_on a.total (events ++ more) start) (sym aim)));
    moments = subst (λ (n : ℕ). InOrder n (aim_of r2) began d2 (states_of (aim_of r2).total start (events ++ more)) (length (events ++ more))) (sym number)
        (subst (λ (a : AimView). InOrder r0.number a began d2 (states_of a.total start (events ++ more)) (length (events ++ more))) (sym aim) moments2);
  }

unit : (xs : List ClientMessage) → xs ++ [] ≡ xs
unit xs = append-nil xs

pub skipped_within : (state : State) (n : ℕ) (disk : DiskView) (records : List Record) (way : Way) → IsWay state n disk records way → skipped way ≤ length records
skipped_within state n disk records (Resumes id point k) is = (first_some records point k is.1).within
skipped_within state n disk records Anew is = omega arith

pub drop_more : (k : ℕ) (records more : List Record) → k ≤ length records → map record_message (drop k (records ++ more)) ≡ map record_message (drop k records) ++ map record_message more
drop_more k records more le = ap (map record_message) (drop-append-le k records more le) ∙ map_append (drop k records) more
  where
    map_append : (xs ys : List Record) → map record_message (xs ++ ys) ≡ map record_message xs ++ map record_message ys
    map_append [] ys = refl
    map_append (x ∷ xs) ys = ap (λ (l : List ClientMessage). record_message x ∷ l) (map_append xs ys)

-- ---- a message was heard

-- an event by which this message is heard, in time or late
pub data Hearing (m : ServerMessage) : Event → Type 0 where
  in_time : Hearing m (Heard m)
  too_late : Hearing m (Late m)

heard_of : (m : ServerMessage) (e : Event) → Hearing m e → heard (e ∷ []) ≡ m ∷ []
heard_of m e in_time = refl
heard_of m e too_late = refl

said_of : (m : ServerMessage) (e : Event) → Hearing m e → said (e ∷ []) ≡ []
said_of m e in_time = refl
said_of m e too_late = refl

sent_of : (total : ℕ) (m : ServerMessage) (e : Event) (talk : Talk) → Hearing m e → (goes total e talk).sent ≡ talk.sent
sent_of total m e talk in_time = hears_sent total m talk
sent_of total m e talk too_late = hears_sent total m (unsaid talk)

module _ (began : DiskView) (state : State) (r0 r2 : RelayView) (d0 d2 : DiskView) (events : List Event) (m : ServerMessage) (e : Event) (hearing : Hearing m e)
    (talk2 : talk_of r2 ≡ goes (aim_of r0).total e (talk_of r0)) (waits2 : r2.meter.waits ≡ (r0.meter.waits && not (is_id m))) (same : IsSamePlace r0 r2)
    (run : Throughout (IsOfRelay r0.number) (KeepsOneOf r0.number (aim_of r0) (state_of r0) (goes (aim_of r0).total e (talk_of r0)).state d0) d0 d2)
    (durable0 : IsDurable r0.number (aim_of r0) (state_of r0) d0) where
  abbrev n : ℕ
  n = r0.number

  abbrev T : ℕ
  T = (aim_of r0).total

  log02 : SameLog n d0 d2
  log02 = log_elsewhere n d0 d2 run.elsewhere

  module _ (view : ViewState) (ending : List ClientMessage) (is : IsSaid began state r0 view d0 events ending) where
    abbrev begins : Talk
    begins = begun state (resumes is.way) (sent_before is.way)

    moments : InOrder n (aim_of r0) began d2 (states_of T begins (events ++ e ∷ [])) (length (events ++ e ∷ []))
    moments = then_heard n (aim_of r0) began d0 d2 (states_of T begins events) (states_of T begins (events ++ e ∷ [])) (length events) (length (events ++ e ∷ [])) (state_of r0) (goes T e (talk_of r0)).state is.moments
        (one_longer events e) (state_before T begins events (e ∷ [])) (ap (λ (t : Talk). t.state) is.talk_is ∙ sym (state_at_end T begins events))
        (state_next T begins events e ∙ ap (λ (t : Talk). (goes T e t).state) (sym is.talk_is))
        (heard_moves n (aim_of r0) (state_of r0) (goes T e (talk_of r0)).state d0 d2 durable0 run)

    pub heard_said : IsSaid began state r2 view d2 (events ++ e ∷ []) ending
    heard_said = more_said began state r0 r2 view view d0 d2 events (e ∷ []) ending ending is is.records same.number same.aim (log_stays n d0 d2 log02 view is.records is.log) refl refl log02 (λ point k at. at)
        (ap (λ (l : List ClientMessage). (map record_message (drop (skipped is.way) is.records) ++ ending) ++ l) (said_of m e hearing) ∙ unit _)
        (ap (λ (t : Talk). t.sent) talk2 ∙ (sent_of T m e (talk_of r0) hearing ∙ is.sent))
        (waits2 ∙ (waits_one r0.meter.waits m ∙ ap (λ (ms : List ServerMessage). r0.meter.waits && not (list_any is_id ms)) (sym (heard_of m e hearing))))
        (λ waits. is.none_yet (waits_less m r0.meter.waits (sym waits2 ∙ waits)))
        talk2 moments

  still : r0.meter.waits ≡ false → (r0.meter.waits && not (is_id m)) ≡ false
  still no_ = ap (λ (b : Bool). b && not (is_id m)) no_

  heard_all_said : IsAllSaid began state r0 d0 events → IsAllSaid began state r2 d2 (events ++ e ∷ [])
  unfolding heard_said more_said
  heard_all_said all = record {
    view = all.view;
    exit = all.exit;
    is = heard_said all.view (exit_message all.exit ∷ []) all.is;
    all_read = whole_stays n d0 d2 log02 all.view all.is.records all.is.log.number all.all_read;
    exit_is = ap (λ (k : ℕ). exit_of (committed_text k all.view.body d2 ExitPart)) same.number ∙ (ap exit_of (text_stays n d0 d2 log02 all.view.body ExitPart) ∙ all.exit_is);
    heard_id = waits2 ∙ still all.heard_id;
  }

  heard_at : (p : Place) → IsStarted p → TalksAt began state r0 d0 events p → TalksAt began state r2 d2 (events ++ e ∷ []) p
  heard_at places.Idle started at = absurd started
  heard_at (places.Starts view) started at = absurd started
  heard_at (places.Sends view) started at = heard_said view [] at
  heard_at places.Over started at = heard_all_said at

  pub heard_talks : IsStarted r0.at → Talks began state r0 d0 events → Stands r2 d2 → is_broken r2 ≡ false → IsDurable n (aim_of r0) (state_of r2) d2 → Talks began state r2 d2 (events ++ e ∷ [])
  heard_talks started talks stands whole durable = record {
    whole = whole;
    stands = stands;
    durable = subst (λ (k : ℕ). IsDurable k (aim_of r2) (state_of r2) d2) (sym same.number) (subst (λ (a : AimView). IsDurable n a (state_of r2) d2) (sym same.aim) durable);
    at = subst (TalksAt began state r2 d2 (events ++ e ∷ [])) (sym same.at) (heard_at r0.at started talks.at);
  }

-- ---- something was said

same_view : (a b : ViewState) (p : Place) → p ≡ places.Sends a → p ≡ places.Sends b → a ≡ b
same_view a b p one two = let both : places.Sends a ≡ places.Sends b = sym one ∙ two in cc (both)

module _ (began : DiskView) (state : State) (r0 r2 : RelayView) (d0 d2 : DiskView) (events : List Event) (ms : List ClientMessage)
    (durable0 : IsDurable r0.number (aim_of r0) (state_of r0) d0) (number : r2.number ≡ r0.number) (keeping : r2.keeping ≡ r0.keeping) (reads : OnlyReads d0 d2) where
  abbrev m0 : ℕ
  m0 = r0.number

  abbrev total0 : ℕ
  total0 = (aim_of r0).total

  aim : aim_of r2 ≡ aim_of r0
  aim = ap (λ (k : KeepingView). k.aim) keeping

  logs_same : SameLog m0 d0 d2
  logs_same file own = reads.unchanged.elsewhere.same file (λ none. none)

  moments_on : (view : ViewState) (ending : List ClientMessage) (is : IsSaid began state r0 view d0 events ending) → InOrder m0 (aim_of r0) began d2 (states_of total0 (begun state (resumes is.way) (sent_before is.way)) (events ++ all_said ms)) (length (events ++ all_said ms))
  moments_on view ending is =
      let begins = begun state (resumes is.way) (sent_before is.way) in
      then_still m0 (aim_of r0) began d0 d2 (states_of total0 begins events) (states_of total0 begins (events ++ all_said ms)) (length events) (length (events ++ all_said ms)) (state_of r0) is.moments
      (longer_events events (all_said ms)) (state_before total0 begins events (all_said ms)) (ap (λ (t : Talk). t.state) is.talk_is ∙ sym (state_at_end total0 begins events))
      (reads_keep m0 (aim_of r0) (state_of r0) d0 d2 durable0 reads)

  waits_same : (w : Bool) → w ≡ r0.meter.waits → w ≡ (r0.meter.waits && not (list_any is_id (heard (all_said ms))))
  waits_same w is = is ∙ (waits_none r0.meter.waits ∙ ap (λ (l : List ServerMessage). r0.meter.waits && not (list_any is_id l)) (sym (heard_all ms)))

  -- nothing was said
  quiet_said : (view : ViewState) (ending : List ClientMessage) → IsSaid began state r0 view d0 events ending → ms ≡ [] → r2 ≡ r0 → IsSaid began state r2 view d2 (events ++ all_said ms) ending
  quiet_said view ending is none same =
      more_said began state r0 r2 view view d0 d2 events (all_said ms) ending ending is is.records number aim (log_stays m0 d0 d2 logs_same view is.records is.log) refl refl logs_same (λ point k at. at)
      (ap (λ (l : List ClientMessage). (map record_message (drop (skipped is.way) is.records) ++ ending) ++ l) (said_all ms ∙ none) ∙ unit _)
      (ap (λ (r : RelayView). r.meter.sent) same ∙ is.sent) (waits_same r2.meter.waits (ap (λ (r : RelayView). r.meter.waits) same))
      (λ waits. is.none_yet (sym (ap (λ (r : RelayView). r.meter.waits) same) ∙ waits))
      (ap talk_of same ∙ ap (λ (l : List ClientMessage). goes_on total0 (all_said l) (talk_of r0)) (sym none)) (moments_on view ending is)

  -- the next records were said
  records_follow : (view next : ViewState) (is : IsSaid began state r0 view d0 events []) → r0.meter.waits ≡ false → GivesRecords r0 r2 view next d2 ms is.records → IsSaid began state r2 next d2 (events ++ all_said ms) []
  records_follow view next is waits gives =
      more_said began state r0 r2 view next d0 d2 events (all_said ms) [] [] is (is.records ++ gives.more) number aim gives.log gives.same.1 gives.same.0 logs_same (λ point k at. first_append is.records gives.more point k at)
      said2 sent2 (waits_same r2.meter.waits (ap (λ (m : Meter). m.waits) gives.meter)) (λ waiting. absurd (let h : r2.meter.waits ≡ false = ap (λ (m : Meter). m.waits) gives.meter ∙ waits in cc (h, waiting)))
      talk2 (moments_on view [] is)
    where
      said2 : (map record_message (drop (skipped is.way) is.records) ++ []) ++ said (all_said ms) ≡ map record_message (drop (skipped is.way) (is.records ++ gives.more)) ++ []
      said2 = ap (λ (l : List ClientMessage). l ++ said (all_said ms)) (unit _) ∙ (ap (λ (l : List ClientMessage). map record_message (drop (skipped is.way) is.records) ++ l) (said_all ms ∙ gives.messages_are)
          ∙ (sym (drop_more (skipped is.way) is.records gives.more (skipped_within state m0 d0 is.records is.way is.is_way)) ∙ sym (unit _)))

      small : elapsed (is.records ++ gives.more) < 2 ^ 63
      small = gives.log.behind.begins.time

      sum : min (r0.meter.sent + elapsed gives.more) (2 ^ 64 - 1) ≡ r0.meter.sent + elapsed gives.more
      sum = least (r0.meter.sent + elapsed gives.more) (let a = elapsed-append is.records gives.more in let c = is.sent in let d = small in omega (arith, a, c, d))
        where
          least : (k : ℕ) → k < 2 ^ 63 → min k (2 ^ 64 - 1) ≡ k
          least k less = omega (arith, less)

      sent2 : r2.meter.sent ≡ elapsed (is.records ++ gives.more)
      sent2 = ap (λ (m : Meter). m.sent) gives.meter ∙ (sum ∙ (let a = elapsed-append is.records gives.more in let c = is.sent in omega (arith, a, c)))

      talk2 : talk_of r2 ≡ goes_on total0 (all_said ms) (talk_of r0)
      talk2 = ap (λ (k : KeepingView). talk_by k r2.meter) keeping ∙ (ap (λ (m : Meter). talk_by r0.keeping m) gives.meter
          ∙ (same_sent (talk_of r0) (min (r0.meter.sent + elapsed gives.more) (2 ^ 64 - 1)) (r0.meter.sent + elapsed gives.more) sum
          ∙ (sym (records_said total0 gives.more (talk_of r0) (all_behind is.records gives.more gives.log.behind.begins.valid))
          ∙ ap (λ (l : List ClientMessage). goes_on total0 (all_said l) (talk_of r0)) (sym gives.messages_are))))

  -- the exit was said
  exit_follows : (view next : ViewState) (is : IsSaid began state r0 view d0 events []) → r0.meter.waits ≡ false → GivesExit r0 r2 view next d2 ms is.records → IsAllSaid began state r2 d2 (events ++ all_said ms)
  unfolding more_said
  exit_follows view next is waits gives = record {
    view = next;
    exit = gives.exit;
    is = more_said began state r0 r2 view next d0 d2 events (all_said ms) [] (exit_message gives.exit ∷ []) is is.records number aim gives.log gives.same.1 gives.same.0 logs_same (λ point k at. at)
        (ap (λ (l : List ClientMessage). l ++ said (all_said ms)) (unit _) ∙ ap (λ (l : List ClientMessage). map record_message (drop (skipped is.way) is.records) ++ l) (said_all ms ∙ gives.messages_are))
        (ap (λ (m : Meter). m.sent) gives.meter ∙ is.sent) (waits_same r2.meter.waits (ap (λ (m : Meter). m.waits) gives.meter))
        (λ waiting. absurd (let h : r2.meter.waits ≡ false = ap (λ (m : Meter). m.waits) gives.meter ∙ waits in cc (h, waiting)))
        talk2 (moments_on view [] is);
    all_read = gives.whole;
    exit_is = ap (λ (k : ℕ). exit_of (committed_text k next.body d2 ExitPart)) number ∙ (ap (λ (b : Body). exit_of (committed_text r0.number b d2 ExitPart)) gives.same.1 ∙ gives.exit_is);
    heard_id = ap (λ (m : Meter). m.waits) gives.meter ∙ waits;
  }
    where
      talk2 : talk_of r2 ≡ goes_on total0 (all_said ms) (talk_of r0)
      talk2 = ap (λ (k : KeepingView). talk_by k r2.meter) keeping ∙ (ap (λ (m : Meter). talk_by r0.keeping m) gives.meter
          ∙ ap (λ (l : List ClientMessage). goes_on total0 (all_said l) (talk_of r0)) (sym gives.messages_are))

  follows : (view next : ViewState) (is : IsSaid began state r0 view d0 events []) → r0.meter.waits ≡ false → GivesRecords r0 r2 view next d2 ms is.records ⊎ GivesExit r0 r2 view next d2 ms is.records
      → TalksAt began state r2 d2 (events ++ all_said ms) r2.at
  follows view next is waits (inl gives) = subst (TalksAt began state r2 d2 (events ++ all_said ms)) (sym gives.at) (records_follow view next is waits gives)
  follows view next is waits (inr gives) = subst (TalksAt began state r2 d2 (events ++ all_said ms)) (sym gives.at) (exit_follows view next is waits gives)

  at_follows : (p : Place) → r0.at ≡ p → IsStarted p → TalksAt began state r0 d0 events p → Answers r0 r2 d0 d2 ms → TalksAt began state r2 d2 (events ++ all_said ms) r2.at
  unfolding quiet_said more_said
  at_follows places.Idle at started talks answers = absurd started
  at_follows (places.Starts view) at started talks answers = absurd started
  at_follows (places.Sends view) at started talks (inl (none, same)) =
      subst (TalksAt began state r2 d2 (events ++ all_said ms)) (sym (ap (λ (r : RelayView). r.at) same ∙ at)) (quiet_said view [] talks none same)
  at_follows (places.Sends view) at started talks (inr (other, next, there, waits, gives)) =
      let one : other ≡ view = same_view other view r0.at there at in
      follows view next talks waits
      (subst (λ (v : ViewState). GivesRecords r0 r2 v next d2 ms talks.records ⊎ GivesExit r0 r2 v next d2 ms talks.records) one
      (gives talks.records (subst (λ (v : ViewState). HasLog r0.number v talks.records d0) (sym one) talks.log)))
  at_follows places.Over at started talks (inl (none, same)) =
      subst (TalksAt began state r2 d2 (events ++ all_said ms)) (sym (ap (λ (r : RelayView). r.at) same ∙ at)) (record {
        view = talks.view;
        exit = talks.exit;
        is = quiet_said talks.view (exit_message talks.exit ∷ []) talks.is none same;
        all_read = whole_stays m0 d0 d2 logs_same talks.view talks.is.records talks.is.log.number talks.all_read;
        exit_is = ap (λ (k : ℕ). exit_of (committed_text k talks.view.body d2 ExitPart)) number ∙ (ap exit_of (text_stays m0 d0 d2 logs_same talks.view.body ExitPart) ∙ talks.exit_is);
        heard_id = ap (λ (r : RelayView). r.meter.waits) same ∙ talks.heard_id;
      })
  at_follows places.Over at started talks (inr (other, next, there, waits, gives)) = absurd (let h : places.Over ≡ places.Sends other = sym at ∙ there in cc (h))

  none_long : ms ≡ [] → length ms ≤ 1
  none_long none = let h : length ms ≡ 0 = ap length none in omega (arith, h)

  one_piece : (view next : ViewState) (records : List Record) → GivesRecords r0 r2 view next d2 ms records ⊎ GivesExit r0 r2 view next d2 ms records → IsPiece ms
  one_piece view next records (inl gives) = inr (gives.more, gives.messages_are, gives.piece)
  one_piece view next records (inr gives) = inl (let h : length ms ≡ 1 = ap length gives.messages_are in omega (arith, h))

  piece_at : (p : Place) → r0.at ≡ p → IsStarted p → TalksAt began state r0 d0 events p → Answers r0 r2 d0 d2 ms → IsPiece ms
  piece_at places.Idle at started talks answers = absurd started
  piece_at (places.Starts view) at started talks answers = absurd started
  piece_at (places.Sends view) at started talks (inl (none, same)) = inl (none_long none)
  piece_at (places.Sends view) at started talks (inr (other, next, there, waits, gives)) =
      let one : other ≡ view = same_view other view r0.at there at in
      one_piece other next talks.records (gives talks.records (subst (λ (v : ViewState). HasLog r0.number v talks.records d0) (sym one) talks.log))
  piece_at places.Over at started talks (inl (none, same)) = inl (none_long none)
  piece_at places.Over at started talks (inr (other, next, there, waits, gives)) = absurd (let h : places.Over ≡ places.Sends other = sym at ∙ there in cc (h))

  -- what is said is a piece of the log
  pub said_piece : IsStarted r0.at → Talks began state r0 d0 events → Answers r0 r2 d0 d2 ms → IsPiece ms
  said_piece started talks answers = piece_at r0.at refl started talks.at answers

  pub said_talks : IsStarted r0.at → Talks began state r0 d0 events → Answers r0 r2 d0 d2 ms → Stands r2 d2 → Talks began state r2 d2 (events ++ all_said ms)
  said_talks started talks answers stands = record {
    whole = ap (λ (k : KeepingView). k.broken) keeping ∙ talks.whole;
    stands = stands;
    durable = subst (λ (k : ℕ). IsDurable k (aim_of r2) (state_of r2) d2) (sym number) (subst (λ (k : KeepingView). IsDurable m0 k.aim k.state d2) (sym keeping) (reads_durable m0 (aim_of r0) (state_of r0) d0 d2 durable0 reads));
    at = at_follows r0.at refl started talks.at answers;
  }
