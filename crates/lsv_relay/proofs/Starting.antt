-- A connection begins: its opening is handed out.
use Rattle.std.proofs.Common.{◌≡◌, ◌++◌, ◌∷◌, List, [], ℕ, length, take, drop, map, refl, sym, ◌∙◌, ap, subst, append-nil, arith}
use Rattle.std.specs.Prelude.{Bool, true, false, not, ◌&&◌}
use Rattle.std.specs.List.{list_any}
use Rattle.std.proofs.Math.Seq.{take-length}
use Rattle.lsv_dialogue.specs.Events.{all_said}
use Rattle.lsv_disk.specs.Throughout.{OnlyReads}
use Rattle.lsv_disk.specs.View.{DiskView}
use Rattle.lsv_iolog.specs.Reading.{ViewState}
use Rattle.lsv_kept.specs.Aim.{AimView}
use Rattle.lsv_kept.specs.Value.{KeepingView}
use Rattle.lsv_kept.specs.declared.state.State.{State}
use Rattle.lsv_msg.specs.declared.messages.ClientMessage.{ClientMessage}
use Rattle.lsv_msg.specs.declared.messages.ServerMessage.{ServerMessage}
use Rattle.lsv_record.specs.Records.{elapsed}
use Rattle.lsv_record.specs.declared.records.Record.{Record}
use Rattle.lsv_record.proofs.Points.{first_some}
use Rattle.lsv_request.specs.Stored.{record_message}
use Rattle.lsv_transcript.specs.Transcript.{is_id}
use Rattle.lsv_relay.specs.Inner.{HasStarted}
use Rattle.lsv_relay.specs.Talk.{Talk, begun, goes_on}
use Rattle.lsv_relay.specs.Talks.{HasLog, InOrder, IsDurable, IsSaid, IsUnsaid, IsWay, Stands, Talks, TalksAt, Way, Way.Anew, Way.Resumes, opening_of, resumes, sent_before, skipped, states_of}
use Rattle.lsv_relay.specs.Value.{IsUnbegun, RelayView, aim_of, is_broken, state_of, talk_of}
use Rattle.lsv_relay.specs.declared.relay.Place.{Place}
use Rattle.lsv_relay.specs.declared.relay.Place.TheVariants as places
use Rattle.lsv_relay.proofs.Moments.{no_event, reads_durable, reads_keep, then_still}
use Rattle.lsv_relay.proofs.Saying.{heard_all, opening_said, said_all}
use Rattle.lsv_relay.proofs.Stepping.{longer_events, state_before}

none_dropped : (n : ℕ) (records : List Record) → length records ≡ n → drop n records ≡ []
none_dropped n records is = ap (λ (k : ℕ). drop k records) (sym is) ∙ all_dropped records
  where
    all_dropped : (xs : List Record) → drop (length xs) xs ≡ []
    all_dropped [] = refl
    all_dropped (x ∷ xs) = all_dropped xs

no_records : (records : List Record) → length records ≡ 0 → records ≡ []
no_records [] is = refl
no_records (r ∷ records) is = absurd (let long : length (r ∷ records) ≡ 0 = is in let no_ : ⊥ = omega arith in no_)

-- what is passed over has the elapsed time of its point
passed_time : (state : State) (n : ℕ) (disk : DiskView) (records : List Record) (way : Way) → IsWay state n disk records way → length records ≡ skipped way → sent_before way ≡ elapsed records
passed_time state n disk records (Resumes id point k) is long =
    sym (first_some records point k is.1).ends ∙ ap elapsed (ap (λ (j : ℕ). take j records) (sym long) ∙ take-length records)
passed_time state n disk records Anew is long = ap elapsed (sym (no_records records long))

waits_anew : (way : Way) (records : List Record) → not (resumes way) ≡ true → length records ≡ skipped way → records ≡ []
waits_anew (Resumes id point k) records waits long = absurd (cc)
waits_anew Anew records waits long = no_records records long

with_true : (b : Bool) → b ≡ (b && true)
with_true true = refl
with_true false = refl

module _ (began : DiskView) (state : State) (r0 r2 : RelayView) (d0 d2 : DiskView) (opening : List ClientMessage) (begins : IsUnsaid began state r0 d0 []) (durable0 : IsDurable r0.number (aim_of r0) (state_of r0) d0)
    (started : HasStarted r0 r2 opening d2) (number : r2.number ≡ r0.number) (keeping : r2.keeping ≡ r0.keeping) (reads : OnlyReads d0 d2) where
  abbrev n : ℕ
  n = r0.number

  abbrev view : ViewState
  view = started.view

  abbrev T : ℕ
  T = (aim_of r2).total

  abbrev way : Way
  way = started.way

  abbrev start : Talk
  start = begun state (resumes way) (sent_before way)

  aim : aim_of r2 ≡ aim_of r0
  aim = ap (λ (k : KeepingView). k.aim) keeping

  talk2 : talk_of r2 ≡ start
  talk2 = started.talk_is ∙ ap (λ (s : State). begun s (resumes way) (sent_before way)) begins.same

  goes : goes_on T (all_said opening) start ≡ start
  goes = ap (λ (ms : List ClientMessage). goes_on T (all_said ms) start) started.opening_is ∙ opening_said T way view.head start

  moments0 : InOrder n (aim_of r0) began d2 (states_of (aim_of r0).total start (all_said opening)) (length (all_said opening))
  moments0 = then_still n (aim_of r0) began d0 d2 (states_of (aim_of r0).total start []) (states_of (aim_of r0).total start (all_said opening)) 0 (length (all_said opening)) (state_of r0)
      (no_event n (aim_of r0) state began d0 (states_of (aim_of r0).total start []) begins.moments refl)
      (longer_events [] (all_said opening)) (state_before (aim_of r0).total start [] (all_said opening)) begins.same
      (reads_keep n (aim_of r0) (state_of r0) d0 d2 durable0 reads)

  first_said : IsSaid began state r2 view d2 (all_said opening) []
  first_said = record {
    records = started.records;
    log = subst (λ (k : ℕ). HasLog k view started.records d2) (sym number) started.log;
    way = way;
    is_way = subst (λ (k : ℕ). IsWay state k d2 started.records way) (sym number) (subst (λ (s : State). IsWay s n d2 started.records way) begins.same started.is_way);
    sent = ap (λ (t : Talk). t.sent) talk2 ∙ passed_time (state_of r0) n d2 started.records way started.is_way started.passed;
    said_is = said_all opening ∙ (started.opening_is ∙ (sym (append-nil (opening_of way view.head))
        ∙ ap (λ (rs : List Record). opening_of way view.head ++ (map record_message rs ++ [])) (sym (none_dropped (skipped way) started.records started.passed))));
    waits = started.waits ∙ (with_true (not (resumes way)) ∙ ap (λ (ms : List ServerMessage). not (resumes way) && not (list_any is_id ms)) (sym (heard_all opening)));
    none_yet = λ waits. waits_anew way started.records (sym started.waits ∙ waits) started.passed;
    total = started.total;
    talk_is = talk2 ∙ sym goes;
    moments = subst (λ (k : ℕ). InOrder k (aim_of r2) began d2 (states_of T start (all_said opening)) (length (all_said opening))) (sym number)
        (subst (λ (a : AimView). InOrder n a began d2 (states_of a.total start (all_said opening)) (length (all_said opening))) (sym aim) moments0);
  }

  pub first_talks : is_broken r2 ≡ false → Stands r2 d2 → Talks began state r2 d2 (all_said opening)
  first_talks whole stands = record {
    whole = whole;
    stands = stands;
    durable = subst (λ (k : ℕ). IsDurable k (aim_of r2) (state_of r2) d2) (sym number) (subst (λ (k : KeepingView). IsDurable n k.aim k.state d2) (sym keeping) (reads_durable n (aim_of r0) (state_of r0) d0 d2 durable0 reads));
    at = subst (TalksAt began state r2 d2 (all_said opening)) (sym started.at) first_said;
  }

unsaid_at : (began : DiskView) (state : State) (relay : RelayView) (disk : DiskView) (p : Place) → IsUnbegun p → TalksAt began state relay disk [] p → IsUnsaid began state relay disk []
unsaid_at began state relay disk places.Idle is at = absurd is
unsaid_at began state relay disk (places.Starts log) is at = at
unsaid_at began state relay disk (places.Sends log) is at = absurd is
unsaid_at began state relay disk places.Over is at = absurd is

-- a relay that was opened begins its connection
pub begins_talks : (began : DiskView) (state : State) (r0 r2 : RelayView) (d0 d2 : DiskView) (opening : List ClientMessage) → IsUnbegun r0.at → Talks began state r0 d0 [] → HasStarted r0 r2 opening d2 → r2.number ≡ r0.number → r2.keeping ≡ r0.keeping → OnlyReads d0 d2 → Stands r2 d2
    → Talks began state r2 d2 (all_said opening)
begins_talks began state r0 r2 d0 d2 opening unbegun talks started number keeping reads stands =
    first_talks began state r0 r2 d0 d2 opening (unsaid_at began state r0 d0 r0.at unbegun talks.at) talks.durable started number keeping reads (ap (λ (k : KeepingView). k.broken) keeping ∙ talks.whole) stands
