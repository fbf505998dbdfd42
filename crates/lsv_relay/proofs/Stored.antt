-- Of a stored log a prefix of its transcript is said.
use Rattle.std.proofs.Common.{◌≡◌, ◌++◌, ◌∷◌, ◌≤◌, List, [], ℕ, zero, suc, length, take, drop, map, refl, sym, ◌∙◌, ap, subst, Option, Some, None, Result, Ok, append_assoc, append-nil}
use Rattle.std.specs.Prelude.{Bool, true, false, not, ◌&&◌, if◌then◌else◌}
use Rattle.std.specs.List.{list_any}
use Rattle.std.proofs.lemmas.List.{take-append-drop}
use Rattle.lsv_bundle.specs.Body.{length_of}
use Rattle.lsv_bundle.specs.Committed.{HasPrefix, IsShort}
use Rattle.lsv_bundle.specs.Shape.{IsPart}
use Rattle.lsv_bundle.specs.declared.body.Body.{Body}
use Rattle.lsv_bundle.specs.declared.shape.Shape.TheVariants as shapes
use Rattle.lsv_dialogue.specs.Events.{Event, heard, said}
use Rattle.lsv_disk.specs.Bytes.{bytes_of}
use Rattle.lsv_disk.specs.Files.{file_of}
use Rattle.lsv_disk.specs.View.{DiskView}
use Rattle.lsv_disk.specs.declared.file.Part.{Part}
use Rattle.lsv_disk.specs.declared.file.Part.TheVariants.{Exit as ExitPart, Head as HeadPart}
use Rattle.lsv_info.specs.Reading.{exit_of, head_of}
use Rattle.lsv_info.specs.declared.times.Exit.{Exit}
use Rattle.lsv_info.specs.declared.times.Head.{Head}
use Rattle.lsv_iolog.specs.Reading.{IsWhole, ViewState, committed_laid, committed_text}
use Rattle.lsv_iolog.specs.Recovered.{HoldsLog, HasExit, Replays, owner_of}
use Rattle.lsv_iolog.proofs.Replaying.{prefix_same}
use Rattle.lsv_iolog.proofs.Viewing.{all_there}
use Rattle.lsv_kept.specs.declared.state.State.{State}
use Rattle.lsv_kept.specs.declared.state.State.TheVariants as states
use Rattle.lsv_msg.specs.declared.messages.ClientMessage.{ClientMessage}
use Rattle.lsv_play.specs.Playing.{IsOpened}
use Rattle.lsv_play.proofs.Stored.{begins_log, is_layout, same_body, some_of_all}
use Rattle.lsv_record.specs.Layout.{Begins, IsLayout}
use Rattle.lsv_record.specs.Points.{Stored, first}
use Rattle.lsv_record.specs.declared.records.Record.{Record}
use Rattle.lsv_record.proofs.Once.{one_begins, one_layout}
use Rattle.lsv_record.proofs.Points.{first_append}
use Rattle.lsv_request.specs.Stored.{exit_message, record_message}
use Rattle.lsv_transcript.specs.Transcript.{Transcript, anew, from_record, is_id, may_say, relayed_by, resumed}
use Rattle.lsv_relay.specs.Talks.{AreAllOf, HasLog, IsAllSaid, IsSaid, IsWay, Talks, TalksAt, Way, Way.Anew, Way.Resumes, opening_of, resumes, skipped}
use Rattle.lsv_relay.specs.Transcripts.{IsStartOf, begins_at}
use Rattle.lsv_relay.specs.Value.{IsQuietAt, RelayView}
use Rattle.lsv_relay.specs.declared.relay.Place.{Place}
use Rattle.lsv_relay.specs.declared.relay.Place.TheVariants as places
use Rattle.lsv_relay.proofs.Stepping.{drop_more, skipped_within}

-- ---- the log that is read is the stored one

pub taken_begins : (file : Option (List ℕ)) (k : ℕ) (prefix : List ℕ) → HasPrefix prefix file → HasPrefix (take k (bytes_of file)) file
taken_begins None k prefix is = absurd is
taken_begins (Some bytes) k prefix is = (drop k bytes, sym (take-append-drop k bytes))

same_ok : {T E : Type 0} (a b : T) → (let x : Result T E = Ok a in x) ≡ Ok b → a ≡ b
same_ok a b e = cc (e)

module _ (n : ℕ) (view : ViewState) (records : List Record) (disk : DiskView) (log : HasLog n view records disk) (stored : Stored) (holds : HoldsLog n stored disk.reads) where
  opened : IsOpened n view.body view.head disk.reads
  opened = record { entry = log.entry; there = λ part of short. log.behind.there part of (subst (λ (k : ℕ). IsShort (disk.reads (file_of (owner_of k) part)) (length_of view.body part)) (sym log.number) short); head_is = log.head }

  body_is : view.body ≡ holds.entry.body
  body_is = same_body n view.body view.head disk.reads stored opened holds

  text_is : (part : Part) → IsPart shapes.Log part → committed_text n view.body disk part ≡ holds.entry.bytes part
  text_is part is =
      prefix_same (committed_text n view.body disk part) (holds.entry.bytes part) (disk.reads (file_of (owner_of n) part))
      (all_there (disk.reads (file_of (owner_of n) part)) (length_of view.body part) (opened.there part is) ∙ ap (λ (b : Body). length_of b part) body_is ∙ sym (holds.holds.lengths part is))
      (taken_begins (disk.reads (file_of (owner_of n) part)) (length_of view.body part) (holds.entry.bytes part) (holds.holds.bytes part is)) (holds.holds.bytes part is)

  layout_is : IsLayout (committed_laid n view.body disk) stored.records
  layout_is = is_layout n view.body view.head disk.reads stored opened holds

  begins_is : Begins (committed_laid n view.body disk) stored.records
  begins_is = begins_log n view.body view.head disk.reads stored opened holds

  here : Begins (committed_laid n view.body disk) records
  here = subst (λ (k : ℕ). Begins (committed_laid k view.body disk) records) log.number log.behind.begins

  pub rest_of : (more : List Record) × (stored.records ≡ records ++ more)
  rest_of = some_of_all (committed_laid n view.body disk) stored.records records layout_is begins_is here (one_begins (committed_laid n view.body disk) records stored.records here begins_is)

  pub all_is : AreAllOf n disk stored.records
  all_is = record {
    body = view.body;
    entry = log.entry;
    begins = begins_is;
    layout = layout_is;
    count = ap (λ (b : Body). b.count) body_is ∙ holds.is.count;
    time = ap (λ (b : Body). b.elapsed) body_is ∙ holds.is.time;
  }

  pub whole_is : IsWhole view records disk → records ≡ stored.records
  whole_is whole = one_layout (committed_laid n view.body disk) records stored.records here.valid holds.is.valid
      (subst (λ (k : ℕ). IsLayout (committed_laid k view.body disk) records) log.number whole.layout) layout_is

  pub head_is : (head : Head) → head_of stored.head ≡ Ok head → view.head ≡ head
  head_is head is = same_ok view.head head (sym log.head ∙ (ap head_of (text_is HeadPart tt ∙ holds.is.head) ∙ is))

  pub exit_is : (text : List ℕ) (exit other : Exit) → stored.exit ≡ Some text → exit_of text ≡ Ok exit → exit_of (committed_text n view.body disk ExitPart) ≡ Ok other → other ≡ exit
  exit_is text exit other some is at = same_ok other exit (sym at ∙ (ap exit_of (text_is ExitPart tt ∙ exit_text stored.exit some holds.is.exit) ∙ is))
    where
      exit_text : (o : Option (List ℕ)) → o ≡ Some text → HasExit holds.entry.body.kind (holds.entry.bytes ExitPart) o → holds.entry.bytes ExitPart ≡ text
      exit_text None e has = absurd (cc (e))
      exit_text (Some t) e has = has.1 ∙ (let h : t ≡ text = cc (e) in h)

-- ---- the transcript

of_state : (rs : List Record) (head : Head) (exit : Option Exit) (state : State) (id : List ℕ) (point : ℕ) → state ≡ states.Kept (record { id = id; point = Some point }) → begins_at rs head exit state ≡ relayed_by rs head exit id (Some point)
of_state rs head exit state id point is = ap (begins_at rs head exit) is

resumes_at : (rs : List Record) (head : Head) (exit : Option Exit) (state : State) (id : List ℕ) (point k : ℕ) → state ≡ states.Kept (record { id = id; point = Some point }) → first rs point ≡ Some k → begins_at rs head exit state ≡ resumed rs exit id point k
resumes_at rs head exit state id point k is at = of_state rs head exit state id point is ∙ rw at refl

anew_at : (rs : List Record) (head : Head) (exit : Option Exit) (state : State) → ((id : List ℕ) (point : ℕ) → state ≡ states.Kept (record { id = id; point = Some point }) → first rs point ≡ None) → begins_at rs head exit state ≡ anew rs head exit
anew_at rs head exit states.Nothing none = refl
anew_at rs head exit (states.Kept kept) none = by_point kept.point refl
  where
    by_point : (p : Option ℕ) → kept.point ≡ p → relayed_by rs head exit kept.id kept.point ≡ anew rs head exit
    by_point None e = ap (relayed_by rs head exit kept.id) e
    by_point (Some point) e = ap (relayed_by rs head exit kept.id) e ∙ (rw (none kept.id point (ap (λ (q : Option ℕ). states.Kept (record { id = kept.id; point = q })) e)) refl)
anew_at rs head exit states.Done none = refl

drop_none : (k : ℕ) → (let xs : List Record = drop k [] in xs) ≡ []
drop_none zero = refl
drop_none (suc k) = refl

-- what was said so far goes on to all that may be said
front_of : (opening : List ClientMessage) (k : ℕ) (records more : List Record) (exit : Exit) → k ≤ length records → IsStartOf (opening ++ (map record_message (drop k records) ++ [])) (opening ++ from_record (records ++ more) (Some exit) k)
front_of opening k records more exit le = (
  map record_message more ++ exit_message exit ∷ [],
  ap (λ (l : List ClientMessage). opening ++ l) (ap (λ (l : List ClientMessage). l ++ exit_message exit ∷ []) (drop_more k records more le) ∙ append_assoc (map record_message (drop k records)) (map record_message more) (exit_message exit ∷ []))
      ∙ (sym (append_assoc opening (map record_message (drop k records)) (map record_message more ++ exit_message exit ∷ []))
      ∙ ap (λ (l : List ClientMessage). (opening ++ l) ++ (map record_message more ++ exit_message exit ∷ [])) (sym (append-nil (map record_message (drop k records))))),
)

prefix_self : (xs : List ClientMessage) → IsStartOf xs xs
prefix_self xs = ([], sym (append-nil xs))

module _ (began : DiskView) (state : State) (relay : RelayView) (view : ViewState) (disk : DiskView) (events : List Event) (stored : Stored) (head : Head) (exit : Exit) (holds : HoldsLog relay.number stored disk.reads) (head_ok : head_of stored.head ≡ Ok head)
    (ending : List ClientMessage) (is : IsSaid began state relay view disk events ending) where
  abbrev rs : List Record
  rs = stored.records

  abbrev transcript : Transcript
  transcript = begins_at rs head (Some exit) state

  head_here : view.head ≡ head
  head_here = head_is relay.number view is.records disk is.log stored holds head head_ok

  all_here : AreAllOf relay.number disk rs
  all_here = all_is relay.number view is.records disk is.log stored holds

  -- the rest may be said, or the identifier is waited for
  may_all : (waits : Bool) → relay.meter.waits ≡ waits → (way : Way) → is.way ≡ way → may_say transcript (heard events) ≡ opening_of way view.head ++ (if waits then [] else from_record rs (Some exit) (skipped way))
  may_all waits at (Resumes id point k) e =
      let w : IsWay state relay.number disk is.records (Resumes id point k) = subst (λ (x : Way). IsWay state relay.number disk is.records x) e is.is_way in
      let more = rest_of relay.number view is.records disk is.log stored holds in
      let there : first rs point ≡ Some k = ap (λ (xs : List Record). first xs point) more.1 ∙ first_append is.records more.0 point k w.1 in
      let no_ : waits ≡ false = sym at ∙ (is.waits ∙ ap (λ (x : Way). not (resumes x) && not (list_any is_id (heard events))) e) in
      ap (λ (t : Transcript). may_say t (heard events)) (resumes_at rs head (Some exit) state id point k w.0 there)
      ∙ ap (λ (b : Bool). opening_of (Resumes id point k) view.head ++ (if b then [] else from_record rs (Some exit) k)) (sym no_)
  may_all waits at Anew e =
      let w : IsWay state relay.number disk is.records Anew = subst (λ (x : Way). IsWay state relay.number disk is.records x) e is.is_way in
      let asks : waits ≡ not (list_any is_id (heard events)) = sym at ∙ (is.waits ∙ ap (λ (x : Way). not (resumes x) && not (list_any is_id (heard events))) e) in
      ap (λ (t : Transcript). may_say t (heard events)) (anew_at rs head (Some exit) state (λ id point same. w id point same rs all_here))
      ∙ (ap (λ (h : Head). opening_of Anew h ++ (if list_any is_id (heard events) then from_record rs (Some exit) 0 else [])) (sym head_here)
      ∙ ap (λ (l : List ClientMessage). opening_of Anew view.head ++ l) (turned (list_any is_id (heard events)) waits asks))
    where
      turned : (b w : Bool) → w ≡ not b → (if b then from_record rs (Some exit) 0 else []) ≡ (if w then [] else from_record rs (Some exit) 0)
      turned true w e = rw e refl
      turned false w e = rw e refl

  -- while records are sent
  sends_part : ending ≡ [] → IsStartOf (said events) (may_say transcript (heard events))
  sends_part none = go relay.meter.waits refl
    where
      said_here : said events ≡ opening_of is.way view.head ++ (map record_message (drop (skipped is.way) is.records) ++ [])
      said_here = is.said_is ∙ ap (λ (l : List ClientMessage). opening_of is.way view.head ++ (map record_message (drop (skipped is.way) is.records) ++ l)) none

      go : (b : Bool) → relay.meter.waits ≡ b → IsStartOf (said events) (may_say transcript (heard events))
      go true e = subst (λ (l : List ClientMessage). IsStartOf l (may_say transcript (heard events)))
          (sym (said_here ∙ ap (λ (xs : List Record). opening_of is.way view.head ++ (map record_message xs ++ [])) (ap (drop (skipped is.way)) (is.none_yet e) ∙ drop_none (skipped is.way))))
          (subst (IsStartOf (opening_of is.way view.head ++ [])) (sym (may_all true e is.way refl)) (prefix_self (opening_of is.way view.head ++ [])))
      go false e =
          let more = rest_of relay.number view is.records disk is.log stored holds in
          subst (λ (l : List ClientMessage). IsStartOf l (may_say transcript (heard events))) (sym said_here)
          (subst (IsStartOf (opening_of is.way view.head ++ (map record_message (drop (skipped is.way) is.records) ++ []))) (sym (may_all false e is.way refl ∙ ap (λ (xs : List Record). opening_of is.way view.head ++ from_record xs (Some exit) (skipped is.way)) more.1))
          (front_of (opening_of is.way view.head) (skipped is.way) is.records more.0 exit (skipped_within state relay.number disk is.records is.way is.is_way)))

  sends_whole : ending ≡ [] → relay.meter.waits ≡ true → said events ≡ may_say transcript (heard events)
  sends_whole none waits =
      is.said_is ∙ (ap (λ (l : List ClientMessage). opening_of is.way view.head ++ (map record_message (drop (skipped is.way) is.records) ++ l)) none
      ∙ (ap (λ (xs : List Record). opening_of is.way view.head ++ (map record_message xs ++ [])) (ap (drop (skipped is.way)) (is.none_yet waits) ∙ drop_none (skipped is.way)) ∙ sym (may_all true waits is.way refl)))

  -- once all was sent
  ends_whole : (other : Exit) → ending ≡ exit_message other ∷ [] → other ≡ exit → IsWhole view is.records disk → relay.meter.waits ≡ false → said events ≡ may_say transcript (heard events)
  ends_whole other last same whole waits =
      is.said_is ∙ (ap (λ (l : List ClientMessage). opening_of is.way view.head ++ (map record_message (drop (skipped is.way) is.records) ++ l)) (last ∙ ap (λ (x : Exit). exit_message x ∷ []) same)
      ∙ (ap (λ (xs : List Record). opening_of is.way view.head ++ from_record xs (Some exit) (skipped is.way)) (whole_is relay.number view is.records disk is.log stored holds whole) ∙ sym (may_all false waits is.way refl)))

none_prefix : (xs : List ClientMessage) → IsStartOf [] xs
none_prefix xs = (xs, refl)

module _ (began : DiskView) (state : State) (relay : RelayView) (disk : DiskView) (events : List Event) (stored : Stored) (head : Head) (text : List ℕ) (exit : Exit) (holds : Replays disk.reads relay.number (Some stored)) (head_ok : head_of stored.head ≡ Ok head) (some : stored.exit ≡ Some text) (exit_ok : exit_of text ≡ Ok exit) where
  over_whole : IsAllSaid began state relay disk events → said events ≡ may_say (begins_at stored.records head (Some exit) state) (heard events)
  over_whole all = ends_whole began state relay all.view disk events stored head exit holds head_ok (exit_message all.exit ∷ []) all.is all.exit refl
      (exit_is relay.number all.view all.is.records disk all.is.log stored holds text exit all.exit some exit_ok all.exit_is) all.all_read all.heard_id

  part_at : (p : Place) → TalksAt began state relay disk events p → IsStartOf (said events) (may_say (begins_at stored.records head (Some exit) state) (heard events))
  part_at places.Idle at = absurd at
  part_at (places.Starts view) at = subst (λ (es : List Event). IsStartOf (said es) (may_say (begins_at stored.records head (Some exit) state) (heard es))) (sym at.none) (none_prefix _)
  part_at (places.Sends view) at = sends_part began state relay view disk events stored head exit holds head_ok [] at refl
  part_at places.Over at = subst (IsStartOf (said events)) (over_whole at) (prefix_self (said events))

  whole_at : (p : Place) → TalksAt began state relay disk events p → IsQuietAt relay.meter.waits p → said events ≡ may_say (begins_at stored.records head (Some exit) state) (heard events)
  whole_at places.Idle at quiet = absurd at
  whole_at (places.Starts view) at quiet = absurd quiet
  whole_at (places.Sends view) at quiet = sends_whole began state relay view disk events stored head exit holds head_ok [] at refl quiet
  whole_at places.Over at quiet = over_whole at

  pub part_said : Talks began state relay disk events → IsStartOf (said events) (may_say (begins_at stored.records head (Some exit) state) (heard events))
  part_said talks = part_at relay.at talks.at

  pub whole_said : Talks began state relay disk events → IsQuietAt relay.meter.waits relay.at → said events ≡ may_say (begins_at stored.records head (Some exit) state) (heard events)
  whole_said talks quiet = whole_at relay.at talks.at quiet
