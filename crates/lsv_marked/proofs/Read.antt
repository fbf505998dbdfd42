-- The commit point at the log's whole time was heard.
use Rattle.std.proofs.Common.{◌≡◌, ◌∙◌, ◌++◌, ◌∷◌, ℕ, suc, true, false, List, [], refl, sym, ap, subst, arith, Some}
use Rattle.std.specs.Prelude.{Contains}
use Rattle.lsv_base.specs.Time.{nanos_of, time_of}
use Rattle.lsv_base.specs.declared.time.TimeSpec.{TimeSpec}
use Rattle.lsv_bundle.specs.Body.{length_of}
use Rattle.lsv_bundle.specs.Committed.{IsShort}
use Rattle.lsv_bundle.specs.declared.body.Body.{Body}
use Rattle.lsv_dialogue.specs.Events.{Event, Event.Heard, Event.Late, Event.Said, heard}
use Rattle.lsv_disk.specs.Files.{file_of}
use Rattle.lsv_disk.specs.View.{DiskView}
use Rattle.lsv_iolog.specs.Reading.{ViewState}
use Rattle.lsv_iolog.specs.Recovered.{HoldsLog, owner_of}
use Rattle.lsv_kept.specs.declared.state.State.{State}
use Rattle.lsv_msg.specs.declared.messages.ClientMessage.{ClientMessage}
use Rattle.lsv_msg.specs.declared.messages.ServerMessage.{ServerMessage}
use Rattle.lsv_msg.specs.declared.messages.ServerMessage.TheVariants as server
use Rattle.lsv_play.specs.Playing.{IsOpened}
use Rattle.lsv_play.proofs.Stored.{same_body}
use Rattle.lsv_record.specs.Points.{Stored}
use Rattle.lsv_record.specs.Records.{elapsed}
use Rattle.lsv_record.specs.declared.records.Record.{Record}
use Rattle.lsv_relay.specs.Talk.{Talk, begun, goes_on}
use Rattle.lsv_relay.specs.Talks.{HasLog, IsSaid, Talks, TalksAt, resumes, sent_before}
use Rattle.lsv_relay.specs.Value.{IsQuietAt, RelayView, aim_of}
use Rattle.lsv_relay.specs.declared.relay.Place.{Place}
use Rattle.lsv_relay.specs.declared.relay.Place.TheVariants as places
use Rattle.lsv_request.specs.Stored.{exit_message}

-- ---- A message that was heard

later : (xs : List ServerMessage) (x m : ServerMessage) → Contains xs m → Contains (x ∷ xs) m
later xs x m (k, within, is) = (suc k, omega (arith, within), is)

in_heard : (m : ServerMessage) (before after : List Event) → Contains (heard (before ++ Heard m ∷ after)) m
in_heard m [] after = (0, omega arith, refl)
in_heard m (Said x ∷ before) after = in_heard m before after
in_heard m (Heard x ∷ before) after = later (heard (before ++ Heard m ∷ after)) x m (in_heard m before after)
in_heard m (Late x ∷ before) after = later (heard (before ++ Heard m ∷ after)) x m (in_heard m before after)

-- ---- The log that was read is the stored one

time_is : (n : ℕ) (view : ViewState) (records : List Record) (disk : DiskView) (stored : Stored) → HasLog n view records disk → HoldsLog n stored disk.reads → view.body.elapsed ≡ elapsed stored.records
time_is n view records disk stored log holds = ap (λ (b : Body). b.elapsed) (same_body n view.body view.head disk.reads stored opened holds) ∙ holds.is.time
  where
    opened : IsOpened n view.body view.head disk.reads
    opened = record { entry = log.entry; there = λ part of short. log.behind.there part of (subst (λ (k : ℕ). IsShort (disk.reads (file_of (owner_of k) part)) (length_of view.body part)) (sym log.number) short); head_is = log.head }

-- ---- The point

-- a relay that has the whole time heard it
abbrev pub HearsWhole : Type 0
HearsWhole = (total : ℕ) (talk : Talk) (events : List Event) → talk.whole ≡ false → (goes_on total events talk).whole ≡ true
    → (before after : List Event) × (time : TimeSpec) × (events ≡ before ++ Heard (server.CommitPoint time) ∷ after) × (nanos_of time ≡ Some total) × ((goes_on total before talk).ended ≡ true) × ((goes_on total before talk).known ≡ true)

module _ (hears : HearsWhole) (one : (time : TimeSpec) (n : ℕ) → nanos_of time ≡ Some n → time_of n ≡ time)
    (began : DiskView) (state : State) (relay : RelayView) (disk : DiskView) (events : List Event) (stored : Stored) (holds : HoldsLog relay.number stored disk.reads) (whole : relay.meter.whole ≡ true) where
  of_said : (view : ViewState) (ending : List ClientMessage) → IsSaid began state relay view disk events ending → Contains (heard events) (server.CommitPoint (time_of (elapsed stored.records)))
  of_said view ending is =
      let came = hears (aim_of relay).total (begun state (resumes is.way) (sent_before is.way)) events refl (sym (ap (λ (t : Talk). t.whole) is.talk_is) ∙ whole) in
      let total : (aim_of relay).total ≡ elapsed stored.records = is.total ∙ time_is relay.number view is.records disk stored is.log holds in
      let time : came.2 ≡ time_of (elapsed stored.records) = sym (one came.2 (aim_of relay).total came.4) ∙ ap time_of total in
      subst (Contains (heard events)) (ap server.CommitPoint time)
      (subst (λ (es : List Event). Contains (heard es) (server.CommitPoint came.2)) (sym came.3) (in_heard (server.CommitPoint came.2) came.0 came.1))

  at_place : (p : Place) → TalksAt began state relay disk events p → IsQuietAt relay.meter.waits p → Contains (heard events) (server.CommitPoint (time_of (elapsed stored.records)))
  at_place places.Idle at quiet = absurd at
  at_place (places.Starts view) at quiet = absurd quiet
  at_place (places.Sends view) at quiet = of_said view [] at
  at_place places.Over at quiet = of_said at.view (exit_message at.exit ∷ []) at.is

  pub point_heard : Talks began state relay disk events → IsQuietAt relay.meter.waits relay.at → Contains (heard events) (server.CommitPoint (time_of (elapsed stored.records)))
  point_heard talks quiet = at_place relay.at talks.at quiet
