-- Once the other server has the whole log, all of it was said.
use Rattle.std.proofs.Common.{◌≡◌, ◌++◌, ◌∷◌, List, [], drop, map, refl, ◌∙◌, ap}
use Rattle.std.specs.Prelude.{Bool, true, false, ◌||◌}
use Rattle.std.specs.List.{list_any}
use Rattle.std.proofs.lemmas.List.Folds.{list_any-append}
use Rattle.lsv_dialogue.specs.Events.{Event, said}
use Rattle.lsv_disk.specs.View.{DiskView}
use Rattle.lsv_kept.specs.declared.state.State.{State}
use Rattle.lsv_msg.specs.declared.messages.ClientMessage.{ClientMessage}
use Rattle.lsv_request.specs.Stored.{exit_message, record_message}
use Rattle.lsv_relay.specs.Inner.{IsLogOf, IsRelay}
use Rattle.lsv_relay.specs.Talk.{is_exit}
use Rattle.lsv_relay.specs.Talks.{IsAllSaid, Talks, TalksAt, opening_of, skipped}
use Rattle.lsv_relay.specs.Value.{IsQuietAt, RelayView, aim_of}
use Rattle.lsv_relay.specs.declared.relay.Place.{Place}
use Rattle.lsv_relay.specs.declared.relay.Place.TheVariants as places

last_of : (a b : Bool) → b ≡ true → (a || b) ≡ true
last_of true b is = refl
last_of false b is = is

apart : (b : Bool) → b ≡ true → b ≡ false → ⊥
apart true one two = cc (two)
apart false one two = cc (one)

exit_said : (began : DiskView) (state : State) (relay : RelayView) (disk : DiskView) (events : List Event) → IsAllSaid began state relay disk events → list_any is_exit (said events) ≡ true
exit_said began state relay disk events all =
    ap (list_any is_exit) all.is.said_is ∙ (list_any-append is_exit (opening_of all.is.way all.view.head) rest ∙ last_of _ _ (list_any-append is_exit (map record_message (drop (skipped all.is.way) all.is.records)) (exit_message all.exit ∷ []) ∙ last_of _ _ refl))
  where
    rest : List ClientMessage
    rest = map record_message (drop (skipped all.is.way) all.is.records) ++ exit_message all.exit ∷ []

done_at : (began : DiskView) (state : State) (relay : RelayView) (disk : DiskView) (events : List Event) (p : Place) → TalksAt began state relay disk events p → relay.meter.ended ≡ true → IsLogOf relay.number (aim_of relay).total relay.meter.ended p → IsQuietAt relay.meter.waits p × (list_any is_exit (said events) ≡ true)
done_at began state relay disk events places.Idle at ended log = absurd at
done_at began state relay disk events (places.Starts view) at ended log = absurd (apart relay.meter.ended ended log.2)
done_at began state relay disk events (places.Sends view) at ended log = absurd (apart relay.meter.ended ended log.1)
done_at began state relay disk events places.Over at ended log = (tt, exit_said began state relay disk events at)

pub done_said : (began : DiskView) (state : State) (relay : RelayView) (disk : DiskView) (events : List Event) → IsRelay relay → Talks began state relay disk events → relay.meter.whole ≡ true → IsQuietAt relay.meter.waits relay.at × (list_any is_exit (said events) ≡ true)
done_said began state relay disk events sound talks whole = done_at began state relay disk events relay.at talks.at (sound.whole whole talks.whole).ended sound.log
