-- An event as a line of JSON, in the style of log.json: one compact object with one member, and a line feed.
use Rattle.std.specs.Prelude.{ℕ, List, [], ◌∷◌, ◌++◌, Option, Some, None, codes}
use Rattle.lsv_base.specs.LogNo.{digits_of}
use Rattle.lsv_info.specs.Layout.{shown_text, info_members, time_value, exit_members}
use Rattle.lsv_event.specs.Controls.{uncontrolled}
use Rattle.lsv_event.specs.Events.{peer_text}
use Rattle.lsv_event.specs.declared.event.Event.{Event}
use Rattle.lsv_event.specs.declared.event.Event.TheVariants.{Accept, Reject, Alert, Exit}
use Rattle.serde_json.specs.Data.{Data, object, Members, no_members, member, put}
use Rattle.serde_json.specs.Written.{compact_text}

-- the six digits of a log before other members, left out where there is none
abbrev pub with_log : Option ℕ → Members → Members
with_log (Some number) later = member (codes "iolog") (shown_text (digits_of number)) later
with_log None later = later

-- the six digits of a log among other members, left out where there is none
abbrev pub put_log : Option ℕ → Members → Members
put_log (Some number) members = put (codes "iolog") (shown_text (digits_of number)) members
put_log None members = members

-- what an event is called in JSON
abbrev pub name_of : Event → List ℕ
name_of (Accept at peer log head) = codes "accept"
name_of (Reject at peer reason head) = codes "reject"
name_of (Alert at peer reason head) = codes "alert"
name_of (Exit at peer log exit) = codes "exit"

-- the members of an event: of an exit those of exit.json, and the log, the connection and the moment
abbrev pub members_of : Event → Members
members_of (Accept at peer log head) =
    member (codes "info") (object (info_members head.info.entries)) (
    with_log log (
    member (codes "peer") (shown_text (peer_text peer)) (
    member (codes "server_time") (time_value at) (
    member (codes "submit_time") (time_value head.submit) no_members))))
members_of (Reject at peer reason head) =
    member (codes "info") (object (info_members head.info.entries)) (
    member (codes "peer") (shown_text (peer_text peer)) (
    member (codes "reason") (shown_text reason) (
    member (codes "server_time") (time_value at) (
    member (codes "submit_time") (time_value head.submit) no_members))))
members_of (Alert at peer reason head) =
    member (codes "alert_time") (time_value head.submit) (
    member (codes "info") (object (info_members head.info.entries)) (
    member (codes "peer") (shown_text (peer_text peer)) (
    member (codes "reason") (shown_text reason) (
    member (codes "server_time") (time_value at) no_members))))
members_of (Exit at peer log exit) =
    put (codes "server_time") (time_value at) (put (codes "peer") (shown_text (peer_text peer)) (put_log log (exit_members exit)))

-- the JSON of an event
abbrev pub event_value : Event → Data
event_value event = object (member (name_of event) (object (members_of event)) no_members)

-- the line of an event as JSON, its DEL and C1 controls by their numbers
unfoldable pub json_line : Event → List ℕ
json_line event = uncontrolled 0 (compact_text (event_value event)) ++ 10 ∷ []
