-- The lines of event logs as JSON: one compact object a line, its keys in byte order.
use Rattle.std.specs.Prelude.{ℕ, List, [], ◌∷◌, ◌++◌, codes, Option, Some, None}
use Rattle.lsv_info.specs.Layout.{shown_text}
use Rattle.serde_json.specs.Data.{number, object, Members, no_members, put, unsigned}
use Rattle.serde_json.specs.Written.{compact_text}
use Rattle.lsv_tally.specs.declared.tally.Tally.{Tally}
use Rattle.lsv_tally.specs.declared.tally.Tally.TheVariants.{Nowhere, Unlisted, Short, Bad, Torn, Miscounted, Sound}
use Rattle.lsv_tally.specs.declared.verdict.EventVerdict.{EventVerdict}

-- members with a number
abbrev pub with_number : List ℕ → ℕ → Members → Members
with_number key n members = put key (number (unsigned n)) members

-- members with a text
abbrev pub with_text : List ℕ → List ℕ → Members → Members
with_text key text members = put key (shown_text text) members

-- members that say what is wrong
abbrev pub with_fault : List ℕ → Members → Members
with_fault fault members = with_text (codes "state") (codes "damaged") (with_text (codes "fault") fault members)

-- members with what was found
abbrev pub with_found : Tally → Members → Members
with_found Nowhere members = with_text (codes "state") (codes "absent") members
with_found Unlisted members = with_fault (codes "unlisted") members
with_found Short members = with_fault (codes "short") members
with_found (Bad lines) members = with_fault (codes "line") (with_number (codes "lines") lines members)
with_found (Torn lines) members = with_fault (codes "torn") (with_number (codes "lines") lines members)
with_found (Miscounted lines counted) members = with_fault (codes "count") (with_number (codes "counted") counted (with_number (codes "lines") lines members))
with_found (Sound lines bytes) members = with_text (codes "state") (codes "sound") (with_number (codes "bytes") bytes (with_number (codes "lines") lines members))

abbrev pub with_finding : Option Tally → Members → Members
with_finding None members = with_text (codes "state") (codes "unread") members
with_finding (Some found) members = with_found found members

-- the members of the line of an event log, with its lane first
abbrev pub members_of : EventVerdict → Members
members_of v = with_finding v.found (with_number (codes "events") v.lane no_members)

-- the line of an event log
unfoldable pub json_of : EventVerdict → List ℕ
json_of v = compact_text (object (members_of v)) ++ 10 ∷ []
