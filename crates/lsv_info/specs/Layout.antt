-- The texts of log.json and exit.json: the compact JSON (RFC 8259) of one object, its keys in byte order, and a line feed.
use Rattle.std.specs.Prelude.{◌≡◌, ℕ, ℤ, List, [], ◌∷◌, ◌++◌, map, fold, codes}
use Rattle.std.specs.Str.Lossy.{utf8_lossy}
use Rattle.lsv_base.specs.declared.time.TimeSpec.{TimeSpec}
use Rattle.lsv_info.specs.declared.info.Entry.{Entry}
use Rattle.lsv_info.specs.declared.info.Value.{Value}
use Rattle.lsv_info.specs.declared.info.Value.TheVariants.{Num, Text, Texts, Nums}
use Rattle.lsv_info.specs.declared.times.Head.{Head}
use Rattle.lsv_info.specs.declared.times.Exit.{Exit}
use Rattle.serde_json.specs.Data.{Data, boolean, number, string, array, object, Members, no_members, member, put}
use Rattle.serde_json.specs.Find.{of_integer}
use Rattle.serde_json.specs.View.{items_of}
use Rattle.serde_json.specs.Written.{compact_text}

-- bytes as text: what is no UTF-8 is shown as U+FFFD
abbrev pub shown_text : List ℕ → Data
shown_text bytes = string (utf8_lossy bytes)

abbrev pub shown_number : ℤ → Data
shown_number n = number (of_integer n)

-- the JSON of an entry's value: a number, a string, or an array of either
abbrev pub shown_value : Value → Data
shown_value (Num n) = shown_number n
shown_value (Text bytes) = shown_text bytes
shown_value (Texts texts) = array (items_of (map shown_text texts))
shown_value (Nums numbers) = array (items_of (map shown_number numbers))

-- the members, with an entry's value at its key as it is shown, in the place of what was there
abbrev pub with_entry : Members → Entry → Members
with_entry members entry = put (utf8_lossy entry.key) (shown_value entry.value) members

-- one member for each key as it is shown, in byte order: of several entries with one such key the last counts
abbrev pub info_members : List Entry → Members
info_members entries = fold with_entry no_members entries

-- the JSON of a time
abbrev pub time_value : TimeSpec → Data
time_value t = object (member (codes "nanoseconds") (shown_number t.nsec) (member (codes "seconds") (shown_number t.sec) no_members))

-- the JSON of a head
abbrev pub head_value : Head → Data
head_value head = object (member (codes "info") (object (info_members head.info.entries)) (member (codes "submit_time") (time_value head.submit) no_members))

-- a member before others, left out where its bytes are empty
abbrev pub unless_empty : List ℕ → List ℕ → Members → Members
unless_empty key [] later = later
unless_empty key (b ∷ bytes) later = member key (shown_text (b ∷ bytes)) later

-- for a private clause: a member with this key goes before these
abbrev pub IsFirst : List ℕ → Members → Type 0
IsFirst key members = (json : Data) → put key json members ≡ member key json members

-- the members of an exit's JSON
abbrev pub exit_members : Exit → Members
exit_members exit =
    member (codes "dumped_core") (boolean exit.dumped) (
    unless_empty (codes "error") exit.error (
    member (codes "exit_value") (shown_number exit.value) (
    member (codes "run_time") (time_value exit.run) (
    unless_empty (codes "signal") exit.signal no_members))))

-- the JSON of an exit
abbrev pub exit_value : Exit → Data
exit_value exit = object (exit_members exit)

-- the text of log.json
unfoldable pub head_text : Head → List ℕ
head_text head = compact_text (head_value head) ++ 10 ∷ []

-- the text of exit.json
unfoldable pub exit_text : Exit → List ℕ
exit_text exit = compact_text (exit_value exit) ++ 10 ∷ []
