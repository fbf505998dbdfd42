-- Which lines are events: those in sudo's style, and those of JSON.
use Rattle.std.specs.Prelude.{ℕ, List, [], ◌∷◌, Bool, true, false, ◌&&◌, ◌||◌, ◌==◌, nat_le, length, codes, Option, Some, None, is_some, if◌then◌else◌}
use Rattle.std.specs.List.{list_all}
use Rattle.std.specs.Option.{option_and_then}
use Rattle.serde_json.specs.Data.{Data}
use Rattle.serde_json.specs.Find.{as_object, get}
use Rattle.lsv_info.specs.Reading.{json_in}

-- ---- A line in sudo's style: a date and a time of day in UTC, who, and what was done

-- a space, or a visible byte of ASCII
abbrev pub is_visible : ℕ → Bool
is_visible byte = nat_le 32 byte && nat_le byte 126

-- a byte is that of the form, or any decimal digit if that is a 0
abbrev pub fits_byte : ℕ → ℕ → Bool
fits_byte f byte = if f == 48 then nat_le 48 byte && nat_le byte 57 else byte == f

-- a line begins as a form, of which 0 stands for any decimal digit
abbrev pub begins_as : List ℕ → List ℕ → Bool
begins_as [] line = true
begins_as (f ∷ form) [] = false
begins_as (f ∷ form) (byte ∷ line) = fits_byte f byte && begins_as form line

abbrev pub reads_as_sudo : List ℕ → Bool
reads_as_sudo line = begins_as (codes "0000-00-00T00:00:00Z : ") line && list_all is_visible line

-- ---- A line of JSON: an object whose member names the kind of the event

-- a value has a member with this key that is an object
abbrev pub has_object : List ℕ → Data → Bool
has_object key json = is_some (option_and_then as_object (get key json))

-- a value has a member that is an event
abbrev pub is_event : Data → Bool
is_event json = has_object (codes "accept") json || has_object (codes "reject") json || has_object (codes "alert") json || has_object (codes "exit") json

-- and the text is such a value
abbrev pub is_event_in : Option Data → Bool
is_event_in None = false
is_event_in (Some json) = is_event json

abbrev pub reads_as_json : List ℕ → Bool
reads_as_json line = is_event_in (json_in line)

-- ---- Both

-- a line, without its line feed, is an event: at most 2 ^ 24 bytes, in one of the forms
unfoldable pub reads : List ℕ → Bool
reads line = nat_le (length line) 16777216 && (reads_as_sudo line || reads_as_json line)
