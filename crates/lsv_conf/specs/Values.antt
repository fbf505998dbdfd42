-- The values that settings take, by kind.
use Rattle.std.specs.Prelude.{ℕ, List, [], ◌∷◌, ◌++◌, Option, Some, None, Bool, true, false, ◌&&◌, ◌||◌, ◌==◌, not, is_some, length, drop, map, nat_le, nat_lt, slice_index, codes, if◌then◌else◌}
use Rattle.std.specs.List.{list_all}
use Rattle.std.specs.Option.{option_map_or}
use Rattle.std.specs.Str.{all_ascii_digits, bytes_eq}
use Rattle.std.specs.Str.Parse.{digits_value}
use Rattle.lsv_conf.specs.Texts.{before, behind, is_empty, pieces, trimmed}
use Rattle.lsv_conf.specs.declared.row.Values.{Values}
use Rattle.lsv_conf.specs.declared.row.Values.TheVariants.{Listening, Upstream, Truth, Path, Sequence, Format, Texts}
use Rattle.lsv_event.specs.declared.event.Kind.{Kind}
use Rattle.lsv_event.specs.declared.event.Kind.TheVariants.{Sudo, Json}

-- a space, a square bracket or a parenthesis, which stand in no host
abbrev pub is_mark : ℕ → Bool
is_mark b = b == 32 || b == 91 || b == 93 || b == 40 || b == 41

-- one or more bytes, none of them such a mark
abbrev pub is_host : List ℕ → Bool
is_host bytes = not (is_empty bytes) && list_all (λ b. not (is_mark b)) bytes

-- a port from 1 to 65535, in decimal digits without a leading zero
abbrev pub is_port : List ℕ → Bool
is_port digits = not (is_empty digits) && not (slice_index digits 0 == 48) && all_ascii_digits digits && nat_lt (digits_value 10 digits) 65536

-- what may stand after a host in brackets: nothing, or a colon and a port
abbrev pub is_port_part : List ℕ → Bool
is_port_part [] = true
is_port_part (b ∷ digits) = b == 58 && is_port digits

-- whether a value begins with a square bracket
abbrev pub is_bracketed : List ℕ → Bool
is_bracketed value = slice_index value 0 == 91

-- `[host]` or `[host]:port`
abbrev pub is_bracketed_address : List ℕ → Bool
is_bracketed_address value = is_host (before 93 (drop 1 value)) && option_map_or is_port_part (behind 93 (drop 1 value)) false

-- `host` or `host:port`, where the host has no colon
abbrev pub is_plain_address : List ℕ → Bool
is_plain_address value = is_host (before 58 value) && option_map_or is_port (behind 58 value) true

-- an address, with its port or without one
abbrev pub is_address : List ℕ → Bool
is_address value = if is_bracketed value then is_bracketed_address value else is_plain_address value

-- whether a value's host is `*`
abbrev pub is_any_host : List ℕ → Bool
is_any_host value = bytes_eq (before 58 value) (codes "*")

-- whether an address states a port
abbrev pub has_port : List ℕ → Bool
has_port value = if is_bracketed value then option_map_or (λ rest. not (is_empty rest)) (behind 93 (drop 1 value)) false else is_some (behind 58 value)

-- an address with its port, which is 30343 where it states none
abbrev pub with_port : List ℕ → List ℕ
with_port value = if has_port value then value else value ++ codes ":30343"

-- what a truth value says, where it is one
abbrev pub truth_of : List ℕ → Option Bool
truth_of value =
    if bytes_eq value (codes "true") || bytes_eq value (codes "yes") || bytes_eq value (codes "on") || bytes_eq value (codes "1") then Some true
    else if bytes_eq value (codes "false") || bytes_eq value (codes "no") || bytes_eq value (codes "off") || bytes_eq value (codes "0") then Some false
    else None

-- the form of event lines that a value names, where it names one
abbrev pub kind_of : List ℕ → Option Kind
kind_of value = if bytes_eq value (codes "sudo") then Some Sudo else if bytes_eq value (codes "json") then Some Json else None

-- the texts between commas, without the blanks at their ends
abbrev pub prompts_of : List ℕ → List (List ℕ)
prompts_of value = map trimmed (pieces 44 value)

-- a text of 1 to 64 bytes
abbrev pub is_prompt : List ℕ → Bool
is_prompt text = not (is_empty text) && nat_le (length text) 64

-- whether a value is one of these
abbrev pub takes : Values → List ℕ → Bool
takes Listening value = is_address value
takes Upstream value = is_address value && not (is_any_host value)
takes Truth value = is_some (truth_of value)
takes Path value = not (is_empty value)
takes Sequence value = bytes_eq value (codes "%{seq}")
takes Format value = is_some (kind_of value)
takes Texts value = nat_le (length (prompts_of value)) 16 && list_all is_prompt (prompts_of value)
