-- Password masking: what is typed after a prompt, up to the end of its line, is stored as stars.
use Rattle.std.specs.Prelude.{ℕ, ◌-◌, List, [], ◌∷◌, ◌++◌, length, drop, Bool, true, false, ◌&&◌, ◌||◌, ◌==◌, not, if◌then◌else◌}
use Rattle.std.specs.List.{list_any}
use Rattle.lsv_record.specs.declared.records.Record.{Record}
use Rattle.lsv_record.specs.declared.records.Record.TheVariants.{Io, Winsize, Suspend}
use Rattle.lsv_record.specs.declared.records.Stream.TheVariants.{Stdin, Stdout, Stderr, Ttyin, Ttyout}
use Rattle.lsv_record.specs.Records.{stream_of}

-- whether bytes begin with a text
abbrev pub begins : List ℕ → List ℕ → Bool
begins [] bytes = true
begins (x ∷ text) [] = false
begins (x ∷ text) (byte ∷ bytes) = x == byte && begins text bytes

-- whether a text stands somewhere in bytes
abbrev pub occurs : List ℕ → List ℕ → Bool
occurs text [] = begins text []
occurs text (byte ∷ bytes) = begins text (byte ∷ bytes) || occurs text bytes

-- whether one of the texts stands somewhere in bytes
abbrev pub prompted : List (List ℕ) → List ℕ → Bool
prompted texts bytes = list_any (λ text. occurs text bytes) texts

-- whether a line feed stands in bytes
abbrev pub has_line_feed : List ℕ → Bool
has_line_feed bytes = list_any (λ byte. byte == 10) bytes

-- what stands after the last line feed: all, where there is none
abbrev pub last_line : List ℕ → List ℕ
last_line [] = []
last_line (byte ∷ bytes) = if has_line_feed (byte ∷ bytes) then last_line bytes else byte ∷ bytes

-- the last n, or all where there are fewer
abbrev pub last_bytes : ℕ → List ℕ → List ℕ
last_bytes n bytes = drop (length bytes - n) bytes

-- the last line of the terminal's output, of which the last 256 bytes
abbrev pub tail : List Record → List ℕ
tail records = last_bytes 256 (last_line (stream_of Ttyout records))

-- whether a byte ends a line that is typed: a line feed or a carriage return
abbrev pub is_end : ℕ → Bool
is_end byte = byte == 10 || byte == 13

-- whether what was typed ends its line
abbrev pub ends_line : List ℕ → Bool
ends_line bytes = list_any is_end bytes

-- whether a password is awaited after these records and one more, where it was or wasn't after these: output tells
-- by the line that it leaves, and the end of a typed line ends it
abbrev pub hot_with : List (List ℕ) → List Record → Bool → Record → Bool
hot_with texts records was (Io delay Ttyout []) = was
hot_with texts records was (Io delay Ttyout (byte ∷ bytes)) = prompted texts (tail (records ++ Io delay Ttyout (byte ∷ bytes) ∷ []))
hot_with texts records was (Io delay Ttyin bytes) = was && not (ends_line bytes)
hot_with texts records was (Io delay Stdin bytes) = was
hot_with texts records was (Io delay Stdout bytes) = was
hot_with texts records was (Io delay Stderr bytes) = was
hot_with texts records was (Winsize delay rows cols) = was
hot_with texts records was (Suspend delay signal) = was

-- the same after these records and all that follow them
abbrev pub hot_behind : List (List ℕ) → List Record → Bool → List Record → Bool
hot_behind texts records was [] = was
hot_behind texts records was (r ∷ more) = hot_behind texts (records ++ r ∷ []) (hot_with texts records was r) more

-- whether a password is awaited after these records
abbrev pub hot : List (List ℕ) → List Record → Bool
hot texts records = hot_behind texts [] false records

-- bytes with a star for each before the first that ends the line
abbrev pub starred : List ℕ → List ℕ
starred [] = []
starred (byte ∷ bytes) = if is_end byte then byte ∷ bytes else 42 ∷ starred bytes

-- a record as it is stored after these records
abbrev pub covered : List (List ℕ) → List Record → Record → Record
covered texts records (Io delay Ttyin bytes) = Io delay Ttyin (if hot texts records then starred bytes else bytes)
covered texts records (Io delay Ttyout bytes) = Io delay Ttyout bytes
covered texts records (Io delay Stdin bytes) = Io delay Stdin bytes
covered texts records (Io delay Stdout bytes) = Io delay Stdout bytes
covered texts records (Io delay Stderr bytes) = Io delay Stderr bytes
covered texts records (Winsize delay rows cols) = Winsize delay rows cols
covered texts records (Suspend delay signal) = Suspend delay signal

-- what follows these records, each covered by those before it
abbrev pub mask_behind : List (List ℕ) → List Record → List Record → List Record
mask_behind texts records [] = []
mask_behind texts records (r ∷ more) = covered texts records r ∷ mask_behind texts (records ++ r ∷ []) more

-- these records, each covered by those before it
abbrev pub mask : List (List ℕ) → List Record → List Record
mask texts records = mask_behind texts [] records

-- what a mask keeps of the records after which it stands
pub record Seen : Type 0 where
  pub texts : List (List ℕ)
  pub tail : List ℕ
  pub is_hot : Bool

-- the mask that stands after these records
abbrev pub seen : List (List ℕ) → List Record → Seen
seen texts records = record { texts = texts; tail = tail records; is_hot = hot texts records }
