-- What a whole text is read as: the one value that it spells.
use Rattle.std.specs.Prelude.{◌≡◌, ℕ, ◌+◌, ◌<◌, ◌≤◌, length, get_or, List, ◌∷◌, ◌++◌, Option, Some, None}
use Rattle.std.specs.Fmt.{decimal}
use Rattle.lsv_record.specs.declared.records.Shaped.{Shaped}
use Rattle.lsv_record.specs.declared.records.Shaped.TheVariants.{Io, Winsize, Suspend}
use Rattle.lsv_record.specs.Records.{seconds, event_of}

-- What is there is read as a good value that is spelled so, and as none only where no good value is.
abbrev pub Reads : {X T : Type 0} → (X → Type 0) → (X → T) → T → Option X → Type 0
Reads IsGood spelled there (Some x) = IsGood x × (there ≡ spelled x)
Reads {X} IsGood spelled there None = (x : X) → IsGood x → there ≡ spelled x → ⊥

-- a text of 1 to 10 bytes, of which a first zero stands alone
pub record IsPlain (text : List ℕ) : Type 0 where
  pub some : 0 < length text
  pub few : length text ≤ 10
  pub zero_alone : get_or text 0 0 ≡ 48 → length text ≡ 1

-- a line without its line feed: the byte of its event, its delay, and the rest
pub record Parts : Type 0 where
  pub event : ℕ
  pub delay : ℕ
  pub rest : List ℕ

-- the text of such a line
abbrev pub joined : Parts → List ℕ
joined p = p.event ∷ 32 ∷ seconds p.delay ++ 32 ∷ p.rest

-- the parts of the line that tells this
abbrev pub parts_of : Shaped → Parts
parts_of (Io delay stream count) = record { event = 48 + event_of stream; delay = delay; rest = decimal count }
parts_of (Winsize delay rows cols) = record { event = 53; delay = delay; rest = decimal rows ++ 32 ∷ decimal cols }
parts_of (Suspend delay signal) = record { event = 55; delay = delay; rest = signal }
