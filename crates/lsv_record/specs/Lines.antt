-- A line of timing at an offset of a text.
use Rattle.std.specs.Prelude.{◌≡◌, ℕ, ◌+◌, ◌<◌, List, ◌++◌, ◌⊎◌, length, drop, Bool, IsTrue}
use Rattle.lsv_defs.specs.Pieces.{IsPrefix}
use Rattle.lsv_record.specs.declared.records.Shaped.{Shaped}
use Rattle.lsv_record.specs.declared.records.Shaped.TheVariants.{Io, Winsize, Suspend}
use Rattle.lsv_record.specs.Records.{shaped_line, IsGood}

-- At this offset of a text stands the line that tells this, and ends before the next offset.
pub record IsLineAt (text : List ℕ) (at : ℕ) (told : Shaped) (next : ℕ) : Type 0 where
  pub good : IsGood told
  pub spelled : drop at text ≡ shaped_line told ++ drop next text
  pub after : next ≡ at + length (shaped_line told)

-- an offset before the text's end at which no line stands
pub record IsBadAt (text : List ℕ) (at : ℕ) : Type 0 where
  pub before_end : at < length text
  pub no_line : (told : Shaped) (next : ℕ) → IsLineAt text at told next → ⊥

-- the delay that a line tells
abbrev pub told_delay : Shaped → ℕ
told_delay (Io delay stream count) = delay
told_delay (Winsize delay rows cols) = delay
told_delay (Suspend delay signal) = delay

-- A window of a text: bytes of it from an offset on, and all of them where it is the last.
pub record IsWindow (text : List ℕ) (offset : ℕ) (window : List ℕ) (is_last : Bool) : Type 0 where
  pub within : IsPrefix window (drop offset text)
  pub whole : IsTrue is_last → drop offset text ≡ window

-- One of two lists begins with the other.
abbrev pub OneBegins : {X : Type 0} → List X → List X → Type 0
OneBegins {X} xs ys = ((more : List X) × (ys ≡ xs ++ more)) ⊎ ((more : List X) × (xs ≡ ys ++ more))
