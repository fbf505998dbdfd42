-- What is at fault with a log that has an entry and isn't one: the first part, in the order in which they are judged.
use Rattle.std.specs.Prelude.{◌≡◌, ℕ, ◌<◌, ◌≤◌, ◌^◌, ◌⊎◌, List, [], ◌∷◌, length, All, Option}
use Rattle.lsv_disk.specs.declared.file.Part.{Part}
use Rattle.lsv_disk.specs.declared.file.Part.TheVariants.{Head, Exit, Timing, Stdin, Stdout, Stderr, Ttyin, Ttyout, Lines, Id, Commit, Slots}
use Rattle.lsv_disk.specs.View.{Image}
use Rattle.lsv_bundle.specs.declared.shape.Shape.TheVariants as shapes
use Rattle.lsv_bundle.specs.Committed.{Committed, HoldsEntry, IsDamaged}
use Rattle.lsv_record.specs.declared.records.Shaped.{Shaped}
use Rattle.lsv_record.specs.declared.records.Stream.{Stream}
use Rattle.lsv_record.specs.declared.records.Stream.TheVariants as streams
use Rattle.lsv_record.specs.Records.{IsGood}
use Rattle.lsv_record.specs.Tally.{lines_of, told_elapsed, told_data}
use Rattle.lsv_iolog.specs.Recovered.{owner_of, part_of, IsHeadText, HasExit}

-- an exit stands there exactly where the entry's kind asks for one
abbrev pub ExitFits : Committed → Type 0
ExitFits entry = (text : Option (List ℕ)) × HasExit entry.body.kind (entry.bytes Exit) text

-- the committed timing is these lines, as many and of as much time as the entry says
pub record AreLines (entry : Committed) (lines : List Shaped) : Type 0 where
  pub good : All IsGood lines
  pub text : entry.bytes Timing ≡ lines_of lines
  pub count : entry.body.count ≡ length lines
  pub time : entry.body.elapsed ≡ told_elapsed lines
  pub in_time : told_elapsed lines < 2 ^ 63
  pub small : length (entry.bytes Timing) ≤ 2 ^ 40

-- as many bytes of the stream are committed as the lines tell
abbrev pub StreamFits : Committed → List Shaped → Stream → Type 0
StreamFits entry lines s = length (entry.bytes (part_of s)) ≡ told_data s lines

-- and of each of these
abbrev pub AllFit : Committed → List Shaped → List Stream → Type 0
AllFit entry lines [] = Unit {0}
AllFit entry lines (s ∷ rest) = StreamFits entry lines s × AllFit entry lines rest

-- head, exit and timing are sound, and so are these streams, but not this one
pub record IsFirstUnfit (entry : Committed) (before : List Stream) (s : Stream) : Type 0 where
  pub head : IsHeadText (entry.bytes Head)
  pub exit : ExitFits entry
  pub lines : List Shaped
  pub are : AreLines entry lines
  pub fit : AllFit entry lines before
  pub unfit : StreamFits entry lines s → ⊥

-- this is the first part at fault: the head, then the exit, then the timing, then the streams
abbrev pub IsFault : Committed → Part → Type 0
IsFault entry Head = IsHeadText (entry.bytes Head) → ⊥
IsFault entry Exit = IsHeadText (entry.bytes Head) × (ExitFits entry → ⊥)
IsFault entry Timing = IsHeadText (entry.bytes Head) × ExitFits entry × ((lines : List Shaped) → AreLines entry lines → ⊥)
IsFault entry Stdin = IsFirstUnfit entry [] streams.Stdin
IsFault entry Stdout = IsFirstUnfit entry (streams.Stdin ∷ []) streams.Stdout
IsFault entry Stderr = IsFirstUnfit entry (streams.Stdin ∷ streams.Stdout ∷ []) streams.Stderr
IsFault entry Ttyin = IsFirstUnfit entry (streams.Stdin ∷ streams.Stdout ∷ streams.Stderr ∷ []) streams.Ttyin
IsFault entry Ttyout = IsFirstUnfit entry (streams.Stdin ∷ streams.Stdout ∷ streams.Stderr ∷ streams.Ttyin ∷ []) streams.Ttyout
IsFault entry Lines = ⊥
IsFault entry Id = ⊥
IsFault entry Commit = ⊥
IsFault entry Slots = ⊥

-- the log has an entry, and this is the first part at fault: a file that is absent or short, or what the files hold
pub record HasFault (n : ℕ) (part : Part) (image : Image) : Type 0 where
  pub entry : Committed
  pub holds : HoldsEntry (owner_of n) shapes.Log entry image
  pub fault : IsFault entry part

abbrev pub IsDamagedAt : ℕ → Part → Image → Type 0
IsDamagedAt n part image = IsDamaged (owner_of n) shapes.Log image part ⊎ HasFault n part image

-- the same of a log that is viewed, whose records aren't judged: a file that is absent or short, or no head
abbrev pub IsViewDamage : ℕ → Part → Image → Type 0
IsViewDamage n part image = IsDamaged (owner_of n) shapes.Log image part ⊎ ((part ≡ Head) × HasFault n Head image)
