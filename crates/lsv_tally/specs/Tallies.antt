-- What is found of the event log of a lane, as an image of the disk has it.
use Rattle.std.specs.Prelude.{◌≡◌, ◌≢◌, ℕ, List, [], take, Option, Some, None}
use Rattle.lsv_disk.specs.declared.file.Owner.{Owner}
use Rattle.lsv_disk.specs.declared.file.Owner.TheVariants.{Events}
use Rattle.lsv_disk.specs.declared.file.Part.TheVariants.{Lines}
use Rattle.lsv_disk.specs.Bytes.{bytes_of}
use Rattle.lsv_disk.specs.Files.{file_of}
use Rattle.lsv_disk.specs.View.{Image}
use Rattle.lsv_journal.specs.Last.{LastAt}
use Rattle.lsv_bundle.specs.declared.body.Body.{Body}
use Rattle.lsv_bundle.specs.declared.shape.Shape.TheVariants as shapes
use Rattle.lsv_bundle.specs.Body.{length_of}
use Rattle.lsv_bundle.specs.Committed.{HasEntry, IsDamaged, IsShort}
use Rattle.lsv_bundle.specs.Shape.{journal_of}
use Rattle.lsv_tally.specs.Reading.{IsReadTo}
use Rattle.lsv_tally.specs.declared.look.Run.{Run}
use Rattle.lsv_tally.specs.declared.reading.Ending.{Ending}
use Rattle.lsv_tally.specs.declared.reading.Ending.TheVariants as endings
use Rattle.lsv_tally.specs.declared.tally.Tally.{Tally}
use Rattle.lsv_tally.specs.declared.tally.Tally.TheVariants.{Nowhere, Unlisted, Short, Bad, Torn, Miscounted, Sound}

-- all bytes of the file of a lane's event log; an absent one has none
abbrev pub file_at : ℕ → Image → List ℕ
file_at lane image = bytes_of (image (file_of (Events lane) Lines))

-- the bytes that an entry commits
abbrev pub lines_at : Owner → Body → Image → List ℕ
lines_at owner body image = take (length_of body Lines) (bytes_of (image (file_of owner Lines)))

-- its journal is absent or has no entry
abbrev pub HasNoEntry : ℕ → Image → Type 0
HasNoEntry lane image = LastAt 89 (journal_of (Events lane)) image ≡ None

-- it has this last entry, its file is there and long enough, and its committed bytes begin with this many events and then end so
pub record IsRead (image : Image) (lane : ℕ) (body : Body) (count : ℕ) (ending : Ending) : Type 0 where
  pub entry : HasEntry (Events lane) body image
  pub there : IsShort (image (file_of (Events lane) Lines)) (length_of body Lines) → ⊥
  pub lines : IsReadTo count ending (lines_at (Events lane) body image)

-- this is found of the event log of a lane
abbrev pub IsTally : Image → ℕ → Tally → Type 0
IsTally image lane Nowhere = HasNoEntry lane image × (file_at lane image ≡ [])
IsTally image lane Unlisted = HasNoEntry lane image × (file_at lane image ≢ [])
IsTally image lane Short = IsDamaged (Events lane) shapes.Lines image Lines
IsTally image lane (Bad count) = (body : Body) × IsRead image lane body count endings.Bad
IsTally image lane (Torn count) = (body : Body) × IsRead image lane body count endings.Torn
IsTally image lane (Miscounted count counted) = (body : Body) × IsRead image lane body count endings.Whole × (counted ≡ body.count) × (count ≢ counted)
IsTally image lane (Sound count bytes) = (body : Body) × IsRead image lane body count endings.Whole × (count ≡ body.count) × (bytes ≡ length_of body Lines)

-- ---- For private clauses

-- the committed bytes come to this
abbrev pub EndsAs : Option Ending → ℕ → List ℕ → Type 0
EndsAs None count text = ⊥
EndsAs (Some ending) count text = IsReadTo count ending text

abbrev pub RunsTo : List ℕ → Run → Type 0
RunsTo text run = EndsAs run.ending run.lines text
