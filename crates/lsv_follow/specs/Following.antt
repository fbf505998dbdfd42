-- A log that is followed: what was given of it, and what a look at it finds.
use Rattle.std.specs.Prelude.{◌≡◌, ◌≢◌, ◌⊎◌, ℕ, List, [], ◌∷◌, ◌++◌, map, Ok}
use Rattle.lsv_disk.specs.declared.file.Part.{Part}
use Rattle.lsv_disk.specs.declared.file.Part.TheVariants.{Head as HeadPart, Timing}
use Rattle.lsv_disk.specs.View.{Image, DiskView}
use Rattle.lsv_bundle.specs.declared.body.Body.{Body}
use Rattle.lsv_bundle.specs.Committed.{HasEntry}
use Rattle.lsv_info.specs.declared.times.Head.{Head}
use Rattle.lsv_info.specs.Reading.{head_of}
use Rattle.lsv_record.specs.declared.records.Record.{Record}
use Rattle.lsv_record.specs.Records.{shape_of}
use Rattle.lsv_record.specs.Tally.{totals_of}
use Rattle.lsv_iolog.specs.Damage.{IsViewDamage}
use Rattle.lsv_iolog.specs.Reading.{HasCuts, HasShrunk, IsBehind, IsFaultBehind, IsPlaced, IsSoundBehind, ViewState, committed_laid, committed_text}
use Rattle.lsv_iolog.specs.Recovered.{owner_of}
use Rattle.lsv_play.specs.Playing.{AreAll, AreGiven, IsOpened, laid_at}
use Rattle.lsv_follow.specs.declared.follow.Seen.{Seen}
use Rattle.lsv_follow.specs.declared.follow.Seen.TheVariants as seen

-- ---- What an image of the disk says

-- the log can be opened, and has this many cuts; its committed bytes begin with these records, and nothing is at fault before the last of them
pub record HasGiven (n cuts : ℕ) (image : Image) (records : List Record) : Type 0 where
  pub body : Body
  pub head : Head
  pub opened : IsOpened n body head image
  pub cuts_are : body.extra ≡ cuts
  pub given : AreGiven (laid_at n body image) body records

-- these are all its records, and nothing is at fault after them
pub record HasGivenAll (n cuts : ℕ) (image : Image) (records : List Record) : Type 0 where
  pub has : HasGiven n cuts image records
  pub all : AreAll (laid_at n has.body image) has.body records
  pub sound : IsSoundBehind (laid_at n has.body image) has.body records

-- these are records of it, and after them this part is at fault
pub record HasFaultNext (n cuts : ℕ) (image : Image) (records : List Record) (part : Part) : Type 0 where
  pub has : HasGiven n cuts image records
  pub fault : IsFaultBehind (laid_at n has.body image) has.body records part

-- what a look finds after these records: the next one; or that they are all, and the log isn't complete; or that it is
abbrev pub Finds : ℕ → ℕ → Image → List Record → Seen → Type 0
Finds n cuts image shown (seen.Record r) = HasGiven n cuts image (shown ++ r ∷ [])
Finds n cuts image shown seen.Nothing = (all : HasGivenAll n cuts image shown) × (all.has.body.kind ≢ 3)
Finds n cuts image shown seen.End = (all : HasGivenAll n cuts image shown) × (all.has.body.kind ≡ 3)

-- the records that a look gave: one, or none
abbrev pub given_by : Seen → List Record
given_by (seen.Record r) = r ∷ []
given_by seen.Nothing = []
given_by seen.End = []

-- ---- What a view says

-- how many cuts the log had when it was opened
abbrev pub cuts_seen : ViewState → ℕ
cuts_seen view = view.body.extra

-- the view counts these records as given
abbrev pub HasCounted : ViewState → List Record → Type 0
HasCounted view shown = view.given ≡ totals_of (map shape_of shown)

-- these records were shown of the log: the view counts them, and the image still has them, with as many cuts as when the log was opened
pub record HasShown (view : ViewState) (shown : List Record) (image : Image) : Type 0 where
  pub counted : HasCounted view shown
  pub given : HasGiven view.number (cuts_seen view) image shown

-- a look found this after the records that were shown, and the view counts what it gave
pub record HasFound (old new : ViewState) (image : Image) (shown : List Record) (found : Seen) : Type 0 where
  pub finds : Finds old.number (cuts_seen old) image shown found
  pub counted : HasCounted new (shown ++ given_by found)

-- the log was cut since it was opened: the count of its cuts was `seen` then, and is now another
pub record WasCut (view : ViewState) (seen now : ℕ) (image : Image) : Type 0 where
  pub opened : seen ≡ cuts_seen view
  pub last : HasCuts view.number now image
  pub differ : now ≢ seen

-- a view was renewed: it gave the same records as before, and has the last entry of the log with its head; the count of cuts is the same, and the files are as long as the entry says
pub record IsRenewed (old new : ViewState) (disk : DiskView) : Type 0 where
  pub number : new.number ≡ old.number
  pub cuts : new.body.extra ≡ old.body.extra
  pub given : new.given ≡ old.given
  pub entry : HasEntry (owner_of old.number) new.body disk.reads
  pub head : head_of (committed_text old.number new.body disk HeadPart) ≡ Ok new.head
  pub placed : IsPlaced new disk

-- a view was renewed, and after the records that it gave this part is at fault
pub record IsFaultNext (view : ViewState) (part : Part) (disk : DiskView) : Type 0 where
  pub next : ViewState
  pub renewed : IsRenewed view next disk
  pub fault : (records : List Record) → IsBehind next records disk → IsFaultBehind (committed_laid next.number next.body disk) next.body records part

-- why a look answers that this part is damaged: the log can't be viewed, or has fewer bytes of timing than were shown, or its next record is at fault
abbrev pub IsLookDamage : ViewState → Part → DiskView → Type 0
IsLookDamage view part disk = IsViewDamage view.number part disk.reads ⊎ ((part ≡ Timing) × HasShrunk view disk.reads) ⊎ IsFaultNext view part disk
