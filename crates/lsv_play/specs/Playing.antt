-- What may be shown of a log that is played, by how its playing ended.
use Rattle.std.specs.Prelude.{◌≡◌, ◌⊎◌, ℕ, List, [], length, take, None, Result, Ok, Err, ◌∷◌, ◌++◌}
use Rattle.lsv_disk.specs.declared.file.Part.{Part}
use Rattle.lsv_disk.specs.declared.file.Part.TheVariants.{Head as HeadPart}
use Rattle.lsv_disk.specs.Bytes.{bytes_of}
use Rattle.lsv_disk.specs.Files.{file_of}
use Rattle.lsv_disk.specs.View.{Image}
use Rattle.lsv_bundle.specs.declared.body.Body.{Body}
use Rattle.lsv_bundle.specs.Body.{length_of}
use Rattle.lsv_bundle.specs.Committed.{HasEntry}
use Rattle.lsv_info.specs.declared.times.Head.{Head}
use Rattle.lsv_info.specs.Reading.{head_of}
use Rattle.lsv_record.specs.declared.laid.Laid.{Laid}
use Rattle.lsv_record.specs.declared.records.Record.{Record}
use Rattle.lsv_record.specs.Layout.{Begins, IsLayout}
use Rattle.lsv_record.specs.Records.{elapsed}
use Rattle.lsv_iolog.specs.Damage.{IsViewDamage}
use Rattle.lsv_iolog.specs.Reading.{AreThere, IsFaultBehind, IsSoundBehind}
use Rattle.lsv_iolog.specs.Recovered.{owner_of, laid_in, Replays}
use Rattle.lsv_play.specs.declared.options.Options.{Options}
use Rattle.lsv_play.specs.declared.screen.Item.{Item}
use Rattle.lsv_play.specs.Items.{IsPart}
use Rattle.lsv_play.specs.Schedule.{play}
use Rattle.lsv_play.specs.declared.fault.PlayFault.{PlayFault}
use Rattle.lsv_play.specs.declared.fault.PlayFault.TheVariants.{Absent, Damaged, Resumed, Disk, Screen, NoMem}

-- the bytes of a part that an entry of a log commits, in an image of the disk
abbrev pub text_at : ℕ → Body → Image → Part → List ℕ
text_at n body image part = take (length_of body part) (bytes_of (image (file_of (owner_of n) part)))

-- the timing and the streams of these bytes
abbrev pub laid_at : ℕ → Body → Image → Laid
laid_at n body image = laid_in (text_at n body image)

-- these are all records: the bytes are their layout, and their count and time are those of the entry
pub record AreAll (l : Laid) (body : Body) (records : List Record) : Type 0 where
  pub begins : Begins l records
  pub layout : IsLayout l records
  pub count : body.count ≡ length records
  pub time : body.elapsed ≡ elapsed records

-- after no shorter part of these records a part is at fault
abbrev pub IsSoundSoFar : Laid → Body → List Record → Type 0
IsSoundSoFar l body records = (before : List Record) (r : Record) (more : List Record) → records ≡ before ++ r ∷ more → IsSoundBehind l body before

-- these records are given, one after another: the bytes begin with their layout
pub record AreGiven (l : Laid) (body : Body) (records : List Record) : Type 0 where
  pub begins : Begins l records
  pub sound : IsSoundSoFar l body records

-- these are the records before the first fault: the bytes begin with their layout, and after it this part is at fault
pub record AreBeforeFault (l : Laid) (body : Body) (part : Part) (records : List Record) : Type 0 where
  pub begins : Begins l records
  pub sound : IsSoundSoFar l body records
  pub fault : IsFaultBehind l body records part

-- a first part of the schedule of records that are given is shown
abbrev pub PlaysSome : Options → Laid → Body → List Item → Type 0
PlaysSome o l body put = (records : List Record) × AreGiven l body records × IsPart put (play o records)

-- what is shown of a log with this entry and these bytes: all at the end, all before a fault, and else a first part; it isn't cut, nor gone, while nobody writes it
abbrev pub PlaysRecords : {T : Type 0} → Options → Laid → Body → Result T PlayFault → List Item → Type 0
PlaysRecords o l body (Ok end) put = (records : List Record) × AreAll l body records × (put ≡ play o records)
PlaysRecords o l body (Err (Damaged part)) put = (records : List Record) × AreBeforeFault l body part records × (put ≡ play o records)
PlaysRecords o l body (Err Disk) put = PlaysSome o l body put
PlaysRecords o l body (Err Screen) put = PlaysSome o l body put
PlaysRecords o l body (Err NoMem) put = PlaysSome o l body put
PlaysRecords o l body (Err Absent) put = ⊥
PlaysRecords o l body (Err Resumed) put = ⊥

-- a log isn't opened: it is absent, or a file is absent or short or its head no head, or a read failed, or memory ran out
abbrev pub IsNotOpened : {T : Type 0} → ℕ → Image → Result T PlayFault → Type 0
IsNotOpened n image (Ok end) = ⊥
IsNotOpened n image (Err Absent) = Replays image n None
IsNotOpened n image (Err (Damaged part)) = IsViewDamage n part image
IsNotOpened n image (Err Disk) = Unit {0}
IsNotOpened n image (Err Resumed) = ⊥
IsNotOpened n image (Err Screen) = ⊥
IsNotOpened n image (Err NoMem) = Unit {0}

-- the log has this last entry, each data file exists with the bytes that the entry states, and the text of its head is this head
pub record IsOpened (n : ℕ) (body : Body) (head : Head) (image : Image) : Type 0 where
  pub entry : HasEntry (owner_of n) body image
  pub there : AreThere (owner_of n) body image
  pub head_is : head_of (text_at n body image HeadPart) ≡ Ok head

-- the log is opened, and its records are played
pub record PlaysLog {T : Type 0} (o : Options) (n : ℕ) (image : Image) (r : Result T PlayFault) (put : List Item) : Type 0 where
  pub body : Body
  pub head : Head
  pub opened : IsOpened n body head image
  pub records : PlaysRecords o (laid_at n body image) body r put

-- what is shown of the log of this number, as an image of the disk has it: nothing if it isn't opened
abbrev pub Plays : {T : Type 0} → Options → ℕ → Image → Result T PlayFault → List Item → Type 0
Plays o n image r put = (IsNotOpened n image r × (put ≡ [])) ⊎ PlaysLog o n image r put
