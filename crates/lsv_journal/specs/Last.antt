-- What a journal holds on an image of the disk, by the name of its file. All that is said of a journal above it is
-- said in these words.
use Rattle.std.specs.Prelude.{◌≡◌, ◌≢◌, ◌⊎◌, ℕ, List, Option, None}
use Rattle.std.specs.Option.{option_or}
use Rattle.lsv_disk.specs.declared.file.FileId.{FileId}
use Rattle.lsv_disk.specs.declared.file.Part.TheVariants.{Commit}
use Rattle.lsv_disk.specs.Bytes.{bytes_of}
use Rattle.lsv_disk.specs.Files.{file_of}
use Rattle.lsv_disk.specs.View.{Image, DiskView, IsCrashImage}
use Rattle.lsv_disk.specs.Throughout.{WritesOneOf}
use Rattle.lsv_journal.specs.Gates.{count, last_of}
use Rattle.lsv_journal.specs.Slots.{entry_of, KeepsSlot, SelectsAsBefore, StaysWithin}

-- the journal of an older store, of the same owner, which is only read
abbrev pub old_file : FileId → FileId
old_file f = file_of f.owner Commit

-- g is one of the two files of the journal named f
unfoldable pub IsOwn : FileId → FileId → Type 0
IsOwn f g = (g ≡ f) ⊎ (g ≡ old_file f)

-- none of the journal's files is there
abbrev pub IsAbsent : FileId → Image → Type 0
IsAbsent f image = (image f ≡ None) × (image (old_file f) ≡ None)

-- the last body in the file of two slots
abbrev pub slots_last : ℕ → FileId → Image → Option (List ℕ)
slots_last n f image = entry_of n (bytes_of (image f))

-- the last body in the file of an older store, by its content
abbrev pub last_gated : ℕ → Option (List ℕ) → Option (List ℕ)
last_gated n content = last_of n (bytes_of content) (count n (bytes_of content))

-- and by its name
abbrev pub old_last : ℕ → FileId → Image → Option (List ℕ)
old_last n f image = last_gated n (image (old_file f))

-- the body of the journal's last entry: that of its slots, or where they have none that of its old file
unfoldable pub LastAt : ℕ → FileId → Image → Option (List ℕ)
LastAt n f image = option_or (slots_last n f image) (old_last n f image)

-- this is the journal's last entry, or it has none
abbrev pub JournalHolds : ℕ → FileId → Option (List ℕ) → Image → Type 0
JournalHolds n f last image = LastAt n f image ≡ last

-- the one or the other is its last entry
abbrev pub IsBeforeOrAfter : ℕ → FileId → Option (List ℕ) → Option (List ℕ) → Image → Type 0
IsBeforeOrAfter n f before after image = JournalHolds n f before image ⊎ JournalHolds n f after image

-- it has the last entry of the first image
abbrev pub SameJournal : ℕ → FileId → Image → Image → Type 0
SameJournal n f was image = LastAt n f image ≡ LastAt n f was

-- it has the last entry of some crash image of that disk
abbrev pub IsSomeCrashOf : ℕ → FileId → DiskView → Image → Type 0
IsSomeCrashOf n f disk image = (was : Image) × IsCrashImage disk was × SameJournal n f was image

-- its slots have an entry
unfoldable pub HasSlotsEntry : ℕ → FileId → Image → Type 0
HasSlotsEntry n f image = slots_last n f image ≢ None

-- opening it wrote its slots three times at most, and not where they have an entry; and synced each of these files five times at most
pub record OpeningCalls (n : ℕ) (f : FileId) (Own : FileId → Type 0) (old new : DiskView) : Type 0 where
  pub at_most : WritesOneOf f 3 5 Own old new
  pub unwritten : HasSlotsEntry n f old.reads → (g : FileId) → new.writes g ≡ old.writes g

-- its old file has no entry in any crash image
abbrev pub HasNoOldEntry : ℕ → FileId → DiskView → Type 0
HasNoOldEntry n f disk = (content : Option (List ℕ)) → disk.crash_states (old_file f) content → last_gated n content ≡ None

-- it may be made: its slots have no entry as they read, and its old file has none in any crash image
unfoldable pub MayBeMade : ℕ → FileId → DiskView → Type 0
MayBeMade n f disk = (slots_last n f disk.reads ≡ None) × HasNoOldEntry n f disk

-- where the slots have an entry in that image, the bytes of the selected slot are the same in this one
unfoldable pub KeepsSelected : ℕ → FileId → Image → Image → Type 0
KeepsSelected n f was image = KeepsSlot n (bytes_of (was f)) (bytes_of (image f))

-- and in this one the same slot is selected
unfoldable pub SelectsSame : ℕ → FileId → Image → Image → Type 0
SelectsSame n f was image = SelectsAsBefore n (bytes_of (was f)) (bytes_of (image f))

-- the file of slots ends at the end of the second slot at most, or where it ended in that image
abbrev pub IsNoLonger : ℕ → FileId → Image → Image → Type 0
IsNoLonger n f was image = StaysWithin n (bytes_of (was f)) (bytes_of (image f))

-- the same against some crash image of that disk
abbrev pub IsNoLongerThanSome : ℕ → FileId → DiskView → Image → Type 0
IsNoLongerThanSome n f disk image = (was : Image) × IsCrashImage disk was × IsNoLonger n f was image
