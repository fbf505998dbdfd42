-- What is kept on disk of the relaying of a log: the peer's identifier with its last commit point, of one host, or that all is done.
use Rattle.std.specs.Prelude.{◌≡◌, ◌≢◌, ◌⊎◌, ◌<◌, ◌+◌, ℕ, Bool, suc, zero, ◌==◌, ◌&&◌, if◌then◌else◌, List, length, take, drop, Option, Some, None}
use Rattle.std.specs.Str.{bytes_eq}
use Rattle.lsv_disk.specs.declared.file.FileId.{FileId}
use Rattle.lsv_disk.specs.declared.file.Owner.{Owner}
use Rattle.lsv_disk.specs.declared.file.Owner.TheVariants as owners
use Rattle.lsv_disk.specs.declared.file.Part.{Part}
use Rattle.lsv_disk.specs.declared.file.Part.TheVariants.{Id}
use Rattle.lsv_disk.specs.Files.{file_of}
use Rattle.lsv_disk.specs.Throughout.{Throughout}
use Rattle.lsv_disk.specs.View.{DiskView, Image, IsCrashImage}
use Rattle.lsv_bundle.specs.Body.{length_of}
use Rattle.lsv_bundle.specs.Committed.{BundleHolds, Committed, HasEntry, IsDamaged, IsShort}
use Rattle.lsv_bundle.specs.Shape.{journal_of}
use Rattle.lsv_bundle.specs.declared.body.Body.{Body}
use Rattle.lsv_bundle.specs.declared.shape.Shape.TheVariants as shapes
use Rattle.lsv_journal.specs.Last.{LastAt}
use Rattle.lsv_kept.specs.Aim.{AimView, line_of}
use Rattle.lsv_kept.specs.declared.state.State.{State}
use Rattle.lsv_kept.specs.declared.state.State.TheVariants as states

-- the owner of the files in which the relaying of a log is kept
abbrev pub owner_of : ℕ → Owner
owner_of n = owners.Relay n

-- the file is one of these
abbrev pub IsOfRelay : ℕ → FileId → Type 0
IsOfRelay n file = file.owner ≡ owner_of n

-- ---- What an entry says

-- the point that an entry's extra number stands for
abbrev pub point_of : ℕ → Option ℕ
point_of zero = None
point_of (suc point) = Some point

-- the bytes before the identifier, as many as the entry's count says, are the line of this host. An entry of an older program has a count of 0 and is of no host
abbrev pub is_of : (host : List ℕ) (count : ℕ) (bytes : List ℕ) → Bool
is_of host count bytes = (count == length (line_of host)) && bytes_eq (take count bytes) (line_of host)

-- an identifier is kept for its own host alone
abbrev pub kept_for : (host : List ℕ) (count extra : ℕ) (bytes : List ℕ) → State
kept_for host count extra bytes = if is_of host count bytes then states.Kept (record { id = drop count bytes; point = point_of extra }) else states.Nothing

-- a mark is for any host. Its extra number is the elapsed time of the log plus 1, else it isn't of this log
abbrev pub marked_for : (total extra : ℕ) → State
marked_for total extra = if extra == total + 1 then states.Done else states.Nothing

-- what an entry says to a relaying with this aim: a cut keeps nothing, and the kind 3 says that the log is relayed
abbrev pub state_of : AimView → (kind count extra : ℕ) (bytes : List ℕ) → State
state_of aim kind count extra bytes =
    if kind == 2 then states.Nothing
    else if kind == 3 then marked_for aim.total extra
    else kept_for aim.host count extra bytes

-- what is kept by the last entry, if there is one
abbrev pub state_in : AimView → Option Committed → State
state_in aim None = states.Nothing
state_in aim (Some entry) = state_of aim entry.body.kind entry.body.count entry.body.extra (entry.bytes Id)

-- an image keeps this of the relaying of log n with this aim
pub record Keeps (n : ℕ) (aim : AimView) (image : Image) (state : State) : Type 0 where
  pub entry : Option Committed
  pub holds : BundleHolds (owner_of n) shapes.Relay entry image
  pub is : state_in aim entry ≡ state

-- ---- While something is kept

-- an image keeps what was kept before, or what is kept after, or nothing
abbrev pub IsOneOf : ℕ → AimView → State → State → Image → Type 0
IsOneOf n aim before after image = Keeps n aim image before ⊎ Keeps n aim image states.Nothing ⊎ Keeps n aim image after

-- in an image the last entry is of this kind, and has this extra number
pub record HasLast (n kind extra : ℕ) (image : Image) : Type 0 where
  pub body : Body
  pub entry : HasEntry (owner_of n) body image
  pub kind_is : body.kind ≡ kind
  pub extra_is : body.extra ≡ extra

-- an image keeps what was kept before, or what is kept after by an entry of this kind and extra number
abbrev pub IsChanged : (n : ℕ) (aim : AimView) (before : State) (kind extra : ℕ) (after : State) → Image → Type 0
IsChanged n aim before kind extra after image = Keeps n aim image before ⊎ (Keeps n aim image after × HasLast n kind extra image)

-- an image keeps what was kept before, or nothing by a cut, or what is kept after by an entry of kind 1 without a point
abbrev pub IsReplaced : (n : ℕ) (aim : AimView) (before after : State) → Image → Type 0
IsReplaced n aim before after image =
    Keeps n aim image before ⊎ (Keeps n aim image states.Nothing × HasLast n 2 0 image) ⊎ (Keeps n aim image after × HasLast n 1 0 image)

-- each crash image has such an entry last
abbrev pub LeavesLast : (n kind extra : ℕ) → DiskView → Type 0
LeavesLast n kind extra disk = (image : Image) → IsCrashImage disk image → HasLast n kind extra image

-- by one entry: at no moment is anything else kept than before or after, and after a call that succeeded the entry is in each crash image
pub record Changes (succeeded : Type 0) (n : ℕ) (aim : AimView) (before : State) (kind extra : ℕ) (after : State) (old new : DiskView) : Type 0 where
  pub moments : Throughout (IsOfRelay n) (IsChanged n aim before kind extra after) old new
  pub left : succeeded → LeavesLast n kind extra new

-- by an identifier, in place of another after a cut
pub record Replaces (succeeded : Type 0) (n : ℕ) (aim : AimView) (before after : State) (old new : DiskView) : Type 0 where
  pub moments : Throughout (IsOfRelay n) (IsReplaced n aim before after) old new
  pub left : succeeded → LeavesLast n 1 0 new

-- ---- Marks and damage

-- in an image a log is marked as relayed: the last entry is of kind 3, and the data file is there with its length
pub record IsMarked (n : ℕ) (image : Image) : Type 0 where
  pub body : Body
  pub entry : HasEntry (owner_of n) body image
  pub kind : body.kind ≡ 3
  pub enough : IsShort (image (file_of (owner_of n) Id)) (length_of body Id) → ⊥

-- and it is the mark of a log of this elapsed time
pub record IsMarkedAt (n total : ℕ) (image : Image) : Type 0 where
  pub mark : IsMarked n image
  pub time : mark.body.extra ≡ total + 1

-- in an image the last entry keeps an identifier of more than 4,096 bytes, as no relaying does
pub record HasLongId (n : ℕ) (image : Image) : Type 0 where
  pub body : Body
  pub entry : HasEntry (owner_of n) body image
  pub long : body.count + 4096 < length_of body Id
  pub keeps : (body.kind ≢ 2) × (body.kind ≢ 3)

-- what is kept can't be read: the data file is absent or short, or the identifier is too long
abbrev pub IsStateDamage : ℕ → Part → Image → Type 0
IsStateDamage n part image = IsDamaged (owner_of n) shapes.Relay image part ⊎ ((part ≡ Id) × HasLongId n image)

-- ---- While nothing is kept

-- an image has the last entry of some crash image of that disk, and keeps what that one keeps, whatever the aim
pub record IsAsBefore (n : ℕ) (disk : DiskView) (image : Image) : Type 0 where
  pub before : Image
  pub was : IsCrashImage disk before
  pub entry : LastAt 89 (journal_of (owner_of n)) image ≡ LastAt 89 (journal_of (owner_of n)) before
  pub same : (aim : AimView) (state : State) → Keeps n aim before state → Keeps n aim image state
  pub back : (aim : AimView) (state : State) → Keeps n aim image state → Keeps n aim before state

-- both images have the same files of the relaying
abbrev pub SameFiles : ℕ → Image → Image → Type 0
SameFiles n image other = (file : FileId) → IsOfRelay n file → other file ≡ image file
