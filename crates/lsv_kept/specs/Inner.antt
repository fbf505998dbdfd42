-- What holds of each value of what is kept.
use Rattle.std.specs.Prelude.{◌≡◌, ◌≢◌, ◌⊎◌, ◌++◌, ◌+◌, ◌<◌, if◌then◌else◌, ℕ, false, List, length, take, drop, Option, Some, None}
use Rattle.std.specs.Str.{bytes_eq}
use Rattle.lsv_disk.specs.declared.file.Part.{Part}
use Rattle.lsv_disk.specs.declared.file.Part.TheVariants.{Id}
use Rattle.lsv_disk.specs.View.{DiskView, Image}
use Rattle.lsv_bundle.specs.Committed.{Committed, committed, committed_bytes}
use Rattle.lsv_bundle.specs.declared.body.Body.{Body}
use Rattle.lsv_bundle.specs.Body.{length_of}
use Rattle.lsv_bundle.specs.Represents.{Represents}
use Rattle.lsv_bundle.specs.Value.{BundleView, NoneStaged, staged}
use Rattle.lsv_bundle.specs.declared.shape.Shape.TheVariants as shapes
use Rattle.lsv_kept.specs.Aim.{AimView}
use Rattle.lsv_kept.specs.Kept.{HasLast, Keeps, owner_of, point_of, state_of}
use Rattle.lsv_kept.specs.Value.{KeepingView, StandsBy, state_on}
use Rattle.lsv_kept.specs.declared.state.Kept.{Kept}
use Rattle.lsv_kept.specs.declared.state.State.{State}
use Rattle.lsv_kept.specs.declared.state.State.TheVariants as states

-- the entry keeps an identifier of more than 4,096 bytes, and this is the data file
pub record IsLongIn (body : Body) (part : Part) : Type 0 where
  pub part_is : part ≡ Id
  pub long : body.count + 4096 < length_of body Id
  pub keeps : (body.kind ≢ 2) × (body.kind ≢ 3)

-- what is kept by bytes that begin with this line, or as many others
abbrev pub kept_after : (line : List ℕ) (extra : ℕ) (bytes : List ℕ) → State
kept_after line extra bytes = if bytes_eq (take (length line) bytes) line then states.Kept (record { id = drop (length line) bytes; point = point_of extra }) else states.Nothing

-- a bundle of the relaying of log n, not broken and with nothing staged
pub record IsBundleOf (n : ℕ) (bundle : BundleView) : Type 0 where
  pub owner : bundle.owner ≡ owner_of n
  pub shape : bundle.shape ≡ shapes.Relay
  pub whole : bundle.is_broken ≡ false
  pub none_staged : NoneStaged bundle

-- what is kept once an entry of this kind commits what is staged
abbrev pub next_state : AimView → BundleView → DiskView → (kind count extra : ℕ) → State
next_state aim bundle disk kind count extra = state_of aim kind count extra (committed_bytes bundle disk Id ++ staged bundle Id)

-- the last entry of a bundle is of this kind, and has this extra number
pub record EndsIn (kind extra : ℕ) (bundle : BundleView) : Type 0 where
  pub body : Body
  pub last : bundle.last ≡ Some body
  pub kind_is : body.kind ≡ kind
  pub extra_is : body.extra ≡ extra

-- an image has the last entry of a bundle, if there is one
abbrev pub HasLastOf : ℕ → BundleView → Image → Type 0
HasLastOf n bundle image = (kind extra : ℕ) → EndsIn kind extra bundle → HasLast n kind extra image

-- an image keeps what the bundle keeps, by its last entry, or what is kept after by an entry of this kind and extra number
abbrev pub IsChangedFrom : (n : ℕ) → AimView → BundleView → DiskView → (kind extra : ℕ) (after : State) → Image → Type 0
IsChangedFrom n aim bundle disk kind extra after image = (Keeps n aim image (state_on aim bundle disk) × HasLastOf n bundle image) ⊎ (Keeps n aim image after × HasLast n kind extra image)

-- there is such a bundle
abbrev pub IsBundleIn : ℕ → Option BundleView → Type 0
IsBundleIn n None = ⊥
IsBundleIn n (Some bundle) = IsBundleOf n bundle

-- without files no identifier is kept
abbrev pub HasFiles : ℕ → State → Option BundleView → Type 0
HasFiles n state None = (kept : Kept) → state ≢ states.Kept kept
HasFiles n state (Some bundle) = IsBundleOf n bundle

-- unless it is broken, its files are those of the relaying
abbrev pub IsKeeping : KeepingView → Type 0
IsKeeping keeping = keeping.broken ≡ false → HasFiles keeping.number keeping.state keeping.files

-- there is a bundle, which stands on the disk
abbrev pub RepresentsIn : Option BundleView → DiskView → Type 0
RepresentsIn None disk = ⊥
RepresentsIn (Some bundle) disk = Represents bundle disk

-- the files stand on the disk, and the log isn't relayed
pub record StandsUndone (n : ℕ) (files : Option BundleView) (disk : DiskView) : Type 0 where
  pub aim : AimView
  pub state : State
  pub undone : state ≢ states.Done
  pub stands : StandsBy n aim state files disk

-- what the files commit, if there are some
abbrev pub commits : Option BundleView → DiskView → Option Committed
commits None disk = None
commits (Some bundle) disk = committed bundle disk
