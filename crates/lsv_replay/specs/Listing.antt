-- The listing of the logs that are searched for, and what of it may be shown, by how it ended.
use Rattle.std.specs.Prelude.{◌≡◌, ◌⊎◌, ◌≤◌, ℕ, suc, List, [], ◌∷◌, ◌++◌, length, Option, Some, None, Result, Ok, Err, if◌then◌else◌}
use Rattle.std.specs.Option.{option_or}
use Rattle.lsv_disk.specs.declared.file.Part.{Part}
use Rattle.lsv_disk.specs.declared.file.Part.TheVariants.{Slots}
use Rattle.lsv_disk.specs.View.{Image}
use Rattle.lsv_bundle.specs.declared.body.Body.{Body}
use Rattle.lsv_event.specs.declared.event.Event.TheVariants.{Accept}
use Rattle.lsv_event.specs.SudoLine.{sudo_line}
use Rattle.lsv_info.specs.declared.times.Head.{Head}
use Rattle.lsv_iolog.specs.Damage.{IsViewDamage}
use Rattle.lsv_iolog.specs.Recovered.{Replays}
use Rattle.lsv_play.specs.declared.screen.Item.{Item}
use Rattle.lsv_play.specs.declared.screen.Item.TheVariants.{Put}
use Rattle.lsv_play.specs.Items.{IsPart}
use Rattle.lsv_play.specs.Playing.{IsOpened}
use Rattle.lsv_search.specs.Grammar.{Expression}
use Rattle.lsv_search.specs.Meaning.{matches}
use Rattle.lsv_replay.specs.Numbers.{last_number}
use Rattle.lsv_replay.specs.declared.fault.ListFault.{ListFault}
use Rattle.lsv_replay.specs.declared.fault.ListFault.TheVariants.{Damaged, Disk, Screen, NoMem}

-- what exists of a log: nothing, a log with this part at fault, or one with this head
pub data Found : Type 0 where
  Nowhere : Found
  Faulty : Part → Found
  There : Head → Found

-- what an image of the disk holds of the log of this number
abbrev pub IsFound : Image → ℕ → Found → Type 0
IsFound image n Nowhere = Replays image n None
IsFound image n (Faulty part) = IsViewDamage n part image
IsFound image n (There head) = (body : Body) × IsOpened n body head image

-- what it holds of the logs from 1 on; the last stands first
abbrev pub AreFound : Image → List Found → Type 0
AreFound image [] = Unit {0}
AreFound image (found ∷ before) = IsFound image (suc (length before)) found × AreFound image before

-- the line of a log: that of the event by which it was accepted, without a connection
unfoldable pub line_of : ℕ → Head → List ℕ
line_of n head = sudo_line (Accept head.submit (record { worker = 0; seq = 0 }) (Some n) head)

-- the line of a log that exists and is searched for
abbrev pub line_if : Option Expression → ℕ → Found → List Item
line_if searched n Nowhere = []
line_if searched n (Faulty part) = []
line_if searched n (There head) = if matches searched head then Put (line_of n head) ∷ [] else []

-- the listing: the lines of these logs, by rising number
abbrev pub listing : Option Expression → List Found → List Item
listing searched [] = []
listing searched (found ∷ before) = listing searched before ++ line_if searched (suc (length before)) found

-- the part at fault of a damaged log
abbrev pub damage_in : Found → Option Part
damage_in Nowhere = None
damage_in (Faulty part) = Some part
damage_in (There head) = None

-- the part at fault of the first damaged log
abbrev pub first_damage : List Found → Option Part
first_damage [] = None
first_damage (found ∷ before) = option_or (first_damage before) (damage_in found)

-- all is put, and this is the part at fault of the first damaged log
pub record ListsAll (searched : Option Expression) (image : Image) (put : List Item) (damage : Option Part) : Type 0 where
  pub found : List Found
  pub are : AreFound image found
  pub last : last_number image ≡ Some (length found)
  pub put_is : put ≡ listing searched found
  pub damage_is : first_damage found ≡ damage

-- a first part is put: nothing, or of logs up to the last number
pub record ListsSome (searched : Option Expression) (image : Image) (put : List Item) : Type 0 where
  pub found : List Found
  pub are : AreFound image found
  pub within : (found ≡ []) ⊎ ((last : ℕ) × (last_number image ≡ Some last) × (length found ≤ last))
  pub part : IsPart put (listing searched found)

-- nothing is put, since a number file is damaged
pub record ListsNone (image : Image) (put : List Item) (part : Part) : Type 0 where
  pub none : last_number image ≡ None
  pub part_is : part ≡ Slots
  pub put_is : put ≡ []

-- what is shown of the listing
abbrev pub Lists : {T : Type 0} → Option Expression → Image → Result T ListFault → List Item → Type 0
Lists searched image (Ok end) put = ListsAll searched image put None
Lists searched image (Err (Damaged part)) put = ListsAll searched image put (Some part) ⊎ ListsNone image put part
Lists searched image (Err Disk) put = ListsSome searched image put
Lists searched image (Err Screen) put = ListsSome searched image put
Lists searched image (Err NoMem) put = ListsSome searched image put
