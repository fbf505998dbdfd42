-- For private clauses: what is put of one log, and of the logs up to a number.
use Rattle.std.specs.Prelude.{◌≡◌, ◌⊎◌, ◌≤◌, ℕ, List, [], length, Option, None, Result, Ok, Err}
use Rattle.lsv_disk.specs.declared.file.Part.{Part}
use Rattle.lsv_disk.specs.View.{Image}
use Rattle.lsv_info.specs.declared.times.Head.{Head}
use Rattle.lsv_play.specs.declared.screen.Item.{Item}
use Rattle.lsv_play.specs.Items.{IsPart}
use Rattle.lsv_search.specs.Grammar.{Expression}
use Rattle.lsv_replay.specs.Listing.{Found, There, IsFound, AreFound, line_if, listing, damage_in, first_damage}
use Rattle.lsv_replay.specs.declared.fault.ListFault.{ListFault}
use Rattle.lsv_replay.specs.declared.fault.ListFault.TheVariants.{Damaged, Disk, Screen, NoMem}

-- the line of a log with this head is put if it is searched for; at a fault a first part of it
abbrev pub ListsHead : Option Expression → ℕ → Head → Result (Option Part) ListFault → List Item → Type 0
ListsHead searched n head (Ok damage) put = (put ≡ line_if searched n (There head)) × (damage ≡ None)
ListsHead searched n head (Err (Damaged part)) put = ⊥
ListsHead searched n head (Err Disk) put = ⊥
ListsHead searched n head (Err Screen) put = IsPart put (line_if searched n (There head))
ListsHead searched n head (Err NoMem) put = IsPart put (line_if searched n (There head))

-- nothing is put of a log, or a first part of its line
abbrev pub IsCut : Option Expression → Image → ℕ → List Item → Type 0
IsCut searched image n put = (put ≡ []) ⊎ ((found : Found) × IsFound image n found × IsPart put (line_if searched n found))

-- a log's line is put if it exists and is searched for, and its damage is answered
abbrev pub ListsOne : Option Expression → Image → ℕ → Result (Option Part) ListFault → List Item → Type 0
ListsOne searched image n (Ok damage) put = (found : Found) × IsFound image n found × (put ≡ line_if searched n found) × (damage ≡ damage_in found)
ListsOne searched image n (Err (Damaged part)) put = ⊥
ListsOne searched image n (Err Disk) put = IsCut searched image n put
ListsOne searched image n (Err Screen) put = IsCut searched image n put
ListsOne searched image n (Err NoMem) put = IsCut searched image n put

-- these logs are found from 1 on, and their lines are put
pub record ListedTo (searched : Option Expression) (image : Image) (n : ℕ) (first : Option Part) (put : List Item) : Type 0 where
  pub found : List Found
  pub are : AreFound image found
  pub count : length found ≡ n
  pub put_is : put ≡ listing searched found
  pub first_is : first ≡ first_damage found

-- a first part of the lines of at most this many logs is put
pub record ListedPart (searched : Option Expression) (image : Image) (n : ℕ) (put : List Item) : Type 0 where
  pub found : List Found
  pub are : AreFound image found
  pub count : length found ≤ n
  pub part : IsPart put (listing searched found)

-- what is put of the logs up to a number
abbrev pub ListsTo : Option Expression → Image → ℕ → Result (Option Part) ListFault → List Item → Type 0
ListsTo searched image n (Ok first) put = ListedTo searched image n first put
ListsTo searched image n (Err (Damaged part)) put = ⊥
ListsTo searched image n (Err Disk) put = ListedPart searched image n put
ListsTo searched image n (Err Screen) put = ListedPart searched image n put
ListsTo searched image n (Err NoMem) put = ListedPart searched image n put
