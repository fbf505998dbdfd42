-- Which files the store has, and their names.
use Rattle.std.specs.Prelude.{◌≡◌, ◌≢◌, ◌⊎◌, ℕ, ◌<◌, List, [], ◌∷◌, Option, Some, None, Bool, true, false, ◌&&◌, ◌++◌, is_some, nat_eq, nat_le, nat_lt, codes, if◌then◌else◌, length, get_or}
use Rattle.std.specs.Fmt.{decimal}
use Rattle.lsv_disk.specs.declared.file.FileId.{FileId}
use Rattle.lsv_disk.specs.declared.file.Owner.{Owner}
use Rattle.lsv_disk.specs.declared.file.Owner.TheVariants.{Log, Events, Numbers, Relay}
use Rattle.lsv_disk.specs.declared.file.Part.{Part}
use Rattle.lsv_disk.specs.declared.file.Part.TheVariants.{Head, Exit, Timing, Stdin, Stdout, Stderr, Ttyin, Ttyout, Lines, Id, Commit, Slots}

-- the name of a file of a log, where a log has such a file
abbrev pub log_name : Part → Option (List ℕ)
log_name Head = Some (codes "log.json")
log_name Exit = Some (codes "exit.json")
log_name Timing = Some (codes "timing")
log_name Stdin = Some (codes "stdin")
log_name Stdout = Some (codes "stdout")
log_name Stderr = Some (codes "stderr")
log_name Ttyin = Some (codes "ttyin")
log_name Ttyout = Some (codes "ttyout")
log_name Commit = Some (codes "commit")
log_name Slots = Some (codes "slots")
log_name Lines = None
log_name Id = None

-- the name of a file that tells of relaying a log, where there is such a file
abbrev pub relay_name : Part → Option (List ℕ)
relay_name Id = Some (codes "relay")
relay_name Commit = Some (codes "relay.commit")
relay_name Slots = Some (codes "relay.slots")
relay_name _ = None

-- log numbers are those with six digits in base 36 that aren't 0
abbrev pub is_log_number : ℕ → Bool
is_log_number n = nat_le 1 n && nat_lt n 2176782336

-- the store has such a file of this owner
abbrev pub owner_has : Owner → Part → Bool
owner_has (Log n) part = is_log_number n && is_some (log_name part)
owner_has (Relay n) part = is_log_number n && is_some (relay_name part)
owner_has (Numbers lane) Commit = true
owner_has (Numbers lane) Slots = true
owner_has (Numbers lane) part = false
owner_has (Events lane) Lines = true
owner_has (Events lane) Commit = true
owner_has (Events lane) Slots = true
owner_has (Events lane) part = false

-- the store has such a file
abbrev pub has_place : FileId → Bool
has_place f = owner_has f.owner f.part

-- a path, of a lane above 0 with its number after it
abbrev pub lane_path : List ℕ → ℕ → List ℕ
lane_path path lane = if nat_eq lane 0 then path else path ++ codes "." ++ decimal lane

-- the path of a file of the event log, whose lines stand at that path
abbrev pub events_path : List ℕ → Part → List ℕ
events_path path Commit = path ++ codes ".commit"
events_path path Slots = path ++ codes ".slots"
events_path path _ = path

-- no byte of a text is a slash
abbrev pub HasNoSlash : List ℕ → Type 0
HasNoSlash text = (i : ℕ) → i < length text → get_or text i 0 ≢ 47

-- the folder that a path names before its last slash: the one at the top where nothing stands there
abbrev pub folder_before : List ℕ → List ℕ
folder_before [] = codes "/"
folder_before (b ∷ bs) = b ∷ bs

-- a folder is that in which the file of a path stands: the one before its last slash, or the process's own where it has none
abbrev pub IsFolderOf : List ℕ → List ℕ → Type 0
IsFolderOf path folder = (HasNoSlash path × (folder ≡ codes ".")) ⊎ ((before after : List ℕ) × (path ≡ before ++ 47 ∷ after) × HasNoSlash after × (folder ≡ folder_before before))

-- a path is that of this name in a folder, where there is a name
abbrev pub IsNamed : List ℕ → Option (List ℕ) → List ℕ → Type 0
IsNamed folder None path = ⊥
IsNamed folder (Some name) path = path ≡ folder ++ codes "/" ++ name

-- the name of a file that has the log numbers, on lane 0, where there is such a file
abbrev pub numbers_name : Part → Option (List ℕ)
numbers_name Commit = Some (codes "seq")
numbers_name Slots = Some (codes "seq2")
numbers_name _ = None

-- a path is that of a lane's file of this name in a folder, where there is a name
abbrev pub IsOfLane : ℕ → List ℕ → Option (List ℕ) → List ℕ → Type 0
IsOfLane lane folder None path = ⊥
IsOfLane lane folder (Some name) path = path ≡ lane_path (folder ++ codes "/" ++ name) lane

-- a file of this owner stands in a folder, at a path, where the logs have one place and the event log another
abbrev pub OwnerStands : List ℕ → List ℕ → Owner → Part → List ℕ → List ℕ → Type 0
OwnerStands dir events (Log n) part folder path = IsNamed folder (log_name part) path
OwnerStands dir events (Relay n) part folder path = IsNamed folder (relay_name part) path
OwnerStands dir events (Numbers lane) part folder path = (folder ≡ dir) × IsOfLane lane dir (numbers_name part) path
OwnerStands dir events (Events lane) part folder path = IsFolderOf (lane_path events lane) folder × (path ≡ events_path (lane_path events lane) part)

-- a file stands in a folder, at a path
abbrev pub Stands : List ℕ → List ℕ → FileId → List ℕ → List ℕ → Type 0
Stands dir events f folder path = OwnerStands dir events f.owner f.part folder path
