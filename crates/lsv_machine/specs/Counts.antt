-- How often a history says that a device failed: of each owner's files, and of each log's journal inside a cut.
use Rattle.std.specs.Prelude.{◌≤◌, ◌<◌, ◌+◌, ◌-◌, ◌^◌, ◌==◌, ◌&&◌, ℕ, Bool, true, false, List, [], ◌∷◌, Result, Ok}
use Rattle.std.specs.List.{list_any}
use Rattle.lsv_disk.specs.Files.{file_of}
use Rattle.lsv_disk.specs.View.{DiskView}
use Rattle.lsv_disk.specs.declared.file.FileId.{FileId}
use Rattle.lsv_disk.specs.declared.file.Owner.{Owner}
use Rattle.lsv_disk.specs.declared.file.Owner.TheVariants.{Log, Events, Numbers, Relay}
use Rattle.lsv_disk.specs.declared.file.Part.{Part}
use Rattle.lsv_disk.specs.declared.file.Part.TheVariants as parts
use Rattle.lsv_request.specs.declared.refusal.Refusal.{Refusal}
use Rattle.lsv_request.specs.declared.request.Request.{Request}
use Rattle.lsv_request.specs.declared.request.Request.TheVariants as request
use Rattle.lsv_machine.specs.History.{request_in}
use Rattle.lsv_machine.specs.Turns.{Happened, Happened.Did, Happened.Tailed, Happened.Begins}

-- ---- In a history

-- whether two owners are one
abbrev pub same_owner : Owner → Owner → Bool
same_owner (Log n) (Log i) = n == i
same_owner (Events lane) (Events i) = lane == i
same_owner (Numbers lane) (Numbers i) = lane == i
same_owner (Relay n) (Relay i) = n == i
same_owner o p = false

-- whether an owner is among these
abbrev pub is_among : Owner → List Owner → Bool
is_among o failed = list_any (same_owner o) failed

-- 1 where it is so, else 0
abbrev pub one_if : Bool → ℕ
one_if true = 1
one_if false = 0

-- the owners that failed in it
abbrev pub failed_in : Happened → List Owner
failed_in (Did act) = act.failed
failed_in (Tailed tail) = tail.failed
failed_in (Begins texts) = []

-- in how many jobs and ends of turns an owner failed
abbrev pub failures : Owner → List Happened → ℕ
failures o [] = 0
failures o (x ∷ history) = one_if (is_among o (failed_in x)) + failures o history

-- whether log n is asked for
abbrev pub asks_for : ℕ → Result Request Refusal → Bool
asks_for n (Ok (request.Restart restart)) = restart.log == n
asks_for n what = false

-- whether it is a restart of log n that is marked as failed inside its cut
abbrev pub is_mark : ℕ → Happened → Bool
is_mark n (Did act) = act.in_cut && asks_for n (request_in act.job.body)
is_mark n (Tailed tail) = false
is_mark n (Begins texts) = false

-- how many restarts of log n are marked so
abbrev pub marks : ℕ → List Happened → ℕ
marks n [] = 0
marks n (x ∷ history) = one_if (is_mark n x) + marks n history

-- ---- On a disk

-- all files that an owner may have
abbrev pub all_parts : List Part
all_parts =
    parts.Head ∷ parts.Exit ∷ parts.Timing ∷ parts.Stdin ∷ parts.Stdout ∷ parts.Stderr ∷ parts.Ttyin ∷ parts.Ttyout ∷ parts.Lines ∷ parts.Id ∷ parts.Commit ∷ parts.Slots ∷ []

-- how often calls on these files of an owner have failed
abbrev pub faults_among : DiskView → Owner → List Part → ℕ
faults_among disk o [] = 0
faults_among disk o (part ∷ others) = disk.faults (file_of o part) + faults_among disk o others

-- how often calls on the files of an owner have failed
abbrev pub faults_of : DiskView → Owner → ℕ
faults_of disk o = faults_among disk o all_parts

-- no count of the owner's files stands at its last value, from which it can't rise
abbrev pub IsCounted : DiskView → Owner → Type 0
IsCounted disk o = (part : Part) → disk.faults (file_of o part) < 2 ^ 64 - 1

-- the journal of a log
abbrev pub journal_of : ℕ → FileId
journal_of n = file_of (Log n) parts.Slots

-- no count of faults fell; an owner failed in no more jobs and ends of turns than its count rose by, and a log inside no more cuts than its journal's count rose by
pub record Counts (history : List Happened) (old new : DiskView) : Type 0 where
  pub monotone : (file : FileId) → old.faults file ≤ new.faults file
  pub failed : (o : Owner) → IsCounted new o → faults_of old o + failures o history ≤ faults_of new o
  pub marked : (n : ℕ) → IsCounted new (Log n) → old.faults (journal_of n) + marks n history ≤ new.faults (journal_of n)
