-- What is put of a log that is followed while others write it, by how its following ended.
use Rattle.std.specs.Prelude.{◌≡◌, ◌≢◌, ◌⊎◌, ◌<◌, ◌≤◌, ◌*◌, ℕ, suc, List, [], ◌∷◌, ◌++◌, length, map, replicate, None, Result, Ok, Err}
use Rattle.lsv_disk.specs.View.{Image}
use Rattle.lsv_iolog.specs.Reading.{HasCuts}
use Rattle.lsv_iolog.specs.Recovered.{Replays}
use Rattle.lsv_play.specs.Items.{IsPart}
use Rattle.lsv_play.specs.declared.options.Options.{Options}
use Rattle.lsv_play.specs.declared.screen.Item.{Item}
use Rattle.lsv_play.specs.declared.screen.Item.TheVariants.{Wait}
use Rattle.lsv_play.specs.Playing.{IsNotOpened}
use Rattle.lsv_play.specs.declared.fault.PlayFault.{PlayFault}
use Rattle.lsv_play.specs.declared.fault.PlayFault.TheVariants as plays
use Rattle.lsv_record.specs.declared.records.Record.{Record}
use Rattle.lsv_follow.specs.Followed.{followed, pause, put_at_acts, quiet_in, records_of}
use Rattle.lsv_follow.specs.Following.{Finds, HasFaultNext, HasGiven}
use Rattle.lsv_follow.specs.declared.end.FollowEnd.{FollowEnd}
use Rattle.lsv_follow.specs.declared.end.FollowEnd.TheVariants as ends
use Rattle.lsv_follow.specs.declared.follow.Seen.{Seen}
use Rattle.lsv_follow.specs.declared.follow.Seen.TheVariants as seen

-- after this many looks in a row that found no further record the following ends
abbrev pub most_quiet : ℕ
most_quiet = 36000

-- looks that gave these records
abbrev pub gave : List Record → List Seen
gave records = map (λ r. seen.Record r) records

-- n looks that found no further record
abbrev pub quiet : ℕ → List Seen
quiet n = replicate n seen.Nothing

-- n pauses
abbrev pub pauses : ℕ → List Item
pauses n = replicate n (Wait pause)

-- the last of these looks found the log's end
abbrev pub EndsOver : List Seen → Type 0
EndsOver looks = (front : List Seen) × (looks ≡ front ++ seen.End ∷ [])

-- these looks don't end the following: the last didn't find the log's end, and fewer than 36,000 in a row found nothing
pub record IsGoing (looks : List Seen) : Type 0 where
  pub not_over : EndsOver looks → ⊥
  pub few : quiet_in 0 looks < most_quiet

-- the moments of a look after so many others: at the one it reads, and at the next one it is checked that the log wasn't cut
abbrev pub read_at : List Seen → ℕ
read_at before = 2 * length before

abbrev pub checked_at : List Seen → ℕ
checked_at before = suc (2 * length before)

-- a look was made, since those before it didn't end the following; it found what came after the records that they gave, and then the log had as many cuts as at the opening
pub record IsLook (n cuts : ℕ) (images : ℕ → Image) (before : List Seen) (look : Seen) : Type 0 where
  pub going : IsGoing before
  pub finds : Finds n cuts (images (read_at before)) (records_of before) look
  pub uncut : HasCuts n cuts (images (checked_at before))

-- these are looks at a log, one after another
abbrev pub AreLooks : ℕ → ℕ → (ℕ → Image) → List Seen → Type 0
AreLooks n cuts images looks = (before : List Seen) (look : Seen) (after : List Seen) → looks ≡ before ++ look ∷ after → IsLook n cuts images before look

-- how the following ends after these looks: with the log's end; with 36,000 in a row that found nothing; or with one look more that found the log cut, removed, or damaged after the records that were shown
abbrev pub EndsAt : {T : Type 0} → ℕ → ℕ → (ℕ → Image) → List Seen → Result T FollowEnd → Type 0
EndsAt n cuts images looks (Ok end) = EndsOver looks
EndsAt n cuts images looks (Err ends.Quiet) = quiet_in 0 looks ≡ most_quiet
EndsAt n cuts images looks (Err (ends.Resumed was now)) = IsGoing looks × (was ≡ cuts) × (now ≢ cuts) × (HasCuts n now (images (read_at looks)) ⊎ HasCuts n now (images (checked_at looks)))
EndsAt n cuts images looks (Err ends.Removed) = IsGoing looks × (Replays (images (read_at looks)) n None ⊎ Replays (images (checked_at looks)) n None)
EndsAt n cuts images looks (Err (ends.Fault (plays.Damaged part))) = IsGoing looks × HasFaultNext n cuts (images (read_at looks)) (records_of looks) part
EndsAt n cuts images looks (Err (ends.Fault plays.Absent)) = ⊥
EndsAt n cuts images looks (Err (ends.Fault plays.Resumed)) = ⊥
EndsAt n cuts images looks (Err (ends.Fault plays.Disk)) = IsGoing looks
EndsAt n cuts images looks (Err (ends.Fault plays.Screen)) = Unit {0}
EndsAt n cuts images looks (Err (ends.Fault plays.NoMem)) = IsGoing looks

-- what is put for looks: all, or a first part if the screen failed
abbrev pub PutsLooks : {T : Type 0} → Options → List Seen → List Item → Result T FollowEnd → Type 0
PutsLooks o looks put (Ok end) = put ≡ followed o looks
PutsLooks o looks put (Err ends.Quiet) = put ≡ followed o looks
PutsLooks o looks put (Err (ends.Resumed was now)) = put ≡ followed o looks
PutsLooks o looks put (Err ends.Removed) = put ≡ followed o looks
PutsLooks o looks put (Err (ends.Fault plays.Screen)) = IsPart put (followed o looks)
PutsLooks o looks put (Err (ends.Fault (plays.Damaged part))) = put ≡ followed o looks
PutsLooks o looks put (Err (ends.Fault plays.Absent)) = put ≡ followed o looks
PutsLooks o looks put (Err (ends.Fault plays.Resumed)) = put ≡ followed o looks
PutsLooks o looks put (Err (ends.Fault plays.Disk)) = put ≡ followed o looks
PutsLooks o looks put (Err (ends.Fault plays.NoMem)) = put ≡ followed o looks

-- the log was opened, with this many cuts, and what is put is put for looks at it; each of them was shown before the act after it
pub record FollowsLooks {T : Type 0} (o : Options) (n : ℕ) (images : ℕ → Image) (saw : List (List Item)) (answer : Result T FollowEnd) (put : List Item) : Type 0 where
  pub cuts : ℕ
  pub looks : List Seen
  pub opened : HasGiven n cuts (images 0) []
  pub are : AreLooks n cuts images looks
  pub ends : EndsAt n cuts images looks answer
  pub puts : PutsLooks o looks put answer
  -- at their acts the others saw what was put by then, and before the last look they had acted as often
  pub acts : (rest : List (List Item)) × (put_at_acts o [] looks ≡ saw ++ rest)
  pub enough : 2 * length looks ≤ suc (length saw)

-- a log isn't opened, as in play
abbrev pub IsNotFollowed : {T : Type 0} → ℕ → Image → Result T FollowEnd → Type 0
IsNotFollowed n image (Ok end) = ⊥
IsNotFollowed n image (Err ends.Quiet) = ⊥
IsNotFollowed n image (Err (ends.Resumed was now)) = ⊥
IsNotFollowed n image (Err ends.Removed) = ⊥
IsNotFollowed n image (Err (ends.Fault fault)) = let answer : Result (Unit {0}) PlayFault = Err fault in IsNotOpened n image answer

-- what is put of the log of this number, if the disk reads so at these moments, and the others saw this: nothing if it isn't opened, and else what is put for the looks at it
abbrev pub Follows : {T : Type 0} → Options → ℕ → (ℕ → Image) → List (List Item) → Result T FollowEnd → List Item → Type 0
Follows o n images saw answer put = (IsNotFollowed n (images 0) answer × (put ≡ []) × (saw ≡ [])) ⊎ FollowsLooks o n images saw answer put
