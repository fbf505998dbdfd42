-- What a run of the program comes to.
use Rattle.std.proofs.Common.{◌≡◌, ◌∙◌, inl, inr, ℕ, ◌≤◌, List, [], Option, Some, None, Result, Ok, Err, Bool, true, false, refl, sym, ap, subst, append-nil, ◌++◌, arith}
use Rattle.std.proofs.Math.Path.{fun_ext}
use Rattle.std.specs.List.{list_all}
use Rattle.std.specs.Str.{IsUtf8, is_utf8}
use Rattle.std.proofs.lemmas.Str.{IsUtf8-from_is_utf8}
use Rattle.lsv_base.specs.LogNo.{log_no_in}
use Rattle.lsv_disk.specs.declared.file.FileId.{FileId}
use Rattle.lsv_disk.specs.Throughout.{OnlyReads}
use Rattle.lsv_disk.specs.View.{Image, DiskView, HasOwnCause, IsUntouched}
use Rattle.lsv_disk.proofs.Composition.{OnlyNow, unchanged_reads}
use Rattle.lsv_iolog.specs.Recovered.{IsOfLog}
use Rattle.lsv_replay.specs.declared.fault.ListFault.{ListFault}
use Rattle.lsv_replay.specs.declared.fault.ListFault.TheVariants as lists
use Rattle.lsv_replay.specs.Numbers.{IsListed}
use Rattle.lsv_play.specs.declared.screen.Item.{Item}
use Rattle.lsv_follow.specs.Followed.{seen_from}
use Rattle.lsv_follow.specs.Others.{IsReadBeside}
use Rattle.lsv_follow.specs.declared.end.FollowEnd.{FollowEnd}
use Rattle.lsv_follow.specs.declared.end.FollowEnd.TheVariants as ends
use Rattle.lsv_play.specs.declared.fault.PlayFault.{PlayFault}
use Rattle.lsv_play.specs.declared.fault.PlayFault.TheVariants as plays
use Rattle.lsv_search.specs.Grammar.{Expression, IsSearch}
use Rattle.lsv_replay_args.specs.Asked.{task_in}
use Rattle.lsv_replay_args.specs.declared.request.Task.{Task}
use Rattle.lsv_replay_args.specs.declared.request.Task.TheVariants as tasks
use Rattle.lsv_replay_args.specs.Request.{Asked, Follow, Manner, Play, Search, dir_asked}
use Rattle.lsv_replay_args.specs.Request as requests
use Rattle.lsv_replay.specs.Replay.{Asks, AsksToFollow, Does, HasWords, IsOnlyRead, IsOnlyReadBeside, IsSoundTask, IsUsage}
use Rattle.lsv_replay.specs.Status.{of_following, of_listing, of_playing}
use Rattle.lsv_replay.specs.Tasks.{IsOfTask, IsToFollow}
use Rattle.lsv_replay.specs.declared.status.ReplayStatus.{ReplayStatus}
use Rattle.lsv_replay.specs.declared.status.ReplayStatus.TheVariants.{Shown, Usage, BadExpression, Damaged, ReadFault, WriteFault, Resumed, Removed, Absent, NoMem, Quiet}

-- ---- statuses

pub play_status : {T : Type 0} (dir : List ℕ) (manner : Manner) (id : List ℕ) (n : ℕ) (r : Result T PlayFault) → log_no_in id ≡ Some n → IsOfTask (Play dir manner id) (of_playing r)
play_status dir manner id n (Ok end) is = (n, is)
play_status dir manner id n (Err plays.Absent) is = tt
play_status dir manner id n (Err (plays.Damaged part)) is = (n, is)
play_status dir manner id n (Err plays.Disk) is = (n, is)
play_status dir manner id n (Err plays.Screen) is = (n, is)
play_status dir manner id n (Err plays.NoMem) is = tt
play_status dir manner id n (Err plays.Resumed) is = (n, is)

pub follow_status : {T : Type 0} (dir : List ℕ) (manner : Manner) (id : List ℕ) (n : ℕ) (r : Result T FollowEnd) → log_no_in id ≡ Some n → IsOfTask (Follow dir manner id) (of_following r)
follow_status dir manner id n (Ok end) is = (n, is)
follow_status dir manner id n (Err (ends.Resumed seen now)) is = (n, is)
follow_status dir manner id n (Err ends.Quiet) is = (n, is)
follow_status dir manner id n (Err ends.Removed) is = (n, is)
follow_status dir manner id n (Err (ends.Fault plays.Absent)) is = tt
follow_status dir manner id n (Err (ends.Fault (plays.Damaged part))) is = (n, is)
follow_status dir manner id n (Err (ends.Fault plays.Disk)) is = (n, is)
follow_status dir manner id n (Err (ends.Fault plays.Screen)) is = (n, is)
follow_status dir manner id n (Err (ends.Fault plays.NoMem)) is = tt
follow_status dir manner id n (Err (ends.Fault plays.Resumed)) is = (n, is)

pub list_status : {T : Type 0} (dir : List ℕ) (words : List (List ℕ)) (searched : Option Expression) (r : Result T ListFault) → IsSearch words searched → IsOfTask (Search dir words) (of_listing r)
list_status dir words searched (Ok end) is = (searched, is)
list_status dir words searched (Err (lists.Damaged part)) is = (searched, is)
list_status dir words searched (Err lists.Disk) is = (searched, is)
list_status dir words searched (Err lists.Screen) is = (searched, is)
list_status dir words searched (Err lists.NoMem) is = tt

-- a read fault comes of a read that failed, and a write fault of the screen's
pub play_disk : {T : Type 0} (r : Result T PlayFault) (s : ReplayStatus) → s ≡ of_playing r → s ≡ ReadFault → r ≡ Err plays.Disk
play_disk (Ok end) s e is = absurd (cc)
play_disk (Err plays.Absent) s e is = absurd (cc)
play_disk (Err (plays.Damaged part)) s e is = absurd (cc)
play_disk (Err plays.Disk) s e is = refl
play_disk (Err plays.Screen) s e is = absurd (cc)
play_disk (Err plays.NoMem) s e is = absurd (cc)
play_disk (Err plays.Resumed) s e is = absurd (cc)

pub play_screen : {T : Type 0} (r : Result T PlayFault) (s : ReplayStatus) → s ≡ of_playing r → s ≡ WriteFault → r ≡ Err plays.Screen
play_screen (Ok end) s e is = absurd (cc)
play_screen (Err plays.Absent) s e is = absurd (cc)
play_screen (Err (plays.Damaged part)) s e is = absurd (cc)
play_screen (Err plays.Disk) s e is = absurd (cc)
play_screen (Err plays.Screen) s e is = refl
play_screen (Err plays.NoMem) s e is = absurd (cc)
play_screen (Err plays.Resumed) s e is = absurd (cc)

pub follow_disk : {T : Type 0} (r : Result T FollowEnd) (s : ReplayStatus) → s ≡ of_following r → s ≡ ReadFault → r ≡ Err (ends.Fault plays.Disk)
follow_disk (Ok end) s e is = absurd (cc)
follow_disk (Err (ends.Resumed seen now)) s e is = absurd (cc)
follow_disk (Err ends.Quiet) s e is = absurd (cc)
follow_disk (Err ends.Removed) s e is = absurd (cc)
follow_disk (Err (ends.Fault plays.Absent)) s e is = absurd (cc)
follow_disk (Err (ends.Fault (plays.Damaged part))) s e is = absurd (cc)
follow_disk (Err (ends.Fault plays.Disk)) s e is = refl
follow_disk (Err (ends.Fault plays.Screen)) s e is = absurd (cc)
follow_disk (Err (ends.Fault plays.NoMem)) s e is = absurd (cc)
follow_disk (Err (ends.Fault plays.Resumed)) s e is = absurd (cc)

pub follow_screen : {T : Type 0} (r : Result T FollowEnd) (s : ReplayStatus) → s ≡ of_following r → s ≡ WriteFault → r ≡ Err (ends.Fault plays.Screen)
follow_screen (Ok end) s e is = absurd (cc)
follow_screen (Err (ends.Resumed seen now)) s e is = absurd (cc)
follow_screen (Err ends.Quiet) s e is = absurd (cc)
follow_screen (Err ends.Removed) s e is = absurd (cc)
follow_screen (Err (ends.Fault plays.Absent)) s e is = absurd (cc)
follow_screen (Err (ends.Fault (plays.Damaged part))) s e is = absurd (cc)
follow_screen (Err (ends.Fault plays.Disk)) s e is = absurd (cc)
follow_screen (Err (ends.Fault plays.Screen)) s e is = refl
follow_screen (Err (ends.Fault plays.NoMem)) s e is = absurd (cc)
follow_screen (Err (ends.Fault plays.Resumed)) s e is = absurd (cc)

pub list_disk : {T : Type 0} (r : Result T ListFault) (s : ReplayStatus) → s ≡ of_listing r → s ≡ ReadFault → r ≡ Err lists.Disk
list_disk (Ok end) s e is = absurd (cc)
list_disk (Err (lists.Damaged part)) s e is = absurd (cc)
list_disk (Err lists.Disk) s e is = refl
list_disk (Err lists.Screen) s e is = absurd (cc)
list_disk (Err lists.NoMem) s e is = absurd (cc)

pub list_screen : {T : Type 0} (r : Result T ListFault) (s : ReplayStatus) → s ≡ of_listing r → s ≡ WriteFault → r ≡ Err lists.Screen
list_screen (Ok end) s e is = absurd (cc)
list_screen (Err (lists.Damaged part)) s e is = absurd (cc)
list_screen (Err lists.Disk) s e is = absurd (cc)
list_screen (Err lists.Screen) s e is = refl
list_screen (Err lists.NoMem) s e is = absurd (cc)

-- the files of a log are among those that are read
pub of_log_cause : (n : ℕ) (Failed Cause : Type 0) (old new : DiskView) → HasOwnCause (IsOfLog n) Cause old new → (Failed → Cause) → HasOwnCause IsListed Failed old new
of_log_cause n Failed Cause old new cause when = record {
  monotone = cause.monotone;
  risen = λ is. let one = cause.risen (when is) in (one.0, inr (n, one.1), one.2);
}

pub list_cause : (Failed Cause : Type 0) (old new : DiskView) → HasOwnCause IsListed Cause old new → (Failed → Cause) → HasOwnCause IsListed Failed old new
list_cause Failed Cause old new cause when = record { monotone = cause.monotone; risen = λ is. cause.risen (when is) }

-- nothing failed
pub never : (Failed : Type 0) (disk : DiskView) → (Failed → ⊥) → HasOwnCause IsListed Failed disk disk
never Failed disk none = record { monotone = λ f. omega arith; risen = λ is. absurd (none is) }

-- ---- the words

-- a text is text, as it is computed
pub not_text : (bytes : List ℕ) → (IsUtf8 bytes → ⊥) → false ≡ is_utf8 bytes
not_text bytes none = at (is_utf8 bytes) refl where
  at : (b : Bool) → is_utf8 bytes ≡ b → false ≡ is_utf8 bytes
  at true e = absurd (none (IsUtf8-from_is_utf8 bytes e))
  at false e = sym e

-- words that are no command ask for nothing
pub not_both : (words : List (List ℕ)) (asked : Asked) → IsUsage words → Asks words asked → ⊥
not_both words asked (inl text) asks = true_false (list_all is_utf8 words) asks.text text where
  true_false : (b : Bool) → b ≡ true → b ≡ false → ⊥
  true_false b one two = cc
not_both words asked (inr (inl taken)) asks = taken asks.taken
not_both words asked (inr (inr none)) asks = some_none (requests.asked words) asked asks.asks none where
  some_none : (o : Option Asked) (a : Asked) → o ≡ Some a → o ≡ None → ⊥
  some_none o a one two = cc

pub one_asked : (words : List (List ℕ)) (a b : Asked) → Asks words a → Asks words b → a ≡ b
one_asked words a b one two = same (requests.asked words) a b one.asks two.asks where
  same : (o : Option Asked) (a b : Asked) → o ≡ Some a → o ≡ Some b → a ≡ b
  same o a b p q = cc

-- the folder that is asked for is the task's
dir_of_task : (dir : List ℕ) (task : Task) → dir_asked (task_in dir task) ≡ dir
dir_of_task dir (tasks.Play o id) = refl
dir_of_task dir (tasks.Follow o id) = refl
dir_of_task dir (tasks.List words) = refl

pub dir_is : (words : List (List ℕ)) (asked : Asked) (dir : List ℕ) (task : Task) → Asks words asked → Asks words (task_in dir task) → dir ≡ dir_asked asked
dir_is words asked dir task one two = sym (dir_of_task dir task) ∙ ap (λ (a : Asked). dir_asked a) (one_asked words (task_in dir task) asked two one)

-- what is done doesn't hang on the folder
pub does_anywhere : (dir other : List ℕ) (task : Task) (images : ℕ → Image) (saw : List (List Item)) (status : ReplayStatus) (put : List Item) → Does (task_in dir task) images saw status put → Does (task_in other task) images saw status put
does_anywhere dir other (tasks.Play o id) images saw status put does = does
does_anywhere dir other (tasks.Follow o id) images saw status put does = does
does_anywhere dir other (tasks.List words) images saw status put does = does

-- words that don't ask to follow a log are of another task
pub not_to_follow : (words : List (List ℕ)) (dir : List ℕ) (task : Task) → Asks words (task_in dir task) → (AsksToFollow words → ⊥) → IsToFollow (task_in [] task) → ⊥
not_to_follow words dir (tasks.Play o id) asks none is = is
not_to_follow words dir (tasks.Follow o id) asks none is = none (record { dir = dir; manner = _; id = id; asks = asks })
not_to_follow words dir (tasks.List search) asks none is = is

-- nor does it whether it can be done
sound_anywhere : (dir other : List ℕ) (task : Task) → IsSoundTask (task_in other task) → IsSoundTask (task_in dir task)
sound_anywhere dir other (tasks.Play o id) sound = sound
sound_anywhere dir other (tasks.Follow o id) sound = sound
sound_anywhere dir other (tasks.List words) sound = sound

-- a status of a task has its words
pub words_of_task : (words : List (List ℕ)) (dir other : List ℕ) (task : Task) (status : ReplayStatus) → Asks words (task_in dir task) → IsOfTask (task_in other task) status → HasWords words status
words_of_task words dir other task Shown asks is = (task_in dir task, asks, sound_anywhere dir other task is)
words_of_task words dir other task (Damaged part) asks is = (task_in dir task, asks, sound_anywhere dir other task is)
words_of_task words dir other task ReadFault asks is = (task_in dir task, asks, sound_anywhere dir other task is)
words_of_task words dir other task WriteFault asks is = (task_in dir task, asks, sound_anywhere dir other task is)
words_of_task words dir other task NoMem asks is = tt
words_of_task words dir other task Usage asks is = absurd is
words_of_task words dir other (tasks.Play o id) (BadExpression at) asks is = absurd is
words_of_task words dir other (tasks.Follow o id) (BadExpression at) asks is = absurd is
words_of_task words dir other (tasks.List search) (BadExpression at) asks is = record { dir = dir; search = search; asks = asks; first_bad = is }
words_of_task words dir other (tasks.Play o id) Absent asks is = inl (record { dir = dir; manner = _; id = id; asks = asks })
words_of_task words dir other (tasks.Follow o id) Absent asks is = inr (record { dir = dir; manner = _; id = id; asks = asks })
words_of_task words dir other (tasks.List search) Absent asks is = absurd is
words_of_task words dir other (tasks.Play o id) Resumed asks is = inl (is.0, _, record { dir = dir; id = id; asks = asks; number = is.1 })
words_of_task words dir other (tasks.Follow o id) Resumed asks is = inr (is.0, _, record { dir = dir; id = id; asks = asks; number = is.1 })
words_of_task words dir other (tasks.List search) Resumed asks is = absurd is
words_of_task words dir other (tasks.Play o id) Removed asks is = absurd is
words_of_task words dir other (tasks.Follow o id) Removed asks is = (is.0, _, record { dir = dir; id = id; asks = asks; number = is.1 })
words_of_task words dir other (tasks.List search) Removed asks is = absurd is
words_of_task words dir other (tasks.Play o id) Quiet asks is = absurd is
words_of_task words dir other (tasks.Follow o id) Quiet asks is = (is.0, _, record { dir = dir; id = id; asks = asks; number = is.1 })
words_of_task words dir other (tasks.List search) Quiet asks is = absurd is

-- ---- the disk

-- no call was made
pub read_nothing : (disk : DiskView) → OnlyNow disk → IsOnlyRead disk disk
read_nothing disk now = record {
  quiet = record { same = λ f. refl; crash = λ f c is. is };
  each = λ k image from to is. now image (subst (λ (m : ℕ). disk.crash_images_at m image) (omega arith) is);
  counts = record { writes = λ f. refl; syncs = λ f. refl };
}

-- the places were noted, and then files were read
pub read_only : (old mid new : DiskView) → IsUntouched old mid → OnlyReads mid new → IsOnlyRead old new
read_only old mid new root reads = record {
  quiet = record {
    same = λ f. unchanged_reads mid new reads.unchanged f ∙ root.quiet.same f;
    crash = λ f c is. root.quiet.crash f c (reads.unchanged.elsewhere.crash f (λ never. never) c is);
  };
  each = λ k image from to is. let since : mid.moment ≤ k = omega (arith, root.moment) in λ f. root.quiet.crash f (image f) (reads.unchanged.beside k image since to is f (λ never. never));
  counts = record { writes = λ f. reads.counts.writes f ∙ root.counts.writes f; syncs = λ f. reads.counts.syncs f ∙ root.counts.syncs f };
}

-- the places were noted, and then files were read beside others
pub root_beside : (further : Image → ℕ → Image) (old mid new : DiskView) → IsUntouched old mid → IsReadBeside (further mid.reads) mid new → IsOnlyReadBeside (further old.reads) old new
root_beside further old mid new root beside = record {
  moment = beside.moment;
  reads = beside.reads ∙ ap (λ (image : Image). further image beside.moment) (fun_ext (λ f. root.quiet.same f));
  counts = record { writes = λ f. beside.counts.writes f ∙ root.counts.writes f; syncs = λ f. beside.counts.syncs f ∙ root.counts.syncs f };
}

-- no call was made, and the others didn't act
pub beside_nothing : (images : ℕ → Image) (disk : DiskView) → images 0 ≡ disk.reads → IsOnlyReadBeside images disk disk
beside_nothing images disk first = record { moment = 0; reads = sym first; counts = record { writes = λ f. refl; syncs = λ f. refl } }

-- files were only read, and the others didn't act
pub reads_beside : (images : ℕ → Image) (old new : DiskView) → images 0 ≡ old.reads → OnlyReads old new → IsReadBeside images old new
reads_beside images old new first reads = record {
  moment = 0;
  reads = fun_ext (λ f. unchanged_reads old new reads.unchanged f) ∙ sym first;
  counts = reads.counts;
  places = reads.unchanged.places;
}

-- nothing was noted, since the others didn't act
pub noted_none : (notes shows : Type 0) (noted : List (List Item)) (before : List Item) → notes → shows → noted ≡ noted ++ seen_from before []
noted_none notes shows noted before told told_too = sym (append-nil noted)

pub beside_none : (images : ℕ → Image) (disk : DiskView) → images 0 ≡ disk.reads → IsReadBeside images disk disk
beside_none images disk first = record { moment = 0; reads = sym first; counts = record { writes = λ f. refl; syncs = λ f. refl }; places = refl }

pub rooted_image : (old mid : DiskView) → IsUntouched old mid → mid.reads ≡ old.reads
rooted_image old mid root = fun_ext (λ f. root.quiet.same f)

pub rooted_cause : (Failed : Type 0) (old mid new : DiskView) → ((f : FileId) → mid.faults f ≡ old.faults f) → HasOwnCause IsListed Failed mid new → HasOwnCause IsListed Failed old new
rooted_cause Failed old mid new same cause = record {
  monotone = λ f. omega (arith, same f, cause.monotone f);
  risen = λ is. let one = cause.risen is in (one.0, one.1, λ small. omega (arith, same one.0, one.2 small));
}
