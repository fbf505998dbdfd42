-- A log that the disk holds is followed as it is.
use Rattle.std.proofs.Common.{◌≡◌, ◌≢◌, ◌⊎◌, ◌++◌, inl, inr, ℕ, List, [], Option, Some, None, Result, Ok, Err, subst}
use Rattle.lsv_base.specs.LogNo.{log_no_in}
use Rattle.lsv_disk.specs.declared.file.Part.{Part}
use Rattle.lsv_disk.specs.View.{Image}
use Rattle.lsv_follow.specs.Ending.{Follows, most_quiet, pauses}
use Rattle.lsv_follow.specs.declared.end.FollowEnd.{FollowEnd}
use Rattle.lsv_follow.specs.declared.end.FollowEnd.TheVariants as ends
use Rattle.lsv_follow.proofs.Ended.{followed_part, followed_quiet, followed_there, followed_uncut, followed_undamaged, followed_unplayed, followed_whole, followed_kept}
use Rattle.lsv_iolog.specs.Recovered.{Replays}
use Rattle.lsv_play.specs.declared.options.Options.{Options}
use Rattle.lsv_play.specs.declared.screen.Item.{Item}
use Rattle.lsv_play.specs.Items.{IsPart}
use Rattle.lsv_play.specs.Schedule.{play}
use Rattle.lsv_play.specs.declared.fault.PlayFault.TheVariants as plays
use Rattle.lsv_record.specs.Points.{Stored}
use Rattle.lsv_replay_args.specs.Asked.{manner_in}
use Rattle.lsv_replay_args.specs.Request.{Asked, Follow, Manner}
use Rattle.lsv_replay.specs.Replay.{Answers, AsksToFollowLog, Does, FollowsNumber}
use Rattle.lsv_replay.specs.Status.{of_following}
use Rattle.lsv_replay.specs.declared.status.ReplayStatus.{ReplayStatus}
use Rattle.lsv_replay.specs.declared.status.ReplayStatus.TheVariants.{Shown, Damaged, Resumed, Removed, Absent, NoMem, Quiet}
use Rattle.lsv_replay.proofs.Replayed.{not_both, one_asked}

-- what is put of a log is put by its following, if the run didn't end before
record IsFollowedBy (n : ℕ) (manner : Manner) (images : ℕ → Image) (saw : List (List Item)) (status : ReplayStatus) (put : List Item) : Type 0 where
  o : Options
  manner_is : manner_in o ≡ manner
  answer : Result (Unit {0}) FollowEnd
  status_is : status ≡ of_following answer
  follows : Follows o n images saw answer put

followed_number : (n : ℕ) (manner : Manner) (number : Option ℕ) (images : ℕ → Image) (saw : List (List Item)) (status : ReplayStatus) (put : List Item) → number ≡ Some n → FollowsNumber manner number images saw status put → IsFollowedBy n manner images saw status put
followed_number n manner number images saw status put is does = at (subst (λ (k : Option ℕ). FollowsNumber manner k images saw status put) is does) where
  at : FollowsNumber manner (Some n) images saw status put → IsFollowedBy n manner images saw status put
  at (o, manner_is, (answer, status_is, follows)) = record { o = o; manner_is = manner_is; answer = answer; status_is = status_is; follows = follows }

followed : (words : List (List ℕ)) (n : ℕ) (manner : Manner) (images : ℕ → Image) (saw : List (List Item)) (status : ReplayStatus) (put : List Item) → AsksToFollowLog words n manner → Answers words images saw status put
    → ((status ≡ NoMem) × (put ≡ [])) ⊎ IsFollowedBy n manner images saw status put
followed words n manner images saw status put asks (inl usage) = absurd (not_both words (Follow asks.dir manner asks.id) usage.0 asks.asks)
followed words n manner images saw status put asks (inr (inl memory)) = inl memory
followed words n manner images saw status put asks (inr (inr (asked, asked_is, does))) =
    inr (followed_number n manner (log_no_in asks.id) images saw status put asks.number
    (subst (λ (a : Asked). Does a images saw status put) (one_asked words asked (Follow asks.dir manner asks.id) asked_is asks.asks) does))

pub shown_part : (words : List (List ℕ)) (n : ℕ) (manner : Manner) (images : ℕ → Image) (saw : List (List Item)) (status : ReplayStatus) (put : List Item) (log : Stored) → AsksToFollowLog words n manner → ((k : ℕ) → Replays (images k) n (Some log)) → Answers words images saw status put
    → (put ≡ []) ⊎ ((o : Options) × (manner_in o ≡ manner) × IsPart put (play o log.records ++ pauses most_quiet))
shown_part words n manner images saw status put log asks holds answers = at (followed words n manner images saw status put asks answers) where
  at : ((status ≡ NoMem) × (put ≡ [])) ⊎ IsFollowedBy n manner images saw status put → (put ≡ []) ⊎ ((o : Options) × (manner_in o ≡ manner) × IsPart put (play o log.records ++ pauses most_quiet))
  at (inl memory) = inl memory.1
  at (inr is) = inr (is.o, is.manner_is, followed_part is.o n images saw put log holds is.answer is.follows)

pub shown_whole : (words : List (List ℕ)) (n : ℕ) (manner : Manner) (images : ℕ → Image) (saw : List (List Item)) (put : List Item) (log : Stored) → AsksToFollowLog words n manner → ((k : ℕ) → Replays (images k) n (Some log)) → Answers words images saw Shown put
    → (o : Options) × (manner_in o ≡ manner) × (put ≡ play o log.records) × (log.exit ≢ None)
shown_whole words n manner images saw put log asks holds answers = at (followed words n manner images saw Shown put asks answers) where
  whole : (o : Options) (r : Result (Unit {0}) FollowEnd) → Shown ≡ of_following r → Follows o n images saw r put → (put ≡ play o log.records) × (log.exit ≢ None)
  whole o (Ok end) is follows = followed_whole o n images saw put log holds end follows
  whole o (Err (ends.Resumed seen now)) is follows = absurd (cc)
  whole o (Err ends.Quiet) is follows = absurd (cc)
  whole o (Err ends.Removed) is follows = absurd (cc)
  whole o (Err (ends.Fault plays.Absent)) is follows = absurd (cc)
  whole o (Err (ends.Fault (plays.Damaged part))) is follows = absurd (cc)
  whole o (Err (ends.Fault plays.Disk)) is follows = absurd (cc)
  whole o (Err (ends.Fault plays.Screen)) is follows = absurd (cc)
  whole o (Err (ends.Fault plays.NoMem)) is follows = absurd (cc)
  whole o (Err (ends.Fault plays.Resumed)) is follows = absurd (cc)

  at : ((Shown ≡ NoMem) × (put ≡ [])) ⊎ IsFollowedBy n manner images saw Shown put → (o : Options) × (manner_in o ≡ manner) × (put ≡ play o log.records) × (log.exit ≢ None)
  at (inl memory) = absurd (let is = memory.0 in let no_ : ⊥ = cc in no_)
  at (inr is) = let all = whole is.o is.answer is.status_is is.follows in (is.o, is.manner_is, all.0, all.1)

pub shown_quiet : (words : List (List ℕ)) (n : ℕ) (manner : Manner) (images : ℕ → Image) (saw : List (List Item)) (put : List Item) (log : Stored) → AsksToFollowLog words n manner → ((k : ℕ) → Replays (images k) n (Some log)) → Answers words images saw Quiet put
    → (o : Options) × (manner_in o ≡ manner) × (put ≡ play o log.records ++ pauses most_quiet) × (log.exit ≡ None)
shown_quiet words n manner images saw put log asks holds answers = at (followed words n manner images saw Quiet put asks answers) where
  quiet : (o : Options) (r : Result (Unit {0}) FollowEnd) → Quiet ≡ of_following r → Follows o n images saw r put → (put ≡ play o log.records ++ pauses most_quiet) × (log.exit ≡ None)
  quiet o (Ok end) is follows = absurd (cc)
  quiet o (Err (ends.Resumed seen now)) is follows = absurd (cc)
  quiet o (Err ends.Quiet) is follows = followed_quiet o n images saw put log holds (Unit {0}) follows
  quiet o (Err ends.Removed) is follows = absurd (cc)
  quiet o (Err (ends.Fault plays.Absent)) is follows = absurd (cc)
  quiet o (Err (ends.Fault (plays.Damaged part))) is follows = absurd (cc)
  quiet o (Err (ends.Fault plays.Disk)) is follows = absurd (cc)
  quiet o (Err (ends.Fault plays.Screen)) is follows = absurd (cc)
  quiet o (Err (ends.Fault plays.NoMem)) is follows = absurd (cc)
  quiet o (Err (ends.Fault plays.Resumed)) is follows = absurd (cc)

  at : ((Quiet ≡ NoMem) × (put ≡ [])) ⊎ IsFollowedBy n manner images saw Quiet put → (o : Options) × (manner_in o ≡ manner) × (put ≡ play o log.records ++ pauses most_quiet) × (log.exit ≡ None)
  at (inl memory) = absurd (let is = memory.0 in let no_ : ⊥ = cc in no_)
  at (inr is) = let all = quiet is.o is.answer is.status_is is.follows in (is.o, is.manner_is, all.0, all.1)

pub shown_there : (words : List (List ℕ)) (n : ℕ) (manner : Manner) (images : ℕ → Image) (saw : List (List Item)) (put : List Item) (log : Stored) → AsksToFollowLog words n manner → ((k : ℕ) → Replays (images k) n (Some log)) → Answers words images saw Absent put → ⊥
shown_there words n manner images saw put log asks holds answers = at (followed words n manner images saw Absent put asks answers) where
  there : (o : Options) (r : Result (Unit {0}) FollowEnd) → Absent ≡ of_following r → Follows o n images saw r put → ⊥
  there o (Ok end) is follows = cc
  there o (Err (ends.Resumed seen now)) is follows = cc
  there o (Err ends.Quiet) is follows = cc
  there o (Err ends.Removed) is follows = cc
  there o (Err (ends.Fault plays.Absent)) is follows = followed_there o n images saw put log holds (Unit {0}) follows
  there o (Err (ends.Fault (plays.Damaged part))) is follows = cc
  there o (Err (ends.Fault plays.Disk)) is follows = cc
  there o (Err (ends.Fault plays.Screen)) is follows = cc
  there o (Err (ends.Fault plays.NoMem)) is follows = cc
  there o (Err (ends.Fault plays.Resumed)) is follows = cc

  at : ((Absent ≡ NoMem) × (put ≡ [])) ⊎ IsFollowedBy n manner images saw Absent put → ⊥
  at (inl memory) = let is = memory.0 in cc
  at (inr is) = there is.o is.answer is.status_is is.follows

pub shown_undamaged : (words : List (List ℕ)) (n : ℕ) (manner : Manner) (images : ℕ → Image) (saw : List (List Item)) (put : List Item) (log : Stored) (part : Part) → AsksToFollowLog words n manner → ((k : ℕ) → Replays (images k) n (Some log)) → Answers words images saw (Damaged part) put → ⊥
shown_undamaged words n manner images saw put log part asks holds answers = at (followed words n manner images saw (Damaged part) put asks answers) where
  sound : (o : Options) (r : Result (Unit {0}) FollowEnd) → Damaged part ≡ of_following r → Follows o n images saw r put → ⊥
  sound o (Ok end) is follows = cc
  sound o (Err (ends.Resumed seen now)) is follows = cc
  sound o (Err ends.Quiet) is follows = cc
  sound o (Err ends.Removed) is follows = cc
  sound o (Err (ends.Fault plays.Absent)) is follows = cc
  sound o (Err (ends.Fault (plays.Damaged other))) is follows = followed_undamaged o n images saw put log holds (Unit {0}) other follows
  sound o (Err (ends.Fault plays.Disk)) is follows = cc
  sound o (Err (ends.Fault plays.Screen)) is follows = cc
  sound o (Err (ends.Fault plays.NoMem)) is follows = cc
  sound o (Err (ends.Fault plays.Resumed)) is follows = cc

  at : ((Damaged part ≡ NoMem) × (put ≡ [])) ⊎ IsFollowedBy n manner images saw (Damaged part) put → ⊥
  at (inl memory) = let is = memory.0 in cc
  at (inr is) = sound is.o is.answer is.status_is is.follows

pub shown_uncut : (words : List (List ℕ)) (n : ℕ) (manner : Manner) (images : ℕ → Image) (saw : List (List Item)) (put : List Item) (log : Stored) → AsksToFollowLog words n manner → ((k : ℕ) → Replays (images k) n (Some log)) → Answers words images saw Resumed put → ⊥
shown_uncut words n manner images saw put log asks holds answers = at (followed words n manner images saw Resumed put asks answers) where
  uncut : (o : Options) (r : Result (Unit {0}) FollowEnd) → Resumed ≡ of_following r → Follows o n images saw r put → ⊥
  uncut o (Ok end) is follows = cc
  uncut o (Err (ends.Resumed seen now)) is follows = followed_uncut o n images saw put log holds (Unit {0}) seen now follows
  uncut o (Err ends.Quiet) is follows = cc
  uncut o (Err ends.Removed) is follows = cc
  uncut o (Err (ends.Fault plays.Absent)) is follows = cc
  uncut o (Err (ends.Fault (plays.Damaged part))) is follows = cc
  uncut o (Err (ends.Fault plays.Disk)) is follows = cc
  uncut o (Err (ends.Fault plays.Screen)) is follows = cc
  uncut o (Err (ends.Fault plays.NoMem)) is follows = cc
  uncut o (Err (ends.Fault plays.Resumed)) is follows = followed_unplayed (Unit {0}) o n images saw put follows

  at : ((Resumed ≡ NoMem) × (put ≡ [])) ⊎ IsFollowedBy n manner images saw Resumed put → ⊥
  at (inl memory) = let is = memory.0 in cc
  at (inr is) = uncut is.o is.answer is.status_is is.follows

pub shown_kept : (words : List (List ℕ)) (n : ℕ) (manner : Manner) (images : ℕ → Image) (saw : List (List Item)) (put : List Item) (log : Stored) → AsksToFollowLog words n manner → ((k : ℕ) → Replays (images k) n (Some log)) → Answers words images saw Removed put → ⊥
shown_kept words n manner images saw put log asks holds answers = at (followed words n manner images saw Removed put asks answers) where
  kept : (o : Options) (r : Result (Unit {0}) FollowEnd) → Removed ≡ of_following r → Follows o n images saw r put → ⊥
  kept o (Ok end) is follows = cc
  kept o (Err (ends.Resumed seen now)) is follows = cc
  kept o (Err ends.Quiet) is follows = cc
  kept o (Err ends.Removed) is follows = followed_kept o n images saw put log holds (Unit {0}) follows
  kept o (Err (ends.Fault plays.Absent)) is follows = cc
  kept o (Err (ends.Fault (plays.Damaged part))) is follows = cc
  kept o (Err (ends.Fault plays.Disk)) is follows = cc
  kept o (Err (ends.Fault plays.Screen)) is follows = cc
  kept o (Err (ends.Fault plays.NoMem)) is follows = cc
  kept o (Err (ends.Fault plays.Resumed)) is follows = cc

  at : ((Removed ≡ NoMem) × (put ≡ [])) ⊎ IsFollowedBy n manner images saw Removed put → ⊥
  at (inl memory) = let is = memory.0 in cc
  at (inr is) = kept is.o is.answer is.status_is is.follows
