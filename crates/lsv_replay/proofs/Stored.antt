-- A log that the disk holds is shown as it is.
use Rattle.std.proofs.Common.{◌≡◌, ◌⊎◌, inl, inr, ℕ, List, [], Option, Some, Result, Ok, Err, subst}
use Rattle.lsv_base.specs.LogNo.{log_no_in}
use Rattle.lsv_disk.specs.declared.file.Part.{Part}
use Rattle.lsv_disk.specs.View.{Image}
use Rattle.lsv_iolog.specs.Recovered.{Replays}
use Rattle.lsv_play.specs.declared.options.Options.{Options}
use Rattle.lsv_play.specs.declared.screen.Item.{Item}
use Rattle.lsv_play.specs.Items.{IsPart}
use Rattle.lsv_play.specs.Schedule.{play}
use Rattle.lsv_play.specs.declared.fault.PlayFault.{PlayFault}
use Rattle.lsv_play.specs.declared.fault.PlayFault.TheVariants as plays
use Rattle.lsv_play.specs.Playing.{Plays}
use Rattle.lsv_play.proofs.Stored.{played_uncut, stored_part, stored_there, stored_whole}
use Rattle.lsv_play.proofs.Undamaged.{stored_undamaged}
use Rattle.lsv_record.specs.Points.{Stored}
use Rattle.lsv_replay_args.specs.Asked.{manner_in}
use Rattle.lsv_replay_args.specs.Request.{Asked, Manner, Play}
use Rattle.lsv_replay.specs.Replay.{Answers, AsksForLog, Does, PlaysNumber}
use Rattle.lsv_replay.specs.Status.{of_playing}
use Rattle.lsv_replay.specs.declared.status.ReplayStatus.{ReplayStatus}
use Rattle.lsv_replay.specs.declared.status.ReplayStatus.TheVariants.{Shown, Damaged, Resumed, Absent, NoMem}
use Rattle.lsv_replay.proofs.Replayed.{not_both, one_asked}

-- what is put of a log is put by its playing, if the run didn't end before
record IsPlayed (n : ℕ) (manner : Manner) (image : Image) (status : ReplayStatus) (put : List Item) : Type 0 where
  o : Options
  manner_is : manner_in o ≡ manner
  answer : Result (Unit {0}) PlayFault
  status_is : status ≡ of_playing answer
  plays : Plays o n image answer put

played_number : (n : ℕ) (manner : Manner) (number : Option ℕ) (image : Image) (status : ReplayStatus) (put : List Item) → number ≡ Some n → PlaysNumber manner number image status put → IsPlayed n manner image status put
played_number n manner number image status put is does = at (subst (λ (k : Option ℕ). PlaysNumber manner k image status put) is does) where
  at : PlaysNumber manner (Some n) image status put → IsPlayed n manner image status put
  at (o, manner_is, (answer, status_is, plays)) = record { o = o; manner_is = manner_is; answer = answer; status_is = status_is; plays = plays }

played : (words : List (List ℕ)) (n : ℕ) (manner : Manner) (images : ℕ → Image) (saw : List (List Item)) (status : ReplayStatus) (put : List Item) → AsksForLog words n manner → Answers words images saw status put
    → ((status ≡ NoMem) × (put ≡ [])) ⊎ IsPlayed n manner (images 0) status put
played words n manner images saw status put asks (inl usage) = absurd (not_both words (Play asks.dir manner asks.id) usage.0 asks.asks)
played words n manner images saw status put asks (inr (inl memory)) = inl memory
played words n manner images saw status put asks (inr (inr (asked, asked_is, does))) =
    inr (played_number n manner (log_no_in asks.id) (images 0) status put asks.number
    (subst (λ (a : Asked). Does a images saw status put) (one_asked words asked (Play asks.dir manner asks.id) asked_is asks.asks) does))

pub shown_part : (words : List (List ℕ)) (n : ℕ) (manner : Manner) (images : ℕ → Image) (saw : List (List Item)) (status : ReplayStatus) (put : List Item) (log : Stored) → AsksForLog words n manner → Replays (images 0) n (Some log) → Answers words images saw status put
    → (put ≡ []) ⊎ ((o : Options) × (manner_in o ≡ manner) × IsPart put (play o log.records))
shown_part words n manner images saw status put log asks holds answers = at (played words n manner images saw status put asks answers) where
  at : ((status ≡ NoMem) × (put ≡ [])) ⊎ IsPlayed n manner (images 0) status put → (put ≡ []) ⊎ ((o : Options) × (manner_in o ≡ manner) × IsPart put (play o log.records))
  at (inl memory) = inl memory.1
  at (inr is) = inr (is.o, is.manner_is, stored_part is.o n (images 0) is.answer put log holds is.plays)

pub shown_whole : (words : List (List ℕ)) (n : ℕ) (manner : Manner) (images : ℕ → Image) (saw : List (List Item)) (put : List Item) (log : Stored) → AsksForLog words n manner → Replays (images 0) n (Some log) → Answers words images saw Shown put
    → (o : Options) × (manner_in o ≡ manner) × (put ≡ play o log.records)
shown_whole words n manner images saw put log asks holds answers = at (played words n manner images saw Shown put asks answers) where
  whole : (o : Options) (r : Result (Unit {0}) PlayFault) → Shown ≡ of_playing r → Plays o n (images 0) r put → put ≡ play o log.records
  whole o (Ok end) is plays = stored_whole o n (images 0) end put log holds plays
  whole o (Err plays.Absent) is plays = absurd (cc)
  whole o (Err (plays.Damaged part)) is plays = absurd (cc)
  whole o (Err plays.Disk) is plays = absurd (cc)
  whole o (Err plays.Screen) is plays = absurd (cc)
  whole o (Err plays.NoMem) is plays = absurd (cc)
  whole o (Err plays.Resumed) is plays = absurd (cc)

  at : ((Shown ≡ NoMem) × (put ≡ [])) ⊎ IsPlayed n manner (images 0) Shown put → (o : Options) × (manner_in o ≡ manner) × (put ≡ play o log.records)
  at (inl memory) = absurd (let is = memory.0 in let no_ : ⊥ = cc in no_)
  at (inr is) = (is.o, is.manner_is, whole is.o is.answer is.status_is is.plays)

pub shown_there : (words : List (List ℕ)) (n : ℕ) (manner : Manner) (images : ℕ → Image) (saw : List (List Item)) (put : List Item) (log : Stored) → AsksForLog words n manner → Replays (images 0) n (Some log) → Answers words images saw Absent put → ⊥
shown_there words n manner images saw put log asks holds answers = at (played words n manner images saw Absent put asks answers) where
  there : (o : Options) (r : Result (Unit {0}) PlayFault) → Absent ≡ of_playing r → Plays o n (images 0) r put → ⊥
  there o (Ok end) is plays = cc
  there o (Err plays.Absent) is plays = stored_there (Unit {0}) o n (images 0) put log holds plays
  there o (Err (plays.Damaged part)) is plays = cc
  there o (Err plays.Disk) is plays = cc
  there o (Err plays.Screen) is plays = cc
  there o (Err plays.NoMem) is plays = cc
  there o (Err plays.Resumed) is plays = cc

  at : ((Absent ≡ NoMem) × (put ≡ [])) ⊎ IsPlayed n manner (images 0) Absent put → ⊥
  at (inl memory) = let is = memory.0 in cc
  at (inr is) = there is.o is.answer is.status_is is.plays

pub shown_undamaged : (words : List (List ℕ)) (n : ℕ) (manner : Manner) (images : ℕ → Image) (saw : List (List Item)) (put : List Item) (log : Stored) (part : Part) → AsksForLog words n manner → Replays (images 0) n (Some log) → Answers words images saw (Damaged part) put → ⊥
shown_undamaged words n manner images saw put log part asks holds answers = at (played words n manner images saw (Damaged part) put asks answers) where
  whole : (o : Options) (r : Result (Unit {0}) PlayFault) → Damaged part ≡ of_playing r → Plays o n (images 0) r put → ⊥
  whole o (Ok end) is plays = cc
  whole o (Err plays.Absent) is plays = cc
  whole o (Err (plays.Damaged other)) is plays = stored_undamaged (Unit {0}) o n (images 0) put log other holds plays
  whole o (Err plays.Disk) is plays = cc
  whole o (Err plays.Screen) is plays = cc
  whole o (Err plays.NoMem) is plays = cc
  whole o (Err plays.Resumed) is plays = cc

  at : ((Damaged part ≡ NoMem) × (put ≡ [])) ⊎ IsPlayed n manner (images 0) (Damaged part) put → ⊥
  at (inl memory) = let is = memory.0 in cc
  at (inr is) = whole is.o is.answer is.status_is is.plays

pub shown_uncut : (words : List (List ℕ)) (n : ℕ) (manner : Manner) (images : ℕ → Image) (saw : List (List Item)) (put : List Item) → AsksForLog words n manner → Answers words images saw Resumed put → ⊥
shown_uncut words n manner images saw put asks answers = at (played words n manner images saw Resumed put asks answers) where
  uncut : (o : Options) (r : Result (Unit {0}) PlayFault) → Resumed ≡ of_playing r → Plays o n (images 0) r put → ⊥
  uncut o (Ok end) is plays = cc
  uncut o (Err plays.Absent) is plays = cc
  uncut o (Err (plays.Damaged other)) is plays = cc
  uncut o (Err plays.Resumed) is plays = played_uncut (Unit {0}) o n (images 0) put plays
  uncut o (Err plays.Disk) is plays = cc
  uncut o (Err plays.Screen) is plays = cc
  uncut o (Err plays.NoMem) is plays = cc

  at : ((Resumed ≡ NoMem) × (put ≡ [])) ⊎ IsPlayed n manner (images 0) Resumed put → ⊥
  at (inl memory) = let is = memory.0 in cc
  at (inr is) = uncut is.o is.answer is.status_is is.plays
