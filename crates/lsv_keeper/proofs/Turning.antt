-- A turn: its jobs, one after another, and its end.
use Rattle.std.proofs.Common.{◌≡◌, ◌≤◌, ◌+◌, ◌*◌, ℕ, List, [], ◌∷◌, ◌++◌, length, map, refl, sym, ◌∙◌, ap, subst, inl, inr, arith, append_assoc, append-nil}
use Rattle.std.specs.Prelude.{Contains}
use Rattle.std.proofs.lemmas.List.{length_push}
use Rattle.lsv_base.specs.declared.time.TimeSpec.{TimeSpec}
use Rattle.lsv_disk.specs.View.{DiskView}
use Rattle.lsv_disk.specs.declared.file.Owner.{Owner}
use Rattle.lsv_disk.specs.declared.file.Owner.TheVariants as owners
use Rattle.lsv_session.specs.declared.job.Job.{Job}
use Rattle.lsv_session.specs.declared.reply.Reply.{Reply}
use Rattle.lsv_machine.specs.Answers.{Answer, reply_of}
use Rattle.lsv_machine.specs.Durable.{Reading}
use Rattle.lsv_machine.specs.Keeping.{Acted, TailEnded}
use Rattle.lsv_machine.specs.Machine.{Machine, Settings}
use Rattle.lsv_machine.specs.Tails.{LinesEnded, LogsEnded, NoneFailed, joined}
use Rattle.lsv_machine.specs.Turns.{Tail}
use Rattle.lsv_machine.proofs.EventLines.{end_fresh}
use Rattle.lsv_machine.proofs.Folds.{going_ends, going_more, going_none}
use Rattle.lsv_machine.proofs.TailFolds.{tail_ends}
use Rattle.lsv_keeper.specs.Reading.{reading_of}
use Rattle.lsv_keeper.specs.Represents.{Represents}
use Rattle.lsv_keeper.specs.Rows.{RowGives, AnswersWith}
use Rattle.lsv_keeper.specs.Tails.{IsOneOf, JobGives, JobsGive, LinesGive, LogsGive, TurnGives, none_waits}
use Rattle.lsv_keeper.specs.Value.{Keeps, KeeperView, SameSet, owed, room, settings_of}
use Rattle.lsv_keeper.specs.declared.outcome.Outcome.{Outcome}
use Rattle.lsv_keeper.proofs.Frames.{Laws}
use Rattle.lsv_keeper.proofs.Numbering.{numbers_fit}
use Rattle.lsv_keeper.proofs.TailLoops.{replies_joined, same_settings, set_on}

-- ---- One job

-- a row whose answers were put at the end
pub job_given : (v v' : KeeperView) (now : TimeSpec) (job : Job) (t : Outcome) (answers : List Answer) (m : Machine) (said said' : List Reply) (old new : DiskView) → RowGives v now job t m v' old new → AnswersWith job.conn t answers
    → said' ≡ said ++ map reply_of answers → JobGives v now job m said said' v' old new
job_given v v' now job t answers m said said' old new row tells told =
    let (after, acted, at) = row answers tells in
    record { replies = map reply_of answers; after = after; told = told; acted = acted; represents = at }

-- ---- A keeper that is set as before

-- what is said of a keeper's settings is so of those of one that is set as it
pub set_moved : (v v' : KeeperView) → SameSet v v' → (P : Reading → Settings → Type 0) → P (reading_of v'.lane v'.lanes) (settings_of v') → P (reading_of v.lane v.lanes) (settings_of v)
set_moved v v' s P x =
    subst (λ (set : Settings). P (reading_of v.lane v.lanes) set) (same_settings v v' s)
    (subst (λ (lanes : ℕ). P (reading_of v.lane lanes) (settings_of v')) s.lanes
    (subst (λ (lane : ℕ). P (reading_of lane v'.lanes) (settings_of v')) s.lane x))

pub same_set : (v : KeeperView) → SameSet v v
same_set v = record { lane = refl; lanes = refl; log_exit = refl; kind = refl; texts = refl }

pub kept_set : (v v' : KeeperView) → Keeps v v' → SameSet v v'
kept_set v v' k = record { lane = k.lane; lanes = k.lanes; log_exit = k.log_exit; kind = k.kind; texts = k.texts }

-- ---- One job after another

-- these jobs of a turn are done
pub record Answering (told : Type 0) (now : TimeSpec) (done : List Job) (v v' : KeeperView) (was left : ℕ) (said said' : List Reply) (old new : DiskView) : Type 0 where
  pub set : SameSet v v'
  pub owed_is : owed v' ≤ owed v + 2 * length done
  pub places : room v ≤ room v' + length done
  pub replies : was ≤ left + 2 * length done
  pub jobs : told → (m : Machine) → Represents v old m → JobsGive v now done m said said' v' old new

pub answering_start : (told : Type 0) (now : TimeSpec) (v : KeeperView) (was : ℕ) (said : List Reply) (disk : DiskView) → (told → Laws disk) → Answering told now [] v v was was said said disk disk
answering_start told now v was said disk laws = record {
  set = same_set v;
  owed_is = omega arith;
  places = omega arith;
  replies = omega arith;
  jobs = λ t m at. record {
    replies = [];
    after = m;
    told = sym (append-nil said);
    going = going_none (reading_of v.lane v.lanes) (settings_of v) now m disk (laws t).only_now (numbers_fit v disk m at);
    represents = at;
  };
}

pub answering_on : (told : Type 0) (now : TimeSpec) (done : List Job) (job : Job) (v v' v'' : KeeperView) (was left later : ℕ) (said said' said'' : List Reply) (one two three : DiskView)
    → Answering told now done v v' was left said said' one two → Keeps v' v'' → left ≤ later + 2 → (told → (m : Machine) → Represents v' two m → JobGives v' now job m said' said'' v'' two three)
    → Answering told now (done ++ job ∷ []) v v'' was later said said'' one three
answering_on told now done job v v' v'' was left later said said' said'' one two three a keeps fewer gives = record {
  set = set_on v v' v'' a.set (kept_set v' v'' keeps);
  owed_is = let x = a.owed_is in let y = keeps.owed in let n = length_push done job in omega arith;
  places = let x = a.places in let y = keeps.room_is in let n = length_push done job in omega arith;
  replies = let x = a.replies in let n = length_push done job in omega arith;
  jobs = λ t m at.
      let d = a.jobs t m at in
      let j = gives t d.after d.represents in
      let acted : Acted (reading_of v.lane v.lanes) (settings_of v) now job j.replies d.after j.after two three =
      set_moved v v' a.set (λ (r : Reading) (set : Settings). Acted r set now job j.replies d.after j.after two three) j.acted in
      record {
        replies = d.replies ++ j.replies;
        after = j.after;
        told = j.told ∙ ap (λ (x : List Reply). x ++ j.replies) d.told ∙ append_assoc said d.replies j.replies;
        going = going_more (reading_of v.lane v.lanes) (settings_of v) now done job d.replies j.replies m d.after j.after one two three d.going acted at.sound;
        represents = j.represents;
      };
}

-- ---- The whole turn

of_each : (ns : List ℕ) (failed : List Owner) → ((n : ℕ) → IsOneOf n ns → Contains failed (owners.Log n) → ⊥) → NoneFailed ns failed
of_each [] failed none = tt
of_each (n ∷ ns) failed none = (none n (inl refl), of_each ns failed (λ i is. none i (inr is)))

pub turn_given : (v one two three : KeeperView) (now : TimeSpec) (jobs : List Job) (m : Machine) (said first second third : List Reply) (old after_jobs after_lines new : DiskView) → Represents v old m → SameSet v one → SameSet one two
    → (j : JobsGive v now jobs m said first one old after_jobs) → (l : LinesGive one j.after first second two after_jobs after_lines) → LogsGive l.after.waiting two l.after second third three after_lines new
    → TurnGives v now jobs m said third three old new
turn_given v one two three now jobs m said first second third old after_jobs after_lines new at s1 s2 j l g = record {
  replies = j.replies ++ map reply_of whole.answers;
  after = none_waits g.after;
  told = replies_joined first second third l.tail.answers g.tail.answers l.told g.told ∙ ap (λ (x : List Reply). x ++ map reply_of whole.answers) j.told ∙ append_assoc said j.replies (map reply_of whole.answers);
  turned = going_ends r set now jobs j.replies whole m j.after (none_waits g.after) old after_jobs new at.sound j.going ends;
  no_line = end_fresh set whole j.after (none_waits g.after) ends.ended.ends;
  represents = g.represents;
}
  where
    r : Reading
    r = reading_of v.lane v.lanes

    set : Settings
    set = settings_of v

    whole : Tail
    whole = joined l.tail g.tail

    lines : LinesEnded r set l.tail j.after l.after after_jobs after_lines
    lines = set_moved v one s1 (λ (x : Reading) (y : Settings). LinesEnded x y l.tail j.after l.after after_jobs after_lines) l.ended

    logs : LogsEnded r set l.after.waiting g.tail l.after g.after after_lines new
    logs = set_moved v two (set_on v one two s1 s2) (λ (x : Reading) (y : Settings). LogsEnded x y l.after.waiting g.tail l.after g.after after_lines new) g.ended

    apart : Contains g.tail.failed (owners.Events v.lane) → ⊥
    apart c = let (n, e, is) = g.own (owners.Events v.lane) c in let x : owners.Events v.lane ≡ owners.Log n = e in cc

    ends : TailEnded r set whole j.after (none_waits g.after) after_jobs new
    ends = tail_ends r set l.tail g.tail j.after l.after g.after after_jobs after_lines new apart (of_each l.after.waiting l.tail.failed l.lost) lines logs
