-- To whom a lane replies.
use Rattle.std.proofs.Common.{◌≡◌, ◌≢◌, inl, inr, ◌++◌, ◌∷◌, [], List, ℕ, true, false, refl, sym, ap, subst, ◌∙◌, append_assoc}
use Rattle.std.specs.Prelude.{map}
use Rattle.std.specs.List.{AllByRecursion, flat_map, list_any}
use Rattle.std.proofs.lemmas.List.{map-append}
use Rattle.lsv_disk.specs.View.{DiskView}
use Rattle.lsv_session.specs.Connections.{same}
use Rattle.lsv_session.specs.Transcript.{bodies_of}
use Rattle.lsv_session.specs.declared.connection.ConnId.{ConnId}
use Rattle.lsv_session.specs.declared.job.Body.{Body}
use Rattle.lsv_session.specs.declared.job.Job.{Job}
use Rattle.lsv_session.specs.declared.reply.Reply.{Reply}
use Rattle.lsv_session.specs.declared.reply.ReplyBody.TheVariants as reply
use Rattle.lsv_machine.specs.Answers.{Answer, Saying, Saying.LogId, Saying.CommitPoint, Saying.Error, Saying.Shut, body_of, reply_of}
use Rattle.lsv_machine.specs.Failures.{Act}
use Rattle.lsv_machine.specs.Machine.{Settings}
use Rattle.lsv_machine.specs.Recovery.{Turn, all_turns}
use Rattle.lsv_machine.specs.Silence.{EndsWithGone, NoJobs, NoneTo, NothingTo}
use Rattle.lsv_machine.specs.Stands.{Sound}
use Rattle.lsv_machine.specs.Turns.{Happened, Happened.Did, Happened.Tailed, Happened.Begins, Tail, turn_of}
use Rattle.lsv_machine.proofs.Choices.{SameOr.alike, SameOr.apart, same_or}
use Rattle.lsv_machine.proofs.RunLaws.{starts_sound}
use Rattle.lsv_machine.proofs.Silent.{none_append, silence}
use Rattle.lsv_keeper.specs.Causes.{AnyIsOf}
use Rattle.lsv_keeper.specs.Value.{KeeperView}
use Rattle.lsv_turn.specs.Turns as lane_turns
use Rattle.lsv_turn.specs.Turns.{AreAskedIn, IsToThese, LaneTurn, NoneFor, jobs_in, replies_in}
use Rattle.lsv_lane.specs.InnerLane.{Standing}
use Rattle.lsv_lane.specs.Store.{AreTurns}
use Rattle.lsv_lane.proofs.Silences.{Behind, BehindIn, behind_append, behind_in}

-- ---- What a history brings and tells

abbrev brought : List Happened → List Job
brought [] = []
brought (Did act ∷ h) = act.job ∷ brought h
brought (Tailed tail ∷ h) = brought h
brought (Begins texts ∷ h) = brought h

abbrev told : List Happened → List Answer
told [] = []
told (Did act ∷ h) = act.answers ++ told h
told (Tailed tail ∷ h) = tail.answers ++ told h
told (Begins texts ∷ h) = told h

turn_brought : (acts : List Act) (tail : Tail) (h : List Happened) → brought (turn_of acts tail ++ h) ≡ map (λ act. act.job) acts ++ brought h
turn_brought [] tail h = refl
turn_brought (act ∷ acts) tail h = ap (λ (l : List Job). act.job ∷ l) (turn_brought acts tail h)

turn_told : (acts : List Act) (tail : Tail) (h : List Happened) → told (turn_of acts tail ++ h) ≡ (flat_map (λ act. act.answers) acts ++ tail.answers) ++ told h
turn_told [] tail h = refl
turn_told (act ∷ acts) tail h =
    ap (λ (l : List Answer). act.answers ++ l) (turn_told acts tail h) ∙ sym (append_assoc act.answers (flat_map (λ act. act.answers) acts ++ tail.answers) (told h))
    ∙ ap (λ (l : List Answer). l ++ told h) (sym (append_assoc act.answers (flat_map (λ act. act.answers) acts) tail.answers))

all_brought : (lane : List LaneTurn) (turns : List Turn) → AreTurns lane turns → jobs_in lane ≡ brought (all_turns turns)
all_brought [] [] are = refl
all_brought [] (turn ∷ turns) are = absurd are
all_brought (t ∷ lane) [] are = absurd are
all_brought (t ∷ lane) (turn ∷ turns) are =
    ap (λ (l : List Job). l ++ jobs_in lane) (sym are.0.jobs) ∙ ap (λ (l : List Job). map (λ act. act.job) turn.acts ++ l) (all_brought lane turns are.1) ∙ sym (turn_brought turn.acts turn.tail (all_turns turns))

all_told : (lane : List LaneTurn) (turns : List Turn) → AreTurns lane turns → replies_in lane ≡ map reply_of (told (all_turns turns))
all_told [] [] are = refl
all_told [] (turn ∷ turns) are = absurd are
all_told (t ∷ lane) [] are = absurd are
all_told (t ∷ lane) (turn ∷ turns) are =
    ap (λ (l : List Reply). l ++ replies_in lane) (sym are.0.replies) ∙ ap (λ (l : List Reply). map reply_of (flat_map (λ act. act.answers) turn.acts ++ turn.tail.answers) ++ l) (all_told lane turns are.1)
    ∙ sym (map-append reply_of (flat_map (λ act. act.answers) turn.acts ++ turn.tail.answers) (told (all_turns turns))) ∙ ap (map reply_of) (sym (turn_told turn.acts turn.tail (all_turns turns)))

-- ---- Jobs

first_none : (xs ys : List Body) → xs ++ ys ≡ [] → xs ≡ []
first_none [] ys e = refl
first_none (x ∷ xs) ys e = absurd (cc)

no_jobs : (k : ConnId) (h : List Happened) → bodies_of k (brought h) ≡ [] → NoJobs k h
no_jobs k [] e = tt
no_jobs k (Did act ∷ h) e = elim (same_or act.job.conn k) [
  | alike is t ↦ absurd (let x : act.job.body ∷ bodies_of k (brought h) ≡ [] = rw t at e in cc)
  | apart ne t ↦ (ne, no_jobs k h (rw t at e))
]
no_jobs k (Tailed tail ∷ h) e = no_jobs k h e
no_jobs k (Begins texts ∷ h) e = no_jobs k h e

ends_with_gone : (k : ConnId) (h : List Happened) → lane_turns.EndsWithGone (bodies_of k (brought h)) → EndsWithGone k h
ends_with_gone k [] e = tt
ends_with_gone k (Did act ∷ h) e = elim (same_or act.job.conn k) [
  | alike is t ↦ let x : lane_turns.EndsWithGone (act.job.body ∷ bodies_of k (brought h)) = rw t at e in ((λ p gone. no_jobs k h (x.0 gone)), ends_with_gone k h x.1)
  | apart ne t ↦ ((λ p gone. absurd (ne p)), ends_with_gone k h (rw t at e))
]
ends_with_gone k (Tailed tail ∷ h) e = ends_with_gone k h e
ends_with_gone k (Begins texts ∷ h) e = ends_with_gone k h e

-- ---- Answers

none_told : (k : ConnId) (h : List Happened) → NothingTo k h → NoneTo k (told h)
none_told k [] n = tt
none_told k (Did act ∷ h) n = none_append k act.answers (told h) n.0 (none_told k h n.1)
none_told k (Tailed tail ∷ h) n = none_append k tail.answers (told h) n.0 (none_told k h n.1)
none_told k (Begins texts ∷ h) n = none_told k h n

none_for : (k : ConnId) (answers : List Answer) → NoneTo k answers → NoneFor k (map reply_of answers)
none_for k [] n = tt
none_for k (a ∷ answers) n = elim (same_or a.conn k) [
  | alike is t ↦ absurd (n.0 is)
  | apart ne t ↦ (t, none_for k answers n.1)
]

behind_told : (k : ConnId) (h : List Happened) → BehindIn k h → Behind k (told h)
behind_told k [] b = tt
behind_told k (Did act ∷ h) b = behind_append k act.answers (told h) b.0 (behind_told k h b.2) (λ s. none_told k h (b.1 s))
behind_told k (Tailed tail ∷ h) b = behind_append k tail.answers (told h) b.0 (behind_told k h b.2) (λ s. none_told k h (b.1 s))
behind_told k (Begins texts ∷ h) b = behind_told k h b

says_shut : (s : Saying) → body_of s ≡ reply.Shut → s ≡ Shut
says_shut (LogId n) e = absurd (cc)
says_shut (CommitPoint c) e = absurd (cc)
says_shut (Error why) e = absurd (cc)
says_shut Shut e = refl

-- after a Shut among replies none is to its connection
behind_said : (k : ConnId) (answers : List Answer) (before after : List Reply) (r : Reply) → Behind k answers → map reply_of answers ≡ before ++ r ∷ after → same r.conn k ≡ true → r.body ≡ reply.Shut → NoneFor k after
behind_said k [] [] after r b e is shut = absurd (cc)
behind_said k [] (x ∷ before) after r b e is shut = absurd (cc)
behind_said k (a ∷ answers) [] after r b e is shut =
    let head : reply_of a ≡ r = cc in
    let rest : map reply_of answers ≡ after = cc in
    let conn : a.conn ≡ r.conn = ap (λ (x : Reply). x.conn) head in
    let to : a.conn ≡ k = elim (same_or r.conn k) [ alike p t ↦ conn ∙ p | apart ne t ↦ absurd (cc) ] in
    let says : a.says ≡ Shut = says_shut a.says (ap (λ (x : Reply). x.body) head ∙ shut) in
    subst (λ (l : List Reply). NoneFor k l) rest (none_for k answers (b.0 to says))
behind_said k (a ∷ answers) (x ∷ before) after r b e is shut = let rest : map reply_of answers ≡ before ++ r ∷ after = cc in behind_said k answers before after r b.1 rest is shut

-- ---- A lane

module _ (set : Settings) (texts : List (List ℕ)) (found now : DiskView) (v : KeeperView) (turns : List LaneTurn) (k : ConnId) (s : Standing set texts found now v turns) where
  abbrev h : List Happened
  h = all_turns s.story.turns

  sound : Sound set s.so_far.ran.start
  sound = starts_sound set texts s.so_far.ran.start s.so_far.ran.starts

  says_to_who_asks : bodies_of k (jobs_in turns) ≡ [] → NoneFor k (replies_in turns)
  says_to_who_asks none =
      let jobs : NoJobs k h = no_jobs k h (ap (bodies_of k) (sym (all_brought turns s.story.turns s.same)) ∙ none) in
      let start = s.so_far.ran.starts in
      let noted : list_any (same k) s.so_far.ran.start.noting ≡ false = ap (list_any (same k)) start.nobody_noted in
      let quiet = silence set k h s.so_far.ran.start s.machine sound (inr (start.unknown k, noted, jobs)) s.so_far.ran.run in
      subst (λ (l : List Reply). NoneFor k l) (sym (all_told turns s.story.turns s.same)) (none_for k (told h) (none_told k h quiet))

  says_nothing_behind_a_shut : (before after : List Reply) (r : Reply) → lane_turns.EndsWithGone (bodies_of k (jobs_in turns)) → replies_in turns ≡ before ++ r ∷ after → same r.conn k ≡ true → r.body ≡ reply.Shut → NoneFor k after
  says_nothing_behind_a_shut before after r ends are is shut =
      let e : EndsWithGone k h = ends_with_gone k h (subst (λ (l : List Job). lane_turns.EndsWithGone (bodies_of k l)) (all_brought turns s.story.turns s.same) ends) in
      let b = behind_told k h (behind_in set k h s.so_far.ran.start s.machine sound e s.so_far.ran.run) in
      behind_said k (told h) before after r b (sym (all_told turns s.story.turns s.same) ∙ are) is shut

pub are_asked : (set : Settings) (texts : List (List ℕ)) (found now : DiskView) (v : KeeperView) (turns : List LaneTurn) → Standing set texts found now v turns → AreAskedIn turns
are_asked set texts found now v turns s = record {
  asked = λ k none. says_to_who_asks set texts found now v turns k s none;
  behind = λ k before after r ends are is shut. says_nothing_behind_a_shut set texts found now v turns k s before after r ends are is shut;
}

-- ---- A turn, over every disk

-- a connection of a job brought something
brought_some : (jobs : List Job) (k : ConnId) → AnyIsOf jobs k → bodies_of k jobs ≢ []
brought_some [] k is none = absurd is
brought_some (job ∷ jobs) k (inl same_conn) none = elim (same_or job.conn k) [
  | alike is t ↦ (let x : job.body ∷ bodies_of k jobs ≡ [] = rw t at none in absurd (cc))
  | apart ne t ↦ absurd (ne same_conn)
]
brought_some (job ∷ jobs) k (inr more) none = elim (same_or job.conn k) [
  | alike is t ↦ (let x : job.body ∷ bodies_of k jobs ≡ [] = rw t at none in absurd (cc))
  | apart ne t ↦ brought_some jobs k more (rw t at none)
]

-- if each of these replies is to the connection of one of these jobs, none is to a connection that brought none
pub to_these : (jobs : List Job) (replies : List Reply) → AllByRecursion (λ r. AnyIsOf jobs r.conn) replies → IsToThese jobs replies
to_these jobs [] all k none = tt
to_these jobs (r ∷ replies) all k none = elim (same_or r.conn k) [
  | alike is t ↦ absurd (brought_some jobs k (subst (AnyIsOf jobs) is all.0) none)
  | apart ne t ↦ (t, to_these jobs replies all.1 k none)
]
