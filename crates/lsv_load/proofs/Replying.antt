-- To whom the replies of a load go, and of which numbers those to one connection tell.
use Rattle.std.proofs.Common.{◌≡◌, ◌≤◌, ℕ, suc, Bool, true, false, List, [], ◌∷◌, ◌++◌, cond, map, Some, refl, sym, ◌∙◌, ap, subst, inr, arith}
use Rattle.std.specs.Prelude.{Contains}
use Rattle.std.specs.List.{flat_map, list_any}
use Rattle.std.proofs.lemmas.Grind.{flat_map-append}
use Rattle.lsv_base.specs.LogNo.{digits_of, log_no_in}
use Rattle.lsv_disk.specs.View.{DiskView}
use Rattle.lsv_msg.specs.declared.messages.ServerMessage.{ServerMessage}
use Rattle.lsv_session.specs.Transcript.{bodies_of, messages_in, said_to}
use Rattle.lsv_session.specs.declared.connection.ConnId.{ConnId}
use Rattle.lsv_session.specs.declared.job.Body.{Body}
use Rattle.lsv_session.specs.declared.job.Job.{Job}
use Rattle.lsv_session.specs.declared.reply.Reply.{Reply}
use Rattle.lsv_session.specs.declared.reply.ReplyBody.{ReplyBody}
use Rattle.lsv_session.specs.declared.reply.ReplyBody.TheVariants.{Say, Shut}
use Rattle.lsv_machine.specs.Answers.{Answer, Saying.CommitPoint, reply_of}
use Rattle.lsv_machine.specs.Failures.{Act}
use Rattle.lsv_machine.specs.Legal.{all_answers, points, told_of}
use Rattle.lsv_machine.specs.Machine.{Settings, same}
use Rattle.lsv_machine.specs.Recovery.{Turn, all_turns}
use Rattle.lsv_machine.specs.Silence.{NoneTo, NothingTo}
use Rattle.lsv_machine.specs.Turns.{Happened, Tail, turn_of}
use Rattle.lsv_machine.proofs.Choices.{SameOr.alike, SameOr.apart, same_or, same_refl}
use Rattle.lsv_machine.proofs.RunLaws.{starts_sound}
use Rattle.lsv_machine.proofs.Silent.{none_append, silence}
use Rattle.lsv_turn.specs.Turns.{LaneTurn, NoneFor, jobs_in, replies_in}
use Rattle.lsv_lane.specs.Store.{KeepsStore}
use Rattle.lsv_service.specs.Complete.{messages_of}
use Rattle.lsv_service.proofs.Sent.{none_brought, replies_are}
use Rattle.lsv_load.specs.Numbers.{at_most_one, number_in, number_told}
use Rattle.lsv_load.proofs.Counting.{AreTo, told_to}

-- ---- Who is replied to

module _ (k : ConnId) where
  turn_none : (acts : List Act) (tail : Tail) (h : List Happened) → NothingTo k (turn_of acts tail ++ h) → NoneTo k (flat_map (λ act. act.answers) acts) × NoneTo k tail.answers × NothingTo k h
  turn_none [] tail h none = (tt, none.0, none.1)
  turn_none (act ∷ acts) tail h none = let rest = turn_none acts tail h none.1 in (none_append k act.answers (flat_map (λ a. a.answers) acts) none.0 rest.0, rest.1, rest.2)

  none_answered : (turns : List Turn) → NothingTo k (all_turns turns) → NoneTo k (all_answers turns)
  none_answered [] none = tt
  none_answered (t ∷ turns) none =
      let (acts, tail, rest) = turn_none t.acts t.tail (all_turns turns) none in
      none_append k (flat_map (λ act. act.answers) t.acts ++ t.tail.answers) (all_answers turns) (none_append k (flat_map (λ act. act.answers) t.acts) t.tail.answers acts tail) (none_answered turns rest)

  none_for : (answers : List Answer) → NoneTo k answers → NoneFor k (map reply_of answers)
  none_for [] none = tt
  none_for (a ∷ answers) none = elim (same_or a.conn k) [
    | alike is t ↦ absurd (none.0 is)
    | apart ne t ↦ (t, none_for answers none.1)
  ]

-- no reply goes to a connection that brought nothing
pub none_unasked : (set : Settings) (texts : List (List ℕ)) (found left : DiskView) (lane : List LaneTurn) (keeps : KeepsStore (Unit {0}) set texts (record { found = found; left = left }) lane) (k : ConnId) → bodies_of k (jobs_in lane) ≡ [] → NoneFor k (replies_in lane)
none_unasked set texts found left lane keeps k none =
    let conforms = keeps.conforms tt in
    let start = conforms.ran.start in
    let starts = conforms.ran.starts in
    let jobs = none_brought k lane keeps.story.turns keeps.are none in
    let noted : list_any (same k) start.noting ≡ false = ap (list_any (same k)) starts.nobody_noted in
    let quiet = silence set k (all_turns keeps.story.turns) start conforms.end (starts_sound set texts start starts) (inr (starts.unknown k, noted, jobs)) conforms.ran.run in
    subst (λ (rs : List Reply). NoneFor k rs) (sym (replies_are k lane keeps.story.turns keeps.are)) (none_for k (all_answers keeps.story.turns) (none_answered k keeps.story.turns quiet))

contains_next : (x job : Job) (jobs : List Job) → Contains jobs job → Contains (x ∷ jobs) job
contains_next x job jobs h = (suc h.0, omega (arith, h.1), h.2)

-- what a connection brought is of one of its jobs
some_job : (k : ConnId) (jobs : List Job) (b : Body) (bodies : List Body) → bodies_of k jobs ≡ b ∷ bodies → (job : Job) × Contains jobs job × (job.conn ≡ k)
some_job k [] b bodies e = absurd (cc)
some_job k (x ∷ jobs) b bodies e = elim (same_or x.conn k) [
  | alike is t ↦ (x, (0, omega arith, refl), is)
  | apart ne t ↦ let (job, here, is) = some_job k jobs b bodies (rw t at e) in (job, contains_next x job jobs here, is)
]

-- of which numbers a reply tells
abbrev pub tells : Reply → List ℕ
tells r = at_most_one (number_told r.body)

-- whether it is to the connection of a link
abbrev pub is_to : (ℕ → ConnId) → ℕ → Reply → Bool
is_to conn_at l r = same r.conn (conn_at l)

-- where each job is of the connection of a link, so is each reply
module _ (count : ℕ) (conn_at : ℕ → ConnId) (jobs : List Job) (known : (job : Job) → Contains jobs job → (l : ℕ) × (1 ≤ l) × (l ≤ count) × (job.conn ≡ conn_at l)) where
  one_to_link : (r : Reply) → (bodies_of r.conn jobs ≡ [] → same r.conn r.conn ≡ false) → (l : ℕ) × (1 ≤ l) × (l ≤ count) × (is_to conn_at l r ≡ true)
  one_to_link r asked = go (bodies_of r.conn jobs) refl
    where
      go : (bodies : List Body) → bodies_of r.conn jobs ≡ bodies → (l : ℕ) × (1 ≤ l) × (l ≤ count) × (is_to conn_at l r ≡ true)
      go [] e = absurd (let f : true ≡ false = sym (same_refl r.conn) ∙ asked e in cc)
      go (b ∷ bodies) e =
          let (job, here, is) = some_job r.conn jobs b bodies e in
          let (l, first, last, at) = known job here in
          (l, first, last, subst (λ (c : ConnId). same r.conn c ≡ true) (sym is ∙ at) (same_refl r.conn))

  pub to_links : (replies : List Reply) → ((k : ConnId) → bodies_of k jobs ≡ [] → NoneFor k replies) → AreTo tells (is_to conn_at) count replies
  to_links [] asked = tt
  to_links (r ∷ replies) asked = (one_to_link r (λ none. (asked r.conn none).0), to_links replies (λ k none. (asked k none).1))

-- ---- Of which numbers is told

-- of which numbers these messages tell
abbrev pub numbers_in : List ServerMessage → List ℕ
numbers_in messages = flat_map (λ m. at_most_one (number_in m)) messages

no_more : (numbers : List ℕ) → numbers ++ [] ≡ numbers
no_more [] = refl
no_more (n ∷ numbers) = ap (λ (ns : List ℕ). n ∷ ns) (no_more numbers)

said_numbers : (body : ReplyBody) → numbers_in (messages_in body) ≡ at_most_one (number_told body)
said_numbers (Say message) = no_more (at_most_one (number_in message))
said_numbers Shut = refl

-- the replies to a connection tell of the numbers of which the messages to it tell
pub told_is : (conn_at : ℕ → ConnId) (l : ℕ) (replies : List Reply) → told_to tells (is_to conn_at) l replies ≡ numbers_in (said_to (conn_at l) replies)
told_is conn_at l [] = refl
told_is conn_at l (r ∷ replies) = go (same r.conn (conn_at l)) (told_is conn_at l replies)
  where
    go : (b : Bool) → told_to tells (is_to conn_at) l replies ≡ numbers_in (said_to (conn_at l) replies)
        → cond b (tells r) [] ++ told_to tells (is_to conn_at) l replies ≡ numbers_in ((cond b (messages_in r.body) []) ++ said_to (conn_at l) replies)
    go true rest =
        ap (λ (ns : List ℕ). tells r ++ ns) rest
        ∙ (ap (λ (ns : List ℕ). ns ++ numbers_in (said_to (conn_at l) replies)) (sym (said_numbers r.body)) ∙ sym (flat_map-append (λ m. at_most_one (number_in m)) (messages_in r.body) (said_to (conn_at l) replies)))
    go false rest = rest

no_numbers : (points : List ℕ) → numbers_in (messages_of (map (λ point. CommitPoint point) points)) ≡ []
no_numbers [] = refl
no_numbers (point ∷ points) = no_numbers points

-- what a legal conversation is told names one number
pub told_one : (n : ℕ) (turns : List (List Body)) → log_no_in (digits_of n) ≡ Some n → numbers_in (messages_of (told_of n turns)) ≡ n ∷ []
told_one n turns is =
    ap (λ (ns : List ℕ). at_most_one (log_no_in (digits_of n)) ++ ns) (no_numbers (points [] turns)) ∙ (no_more (at_most_one (log_no_in (digits_of n))) ∙ ap at_most_one is)
