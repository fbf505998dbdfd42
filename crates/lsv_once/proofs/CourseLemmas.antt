-- A tape with one turn more.
use Rattle.std.proofs.Common.{◌≡◌, ◌⊎◌, inl, inr, ◌++◌, ◌∷◌, [], List, ℕ, Bool, true, false, refl, sym, ap, subst, ◌∙◌, append_assoc, append-nil}
use Rattle.std.specs.Prelude.{◌||◌}
use Rattle.std.specs.List.{AllByRecursion, concat}
use Rattle.std.proofs.lemmas.Grind.{flat_map-append}
use Rattle.std.proofs.lemmas.List.Folds.{list_any-append}
use Rattle.lsv_wire.specs.Frame.{frame_of}
use Rattle.lsv_msg.specs.Messages.{server_bytes}
use Rattle.lsv_session.specs.Connections.{server_hello}
use Rattle.lsv_session.specs.Transcript.{AreJobs, answers, frames_of, said_to}
use Rattle.lsv_session.specs.declared.job.Body.{Body}
use Rattle.lsv_session.specs.declared.reply.Reply.{Reply}
use Rattle.lsv_session.proofs.Replies.{answers-append}
use Rattle.lsv_once.specs.Course.{PutsAll, PutsPart, ShutLast, OnceTurn, TurnsOf, bodies_in, once_conn, replies_in, shuts, was_shut}

pub all_last : {A : Type 0} (P : A → Type 0) (xs : List A) (x : A) → AllByRecursion P xs → P x → AllByRecursion P (xs ++ x ∷ [])
all_last P [] x all is = (is, tt)
all_last P (y ∷ xs) x all is = (all.0, all_last P xs x all.1 is)

pub concat_last : (ps : List (List ℕ)) (p : List ℕ) → concat (ps ++ p ∷ []) ≡ concat ps ++ p
concat_last [] p = append-nil p
concat_last (q ∷ ps) p = ap (λ (t : List ℕ). q ++ t) (concat_last ps p) ∙ sym (append_assoc q (concat ps) p)

pub replies_last : (turns : List OnceTurn) (t : OnceTurn) → replies_in (turns ++ t ∷ []) ≡ replies_in turns ++ t.replies
replies_last turns t = flat_map-append (λ (u : OnceTurn). u.replies) turns (t ∷ []) ∙ ap (λ (l : List Reply). replies_in turns ++ l) (append-nil t.replies)

pub bodies_last : (turns : List OnceTurn) (t : OnceTurn) → bodies_in (turns ++ t ∷ []) ≡ bodies_in turns ++ t.bodies
bodies_last turns t = flat_map-append (λ (u : OnceTurn). u.bodies) turns (t ∷ []) ∙ ap (λ (l : List Body). bodies_in turns ++ l) (append-nil t.bodies)

pub answers_last : (turns : List OnceTurn) (t : OnceTurn) → answers once_conn (replies_in (turns ++ t ∷ [])) ≡ answers once_conn (replies_in turns) ++ frames_of (said_to once_conn t.replies)
answers_last turns t = ap (λ (l : List Reply). answers once_conn l) (replies_last turns t) ∙ answers-append once_conn (replies_in turns) t.replies

-- ---- Shut

or_false : (b : Bool) → (b || false) ≡ b
or_false true = refl
or_false false = refl

pub shut_more : (turns : List OnceTurn) (t : OnceTurn) → was_shut turns ≡ false → was_shut (turns ++ t ∷ []) ≡ shuts t.replies
shut_more turns t e = list_any-append (λ (u : OnceTurn). shuts u.replies) turns (t ∷ []) ∙ ap (λ (b : Bool). b || (shuts t.replies || false)) e ∙ or_false (shuts t.replies)

first_open : (x y : Bool) → (x || y) ≡ false → x ≡ false
first_open false y e = refl
first_open true y e = e

rest_open : (x y : Bool) → (x || y) ≡ false → y ≡ false
rest_open false y e = e
rest_open true y e = absurd (cc)

pub none_shut : (turns : List OnceTurn) → was_shut turns ≡ false → ShutLast turns
none_shut [] e = tt
none_shut (t ∷ turns) e = (inr (first_open (shuts t.replies) (was_shut turns) e), none_shut turns (rest_open (shuts t.replies) (was_shut turns) e))

pub last_shut : (turns : List OnceTurn) (t : OnceTurn) → was_shut turns ≡ false → ShutLast (turns ++ t ∷ [])
last_shut [] t e = (inl refl, tt)
last_shut (u ∷ turns) t e = (inr (first_open (shuts u.replies) (was_shut turns) e), last_shut turns t (rest_open (shuts u.replies) (was_shut turns) e))

-- ---- What was read

pub turns_last : (read : List ℕ) (said : List Body) (pieces : List (List ℕ)) (turns : List OnceTurn) (piece : List ℕ) (t : OnceTurn) → TurnsOf read said pieces turns
    → AreJobs ((read ++ concat pieces) ++ piece) ((said ++ bodies_in turns) ++ t.bodies) → TurnsOf read said (pieces ++ piece ∷ []) (turns ++ t ∷ [])
turns_last read said [] [] piece t each are =
    (subst (λ (l : List Body). AreJobs (read ++ piece) (l ++ t.bodies)) (append-nil said) (subst (λ (b : List ℕ). AreJobs (b ++ piece) ((said ++ []) ++ t.bodies)) (append-nil read) are), tt)
turns_last read said [] (u ∷ turns) piece t each are = absurd each
turns_last read said (p ∷ pieces) [] piece t each are = absurd each
turns_last read said (p ∷ pieces) (u ∷ turns) piece t each are =
    let bytes : (read ++ (p ++ concat pieces)) ++ piece ≡ ((read ++ p) ++ concat pieces) ++ piece = ap (λ (b : List ℕ). b ++ piece) (sym (append_assoc read p (concat pieces))) in
    let bodies : (said ++ (u.bodies ++ bodies_in turns)) ++ t.bodies ≡ ((said ++ u.bodies) ++ bodies_in turns) ++ t.bodies = ap (λ (l : List Body). l ++ t.bodies) (sym (append_assoc said u.bodies (bodies_in turns))) in (
      each.0,
      turns_last (read ++ p) (said ++ u.bodies) pieces turns piece t each.1
          (subst (λ (l : List Body). AreJobs (((read ++ p) ++ concat pieces) ++ piece) l) bodies (subst (λ (b : List ℕ). AreJobs b ((said ++ (u.bodies ++ bodies_in turns)) ++ t.bodies)) bytes are)),
    )

-- ---- What was put

-- turns are none, or have a last one
by_last : (turns : List OnceTurn) → (turns ≡ []) ⊎ ((earlier : List OnceTurn) × (last : OnceTurn) × (turns ≡ earlier ++ last ∷ []))
by_last [] = inl refl
by_last (t ∷ turns) = elim (by_last turns) [
  | inl none ↦ inr ([], t, ap (λ (l : List OnceTurn). t ∷ l) none)
  | inr (earlier, last, is) ↦ inr (t ∷ earlier, last, ap (λ (l : List OnceTurn). t ∷ l) is)
]

-- who puts all puts a part
pub all_is_part : (turns : List OnceTurn) (bytes : List ℕ) → PutsAll turns bytes → PutsPart turns bytes
all_is_part turns bytes all = elim (by_last turns) [
  | inl none ↦
      let hello : List ℕ = frame_of (server_bytes server_hello) in
      let is : bytes ≡ hello ++ [] = all ∙ ap (λ (ts : List OnceTurn). answers once_conn (replies_in ts)) none in
      inl (none, ([], sym (append-nil bytes ∙ is ∙ append-nil hello)))
  | inr (earlier, last, is) ↦ inr (record {
    earlier = earlier;
    last = last;
    are = is;
    front = frames_of (said_to once_conn last.replies);
    of_last = ([], sym (append-nil (frames_of (said_to once_conn last.replies))));
    whole = all ∙ ap (λ (ts : List OnceTurn). answers once_conn (replies_in ts)) is ∙ answers_last earlier last;
  })
]
