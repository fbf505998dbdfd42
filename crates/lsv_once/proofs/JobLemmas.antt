-- How jobs are cut from what was read.
use Rattle.std.proofs.Common.{◌≡◌, ◌++◌, ◌∷◌, [], List, ℕ, Bool, true, false, Ok, refl, sym, ap, subst, ◌∙◌, append_assoc, append-nil}
use Rattle.std.proofs.lemmas.List.{map-append}
use Rattle.lsv_wire.specs.Frame.{IsPartial}
use Rattle.lsv_msg.specs.Messages.{client_in}
use Rattle.lsv_msg.specs.declared.messages.ClientMessage.{ClientMessage}
use Rattle.lsv_session.specs.Transcript.{AreAllJobs, AreJobs, HasCut, InFront}
use Rattle.lsv_session.specs.declared.job.Body.{Body}
use Rattle.lsv_session.specs.declared.job.Body.TheVariants.{Bad, Msg}
use Rattle.lsv_session.specs.declared.job.Fault.{Fault}
use Rattle.lsv_session.specs.declared.job.Job.{Job}
use Rattle.lsv_session.proofs.Jobs.{cut_message, cut_piece, cut_rest}
use Rattle.lsv_once.specs.InnerRun.{Cuts, CutsAll, CutsOn, Takes}
use Rattle.lsv_once.specs.Course.{jobs_of, once_conn}

-- a job of the connection
abbrev pub job_with : Body → Job
job_with body = record { conn = once_conn; body = body }

pub jobs_append : (xs ys : List Body) → jobs_of (xs ++ ys) ≡ jobs_of xs ++ jobs_of ys
jobs_append xs ys = map-append job_with xs ys

pub jobs_now : (read : List ℕ) (said : List Body) → AreAllJobs read said → AreJobs read said
jobs_now read said all = subst (λ (b : List ℕ). AreJobs b said) (append-nil read) (all [])

-- ---- One job

pub cuts_none : (jobs : List Job) (over : Bool) (unread : List ℕ) → CutsOn jobs over unread jobs over unread
cuts_none jobs over unread = record { bodies = []; are = sym (append-nil jobs); goes = λ read said h. subst (λ (l : List Body). Cuts over read l unread) (sym (append-nil said)) h }

pub cuts_partial : (jobs : List Job) (unread : List ℕ) → IsPartial unread → CutsAll jobs false unread jobs false unread
unfolding cuts_none
cuts_partial jobs unread partial = record {
  cuts = cuts_none jobs false unread;
  all = λ read said h. subst (λ (l : List Body). AreJobs read l) (sym (append-nil said)) (cut_rest read unread said h partial);
}

pub cuts_message : (jobs : List Job) (unread message behind : List ℕ) (m : ClientMessage) → InFront message behind unread → client_in message ≡ Ok m
    → CutsOn jobs false unread (jobs ++ job_with (Msg m) ∷ []) false behind
cuts_message jobs unread message behind m front is = record { bodies = Msg m ∷ []; are = refl; goes = λ read said h. cut_message read unread message behind said m h front is }

pub cuts_last : (jobs : List Job) (unread left : List ℕ) (fault : Fault) → ((read : List ℕ) (said : List Body) → HasCut read said unread → AreAllJobs read (said ++ Bad fault ∷ []))
    → CutsAll jobs false unread (jobs ++ job_with (Bad fault) ∷ []) true left
cuts_last jobs unread left fault last = record {
  cuts = record { bodies = Bad fault ∷ []; are = refl; goes = last };
  all = λ read said h. jobs_now read (said ++ Bad fault ∷ []) (last read said h);
}

-- ---- One after another

pub cuts_then : (j0 j1 j2 : List Job) (o0 o1 o2 : Bool) (u0 u1 u2 : List ℕ) → CutsOn j0 o0 u0 j1 o1 u1 → CutsOn j1 o1 u1 j2 o2 u2 → CutsOn j0 o0 u0 j2 o2 u2
cuts_then j0 j1 j2 o0 o1 o2 u0 u1 u2 a b = record {
  bodies = a.bodies ++ b.bodies;
  are = b.are ∙ ap (λ (l : List Job). l ++ jobs_of b.bodies) a.are ∙ append_assoc j0 (jobs_of a.bodies) (jobs_of b.bodies) ∙ ap (λ (l : List Job). j0 ++ l) (sym (jobs_append a.bodies b.bodies));
  goes = λ read said h. subst (λ (l : List Body). Cuts o2 read l u2) (append_assoc said a.bodies b.bodies) (b.goes read (said ++ a.bodies) (a.goes read said h));
}

pub cuts_end : (j0 j1 j2 : List Job) (o0 o1 o2 : Bool) (u0 u1 u2 : List ℕ) → CutsOn j0 o0 u0 j1 o1 u1 → CutsAll j1 o1 u1 j2 o2 u2 → CutsAll j0 o0 u0 j2 o2 u2
unfolding cuts_then
cuts_end j0 j1 j2 o0 o1 o2 u0 u1 u2 a b = record {
  cuts = cuts_then j0 j1 j2 o0 o1 o2 u0 u1 u2 a b.cuts;
  all = λ read said h. subst (λ (l : List Body). AreJobs read l) (append_assoc said a.bodies b.cuts.bodies) (b.all read (said ++ a.bodies) (a.goes read said h));
}

-- ---- A piece

pub takes_piece : (piece unread : List ℕ) (jobs : List Job) (over : Bool) (left : List ℕ) → CutsAll [] false (unread ++ piece) jobs over left → Takes piece false unread jobs over left
takes_piece piece unread jobs over left a = record {
  bodies = a.cuts.bodies;
  are = a.cuts.are;
  goes = λ read said h. a.cuts.goes (read ++ piece) said (cut_piece read unread piece said h);
  all = λ read said h. a.all (read ++ piece) said (cut_piece read unread piece said h);
}

pub takes_nothing : (piece unread : List ℕ) → Takes piece true unread [] true unread
takes_nothing piece unread = record { bodies = []; are = refl; goes = still; all = λ read said h. jobs_now (read ++ piece) (said ++ []) (still read said h) }
  where
    still : (read : List ℕ) (said : List Body) → AreAllJobs read said → AreAllJobs (read ++ piece) (said ++ [])
    still read said h more = subst (λ (l : List Body). AreJobs ((read ++ piece) ++ more) l) (sym (append-nil said)) (subst (λ (b : List ℕ). AreJobs b said) (sym (append_assoc read piece more)) (h (piece ++ more)))
