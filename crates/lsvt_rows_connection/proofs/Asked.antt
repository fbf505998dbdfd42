-- To whom a lane replies.
use Rattle.std.proofs.Common.{◌≡◌, ◌<◌, ℕ, zero, suc, false, inl, inr, List, [], ◌∷◌, ◌++◌, get_or, length, arith}
use Rattle.std.proofs.lemmas.Bool.{cases_Bool}
use Rattle.lsv_session.specs.Connections.{same}
use Rattle.lsv_session.specs.Transcript.{bodies_of}
use Rattle.lsv_session.specs.declared.connection.ConnId.{ConnId}
use Rattle.lsv_session.specs.declared.job.Job.{Job}
use Rattle.lsv_session.specs.declared.reply.Reply.{Reply}
use Rattle.lsv_turn.specs.Turns.{NoneFor}

-- one reply more, to another connection
pub none_more : (k : ConnId) (replies : List Reply) (r : Reply) → NoneFor k replies → same r.conn k ≡ false → NoneFor k (replies ++ r ∷ [])
none_more k [] r none ne = (ne, tt)
none_more k (x ∷ replies) r none ne = (none.0, none_more k replies r none.1 ne)

-- a connection that brought none of these jobs isn't the first one's, and brought none of the rest
first_of : (k : ConnId) (job : Job) (jobs : List Job) → bodies_of k (job ∷ jobs) ≡ [] → (same job.conn k ≡ false) × (bodies_of k jobs ≡ [])
first_of k job jobs none = elim (cases_Bool (same job.conn k)) [
  | inl is ↦ absurd (let e : job.body ∷ bodies_of k jobs ≡ [] = rw is at none in cc)
  | inr ne ↦ (ne, rw ne at none)
]

-- nor any other one's
pub not_of : (k : ConnId) (jobs : List Job) (i : ℕ) (d : Job) → i < length jobs → bodies_of k jobs ≡ [] → same (get_or jobs i d).conn k ≡ false
not_of k [] i d within none = absurd (omega (arith, within))
not_of k (job ∷ jobs) zero d within none = (first_of k job jobs none).0
not_of k (job ∷ jobs) (suc i) d within none = not_of k jobs i d (omega (arith, within)) (first_of k job jobs none).1
