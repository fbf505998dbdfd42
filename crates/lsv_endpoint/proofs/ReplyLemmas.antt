-- What replies say of one connection.
use Rattle.std.proofs.Common.{◌≡◌, ◌≢◌, ◌&&◌, ℕ, Bool, true, false, List, [], ◌∷◌, ◌++◌, refl, sym, ap, ◌∙◌, append_assoc, ⊎_elim}
use Rattle.std.specs.Prelude.{not}
use Rattle.lsv_session.specs.Connections.{same}
use Rattle.lsv_session.specs.Transcript.{bodies_of}
use Rattle.lsv_session.specs.declared.connection.ConnId.{ConnId}
use Rattle.lsv_session.specs.declared.job.Job.{Job}
use Rattle.lsv_session.specs.declared.reply.Reply.{Reply}
use Rattle.lsv_session.specs.declared.reply.ReplyBody.TheVariants.{Shut}
use Rattle.lsv_reactor.specs.Endpoints.{AreAskedBy}
use Rattle.lsv_turn.specs.Turns.{EndsWithGone, NoneFor, is_shut, shuts}
use Rattle.lsv_worker.specs.Outgoing.{HasEarlyShut, HasShut, RepliesAfterShut}
use Rattle.lsv_endpoint.proofs.BoolLemmas.{or_here, or_later}

shut_test : (a b c : Bool) → a ≡ true → b ≡ true → c ≡ false → ((a && b) && not c) ≡ true
shut_test true true false x y z = refl
shut_test true true true x y z = absurd (cc)
shut_test true false c x y z = absurd (cc)
shut_test false b c x y z = absurd (cc)

-- a connection that a keeper shut by itself was shut
pub early_shuts : (k : ConnId) (replies : List Reply) → HasEarlyShut k replies → shuts k replies ≡ true
early_shuts k [] h = absurd h
early_shuts k (r ∷ replies) h =
    ⊎_elim
    (λ e. or_here ((same r.conn k && is_shut r.body) && not r.last) (shuts k replies) (shut_test (same r.conn k) (is_shut r.body) r.last e.shut.conn (ap is_shut e.shut.shut) e.early))
    (λ later. or_later ((same r.conn k && is_shut r.body) && not r.last) (shuts k replies) (early_shuts k replies later)) h

-- where a connection is shut
record ShutAt (k : ConnId) (replies : List Reply) : Type 0 where
  before : List Reply
  reply : Reply
  after : List Reply
  are : replies ≡ before ++ reply ∷ after
  conn : same reply.conn k ≡ true
  shut : reply.body ≡ Shut

shut_later : (k : ConnId) (r : Reply) (replies : List Reply) → ShutAt k replies → ShutAt k (r ∷ replies)
shut_later k r replies s = record { before = r ∷ s.before; reply = s.reply; after = s.after; are = ap (λ (l : List Reply). r ∷ l) s.are; conn = s.conn; shut = s.shut }

shut_at : (k : ConnId) (replies : List Reply) → HasShut k replies → ShutAt k replies
shut_at k [] h = absurd h
shut_at k (r ∷ replies) h =
    ⊎_elim (λ e. record { before = []; reply = r; after = replies; are = refl; conn = e.conn; shut = e.shut }) (λ later. shut_later k r replies (shut_at k replies later)) h

none_at : (k : ConnId) (before after : List Reply) (r : Reply) → NoneFor k (before ++ r ∷ after) → same r.conn k ≡ false
none_at k [] after r n = n.0
none_at k (x ∷ before) after r n = none_at k before after r n.1

-- where replies are to those who asked, nothing is said after a shut
pub not_on : (k : ConnId) (lane : ℕ) (jobs : ℕ → List Job) (replies : List Reply) → AreAskedBy jobs replies → ((m : ℕ) → m ≢ lane → bodies_of k (jobs m) ≡ []) → EndsWithGone (bodies_of k (jobs lane)) → RepliesAfterShut k replies → ⊥
not_on k lane jobs replies asked others ends t =
    let s = shut_at k t.before t.shut in
    let whole : replies ≡ s.before ++ s.reply ∷ (s.after ++ t.reply ∷ t.after) = t.whole ∙ ap (λ (l : List Reply). l ++ t.reply ∷ t.after) s.are ∙ append_assoc s.before (s.reply ∷ s.after) (t.reply ∷ t.after) in
    let none : same t.reply.conn k ≡ false = none_at k s.after t.after t.reply (asked.behind k lane s.before (s.after ++ t.reply ∷ t.after) s.reply others ends whole s.conn s.shut) in
    let no : true ≡ false = sym t.more ∙ none in
    cc
