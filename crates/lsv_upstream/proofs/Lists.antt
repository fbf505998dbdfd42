-- From lists of jobs to jobs one by one.
use Rattle.std.proofs.Common.{◌≡◌, ℕ, List, [], ◌∷◌, ◌++◌, map, refl, sym, ◌∙◌, ap, subst, inl, inr}
use Rattle.std.specs.Prelude.{Bool, true, false, Ok}
use Rattle.lsv_msg.specs.declared.messages.ClientMessage.{ClientMessage}
use Rattle.lsv_request.specs.Requests.{request_of}
use Rattle.lsv_request.specs.declared.request.Request.{Request}
use Rattle.lsv_session.specs.Transcript.{bodies_of}
use Rattle.lsv_session.specs.Connections as connections
use Rattle.lsv_session.specs.declared.connection.ConnId.{ConnId}
use Rattle.lsv_session.specs.declared.job.Body.{Body}
use Rattle.lsv_session.specs.declared.job.Body.TheVariants as body
use Rattle.lsv_machine.specs.Turns.{Happened, Happened.Did, Happened.Tailed, Happened.Begins}
use Rattle.lsv_machine.proofs.Choices.{SameOr.alike, SameOr.apart, same_or, same_refl}
use Rattle.lsv_upstream.specs.Jobs.{NoMessages, jobs_of}
use Rattle.lsv_upstream.specs.Playing.{AllExpected, BringsAsked, IsExpected, IsNext, OthersAreAside, all_asks_after, asks_after, later_asks}

-- the first of a connection's jobs brings what is asked next, and the others the rest
pub record Splits (asks : List Request) (b : Body) (bodies : List Body) : Type 0 where
  pub next : IsNext b asks
  pub rest : BringsAsked (asks_after b asks) bodies

pub split_first : (asks : List Request) (b : Body) (bodies : List Body) → BringsAsked asks (b ∷ bodies) → Splits asks b bodies
split_first asks b bodies f = go f.messages refl f.asked refl
  where
    go : (ms : List ClientMessage) → f.messages ≡ ms → (qs : List Request) → f.asked ≡ qs → Splits asks b bodies
    go [] em [] eq = ended f.ends refl (f.jobs ∙ ap (λ (x : List ClientMessage). map (λ m. body.Msg m) x ++ f.ends) em)
      where
        ended : (ends : List Body) → f.ends ≡ ends → b ∷ bodies ≡ f.ends → Splits asks b bodies
        ended [] e is = absurd (let x = is ∙ e in cc)
        ended (body.Msg m ∷ more) e is = absurd (subst NoMessages e f.are_ends)
        ended (body.Bad fault ∷ more) e is =
            let x : b ∷ bodies ≡ body.Bad fault ∷ more = is ∙ e in
            let bb : b ≡ body.Bad fault = cc in
            let mm : bodies ≡ more = cc in
            let are : NoMessages more = subst NoMessages e f.are_ends in
            rw bb (record { next = tt; rest = record { messages = []; ends = more; asked = []; later = []; jobs = mm; are_ends = are; read = refl; first = refl } })
        ended (body.Gone ∷ more) e is =
            let x : b ∷ bodies ≡ body.Gone ∷ more = is ∙ e in
            let bb : b ≡ body.Gone = cc in
            let mm : bodies ≡ more = cc in
            let are : NoMessages more = subst NoMessages e f.are_ends in
            rw bb (record { next = tt; rest = record { messages = []; ends = more; asked = []; later = []; jobs = mm; are_ends = are; read = refl; first = refl } })
    go [] em (q ∷ qs) eq = absurd (let x : map request_of [] ≡ map (λ (y : Request). Ok y) (q ∷ qs) = sym (ap (λ (y : List ClientMessage). map request_of y) em) ∙ (f.read ∙ ap (λ (y : List Request). map (λ (z : Request). Ok z) y) eq) in cc)
    go (m ∷ ms) em [] eq = absurd (let x : map request_of (m ∷ ms) ≡ map (λ (y : Request). Ok y) [] = sym (ap (λ (y : List ClientMessage). map request_of y) em) ∙ (f.read ∙ ap (λ (y : List Request). map (λ (z : Request). Ok z) y) eq) in cc)
    go (m ∷ ms) em (q ∷ qs) eq =
        let reads : request_of m ∷ map request_of ms ≡ Ok q ∷ map (λ (y : Request). Ok y) qs = sym (ap (λ (y : List ClientMessage). map request_of y) em) ∙ (f.read ∙ ap (λ (y : List Request). map (λ (z : Request). Ok z) y) eq) in
        let one : request_of m ≡ Ok q = cc in
        let more : map request_of ms ≡ map (λ (y : Request). Ok y) qs = cc in
        let lists : b ∷ bodies ≡ body.Msg m ∷ (map (λ x. body.Msg x) ms ++ f.ends) = f.jobs ∙ ap (λ (x : List ClientMessage). map (λ y. body.Msg y) x ++ f.ends) em in
        let bb : b ≡ body.Msg m = cc in
        let mm : bodies ≡ map (λ x. body.Msg x) ms ++ f.ends = cc in
        let at : asks ≡ q ∷ (qs ++ f.later) = sym f.first ∙ ap (λ (x : List Request). x ++ f.later) eq in
        rw bb (record {
          next = (q, qs ++ f.later, at, one);
          rest = record { messages = ms; ends = f.ends; asked = qs; later = f.later; jobs = mm; are_ends = f.are_ends; read = more; first = sym (ap later_asks at) };
        })

module _ (n : ℕ) (ours : ConnId → Bool) where
  -- jobs that stand as lists for each of ours are followed one by one
  pub lists_follow : (h : List Happened) (coming : ConnId → List Request) → ((k : ConnId) → ours k ≡ true → BringsAsked (coming k) (bodies_of k (jobs_of h))) → OthersAreAside n ours h
      → (now : ConnId → List Request) × AllExpected n ours coming h now
  lists_follow [] coming lists others = (coming, refl)
  lists_follow (Tailed tail ∷ h) coming lists others = lists_follow h coming lists others
  lists_follow (Begins texts ∷ h) coming lists others = absurd others
  lists_follow (Did act ∷ h) coming lists others = let again = lists_follow h (all_asks_after act coming) rest others.1 in (again.0, (now, again.1))
    where
      j : ConnId
      j = act.job.conn

      now : IsExpected n ours coming act
      now = go (ours act.job.conn) refl
        where
          go : (b : Bool) → ours act.job.conn ≡ b → IsExpected n ours coming act
          go false e = inr (e, others.0 e)
          go true e =
              let mine : connections.same act.job.conn act.job.conn ≡ true = same_refl act.job.conn in
              let its : BringsAsked (coming act.job.conn) (act.job.body ∷ bodies_of act.job.conn (jobs_of h)) = rw mine at (lists act.job.conn e) in
              inl (e, (split_first (coming act.job.conn) act.job.body (bodies_of act.job.conn (jobs_of h)) its).next)

      rest : (k : ConnId) → ours k ≡ true → BringsAsked (all_asks_after act coming k) (bodies_of k (jobs_of h))
      rest k o = elim (same_or k act.job.conn) [
        | alike p t ↦
            let mine : connections.same act.job.conn act.job.conn ≡ true = same_refl act.job.conn in
            let its : BringsAsked (coming act.job.conn) (act.job.body ∷ bodies_of act.job.conn (jobs_of h)) = rw mine at (lists act.job.conn (subst (λ i. ours i ≡ true) p o)) in
            rw t (subst (λ i. BringsAsked (asks_after act.job.body (coming act.job.conn)) (bodies_of i (jobs_of h))) (sym p) (split_first (coming act.job.conn) act.job.body (bodies_of act.job.conn (jobs_of h)) its).rest)
        | apart p t ↦
            let other : connections.same act.job.conn k ≡ false = elim (same_or act.job.conn k) [ alike x u ↦ absurd (p (sym x)) | apart x u ↦ u ] in
            let its : BringsAsked (coming k) (bodies_of k (jobs_of h)) = rw other at (lists k o) in
            rw t its
      ]
