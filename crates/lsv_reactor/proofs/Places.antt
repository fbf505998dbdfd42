-- Posts at their places, of which one does something.
use Rattle.std.proofs.Common.{◌≡◌, ◌≢◌, ◌<◌, ◌≤◌, ◌++◌, ◌∷◌, [], List, ℕ, Some, length, sym, ap, subst, ◌∙◌, append-nil, arith, get_or, inl, inr}
use Rattle.std.specs.Prelude.{slice_get}
use Rattle.std.proofs.Math.ListN.{set}
use Rattle.std.proofs.lemmas.List.{get_or-set_same, get_or-set_other, length-set}
use Rattle.std.proofs.lemmas.Option.{get_or_from_slice_get, slice_get-get_or, slice_get_within}
use Rattle.lsv_session.specs.declared.job.Job.{Job}
use Rattle.lsv_session.specs.declared.reply.Reply.{Reply}
use Rattle.lsv_reactor.specs.InnerLoop.{ArePosts, Gives, IsPost}
use Rattle.lsv_port.specs.Ledger.{Continues, PortLedger}
use Rattle.lsv_port.proofs.LedgerLemmas.{continues_then}
use Rattle.lsv_links.specs.Lanes.{one_lane}
use Rattle.lsv_links.specs.Turns.{AreOf, replies_to}
use Rattle.lsv_links.specs.Views.{PortView}
use Rattle.lsv_worker.specs.Memory.{bytes_behind_first}
use Rattle.lsv_reactor.specs.Calls.{IsOfOne, call_of, calls_of, jobs_by}
use Rattle.std.specs.List.{AllByRecursion}
use Rattle.lsv_reactor.proofs.Own.{EqOr.equal, EqOr.unequal, calls_append, eq_or, jobs_join, other_call, other_reply, own_call, own_reply, replies_append}

-- the post at the place that was written, and at another
pub set_here : {A : Type 0} (xs : List A) (i : ℕ) (v x : A) → slice_get (set xs i v) i ≡ Some x → i < length xs → x ≡ v
set_here xs i v x e less = sym (get_or_from_slice_get (set xs i v) i x v e) ∙ get_or-set_same xs i v v less

pub set_there : {A : Type 0} (xs : List A) (i j : ℕ) (v x : A) → j ≢ i → slice_get (set xs i v) j ≡ Some x → slice_get xs j ≡ Some x
set_there xs i j v x ne e =
    let less : j < length (set xs i v) = slice_get_within (set xs i v) j x e in
    let less' : j < length xs = omega (arith, length-set xs i v) in
    slice_get-get_or xs j x less' ∙ ap Some (sym (get_or-set_other xs i j v x ne) ∙ get_or_from_slice_get (set xs i v) j x x e)

-- calls of workers with places, and one more
calls_more : (n m v : ℕ) (calls : List (List Job)) (jobs : List Job) → n ≡ m → v < n → AreOf v jobs → bytes_behind_first jobs ≤ 67108864 → AllByRecursion (IsOfOne n) calls → AllByRecursion (IsOfOne m) (calls ++ call_of jobs)
calls_more n m v [] [] same less own light all = tt
calls_more n m v [] (x ∷ jobs) same less own light all = (record { worker = v; place = omega (arith, same, less); own = own; light = light }, tt)
calls_more n m v (call ∷ calls) jobs same less own light all =
    (record { worker = all.0.worker; place = let k : all.0.worker < n = all.0.place in omega (arith, same, k); own = all.0.own; light = all.0.light }, calls_more n m v calls jobs same less own light all.1)

calls_kept : (n m : ℕ) (calls : List (List Job)) → n ≡ m → AllByRecursion (IsOfOne n) calls → AllByRecursion (IsOfOne m) calls
calls_kept n m calls same all = subst (λ (k : ℕ). AllByRecursion (IsOfOne k) calls) same all

-- the calls of a worker, and one more of its own
own_given : (i : ℕ) (calls : List (List Job)) (added : List Job) → AreOf i added → calls_of i (calls ++ call_of added) ≡ calls_of i calls ++ call_of added
own_given i calls added own = calls_append i calls (call_of added) ∙ ap (λ (l : List (List Job)). calls_of i calls ++ l) (own_call i added own)

-- and one of another's
other_given : (j v : ℕ) (calls : List (List Job)) (added : List Job) → v ≢ j → AreOf v added → calls_of j (calls ++ call_of added) ≡ calls_of j calls
other_given j v calls added ne own = calls_append j calls (call_of added) ∙ ap (λ (l : List (List Job)). calls_of j calls ++ l) (other_call v j added ne own) ∙ append-nil (calls_of j calls)

module _ {T S : Type 0} (number lanes : T → ℕ) (view : T → PortView) (made_by : S → T → (ℕ → List Job) → List Reply → Type 0) (called : T → List (List Job) → Type 0) where
  -- the post at a place
  pub at_place : (starts : ℕ → S) (ledgers : ℕ → PortLedger) (posts : List T) (i : ℕ) (d : T) (calls : List (List Job)) (took : List Reply) → i < length posts → ArePosts number lanes view made_by called starts ledgers posts calls took
      → IsPost number lanes view made_by called (starts i) (ledgers i) i (get_or posts i d) calls took
  at_place starts ledgers posts i d calls took less all = all.each i (get_or posts i d) (slice_get-get_or posts i d less)

  gave_own : (start : S) (ledger : PortLedger) (i : ℕ) (x y : T) (calls : List (List Job)) (added : List Job) (took : List Reply) → AreOf (number x) added → Gives number lanes view made_by called x y added
      → IsPost number lanes view made_by called start ledger i x calls took → IsPost number lanes view made_by called start ledger i y (calls ++ call_of added) took
  gave_own start ledger i x y calls added took own goes at =
      let mine : AreOf i added = subst (λ (n : ℕ). AreOf n added) at.numbered own in
      let are : calls_of i (calls ++ call_of added) ≡ calls_of i calls ++ call_of added = own_given i calls added mine in
      record {
        numbered = goes.number_is ∙ at.numbered;
        laned = goes.lanes_are ∙ at.laned;
        continues = continues_then ledger (view x).ledger (view y).ledger at.continues goes.continues;
        made = subst (λ (l : List Job). made_by start y (λ lane. one_lane lane l) (replies_to i took)) (sym (ap jobs_by are ∙ jobs_join (calls_of i calls) added)) (goes.made start (jobs_by (calls_of i calls)) (replies_to i took) at.made);
        answered = subst (called y) (sym are) (goes.answered (calls_of i calls) at.answered);
      }

  gave_none : (start : S) (ledger : PortLedger) (j v : ℕ) (z : T) (calls : List (List Job)) (added : List Job) (took : List Reply) → v ≢ j → AreOf v added
      → IsPost number lanes view made_by called start ledger j z calls took → IsPost number lanes view made_by called start ledger j z (calls ++ call_of added) took
  gave_none start ledger j v z calls added took ne own was =
      let are : calls_of j (calls ++ call_of added) ≡ calls_of j calls = other_given j v calls added ne own in
      record {
        numbered = was.numbered;
        laned = was.laned;
        continues = was.continues;
        made = subst (λ (l : List Job). made_by start z (λ lane. one_lane lane l) (replies_to j took)) (sym (ap jobs_by are)) was.made;
        answered = subst (called z) (sym are) was.answered;
      }

  given : (starts : ℕ → S) (ledgers : ℕ → PortLedger) (posts : List T) (i : ℕ) (d y : T) (calls : List (List Job)) (added : List Job) (took : List Reply) → i < length posts → AreOf (number (get_or posts i d)) added
      → Gives number lanes view made_by called (get_or posts i d) y added
      → ArePosts number lanes view made_by called starts ledgers posts calls took → (j : ℕ) (z : T) → slice_get (set posts i y) j ≡ Some z → IsPost number lanes view made_by called (starts j) (ledgers j) j z (calls ++ call_of added) took
  given starts ledgers posts i d y calls added took less own goes all j z e =
      let at = at_place starts ledgers posts i d calls took less all in
      elim (eq_or j i) [
        | equal p t ↦
            let there : slice_get (set posts i y) i ≡ Some z = subst (λ (k : ℕ). slice_get (set posts i y) k ≡ Some z) p e in
            let here : z ≡ y = set_here posts i y z there less in
            let post : IsPost number lanes view made_by called (starts i) (ledgers i) i y (calls ++ call_of added) took = gave_own (starts i) (ledgers i) i (get_or posts i d) y calls added took own goes at in
            subst (λ (k : ℕ). IsPost number lanes view made_by called (starts k) (ledgers k) k z (calls ++ call_of added) took) (sym p) (subst (λ (w : T). IsPost number lanes view made_by called (starts i) (ledgers i) i w (calls ++ call_of added) took) (sym here) post)
        | unequal ne t ↦ gave_none (starts j) (ledgers j) j (number (get_or posts i d)) z calls added took (λ q. ne (sym q ∙ at.numbered)) own (all.each j z (set_there posts i j y z ne e))
      ]

  -- a call of one post gives jobs of its own
  pub gives : (starts : ℕ → S) (ledgers : ℕ → PortLedger) (posts : List T) (i : ℕ) (d y : T) (calls : List (List Job)) (added : List Job) (took : List Reply) → i < length posts → AreOf i added → bytes_behind_first added ≤ 67108864
      → Gives number lanes view made_by called (get_or posts i d) y added
      → ArePosts number lanes view made_by called starts ledgers posts calls took → ArePosts number lanes view made_by called starts ledgers (set posts i y) (calls ++ call_of added) took
  gives starts ledgers posts i d y calls added took less mine light goes all =
      let n : number (get_or posts i d) ≡ i = (at_place starts ledgers posts i d calls took less all).numbered in
      let own : AreOf (number (get_or posts i d)) added = subst (λ (k : ℕ). AreOf k added) (sym n) mine in
      record {
        each = given starts ledgers posts i d y calls added took less own goes all;
        placed = calls_more (length posts) (length (set posts i y)) i calls added (sym (length-set posts i y)) less mine light all.placed;
      }

  untaken : (starts : ℕ → S) (ledgers : ℕ → PortLedger) (j : ℕ) (z : T) (r : Reply) (calls : List (List Job)) (took : List Reply) → r.conn.worker ≢ j → IsPost number lanes view made_by called (starts j) (ledgers j) j z calls took
      → IsPost number lanes view made_by called (starts j) (ledgers j) j z calls (took ++ r ∷ [])
  untaken starts ledgers j z r calls took ne was = record {
    numbered = was.numbered;
    laned = was.laned;
    continues = was.continues;
    made = subst (λ (l : List Reply). made_by (starts j) z (λ lane. one_lane lane (jobs_by (calls_of j calls))) l) (sym (replies_append j took (r ∷ []) ∙ ap (λ (l : List Reply). replies_to j took ++ l) (other_reply j r ne) ∙ append-nil (replies_to j took))) was.made;
    answered = was.answered;
  }

  -- a post takes a reply to it
  pub record Takes (old new : T) (r : Reply) : Type 0 where
    pub number_is : number new ≡ number old
    pub lanes_are : lanes new ≡ lanes old
    pub continues : Continues (view old).ledger (view new).ledger
    pub made : (start : S) (gave : ℕ → List Job) (got : List Reply) → made_by start old gave got → made_by start new gave (got ++ r ∷ [])
    pub answered : (calls : List (List Job)) → called old calls → called new calls

  took_own : (start : S) (ledger : PortLedger) (i : ℕ) (x y : T) (r : Reply) (calls : List (List Job)) (took : List Reply) → r.conn.worker ≡ i → Takes x y r
      → IsPost number lanes view made_by called start ledger i x calls took → IsPost number lanes view made_by called start ledger i y calls (took ++ r ∷ [])
  took_own start ledger i x y r calls took to goes at = record {
    numbered = goes.number_is ∙ at.numbered;
    laned = goes.lanes_are ∙ at.laned;
    continues = continues_then ledger (view x).ledger (view y).ledger at.continues goes.continues;
    made = subst (λ (l : List Reply). made_by start y (λ lane. one_lane lane (jobs_by (calls_of i calls))) l) (ap (λ (l : List Reply). replies_to i took ++ l) (sym (own_reply i r to)) ∙ sym (replies_append i took (r ∷ []))) (goes.made start (λ lane. one_lane lane (jobs_by (calls_of i calls))) (replies_to i took) at.made);
    answered = goes.answered (calls_of i calls) at.answered;
  }

  taken : (starts : ℕ → S) (ledgers : ℕ → PortLedger) (posts : List T) (i : ℕ) (d y : T) (r : Reply) (calls : List (List Job)) (took : List Reply) → i < length posts → r.conn.worker ≡ i → Takes (get_or posts i d) y r
      → ArePosts number lanes view made_by called starts ledgers posts calls took → (j : ℕ) (z : T) → slice_get (set posts i y) j ≡ Some z → IsPost number lanes view made_by called (starts j) (ledgers j) j z calls (took ++ r ∷ [])
  taken starts ledgers posts i d y r calls took less to goes all j z e =
      let at = at_place starts ledgers posts i d calls took less all in
      elim (eq_or j i) [
        | equal p t ↦
            let there : slice_get (set posts i y) i ≡ Some z = subst (λ (k : ℕ). slice_get (set posts i y) k ≡ Some z) p e in
            let here : z ≡ y = set_here posts i y z there less in
            let post : IsPost number lanes view made_by called (starts i) (ledgers i) i y calls (took ++ r ∷ []) = took_own (starts i) (ledgers i) i (get_or posts i d) y r calls took to goes at in
            subst (λ (k : ℕ). IsPost number lanes view made_by called (starts k) (ledgers k) k z calls (took ++ r ∷ [])) (sym p) (subst (λ (w : T). IsPost number lanes view made_by called (starts i) (ledgers i) i w calls (took ++ r ∷ [])) (sym here) post)
        | unequal ne t ↦ untaken starts ledgers j z r calls took (λ q. ne (sym q ∙ to)) (all.each j z (set_there posts i j y z ne e))
      ]

  -- one post takes a reply to it
  pub takes : (starts : ℕ → S) (ledgers : ℕ → PortLedger) (posts : List T) (i : ℕ) (d y : T) (r : Reply) (calls : List (List Job)) (took : List Reply) → i < length posts → r.conn.worker ≡ i → Takes (get_or posts i d) y r
      → ArePosts number lanes view made_by called starts ledgers posts calls took → ArePosts number lanes view made_by called starts ledgers (set posts i y) calls (took ++ r ∷ [])
  takes starts ledgers posts i d y r calls took less to goes all = record {
    each = taken starts ledgers posts i d y r calls took less to goes all;
    placed = calls_kept (length posts) (length (set posts i y)) calls (sym (length-set posts i y)) all.placed;
  }

  -- a reply to none of them
  pub drops : (starts : ℕ → S) (ledgers : ℕ → PortLedger) (posts : List T) (r : Reply) (calls : List (List Job)) (took : List Reply) → length posts ≤ r.conn.worker
      → ArePosts number lanes view made_by called starts ledgers posts calls took → ArePosts number lanes view made_by called starts ledgers posts calls (took ++ r ∷ [])
  drops starts ledgers posts r calls took past all = record {
    each = λ j z e.
        let less : j < length posts = slice_get_within posts j z e in
        let ne : r.conn.worker ≢ j = λ q. absurd (omega arith) in
        untaken starts ledgers j z r calls took ne (all.each j z e);
    placed = all.placed;
  }
