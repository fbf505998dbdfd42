-- The table of a worker's connections.
use Rattle.std.proofs.Common.{◌≡◌, ◌≢◌, ℕ, zero, suc, ◌+◌, ◌<◌, ◌==◌, Bool, true, false, List, [], ◌∷◌, ◌++◌, length, take, drop, map, get_or, set, get_or-set_same, get_or-set_other, refl, sym, ap, subst, ◌∙◌, append_assoc, inl, inr, ⊎_elim, arith}
use Rattle.std.specs.Prelude.{if◌then◌else◌, ◌&&◌, not}
use Rattle.std.specs.List.{Contains}
use Rattle.std.proofs.lemmas.Bool.Decides.{nat_tests}
use Rattle.std.proofs.lemmas.List.{append-nil, take_all}
use Rattle.std.proofs.Math.ListN.{drop_of_length-le}
use Rattle.lsv_port.specs.Port.{IsOpen, IsOwed, LinkState, PortState}
use Rattle.lsv_links.specs.Views.{IsCrowded}
use Rattle.lsv_session.specs.Connections.{same}
use Rattle.lsv_session.specs.Transcript.{bodies_of}
use Rattle.lsv_session.specs.declared.connection.ConnId.{ConnId}
use Rattle.lsv_session.specs.declared.job.Body.{Body}
use Rattle.lsv_session.specs.declared.job.Job.{Job}
use Rattle.lsv_session.specs.declared.reply.Reply.{Reply}
use Rattle.lsv_session.proofs.Replies.{bodies_of-append}
use Rattle.lsv_worker.specs.Lanes.{job_of}
use Rattle.lsv_worker.specs.Outgoing.{Alone, kept_up}
use Rattle.lsv_worker.specs.Links.{KnowsPort, LinkStands, LinkStep, is_done}
use Rattle.lsv_worker.specs.Worker.{AreReadOut, AreHeld, AreLast, AreOfLanes, IsApart, IsReadOut, IsIn, IsMade, Setting, Stands, Steps, conn_at, undone}
use Rattle.lsv_worker.specs.Incoming.{has_left}
use Rattle.lsv_worker.specs.declared.link.Blocked.TheVariants as blocks
use Rattle.lsv_worker.specs.declared.link.Link.{Link}
use Rattle.lsv_worker.proofs.Away.{away_alone, beside_alone, beside_on}
use Rattle.lsv_worker.proofs.Linking.{stands_ext}
use Rattle.lsv_worker.proofs.Ports.{told_alone}
use Rattle.lsv_worker.proofs.Putting.{same_or_not, same_self}

own : (k : ℕ) → (k == k) ≡ true
own k = grind (arith, nat_tests)

other : (k m : ℕ) → k ≢ m → (k == m) ≡ false
other k m ne = grind (arith, nat_tests)

and_false : (b : Bool) → (b && false) ≡ false
and_false true = refl
and_false false = refl

pub not_same : (c d : ConnId) → c.seq ≢ d.seq → same c d ≡ false
not_same c d ne = ap (λ (b : Bool). (c.worker == d.worker) && b) (other c.seq d.seq ne) ∙ and_false (c.worker == d.worker)

pub bodies_own : (c : ConnId) (said : List Body) → bodies_of c (map (job_of c) said) ≡ said
bodies_own c [] = refl
bodies_own c (x ∷ said) = ap (λ (b : Bool). if b then x ∷ bodies_of c (map (job_of c) said) else bodies_of c (map (job_of c) said)) (same_self c) ∙ ap (λ (l : List Body). x ∷ l) (bodies_own c said)

pub bodies_other : (c d : ConnId) (said : List Body) → c.seq ≢ d.seq → bodies_of d (map (job_of c) said) ≡ []
bodies_other c d [] ne = refl
bodies_other c d (x ∷ said) ne = ap (λ (b : Bool). if b then x ∷ bodies_of d (map (job_of c) said) else bodies_of d (map (job_of c) said)) (not_same c d ne) ∙ bodies_other c d said ne

-- ---- one connection is otherwise

-- the connections as they were last, except this one
abbrev pub with_link : ℕ → Link → (ℕ → Link) → ℕ → Link
with_link k new last m = if m == k then new else last m

pub with_same : (k : ℕ) (new : Link) (last : ℕ → Link) → with_link k new last k ≡ new
with_same k new last = ap (λ (b : Bool). if b then new else last k) (own k)

pub with_other : (k m : ℕ) (new : Link) (last : ℕ → Link) → m ≢ k → with_link k new last m ≡ last m
with_other k m new last ne = ap (λ (b : Bool). if b then new else last m) (other m k ne)

-- what holds of the new one and of all others holds of each
pub with_each : (P : Link → Type 0) (k m : ℕ) (new : Link) (last : ℕ → Link) → (m ≡ k → P new) → (m ≢ k → P (last m)) → P (with_link k new last m)
with_each P k m new last this others =
    ⊎_elim (λ e. subst P (sym (ap (λ (x : ℕ). with_link k new last x) e ∙ with_same k new last)) (this e)) (λ ne. subst P (sym (with_other k m new last ne)) (others ne)) (same_or_not m k)

-- a field that stays
pub with_field : {A : Type 0} (f : Link → A) (k m : ℕ) (new : Link) (last : ℕ → Link) → f new ≡ f (last k) → f (with_link k new last m) ≡ f (last m)
with_field f k m new last e = with_each (λ l. f l ≡ f (last m)) k m new last (λ is. e ∙ ap (λ (x : ℕ). f (last x)) (sym is)) (λ ne. refl)

table_other : (k : ℕ) (new : Link) (last : ℕ → Link) (s : Setting) (links : List Link) → IsApart k links → AreLast last s links → AreLast (with_link k new last) s links
table_other k new last s [] a t = tt
table_other k new last s (x ∷ links) a t = (t.0, with_other k x.conn.seq new last a.0 ∙ t.1, t.2, table_other k new last s links a.1 t.3)

apart_set : (seq : ℕ) (links : List Link) (i : ℕ) (new : Link) → new.conn.seq ≢ seq → IsApart seq links → IsApart seq (set links i new)
apart_set seq [] i new ne a = tt
apart_set seq (x ∷ links) zero new ne a = (ne, a.1)
apart_set seq (x ∷ links) (suc i) new ne a = (a.0, apart_set seq links i new ne a.1)

pub apart_at : (seq : ℕ) (links : List Link) (i : ℕ) (d : Link) → i < length links → IsApart seq links → (get_or links i d).conn.seq ≢ seq
apart_at seq [] i d within a = absurd (omega arith)
apart_at seq (x ∷ links) zero d within a = a.0
apart_at seq (x ∷ links) (suc i) d within a = apart_at seq links i d (omega arith) a.1

pub table_set : (last : ℕ → Link) (s : Setting) (links : List Link) (i : ℕ) (old new : Link) → i < length links → old ≡ get_or links i old → new.conn ≡ old.conn → AreLast last s links → AreLast (with_link old.conn.seq new last) s (set links i new)
table_set last s [] i old new within is conn t = absurd (omega arith)
table_set last s (x ∷ links) zero old new within is conn t =
    let seq : new.conn.seq ≡ old.conn.seq = ap (λ (c : ConnId). c.seq) conn in
    let here : x.conn.seq ≡ old.conn.seq = ap (λ (l : Link). l.conn.seq) (sym is) in (
      subst (IsMade s) (here ∙ sym seq) t.0,
      ap (λ (k : ℕ). with_link old.conn.seq new last k) seq ∙ with_same old.conn.seq new last,
      subst (λ (k : ℕ). IsApart k links) (here ∙ sym seq) t.2,
      table_other old.conn.seq new last s links (subst (λ (k : ℕ). IsApart k links) here t.2) t.3,
    )
table_set last s (x ∷ links) (suc i) old new within is conn t =
    let low : i < length links = omega arith in
    let apart : old.conn.seq ≢ x.conn.seq = λ e. apart_at x.conn.seq links i old low t.2 (sym (ap (λ (l : Link). l.conn.seq) is) ∙ e) in (
      t.0,
      with_other old.conn.seq x.conn.seq new last (λ e. apart (sym e)) ∙ t.1,
      apart_set x.conn.seq links i new (λ e. apart (sym (ap (λ (c : ConnId). c.seq) conn) ∙ e)) t.2,
      table_set last s links i old new low is conn t.3,
    )

pub table_at : (last : ℕ → Link) (s : Setting) (links : List Link) (i : ℕ) (old : Link) → i < length links → old ≡ get_or links i old → AreLast last s links → IsMade s old.conn.seq × (last old.conn.seq ≡ old)
table_at last s [] i old within is t = absurd (omega arith)
table_at last s (x ∷ links) zero old within is t = subst (λ (l : Link). IsMade s l.conn.seq × (last l.conn.seq ≡ l)) (sym is) (t.0, t.1)
table_at last s (x ∷ links) (suc i) old within is t = table_at last s links i old (omega arith) is t.3

pub in_set : (k : ℕ) (links : List Link) (i : ℕ) (old new : Link) → old ≡ get_or links i old → new.conn ≡ old.conn → IsIn k links → IsIn k (set links i new)
in_set k [] i old new is conn h = absurd h
in_set k (x ∷ links) zero old new is conn h = ⊎_elim (λ e. inl (ap (λ (c : ConnId). c.seq) conn ∙ ap (λ (l : Link). l.conn.seq) is ∙ e)) (λ r. inr r) h
in_set k (x ∷ links) (suc i) old new is conn h = ⊎_elim (λ e. inl e) (λ r. inr (in_set k links i old new is conn r)) h

pub in_at : (k : ℕ) (links : List Link) (i : ℕ) (d : Link) → i < length links → (get_or links i d).conn.seq ≡ k → IsIn k links
in_at k [] i d within e = absurd (omega arith)
in_at k (x ∷ links) zero d within e = inl e
in_at k (x ∷ links) (suc i) d within e = inr (in_at k links i d (omega arith) e)

-- what holds of one connection
abbrev pub Fits : Setting → Link → PortState → (ℕ → List Job) → List Reply → Type 0
Fits s link port jobs replies = LinkStands s.lanes s.phase link (port.link link.number) (λ lane. bodies_of link.conn (jobs lane)) replies

-- the same for equal lists of jobs
pub fits_ext : (s : Setting) (link : Link) (port : PortState) (jobs others : ℕ → List Job) (replies : List Reply) → ((lane : ℕ) → others lane ≡ jobs lane) → Fits s link port jobs replies → Fits s link port others replies
fits_ext s link port jobs others replies e h = stands_ext s.lanes s.phase link (port.link link.number) (λ lane. bodies_of link.conn (others lane)) (λ lane. bodies_of link.conn (jobs lane)) replies (λ lane. ap (bodies_of link.conn) (e lane)) h

pub stands_jobs : (s : Setting) (links : List Link) (port : PortState) (jobs others : ℕ → List Job) (replies : List Reply) → ((lane : ℕ) → others lane ≡ jobs lane) → Stands s links port jobs replies → Stands s links port others replies
stands_jobs s links port jobs others replies e h = record {
  last = h.last;
  table = h.table;
  complete = h.complete;
  conn = h.conn;
  each = λ k made. fits_ext s (h.last k) port jobs others replies e (h.each k made);
  apart = h.apart;
  known = h.known;
  few = h.few;
  linked = h.linked;
  unused = λ k not lane. ap (bodies_of (conn_at s k)) (e lane) ∙ h.unused k not lane;
  unasked = h.unasked;
  away = h.away;
  beside = h.beside;
  told = h.told;
}

-- the connection itself goes on
fits_own : (s : Setting) (old new : Link) (before after : PortState) (p q jobs : ℕ → List Job) (replies : List Reply) (step : LinkStep s.phase old new before after p q) → KnowsPort s.phase before → Fits s old before jobs replies
    → Fits s new after (λ lane. jobs lane ++ map (job_of old.conn) (step.added lane)) replies
fits_own s old new before after p q jobs replies step told h =
    let to : ℕ → List Job = λ lane. jobs lane ++ map (job_of old.conn) (step.added lane) in
    let on : LinkStands s.lanes s.phase new (after.link old.number) (λ lane. bodies_of old.conn (jobs lane) ++ step.added lane) replies = step.goes s.lanes (λ lane. bodies_of old.conn (jobs lane)) replies told h in
    let at : LinkStands s.lanes s.phase new (after.link new.number) (λ lane. bodies_of old.conn (jobs lane) ++ step.added lane) replies = subst (λ (n : ℕ). LinkStands s.lanes s.phase new (after.link n) (λ lane. bodies_of old.conn (jobs lane) ++ step.added lane) replies) (sym step.number) on in
    stands_ext s.lanes s.phase new (after.link new.number) (λ lane. bodies_of new.conn (to lane)) (λ lane. bodies_of old.conn (jobs lane) ++ step.added lane) replies
    (λ lane. ap (λ (c : ConnId). bodies_of c (to lane)) step.conn ∙ bodies_of-append old.conn (jobs lane) (map (job_of old.conn) (step.added lane)) ∙ ap (λ (l : List Body). bodies_of old.conn (jobs lane) ++ l) (bodies_own old.conn (step.added lane))) at

-- another connection stays
fits_other : (s : Setting) (old link : Link) (before after : PortState) (added : ℕ → List Body) (jobs : ℕ → List Job) (replies : List Reply) → Alone old.number before after → link.number ≢ old.number → old.conn.seq ≢ link.conn.seq
    → Fits s link before jobs replies → Fits s link after (λ lane. jobs lane ++ map (job_of old.conn) (added lane)) replies
fits_other s old link before after added jobs replies alone nn nc h =
    stands_ext s.lanes s.phase link (after.link link.number) (λ lane. bodies_of link.conn (jobs lane ++ map (job_of old.conn) (added lane))) (λ lane. bodies_of link.conn (jobs lane)) replies
    (λ lane. bodies_of-append link.conn (jobs lane) (map (job_of old.conn) (added lane)) ∙ ap (λ (l : List Body). bodies_of link.conn (jobs lane) ++ l) (bodies_other old.conn link.conn (added lane) nc) ∙ append-nil (bodies_of link.conn (jobs lane)))
    (subst (λ (x : LinkState). LinkStands s.lanes s.phase link x (λ lane. bodies_of link.conn (jobs lane)) replies) (sym (alone.others link.number nn)) h)

-- a step of one connection is one of the worker
pub stand_one : (s : Setting) (links : List Link) (i : ℕ) (old new : Link) (before after : PortState) (p q jobs : ℕ → List Job) (replies : List Reply) → i < length links → old ≡ get_or links i old
    → (step : LinkStep s.phase old new before after p q) → Stands s links before jobs replies → Stands s (set links i new) after (λ lane. jobs lane ++ map (job_of old.conn) (step.added lane)) replies
stand_one s links i old new before after p q jobs replies within is step h =
    let at : IsMade s old.conn.seq × (h.last old.conn.seq ≡ old) = table_at h.last s links i old within is h.table in
    let to : ℕ → List Job = λ lane. jobs lane ++ map (job_of old.conn) (step.added lane) in
    let numbers : (k : ℕ) → (with_link old.conn.seq new h.last k).number ≡ (h.last k).number = λ k. with_field (λ l. l.number) old.conn.seq k new h.last (step.number ∙ sym (ap (λ (l : Link). l.number) at.1)) in
    let conns : (k : ℕ) → (with_link old.conn.seq new h.last k).conn ≡ (h.last k).conn = λ k. with_field (λ l. l.conn) old.conn.seq k new h.last (step.conn ∙ sym (ap (λ (l : Link). l.conn) at.1)) in
    record {
      last = with_link old.conn.seq new h.last;
      table = table_set h.last s links i old new within is step.conn h.table;
      complete = λ k made. with_each (λ l. is_done l ≡ false → IsIn k (set links i new)) old.conn.seq k new h.last
          (λ e undone. in_set k links i old new is step.conn (in_at k links i old within (ap (λ (l : Link). l.conn.seq) (sym is) ∙ sym e)))
          (λ ne undone. in_set k links i old new is step.conn (h.complete k made undone));
      conn = λ k made. conns k ∙ h.conn k made;
      each = λ k made. with_each (λ l. Fits s l after to replies) old.conn.seq k new h.last
          (λ e. fits_own s old new before after p q jobs replies step h.told (subst (λ (l : Link). Fits s l before jobs replies) at.1 (h.each old.conn.seq at.0)))
          (λ ne. fits_other s old (h.last k) before after step.added jobs replies step.alone
          (λ e. h.apart k old.conn.seq made at.0 ne (e ∙ sym (ap (λ (l : Link). l.number) at.1)))
          (λ e. ne (sym (e ∙ ap (λ (c : ConnId). c.seq) (h.conn k made)))) (h.each k made));
      apart = λ j k mj mk ne e. h.apart j k mj mk ne (sym (numbers j) ∙ e ∙ numbers k);
      known = λ k made. subst (λ (n : ℕ). Contains after.opened n) (sym (numbers k)) (subst (λ (o : List ℕ). Contains o (h.last k).number) (sym step.alone.opened) (h.known k made));
      few = λ k made crowd. h.few k made (subst IsCrowded (beside_alone old.number before after step.alone (h.last k).number) (subst (λ (n : ℕ). IsCrowded (after.link n).beside) (numbers k) crowd));
      linked = λ l now. ⊎_elim
          (λ e. (old.conn.seq, at.0, numbers old.conn.seq ∙ ap (λ (x : Link). x.number) at.1 ∙ sym e))
          (λ ne. let was = h.linked l (subst (λ (x : LinkState). x.is_open ≡ true) (step.alone.others l ne) now) in (was.0, was.1, numbers was.0 ∙ was.2))
          (same_or_not l old.number);
      unused = λ k not lane.
          bodies_of-append (conn_at s k) (jobs lane) (map (job_of old.conn) (step.added lane)) ∙ ap (λ (l : List Body). l ++ bodies_of (conn_at s k) (map (job_of old.conn) (step.added lane))) (h.unused k not lane)
          ∙ bodies_other old.conn (conn_at s k) (step.added lane) (λ e. not (subst (IsMade s) e at.0));
      unasked = h.unasked;
      away = λ l has none.
          let ne : l ≢ old.number = λ e. none old.conn.seq at.0 (numbers old.conn.seq ∙ ap (λ (x : Link). x.number) at.1 ∙ sym e) in
          away_alone s old.number l before after step.alone ne (h.away l (subst (λ (o : List ℕ). Contains o l) step.alone.opened has) (λ k made e. none k made (numbers k ∙ e)));
      beside = beside_on before after step.alone.opened (beside_alone old.number before after step.alone) h.beside;
      told = told_alone s.phase old.number before after step.alone h.told;
    }

-- ---- steps of all connections

pub steps_none : (s : Setting) (links : List Link) (port : PortState) (jobs : ℕ → List Job) → Steps s links links port port jobs jobs
steps_none s links port jobs = record {
  added = λ lane. [];
  put = λ lane. sym (append-nil (jobs lane));
  goes = λ past replies h. stands_jobs s links port past (λ lane. past lane ++ []) replies (λ lane. append-nil (past lane)) h;
}

pub steps_one : (s : Setting) (first links : List Link) (i : ℕ) (old new : Link) (a b c : PortState) (p q r : ℕ → List Job) → i < length links → old ≡ get_or links i old → Steps s first links a b p q → LinkStep s.phase old new b c q r → Steps s first (set links i new) a c p r
steps_one s first links i old new a b c p q r within is so one = record {
  added = λ lane. so.added lane ++ map (job_of old.conn) (one.added lane);
  put = λ lane. one.put lane ∙ ap (λ (l : List Job). l ++ map (job_of old.conn) (one.added lane)) (so.put lane) ∙ append_assoc (p lane) (so.added lane) (map (job_of old.conn) (one.added lane));
  goes = λ past replies h. stands_jobs s (set links i new) c (λ lane. (past lane ++ so.added lane) ++ map (job_of old.conn) (one.added lane)) (λ lane. past lane ++ (so.added lane ++ map (job_of old.conn) (one.added lane))) replies
      (λ lane. sym (append_assoc (past lane) (so.added lane) (map (job_of old.conn) (one.added lane))))
      (stand_one s links i old new b c q r (λ lane. past lane ++ so.added lane) replies within is one (so.goes past replies h));
}

-- an open link of the table is open in the port
pub open_at : (s : Setting) (links : List Link) (port : PortState) (jobs : ℕ → List Job) (replies : List Reply) (i : ℕ) (old : Link) → i < length links → old ≡ get_or links i old → Stands s links port jobs replies → old.live ≡ true → IsOpen port old.number
open_at s links port jobs replies i old within is h live =
    let at : IsMade s old.conn.seq × (h.last old.conn.seq ≡ old) = table_at h.last s links i old within is h.table in
    let fits : Fits s old port jobs replies = subst (λ (l : Link). Fits s l port jobs replies) at.1 (h.each old.conn.seq at.0) in
    fits.live ∙ live

-- ---- connections that are done are forgotten

abbrev keep_if : Bool → Link → List Link → List Link
keep_if b x links = if b then x ∷ links else links

apart_if : (b : Bool) (seq : ℕ) (x : Link) (links : List Link) → x.conn.seq ≢ seq → IsApart seq links → IsApart seq (keep_if b x links)
apart_if true seq x links ne a = (ne, a)
apart_if false seq x links ne a = a

apart_swept : (seq : ℕ) (links : List Link) → IsApart seq links → IsApart seq (undone links)
apart_swept seq [] a = tt
apart_swept seq (x ∷ links) a = apart_if (not (is_done x)) seq x (undone links) a.0 (apart_swept seq links a.1)

table_if : (b : Bool) (last : ℕ → Link) (s : Setting) (x : Link) (links : List Link) → IsMade s x.conn.seq → last x.conn.seq ≡ x → IsApart x.conn.seq links → AreLast last s links → AreLast last s (keep_if b x links)
table_if true last s x links made is a t = (made, is, a, t)
table_if false last s x links made is a t = t

table_swept : (last : ℕ → Link) (s : Setting) (links : List Link) → AreLast last s links → AreLast last s (undone links)
table_swept last s [] t = tt
table_swept last s (x ∷ links) t = table_if (not (is_done x)) last s x (undone links) t.0 t.1 (apart_swept x.conn.seq links t.2) (table_swept last s links t.3)

in_if : (b : Bool) (k : ℕ) (x : Link) (links : List Link) → IsIn k links → IsIn k (keep_if b x links)
in_if true k x links h = inr h
in_if false k x links h = h

in_kept : (b : Bool) (k : ℕ) (x : Link) (links : List Link) → b ≡ true → x.conn.seq ≡ k → IsIn k (keep_if b x links)
in_kept true k x links is e = inl e
in_kept false k x links is e = absurd cc

in_swept : (last : ℕ → Link) (s : Setting) (k : ℕ) (links : List Link) → AreLast last s links → is_done (last k) ≡ false → IsIn k links → IsIn k (undone links)
in_swept last s k [] t undone_k h = absurd h
in_swept last s k (x ∷ links) t undone_k h =
    ⊎_elim
    (λ e. in_kept (not (is_done x)) k x (undone links) (ap (λ (b : Bool). not b) (sym (ap is_done (ap last (sym e) ∙ t.1)) ∙ undone_k)) e)
    (λ r. in_if (not (is_done x)) k x (undone links) (in_swept last s k links t.3 undone_k r)) h

pub stands_swept : (s : Setting) (links : List Link) (port : PortState) (jobs : ℕ → List Job) (replies : List Reply) → Stands s links port jobs replies → Stands s (undone links) port jobs replies
stands_swept s links port jobs replies h = record {
  last = h.last;
  table = table_swept h.last s links h.table;
  complete = λ k made not_done. in_swept h.last s k links h.table not_done (h.complete k made not_done);
  conn = h.conn;
  each = h.each;
  apart = h.apart;
  known = h.known;
  few = h.few;
  linked = h.linked;
  unused = h.unused;
  unasked = h.unasked;
  away = h.away;
  beside = h.beside;
  told = h.told;
}

lanes_if : (b : Bool) (n : ℕ) (x : Link) (links : List Link) → x.incoming.route.lanes ≡ n → AreOfLanes n links → AreOfLanes n (keep_if b x links)
lanes_if true n x links e h = (e, h)
lanes_if false n x links e h = h

pub lanes_swept : (n : ℕ) (links : List Link) → AreOfLanes n links → AreOfLanes n (undone links)
lanes_swept n [] h = tt
lanes_swept n (x ∷ links) h = lanes_if (not (is_done x)) n x (undone links) h.0 (lanes_swept n links h.1)

calm_if : (b : Bool) (x : Link) (links : List Link) → IsReadOut x → AreReadOut links → AreReadOut (keep_if b x links)
calm_if true x links e h = (e, h)
calm_if false x links e h = h

pub calm_swept : (links : List Link) → AreReadOut links → AreReadOut (undone links)
calm_swept [] h = tt
calm_swept (x ∷ links) h = calm_if (not (is_done x)) x (undone links) h.0 (calm_swept links h.1)

-- ---- what is said of each in a table

pub lanes_set : (n : ℕ) (links : List Link) (i : ℕ) (new : Link) → new.incoming.route.lanes ≡ n → AreOfLanes n links → AreOfLanes n (set links i new)
lanes_set n [] i new e h = tt
lanes_set n (x ∷ links) zero new e h = (e, h.1)
lanes_set n (x ∷ links) (suc i) new e h = (h.0, lanes_set n links i new e h.1)

pub lanes_at : (n : ℕ) (links : List Link) (i : ℕ) (old : Link) → i < length links → old ≡ get_or links i old → AreOfLanes n links → old.incoming.route.lanes ≡ n
lanes_at n [] i old within is h = absurd (omega arith)
lanes_at n (x ∷ links) zero old within is h = ap (λ (l : Link). l.incoming.route.lanes) is ∙ h.0
lanes_at n (x ∷ links) (suc i) old within is h = lanes_at n links i old (omega arith) is h.1

pub calm_all : (links : List Link) → ((i : ℕ) (d : Link) → i < length links → IsReadOut (get_or links i d)) → AreReadOut links
calm_all [] h = tt
calm_all (x ∷ links) h = (h 0 x (omega arith), calm_all links (λ i d within. h (suc i) d (omega arith)))

-- what holds below i, and of the new link at i
pub below_set : (P : Link → Type 0) (links : List Link) (i : ℕ) (new : Link) → i < length links → P new → ((j : ℕ) (d : Link) → j < i → P (get_or links j d)) → (j : ℕ) (d : Link) → j < i + 1 → P (get_or (set links i new) j d)
below_set P links i new here at under j d within =
    ⊎_elim
    (λ e. subst (λ (k : ℕ). P (get_or (set links i new) k d)) (sym e) (subst P (sym (get_or-set_same links i new d here)) at))
    (λ ne. subst P (sym (get_or-set_other links i j new d ne)) (under j d (omega arith)))
    (same_or_not j i)

-- ---- links that are held

pub live_undone : (l : Link) → l.live ≡ true → is_done l ≡ false
live_undone l live = ap (λ (b : Bool). (not b && (l.shut && has_left l.incoming.stage)) && kept_up l.outgoing.sending) live

calm_held : (last : ℕ → Link) (s : Setting) (k : ℕ) (links : List Link) (held : List ℕ) → AreLast last s links → AreReadOut links → AreHeld held links → IsIn k links → (last k).live ≡ true → (last k).owed ≡ true → Contains held (last k).number
calm_held last s k [] held t unblocked h within live owed = absurd within
calm_held last s k (x ∷ links) held t unblocked h within live owed =
    ⊎_elim
    (λ e.
    let is : last k ≡ x = ap last (sym e) ∙ t.1 in
    subst (λ (l : Link). Contains held l.number) (sym is)
    (h.0 (λ blocked_by. let no : x.owed ≡ false = unblocked.0 blocked_by (ap (λ (l : Link). l.live) (sym is) ∙ live) in let yes : x.owed ≡ true = ap (λ (l : Link). l.owed) (sym is) ∙ owed in cc)))
    (λ r. calm_held last s k links held t.3 unblocked.1 h.1 r live owed) within

-- each link that is open and owed is held
pub holds_owed : (s : Setting) (links : List Link) (port : PortState) (jobs : ℕ → List Job) (replies : List Reply) (held : List ℕ) → Stands s links port jobs replies → AreReadOut links → AreHeld held links → (l : ℕ) → IsOwed port l → Contains held l
holds_owed s links port jobs replies held h unblocked are l owed =
    let k : (n : ℕ) × IsMade s n × ((h.last n).number ≡ l) = h.linked l owed.is_open in
    let fits : Fits s (h.last k.0) port jobs replies = h.each k.0 k.1 in
    let live : (h.last k.0).live ≡ true = sym fits.live ∙ subst (λ (n : ℕ). (port.link n).is_open ≡ true) (sym k.2) owed.is_open in
    let due : (h.last k.0).owed ≡ true = sym fits.owed ∙ subst (λ (n : ℕ). (port.link n).owed ≡ true) (sym k.2) owed.owed in
    subst (Contains held) k.2 (calm_held h.last s k.0 links held h.table unblocked are (h.complete k.0 k.1 (live_undone (h.last k.0) live)) live due)

pub held_all : (links : List Link) (held : List ℕ) → ((i : ℕ) (d : Link) → i < length links → (get_or links i d).blocked ≢ blocks.No → Contains held (get_or links i d).number) → AreHeld held links
held_all [] held h = tt
held_all (x ∷ links) held h = (h 0 x (omega arith), held_all links held (λ i d within. h (suc i) d (omega arith)))

-- a whole Vec lent as a slice, and given back
pub lent : {A : Type 0} (n : ℕ) (xs ys : List A) → n ≡ length ys → length xs ≡ length ys → take n (xs ++ drop (length xs) ys) ≡ xs
lent {A} n xs ys en el =
    ap (λ (l : List A). take n (xs ++ l)) (drop_of_length-le ys (omega arith)) ∙ ap (take n) (append-nil xs) ∙ take_all n xs (omega arith)

-- the same, with the lent slice
pub given_back : {A : Type 0} (n : ℕ) (xs ys was : List A) → was ≡ ys → length was ≡ n → length xs ≡ length was → take n (xs ++ drop (length xs) ys) ≡ xs
given_back n xs ys was value len size = lent n xs ys (sym len ∙ ap length value) (size ∙ ap length value)

pub same_default : {A : Type 0} (l : List A) (i : ℕ) (d e : A) → i < length l → get_or l i d ≡ get_or l i e
same_default [] i d e h = absurd (omega arith)
same_default (x ∷ l) zero d e h = refl
same_default (x ∷ l) (suc i) d e h = same_default l i d e (omega arith)
