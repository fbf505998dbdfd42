-- Replies that are taken.
use Rattle.std.proofs.Common.{◌≡◌, ◌≢◌, ◌⊎◌, ℕ, suc, ◌<◌, Bool, true, false, List, [], ◌∷◌, ◌++◌, length, get_or, set, refl, sym, ap, subst, ◌∙◌, append_assoc, inl, inr, ⊎_elim, arith}
use Rattle.std.specs.Prelude.{if◌then◌else◌, ◌&&◌, not}
use Rattle.std.specs.List.{Contains}
use Rattle.std.proofs.lemmas.List.{append-nil}
use Rattle.lsv_defs.specs.Pieces.{IsPrefix}
use Rattle.lsv_port.specs.Port.{LinkState, PortState}
use Rattle.lsv_links.specs.Views.{IsCrowded}
use Rattle.lsv_session.specs.Connections.{same}
use Rattle.lsv_session.specs.Transcript.{answers, bodies_of, frames_of, messages_in, said_to}
use Rattle.lsv_session.specs.declared.connection.ConnId.{ConnId}
use Rattle.lsv_session.specs.declared.job.Job.{Job}
use Rattle.lsv_session.specs.declared.reply.Reply.{Reply}
use Rattle.lsv_session.proofs.Replies.{answers-append}
use Rattle.lsv_worker.specs.Incoming.{has_left}
use Rattle.lsv_worker.specs.Outgoing.{Sends, kept_up}
use Rattle.lsv_worker.specs.Links.{LinkStands, Takes, is_done}
use Rattle.lsv_worker.specs.Worker.{AreLast, IsIn, IsMade, IsUnasked, Setting, Stands, conn_at}
use Rattle.lsv_worker.specs.declared.link.Link.{Link}
use Rattle.lsv_worker.specs.declared.outgoing.Sending.TheVariants as sendings
use Rattle.lsv_worker.proofs.Away.{away_alone, beside_alone, beside_on}
use Rattle.lsv_worker.proofs.Ports.{told_alone}
use Rattle.lsv_worker.proofs.Linking.{early_more, shut_more, talks_more, talks_now}
use Rattle.lsv_worker.proofs.Putting.{same_or_not}
use Rattle.lsv_worker.proofs.Speaking.{speaks_prefix}
use Rattle.lsv_worker.proofs.Tables.{Fits, in_at, in_set, not_same, table_at, table_set, with_each, with_field, with_link, with_other}

other_answers : (c : ConnId) (replies : List Reply) (reply : Reply) → same reply.conn c ≡ false → answers c (replies ++ reply ∷ []) ≡ answers c replies
other_answers c replies reply differs =
    answers-append c replies (reply ∷ []) ∙ ap (λ (b : Bool). answers c replies ++ frames_of ((if b then messages_in reply.body else []) ++ [])) differs ∙ append-nil (answers c replies)

-- a reply to another connection
other_reply : (s : Setting) (link : Link) (port : PortState) (jobs : ℕ → List Job) (replies : List Reply) (reply : Reply) → same reply.conn link.conn ≡ false → Fits s link port jobs replies → Fits s link port jobs (replies ++ reply ∷ [])
other_reply s link port jobs replies reply differs h = record {
  marks = h.marks;
  home = h.home;
  inward = h.inward;
  outward = subst (Sends link.outgoing (port.link link.number).output) (sym (other_answers link.conn replies reply differs)) h.outward;
  small = h.small;
  live = h.live;
  owed = h.owed;
  paid = h.paid;
  broken = h.broken;
  may_end = h.may_end;
  own_cause = h.own_cause;
  shut_by = h.shut_by;
  told = λ e. early_more link.conn replies (reply ∷ []) (h.told e);
  shut = λ e. shut_more link.conn replies (reply ∷ []) (h.shut e);
  silent = h.silent;
  over = λ e. ⊎_elim (λ t. inl (talks_more link.conn replies (reply ∷ []) t)) (λ l. inr l) (h.over e);
  closed = h.closed;
  sent = h.sent;
  kept = h.kept;
  wants = h.wants;
}

unasked_more : (c : ConnId) (replies : List Reply) (reply : Reply) → same reply.conn c ≡ false → IsUnasked c replies → IsUnasked c (replies ++ reply ∷ [])
unasked_more c [] reply differs u = (differs, tt)
unasked_more c (r ∷ replies) reply differs u = (u.0, unasked_more c replies reply differs u.1)

-- a connection of the table takes a reply
pub stands_took : (s : Setting) (links : List Link) (i : ℕ) (old new : Link) (before after : PortState) (jobs : ℕ → List Job) (replies : List Reply) (reply : Reply) → i < length links → old ≡ get_or links i old → reply.conn ≡ old.conn
    → Takes reply old new before after → Stands s links before jobs replies → Stands s (set links i new) after jobs (replies ++ reply ∷ [])
stands_took s links i old new before after jobs replies reply within is to takes h =
    let at : IsMade s old.conn.seq × (h.last old.conn.seq ≡ old) = table_at h.last s links i old within is h.table in
    let numbers : (k : ℕ) → (with_link old.conn.seq new h.last k).number ≡ (h.last k).number = λ k. with_field (λ l. l.number) old.conn.seq k new h.last (takes.number ∙ sym (ap (λ (l : Link). l.number) at.1)) in
    let conns : (k : ℕ) → (with_link old.conn.seq new h.last k).conn ≡ (h.last k).conn = λ k. with_field (λ l. l.conn) old.conn.seq k new h.last (takes.conn ∙ sym (ap (λ (l : Link). l.conn) at.1)) in
    let seq : reply.conn.seq ≡ old.conn.seq = ap (λ (c : ConnId). c.seq) to in
    let own : Fits s new after jobs (replies ++ reply ∷ []) =
    subst (λ (n : ℕ). LinkStands s.lanes s.phase new (after.link n) (λ lane. bodies_of new.conn (jobs lane)) (replies ++ reply ∷ [])) (sym takes.number)
    (subst (λ (c : ConnId). LinkStands s.lanes s.phase new (after.link old.number) (λ lane. bodies_of c (jobs lane)) (replies ++ reply ∷ [])) (sym takes.conn)
    (takes.goes s.lanes s.phase (λ lane. bodies_of old.conn (jobs lane)) replies h.told (subst (λ (l : Link). Fits s l before jobs replies) at.1 (h.each old.conn.seq at.0)))) in
    record {
      last = with_link old.conn.seq new h.last;
      table = table_set h.last s links i old new within is takes.conn h.table;
      complete = λ k made. with_each (λ l. is_done l ≡ false → IsIn k (set links i new)) old.conn.seq k new h.last
          (λ e undone. in_set k links i old new is takes.conn (in_at k links i old within (ap (λ (l : Link). l.conn.seq) (sym is) ∙ sym e)))
          (λ ne undone. in_set k links i old new is takes.conn (h.complete k made undone));
      conn = λ k made. conns k ∙ h.conn k made;
      each = λ k made. with_each (λ l. Fits s l after jobs (replies ++ reply ∷ [])) old.conn.seq k new h.last (λ e. own)
          (λ ne.
          let nn : (h.last k).number ≢ old.number = λ e. h.apart k old.conn.seq made at.0 ne (e ∙ sym (ap (λ (l : Link). l.number) at.1)) in
          let nc : reply.conn.seq ≢ (h.last k).conn.seq = λ e. ne (sym (sym seq ∙ e ∙ ap (λ (c : ConnId). c.seq) (h.conn k made))) in
          other_reply s (h.last k) after jobs replies reply (not_same reply.conn (h.last k).conn nc)
          (subst (λ (x : LinkState). LinkStands s.lanes s.phase (h.last k) x (λ lane. bodies_of (h.last k).conn (jobs lane)) replies) (sym (takes.alone.others (h.last k).number nn)) (h.each k made)));
      apart = λ j k mj mk ne e. h.apart j k mj mk ne (sym (numbers j) ∙ e ∙ numbers k);
      known = λ k made. subst (λ (n : ℕ). Contains after.opened n) (sym (numbers k)) (subst (λ (o : List ℕ). Contains o (h.last k).number) (sym takes.alone.opened) (h.known k made));
      few = λ k made crowd. h.few k made (subst IsCrowded (beside_alone old.number before after takes.alone (h.last k).number) (subst (λ (n : ℕ). IsCrowded (after.link n).beside) (numbers k) crowd));
      linked = λ l now. ⊎_elim
          (λ e. (old.conn.seq, at.0, numbers old.conn.seq ∙ ap (λ (x : Link). x.number) at.1 ∙ sym e))
          (λ ne. let was = h.linked l (subst (λ (x : LinkState). x.is_open ≡ true) (takes.alone.others l ne) now) in (was.0, was.1, numbers was.0 ∙ was.2))
          (same_or_not l old.number);
      unused = h.unused;
      unasked = λ k not. unasked_more (conn_at s k) replies reply (not_same reply.conn (conn_at s k) (λ e. not (subst (IsMade s) (sym seq ∙ e) at.0))) (h.unasked k not);
      away = λ l has none.
          let ne : l ≢ old.number = λ e. none old.conn.seq at.0 (numbers old.conn.seq ∙ ap (λ (x : Link). x.number) at.1 ∙ sym e) in
          away_alone s old.number l before after takes.alone ne (h.away l (subst (λ (o : List ℕ). Contains o l) takes.alone.opened has) (λ k made e. none k made (numbers k ∙ e)));
      beside = beside_on before after takes.alone.opened (beside_alone old.number before after takes.alone) h.beside;
      told = told_alone s.phase old.number before after takes.alone h.told;
    }

-- ---- a connection that is done takes nothing any more

done_live : (live shut left kept : Bool) → ((not live && (shut && left)) && kept) ≡ true → (live ≡ false) × (shut ≡ true)
done_live true shut left kept e = absurd cc
done_live false true left kept e = (refl, refl)
done_live false false left kept e = absurd cc

more_prefix : (output words more : List ℕ) → IsPrefix output words → IsPrefix output (words ++ more)
more_prefix output words more h = (h.0 ++ more, ap (λ (l : List ℕ). l ++ more) h.1 ∙ append_assoc output h.0 more)

still_done : (b kept : Bool) → (b && kept) ≡ true → (b && true) ≡ true
still_done true kept e = refl
still_done false kept e = absurd cc

abbrev mute : Link → Link
mute link = record link { outgoing = record link.outgoing { unsent = []; sending = sendings.Over } }

mute_fits : (s : Setting) (link : Link) (port : PortState) (jobs : ℕ → List Job) (replies : List Reply) (reply : Reply) → reply.conn ≡ link.conn → is_done link ≡ true → Fits s link port jobs replies → Fits s (mute link) port jobs (replies ++ reply ∷ [])
mute_fits s link port jobs replies reply to done h =
    let is = done_live link.live link.shut (has_left link.incoming.stage) (kept_up link.outgoing.sending) done in
    record {
      marks = h.marks;
      home = h.home;
      inward = h.inward;
      outward = (refl, subst (IsPrefix (port.link link.number).output) (sym (answers-append link.conn replies (reply ∷ []))) (more_prefix (port.link link.number).output (answers link.conn replies) (frames_of (said_to link.conn (reply ∷ []))) (speaks_prefix link.outgoing (port.link link.number).output (answers link.conn replies) h.outward)));
      small = h.small;
      live = h.live;
      owed = h.owed;
      paid = h.paid;
      broken = h.broken;
      may_end = h.may_end;
      own_cause = h.own_cause;
      shut_by = h.shut_by;
      told = λ e. early_more link.conn replies (reply ∷ []) (h.told e);
      shut = λ e. shut_more link.conn replies (reply ∷ []) (h.shut e);
      silent = λ e. absurd cc;
      over = λ e. inl (talks_now link.conn replies reply to (h.shut is.1));
      closed = h.closed;
      sent = λ e full. refl;
      kept = λ going e. refl;
      wants = λ e. absurd cc;
    }

not_in_other : (k : ℕ) (new : Link) (last : ℕ → Link) (s : Setting) (links : List Link) → (IsIn k links → ⊥) → AreLast last s links → AreLast (with_link k new last) s links
not_in_other k new last s [] none t = tt
not_in_other k new last s (x ∷ links) none t = (t.0, with_other k x.conn.seq new last (λ e. none (inl e)) ∙ t.1, t.2, not_in_other k new last s links (λ r. none (inr r)) t.3)

done_or_not : (b : Bool) → (b ≡ true) ⊎ (b ≡ false)
done_or_not true = inl refl
done_or_not false = inr refl

-- a connection that is no longer in the table takes a reply
pub stands_dropped : (s : Setting) (links : List Link) (port : PortState) (jobs : ℕ → List Job) (replies : List Reply) (reply : Reply) → reply.conn ≡ conn_at s reply.conn.seq → IsMade s reply.conn.seq → (IsIn reply.conn.seq links → ⊥)
    → Stands s links port jobs replies → Stands s links port jobs (replies ++ reply ∷ [])
stands_dropped s links port jobs replies reply to made none h =
    let k0 : ℕ = reply.conn.seq in
    let done : is_done (h.last k0) ≡ true = ⊎_elim (λ d. d) (λ not_done. absurd (none (h.complete k0 made not_done))) (done_or_not (is_done (h.last k0))) in
    let own : Fits s (mute (h.last k0)) port jobs (replies ++ reply ∷ []) = mute_fits s (h.last k0) port jobs replies reply (to ∙ sym (h.conn k0 made)) done (h.each k0 made) in
    let numbers : (k : ℕ) → (with_link k0 (mute (h.last k0)) h.last k).number ≡ (h.last k).number = λ k. with_field (λ l. l.number) k0 k (mute (h.last k0)) h.last refl in
    let conns : (k : ℕ) → (with_link k0 (mute (h.last k0)) h.last k).conn ≡ (h.last k).conn = λ k. with_field (λ l. l.conn) k0 k (mute (h.last k0)) h.last refl in
    record {
      last = with_link k0 (mute (h.last k0)) h.last;
      table = not_in_other k0 (mute (h.last k0)) h.last s links none h.table;
      complete = λ k m. with_each (λ l. is_done l ≡ false → IsIn k links) k0 k (mute (h.last k0)) h.last
          (λ e undone. absurd (let no : true ≡ false = sym (still_done (not (h.last k0).live && ((h.last k0).shut && has_left (h.last k0).incoming.stage)) (kept_up (h.last k0).outgoing.sending) done) ∙ undone in cc)) (λ ne undone. h.complete k m undone);
      conn = λ k m. conns k ∙ h.conn k m;
      each = λ k m. with_each (λ l. Fits s l port jobs (replies ++ reply ∷ [])) k0 k (mute (h.last k0)) h.last (λ e. own)
          (λ ne. other_reply s (h.last k) port jobs replies reply (not_same reply.conn (h.last k).conn (λ e. ne (sym (e ∙ ap (λ (c : ConnId). c.seq) (h.conn k m))))) (h.each k m));
      apart = λ j k mj mk ne e. h.apart j k mj mk ne (sym (numbers j) ∙ e ∙ numbers k);
      known = λ k m. subst (λ (n : ℕ). Contains port.opened n) (sym (numbers k)) (h.known k m);
      few = λ k m crowd. h.few k m (subst (λ (n : ℕ). IsCrowded (port.link n).beside) (numbers k) crowd);
      linked = λ l now. let was = h.linked l now in (was.0, was.1, numbers was.0 ∙ was.2);
      unused = h.unused;
      unasked = λ k not. unasked_more (conn_at s k) replies reply (not_same reply.conn (conn_at s k) (λ e. not (subst (IsMade s) e made))) (h.unasked k not);
      away = λ l has none_is. h.away l has (λ k m e. none_is k m (numbers k ∙ e));
      beside = h.beside;
      told = h.told;
    }

pub not_in : (k : ℕ) (links : List Link) → ((i : ℕ) (d : Link) → i < length links → (get_or links i d).conn.seq ≢ k) → IsIn k links → ⊥
not_in k [] none h = h
not_in k (x ∷ links) none h = ⊎_elim (λ e. none 0 x (omega arith) e) (λ r. not_in k links (λ i d within. none (suc i) d (omega arith)) r) h

pub own_conn : (s : Setting) (links : List Link) (i : ℕ) (old : Link) (port : PortState) (jobs : ℕ → List Job) (replies : List Reply) → i < length links → old ≡ get_or links i old → Stands s links port jobs replies → old.conn ≡ conn_at s old.conn.seq
own_conn s links i old port jobs replies within is h =
    let at : IsMade s old.conn.seq × (h.last old.conn.seq ≡ old) = table_at h.last s links i old within is h.table in
    sym (ap (λ (l : Link). l.conn) at.1) ∙ h.conn old.conn.seq at.0
