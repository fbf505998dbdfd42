-- The port's reports, noted in the table.
use Rattle.std.proofs.Common.{◌≡◌, ◌≢◌, ◌⊎◌, ℕ, suc, ◌+◌, ◌<◌, ◌≤◌, ◌%◌, ◌==◌, Bool, true, false, List, [], ◌∷◌, ◌++◌, length, map, get_or, refl, sym, ap, subst, ◌∙◌, inl, inr, ⊎_elim, arith}
use Rattle.std.specs.Prelude.{if◌then◌else◌}
use Rattle.std.specs.List.{Contains}
use Rattle.std.proofs.lemmas.Bool.Decides.{nat_tests}
use Rattle.std.proofs.lemmas.List.{append-nil}
use Rattle.std.proofs.lemmas.List.Elements.{Contains-append_left, Contains-append_right}
use Rattle.lsv_port.specs.Port.{Changes, IsOpen, IsSame, LinkState, Opens, PortState, TellsFault, TellsReadable, TellsStop, TellsWritable, closed, fresh_link, is_over}
use Rattle.lsv_links.specs.Views.{IsCrowded}
use Rattle.lsv_msg.specs.Messages.{server_bytes}
use Rattle.lsv_msg.specs.declared.messages.ServerMessage.{ServerMessage}
use Rattle.lsv_wire.specs.Frame.{frame_of}
use Rattle.lsv_session.specs.Connections.{same, server_hello}
use Rattle.lsv_session.specs.Transcript.{answers, bodies_of, frames_of, messages_in, said_to}
use Rattle.lsv_session.specs.declared.connection.ConnId.{ConnId}
use Rattle.lsv_session.specs.declared.job.Body.{Body}
use Rattle.lsv_session.specs.declared.job.Job.{Job}
use Rattle.lsv_session.specs.declared.reply.Reply.{Reply}
use Rattle.lsv_worker.specs.Outgoing.{Alone, Sends}
use Rattle.lsv_worker.specs.Links.{HasOwnCause, KnowsPort, LetsEnd, LinkStands, MayEnd, is_done}
use Rattle.lsv_worker.specs.Worker.{AreLast, AreOfLanes, IsApart, IsFresh, IsIn, IsMade, IsTurnedAway, IsUnasked, Setting, Stands, conn_at, marked, owed_if}
use Rattle.lsv_worker.specs.declared.link.Link.{Link}
use Rattle.lsv_worker.specs.declared.link.Phase.{Phase}
use Rattle.lsv_worker.specs.declared.link.Phase.TheVariants.{Going, Stopping, Failed, Stopped}
use Rattle.lsv_worker.specs.declared.outgoing.Sending.TheVariants as sendings
use Rattle.lsv_worker.proofs.Putting.{hears_ext, same_or_not}
use Rattle.lsv_worker.proofs.Ports.{alone_change, told_on}
use Rattle.lsv_worker.proofs.Away.{away_alone, away_now, away_on, away_opens, away_set, away_still, beside_alone, beside_links, beside_on, beside_opens, beside_still, opened_before}
use Rattle.lsv_worker.proofs.Tables.{Fits, with_each, with_link, with_other, with_same}

-- ---- no connection is otherwise, but the phase, or the port

same_lets_at : (phase : Phase) (s : LinkState) → LetsEnd phase s → LetsEnd phase (record s { full = false })
same_lets_at Going s h = h
same_lets_at Stopping s h = h
same_lets_at Failed s h = h
same_lets_at Stopped s h = h

same_lets : (phase : Phase) (s : LinkState) → MayEnd phase s → MayEnd phase (record s { full = false })
same_lets phase s h = ⊎_elim (λ e. inl e) (λ k. inr (⊎_elim (λ f. inl f) (λ l. inr (same_lets_at phase s l)) k)) h

table_phase : (s : Setting) (q : Phase) (last : ℕ → Link) (links : List Link) → AreLast last s links → AreLast last (record s { phase = q }) links
table_phase s q last [] t = tt
table_phase s q last (x ∷ links) t = (record { first = t.0.first; below = t.0.below }, t.1, t.2, table_phase s q last links t.3)

pub stands_phase : (s : Setting) (q : Phase) (links : List Link) (before after : PortState) (jobs : ℕ → List Job) (replies : List Reply) → ((link : Link) → Fits s link before jobs replies → Fits (record s { phase = q }) link after jobs replies)
    → after.opened ≡ before.opened → ((l : ℕ) → IsOpen after l → IsOpen before l) → ((l : ℕ) → IsTurnedAway s before l → IsTurnedAway s after l) → ((m : ℕ) → (after.link m).beside ≡ (before.link m).beside) → KnowsPort q after → Stands s links before jobs replies → Stands (record s { phase = q }) links after jobs replies
stands_phase s q links before after jobs replies fits opened still touched beside told h = record {
  last = h.last;
  table = table_phase s q h.last links h.table;
  complete = λ k made not_done. h.complete k (record { first = made.first; below = made.below }) not_done;
  conn = λ k made. h.conn k (record { first = made.first; below = made.below });
  each = λ k made. fits (h.last k) (h.each k (record { first = made.first; below = made.below }));
  apart = λ j k mj mk ne. h.apart j k (record { first = mj.first; below = mj.below }) (record { first = mk.first; below = mk.below }) ne;
  known = λ k made. subst (λ (o : List ℕ). Contains o (h.last k).number) (sym opened) (h.known k (record { first = made.first; below = made.below }));
  few = λ k made crowd. h.few k (record { first = made.first; below = made.below }) (subst IsCrowded (beside (h.last k).number) crowd);
  linked = λ l now. let was = h.linked l (still l now) in (was.0, record { first = was.1.first; below = was.1.below }, was.2);
  unused = λ k not lane. h.unused k (λ made. not (record { first = made.first; below = made.below })) lane;
  unasked = λ k not. h.unasked k (λ made. not (record { first = made.first; below = made.below }));
  away = λ l has none. away_set s (record s { phase = q }) after l (omega arith) (touched l (h.away l (subst (λ (o : List ℕ). Contains o l) opened has) (λ k made. none k (record { first = made.first; below = made.below }))));
  beside = beside_on before after opened beside h.beside;
  told = told;
}

going_lets : (p q : Phase) (s : LinkState) → p ≡ Going → MayEnd p s → MayEnd q s
going_lets p q s going h = ⊎_elim (λ e. inl e) (λ k. inr (⊎_elim (λ f. inl f) (λ l. absurd (subst (λ (x : Phase). LetsEnd x s) going l)) k)) h

own_on : (p q : Phase) (s : LinkState) (shut : Type 0) → p ≡ Going → HasOwnCause p s shut → HasOwnCause q s shut
own_on p q s shut going h gone early =
    ⊎_elim (λ e. inl e) (λ k. inr (⊎_elim (λ f. inl f) (λ m. inr (⊎_elim (λ u. inl u) (λ no. let a : Going ≡ Stopped = sym going ∙ no in absurd cc) m)) k)) (h gone early)

-- a worker that goes on gets another phase
pub phase_on : (n : ℕ) (p q : Phase) (link : Link) (s : LinkState) (past : ℕ → List Body) (replies : List Reply) → p ≡ Going → LinkStands n p link s past replies → LinkStands n q link s past replies
phase_on n p q link s past replies going h = record {
  marks = h.marks;
  home = h.home;
  inward = h.inward;
  outward = h.outward;
  small = h.small;
  live = h.live;
  owed = h.owed;
  paid = h.paid;
  broken = h.broken;
  may_end = λ e. going_lets p q s going (h.may_end e);
  own_cause = λ e. own_on p q s (h.marks.shut ≡ true) going (h.own_cause e);
  shut_by = h.shut_by;
  told = h.told;
  shut = h.shut;
  silent = h.silent;
  over = λ e. ⊎_elim (λ t. inl t) (λ l. inr (⊎_elim (λ f. inl f) (λ no. let a : Going ≡ Stopped = sym going ∙ no in absurd cc) l)) (h.over e);
  closed = λ e. ⊎_elim (λ f. inl f) (λ k. inr (⊎_elim (λ u. inl u) (λ no. let a : Going ≡ Stopped = sym going ∙ no in absurd cc) k)) (h.closed e);
  sent = h.sent;
  kept = λ e dead. h.kept going dead;
  wants = h.wants;
}

-- a worker is stopped, in any phase
pub phase_stopped : (n : ℕ) (p : Phase) (link : Link) (s : LinkState) (past : ℕ → List Body) (replies : List Reply) → LinkStands n p link s past replies → LinkStands n Stopped link s past replies
phase_stopped n p link s past replies h = record {
  marks = h.marks;
  home = h.home;
  inward = h.inward;
  outward = h.outward;
  small = h.small;
  live = h.live;
  owed = h.owed;
  paid = h.paid;
  broken = h.broken;
  may_end = λ e. inr (inr tt);
  own_cause = λ e gone early. inr (inr (inr refl));
  shut_by = h.shut_by;
  told = h.told;
  shut = h.shut;
  silent = h.silent;
  over = λ e. ⊎_elim (λ t. inl t) (λ l. inr (inr refl)) (h.over e);
  closed = λ e. inr (inr refl);
  sent = h.sent;
  kept = λ e dead. let no : Stopped ≡ Going = e in absurd cc;
  wants = h.wants;
}

pub woken_stands : (s : Setting) (links : List Link) (before after : PortState) (jobs : ℕ → List Job) (replies : List Reply) → IsSame before after → Stands s links before jobs replies → Stands s links after jobs replies
woken_stands s links before after jobs replies same h =
    stands_phase s s.phase links before after jobs replies (λ link fits. subst (λ (x : LinkState). LinkStands s.lanes s.phase link x (λ lane. bodies_of link.conn (jobs lane)) replies) (sym (same.links link.number)) fits)
    same.opened (λ l now. subst (λ (x : LinkState). x.is_open ≡ true) (same.links l) now) (λ l u. away_on s before after l (same.links l) same.opened (beside_links before after same.links) u) (beside_links before after same.links) (told_on s.phase before after same.stopped same.failed h.told) h

pub stop_stands : (s : Setting) (links : List Link) (before after : PortState) (jobs : ℕ → List Job) (replies : List Reply) → s.phase ≡ Going → TellsStop before after → Stands s links before jobs replies → Stands (record s { phase = Stopping }) links after jobs replies
stop_stands s links before after jobs replies going tells h =
    stands_phase s Stopping links before after jobs replies (λ link fits. subst (λ (x : LinkState). LinkStands s.lanes Stopping link x (λ lane. bodies_of link.conn (jobs lane)) replies) (sym (tells.links link.number)) (phase_on s.lanes s.phase Stopping link (before.link link.number) (λ lane. bodies_of link.conn (jobs lane)) replies going fits))
    tells.opened (λ l now. subst (λ (x : LinkState). x.is_open ≡ true) (tells.links l) now) (λ l u. away_on s before after l (tells.links l) tells.opened (beside_links before after tells.links) u) (beside_links before after tells.links) tells.stopped h

pub failed_stands : (s : Setting) (links : List Link) (port : PortState) (jobs : ℕ → List Job) (replies : List Reply) → s.phase ≡ Going → port.failed ≡ true → Stands s links port jobs replies → Stands (record s { phase = Failed }) links port jobs replies
failed_stands s links port jobs replies going failed h =
    stands_phase s Failed links port port jobs replies (λ link fits. phase_on s.lanes s.phase Failed link (port.link link.number) (λ lane. bodies_of link.conn (jobs lane)) replies going fits) refl (λ l now. now) (λ l u. u) (λ m. refl) failed h

pub stopped_stands : (s : Setting) (links : List Link) (port : PortState) (jobs : ℕ → List Job) (replies : List Reply) → Stands s links port jobs replies → Stands (record s { phase = Stopped }) links port jobs replies
stopped_stands s links port jobs replies h =
    stands_phase s Stopped links port port jobs replies (λ link fits. phase_stopped s.lanes s.phase link (port.link link.number) (λ lane. bodies_of link.conn (jobs lane)) replies fits) refl (λ l now. now) (λ l u. u) (λ m. refl) tt h

-- what a worker in this phase knows of a port that failed as a whole
told_fault : (phase : Phase) (s t : PortState) → TellsFault s t → KnowsPort phase s → KnowsPort phase t
told_fault Going s t tells h = tells.stopped ∙ h
told_fault Stopping s t tells h = tells.stopped ∙ h
told_fault Failed s t tells h = tells.failed
told_fault Stopped s t tells h = tt

-- the port failed as a whole, and its worker doesn't know
pub fault_stands : (s : Setting) (links : List Link) (before after : PortState) (jobs : ℕ → List Job) (replies : List Reply) → TellsFault before after → Stands s links before jobs replies → Stands s links after jobs replies
fault_stands s links before after jobs replies tells h =
    stands_phase s s.phase links before after jobs replies (λ link fits. subst (λ (x : LinkState). LinkStands s.lanes s.phase link x (λ lane. bodies_of link.conn (jobs lane)) replies) (sym (tells.links link.number)) fits)
    tells.opened (λ l now. subst (λ (x : LinkState). x.is_open ≡ true) (tells.links l) now) (λ l u. away_on s before after l (tells.links l) tells.opened (beside_links before after tells.links) u) (beside_links before after tells.links)
    (told_fault s.phase before after tells h.told) h

-- a link that may take bytes again
unfull : (n : ℕ) (phase : Phase) (link : Link) (s : LinkState) (past : ℕ → List Body) (replies : List Reply) → s.is_open ≡ true → LinkStands n phase link s past replies → LinkStands n phase link (record s { full = false }) past replies
unfull n phase link s past replies here h = record {
  marks = h.marks;
  home = h.home;
  inward = h.inward;
  outward = h.outward;
  small = h.small;
  live = h.live;
  owed = h.owed;
  paid = h.paid;
  broken = h.broken;
  may_end = λ e. same_lets phase s (h.may_end e);
  own_cause = h.own_cause;
  shut_by = h.shut_by;
  told = h.told;
  shut = h.shut;
  silent = h.silent;
  over = h.over;
  closed = h.closed;
  sent = λ e full. let no : true ≡ false = sym here ∙ h.live ∙ e in absurd cc;
  kept = h.kept;
  wants = h.wants;
}

-- a link that was turned away isn't the one that is open
other_away : (set : Setting) (port : PortState) (l m : ℕ) → (port.link l).is_open ≡ true → IsTurnedAway set port m → m ≢ l
other_away set port l m here a e = let no : true ≡ false = sym here ∙ ap (λ (n : ℕ). (port.link n).is_open) (sym e) ∙ a.closed in cc

pub writable_stands : (s : Setting) (links : List Link) (l : ℕ) (before after : PortState) (jobs : ℕ → List Job) (replies : List Reply) → TellsWritable l before after → Stands s links before jobs replies → Stands s links after jobs replies
writable_stands s links l before after jobs replies tells h =
    let alone : Alone l before after = alone_change l (record (before.link l) { full = false }) before after refl tells.change in
    stands_phase s s.phase links before after jobs replies
    (λ link fits. ⊎_elim
    (λ e. subst (λ (n : ℕ). LinkStands s.lanes s.phase link (after.link n) (λ lane. bodies_of link.conn (jobs lane)) replies) (sym e)
    (subst (λ (x : LinkState). LinkStands s.lanes s.phase link x (λ lane. bodies_of link.conn (jobs lane)) replies) (sym tells.change.this)
    (unfull s.lanes s.phase link (before.link l) (λ lane. bodies_of link.conn (jobs lane)) replies tells.is_open (subst (λ (n : ℕ). LinkStands s.lanes s.phase link (before.link n) (λ lane. bodies_of link.conn (jobs lane)) replies) e fits))))
    (λ ne. subst (λ (x : LinkState). LinkStands s.lanes s.phase link x (λ lane. bodies_of link.conn (jobs lane)) replies) (sym (tells.change.others link.number ne)) fits)
    (same_or_not link.number l))
    tells.change.opened
    (λ m now. ⊎_elim (λ e. subst (IsOpen before) (sym e) tells.is_open) (λ ne. subst (λ (x : LinkState). x.is_open ≡ true) (tells.change.others m ne) now) (same_or_not m l))
    (λ m u. away_alone s l m before after alone (other_away s before l m tells.is_open u) u)
    (beside_alone l before after alone)
    (told_on s.phase before after alone.stopped alone.failed h.told) h

-- ---- a link is owed a read

flag_number : (b : Bool) (x : Link) → (owed_if b x).number ≡ x.number
flag_number true x = refl
flag_number false x = refl

flag_conn : (b : Bool) (x : Link) → (owed_if b x).conn ≡ x.conn
flag_conn true x = refl
flag_conn false x = refl

flag_done : (b : Bool) (x : Link) → is_done (owed_if b x) ≡ is_done x
flag_done true x = refl
flag_done false x = refl

flag_lanes : (b : Bool) (x : Link) → (owed_if b x).incoming.route.lanes ≡ x.incoming.route.lanes
flag_lanes true x = refl
flag_lanes false x = refl

abbrev pub flagged : ℕ → Link → Link
flagged l x = owed_if (x.number == l) x

apart_marked : (l seq : ℕ) (links : List Link) → IsApart seq links → IsApart seq (marked l links)
apart_marked l seq [] a = tt
apart_marked l seq (x ∷ links) a = (λ e. a.0 (sym (ap (λ (c : ConnId). c.seq) (flag_conn (x.number == l) x)) ∙ e), apart_marked l seq links a.1)

table_marked : (l : ℕ) (last : ℕ → Link) (s : Setting) (links : List Link) → AreLast last s links → AreLast (λ k. flagged l (last k)) s (marked l links)
table_marked l last s [] t = tt
table_marked l last s (x ∷ links) t =
    let seq : (flagged l x).conn.seq ≡ x.conn.seq = ap (λ (c : ConnId). c.seq) (flag_conn (x.number == l) x) in (
      subst (IsMade s) (sym seq) t.0,
      ap (λ (k : ℕ). flagged l (last k)) seq ∙ ap (flagged l) t.1,
      subst (λ (k : ℕ). IsApart k (marked l links)) (sym seq) (apart_marked l x.conn.seq links t.2),
      table_marked l last s links t.3,
    )

in_marked : (l k : ℕ) (links : List Link) → IsIn k links → IsIn k (marked l links)
in_marked l k [] h = absurd h
in_marked l k (x ∷ links) h = ⊎_elim (λ e. inl (ap (λ (c : ConnId). c.seq) (flag_conn (x.number == l) x) ∙ e)) (λ r. inr (in_marked l k links r)) h

pub lanes_marked : (n l : ℕ) (links : List Link) → AreOfLanes n links → AreOfLanes n (marked l links)
lanes_marked n l [] h = tt
lanes_marked n l (x ∷ links) h = (flag_lanes (x.number == l) x ∙ h.0, lanes_marked n l links h.1)

own_number : (k : ℕ) → (k == k) ≡ true
own_number k = grind (arith, nat_tests)

other_number : (k m : ℕ) → k ≢ m → (k == m) ≡ false
other_number k m ne = grind (arith, nat_tests)

-- an open link doesn't end while its input and its worker go on
not_ended : (n : ℕ) (phase : Phase) (link : Link) (s : LinkState) (past : ℕ → List Body) (replies : List Reply) → phase ≡ Going → s.is_open ≡ true → s.ended ≡ false → LinkStands n phase link s past replies → MayEnd phase s → ⊥
not_ended n phase link s past replies going here on h may =
    ⊎_elim (λ e. let no : false ≡ true = sym on ∙ e in cc)
    (λ k. ⊎_elim (λ f. let no : true ≡ false = sym here ∙ h.live ∙ h.broken f in cc) (λ l. subst (λ (p : Phase). LetsEnd p s) going l) k) may

owed_now : (n : ℕ) (phase : Phase) (link : Link) (s : LinkState) (past : ℕ → List Body) (replies : List Reply) → phase ≡ Going → s.is_open ≡ true → s.ended ≡ false → LinkStands n phase link s past replies → LinkStands n phase (record link { owed = true }) (record s { owed = true }) past replies
owed_now n phase link s past replies going here on h = record {
  marks = h.marks;
  home = h.home;
  inward = h.inward;
  outward = h.outward;
  small = h.small;
  live = h.live;
  owed = refl;
  paid = λ e. let no : false ≡ true = sym on ∙ e in absurd cc;
  broken = h.broken;
  may_end = λ e. absurd (not_ended n phase link s past replies going here on h (h.may_end e));
  own_cause = λ e. absurd (not_ended n phase link s past replies going here on h (h.may_end e));
  shut_by = h.shut_by;
  told = h.told;
  shut = h.shut;
  silent = h.silent;
  over = h.over;
  closed = h.closed;
  sent = h.sent;
  kept = h.kept;
  wants = h.wants;
}

flagged_fits : (s : Setting) (l : ℕ) (link : Link) (before after : PortState) (jobs : ℕ → List Job) (replies : List Reply) → s.phase ≡ Going → TellsReadable l before after → (link.number ≡ l) ⊎ (link.number ≢ l) → Fits s link before jobs replies → Fits s (flagged l link) after jobs replies
flagged_fits s l link before after jobs replies going tells (inl e) fits =
    let b : (link.number == l) ≡ true = ap (λ (n : ℕ). n == l) e ∙ own_number l in
    subst (λ (x : Bool). Fits s (owed_if x link) after jobs replies) (sym b)
    (subst (λ (n : ℕ). LinkStands s.lanes s.phase (record link { owed = true }) (after.link n) (λ lane. bodies_of link.conn (jobs lane)) replies) (sym e)
    (subst (λ (x : LinkState). LinkStands s.lanes s.phase (record link { owed = true }) x (λ lane. bodies_of link.conn (jobs lane)) replies) (sym tells.change.this)
    (owed_now s.lanes s.phase link (before.link l) (λ lane. bodies_of link.conn (jobs lane)) replies going tells.is_open tells.going (subst (λ (n : ℕ). LinkStands s.lanes s.phase link (before.link n) (λ lane. bodies_of link.conn (jobs lane)) replies) e fits))))
flagged_fits s l link before after jobs replies going tells (inr ne) fits =
    subst (λ (x : Bool). Fits s (owed_if x link) after jobs replies) (sym (other_number link.number l ne))
    (subst (λ (x : LinkState). LinkStands s.lanes s.phase link x (λ lane. bodies_of link.conn (jobs lane)) replies) (sym (tells.change.others link.number ne)) fits)

pub readable_stands : (s : Setting) (links : List Link) (l : ℕ) (before after : PortState) (jobs : ℕ → List Job) (replies : List Reply) → s.phase ≡ Going → TellsReadable l before after → Stands s links before jobs replies → Stands s (marked l links) after jobs replies
readable_stands s links l before after jobs replies going tells h =
    let alone : Alone l before after = alone_change l (record (before.link l) { owed = true }) before after refl tells.change in
    record {
      last = λ k. flagged l (h.last k);
      table = table_marked l h.last s links h.table;
      complete = λ k made not_done. in_marked l k links (h.complete k made (sym (flag_done ((h.last k).number == l) (h.last k)) ∙ not_done));
      conn = λ k made. flag_conn ((h.last k).number == l) (h.last k) ∙ h.conn k made;
      each = λ k made. flagged_fits s l (h.last k) before after jobs replies going tells (same_or_not (h.last k).number l) (h.each k made);
      apart = λ j k mj mk ne e. h.apart j k mj mk ne (sym (flag_number ((h.last j).number == l) (h.last j)) ∙ e ∙ flag_number ((h.last k).number == l) (h.last k));
      known = λ k made. subst (λ (n : ℕ). Contains after.opened n) (sym (flag_number ((h.last k).number == l) (h.last k))) (subst (λ (o : List ℕ). Contains o (h.last k).number) (sym tells.change.opened) (h.known k made));
      few = λ k made crowd. h.few k made (subst IsCrowded (beside_alone l before after alone (h.last k).number) (subst (λ (n : ℕ). IsCrowded (after.link n).beside) (flag_number ((h.last k).number == l) (h.last k)) crowd));
      linked = λ m now.
          let was = h.linked m (⊎_elim (λ e. subst (IsOpen before) (sym e) tells.is_open) (λ ne. subst (λ (x : LinkState). x.is_open ≡ true) (tells.change.others m ne) now) (same_or_not m l)) in
          (was.0, was.1, flag_number ((h.last was.0).number == l) (h.last was.0) ∙ was.2);
      unused = h.unused;
      unasked = h.unasked;
      away = λ m has none.
          let were : (k : ℕ) → IsMade s k → (h.last k).number ≢ m = λ k made e. none k made (flag_number ((h.last k).number == l) (h.last k) ∙ e) in
          let u : IsTurnedAway s before m = h.away m (subst (λ (o : List ℕ). Contains o m) tells.change.opened has) were in
          away_alone s l m before after alone (other_away s before l m tells.is_open u) u;
      beside = beside_on before after tells.change.opened (beside_alone l before after alone) h.beside;
      told = told_on s.phase before after alone.stopped alone.failed h.told;
    }

-- ---- a link was opened

unasked_said : (c : ConnId) (replies : List Reply) → IsUnasked c replies → said_to c replies ≡ []
unasked_said c [] u = refl
unasked_said c (r ∷ replies) u = ap (λ (b : Bool). (if b then messages_in r.body else []) ++ said_to c replies) u.0 ∙ unasked_said c replies u.1

unasked_answers : (c : ConnId) (replies : List Reply) → IsUnasked c replies → answers c replies ≡ frame_of (server_bytes server_hello)
unasked_answers c replies u = ap (λ (l : List ServerMessage). frame_of (server_bytes server_hello) ++ frames_of l) (unasked_said c replies u) ∙ append-nil (frame_of (server_bytes server_hello))

fresh_fits : (s : Setting) (link : Link) (beside : ℕ → Bool) (put : ℕ → List Body) (replies : List Reply) (l : ℕ) → IsFresh s l link → ((lane : ℕ) → put lane ≡ []) → IsUnasked link.conn replies → LinkStands s.lanes s.phase link (fresh_link beside) put replies
fresh_fits s link beside put replies l fresh quiet unasked = record {
  marks = record { lanes = s.lanes; home = s.next % s.lanes; shut = false; over = false };
  home = record { lanes = refl; home = ap (λ (c : ConnId). c.seq % s.lanes) (sym fresh.conn) };
  inward = hears_ext link.incoming [] put (λ lane. []) (record { lanes = s.lanes; home = s.next % s.lanes; shut = false; over = false }) quiet fresh.incoming;
  outward = subst (Sends link.outgoing []) (sym (unasked_answers link.conn replies unasked)) fresh.outgoing;
  small = λ i d low. absurd (omega arith);
  live = sym fresh.live;
  owed = sym fresh.owed;
  paid = λ e. absurd cc;
  broken = λ e. absurd cc;
  may_end = λ e. absurd cc;
  own_cause = λ e. absurd cc;
  shut_by = λ e. let no : false ≡ true = sym fresh.shut ∙ e in absurd cc;
  told = λ e. absurd cc;
  shut = λ e. let no : false ≡ true = sym fresh.shut ∙ e in absurd cc;
  silent = λ e. let no : sendings.Open ≡ sendings.Failed = sym fresh.sending ∙ e in absurd cc;
  over = λ e. let no : sendings.Open ≡ sendings.Over = sym fresh.sending ∙ e in absurd cc;
  closed = λ e. let no : true ≡ false = sym fresh.live ∙ e in absurd cc;
  sent = λ e full. let no : true ≡ false = sym fresh.live ∙ e in absurd cc;
  kept = λ going e. let no : true ≡ false = sym fresh.live ∙ e in absurd cc;
  wants = λ e. let no : sendings.Open ≡ sendings.OutOfMemory = sym fresh.sending ∙ e in absurd cc;
}

abbrev one_more : Setting → Setting
one_more s = record s { next = s.next + 1 }

made_up : (s : Setting) (k : ℕ) → IsMade s k → IsMade (one_more s) k
made_up s k made = record { first = made.first; below = let low : k < s.next = made.below in omega arith }

made_down : (s : Setting) (k : ℕ) → k ≢ s.next → IsMade (one_more s) k → IsMade s k
made_down s k ne made = record { first = made.first; below = let low : k < s.next + 1 = made.below in omega arith }

apart_push : (seq : ℕ) (links : List Link) (new : Link) → new.conn.seq ≢ seq → IsApart seq links → IsApart seq (links ++ new ∷ [])
apart_push seq [] new ne a = (ne, tt)
apart_push seq (x ∷ links) new ne a = (a.0, apart_push seq links new ne a.1)

table_push : (last : ℕ → Link) (s : Setting) (links : List Link) (new : Link) → 1 ≤ s.next → new.conn.seq ≡ s.next → AreLast last s links → AreLast (with_link s.next new last) (one_more s) (links ++ new ∷ [])
table_push last s [] new first seq t =
    (record { first = subst (λ (k : ℕ). 1 ≤ k) (sym seq) first; below = omega arith }, ap (λ (k : ℕ). with_link s.next new last k) seq ∙ with_same s.next new last, tt, tt)
table_push last s (x ∷ links) new first seq t =
    let low : x.conn.seq < s.next = t.0.below in (
      made_up s x.conn.seq t.0,
      with_other s.next x.conn.seq new last (λ e. omega arith) ∙ t.1,
      apart_push x.conn.seq links new (λ e. omega arith) t.2,
      table_push last s links new first seq t.3,
    )

in_last : (k : ℕ) (links : List Link) (new : Link) → new.conn.seq ≡ k → IsIn k (links ++ new ∷ [])
in_last k [] new e = inl e
in_last k (x ∷ links) new e = inr (in_last k links new e)

in_left : (k : ℕ) (links : List Link) (new : Link) → IsIn k links → IsIn k (links ++ new ∷ [])
in_left k [] new h = absurd h
in_left k (x ∷ links) new h = ⊎_elim (λ e. inl e) (λ r. inr (in_left k links new r)) h

pub lanes_push : (n : ℕ) (links : List Link) (new : Link) → new.incoming.route.lanes ≡ n → AreOfLanes n links → AreOfLanes n (links ++ new ∷ [])
lanes_push n [] new e h = (e, tt)
lanes_push n (x ∷ links) new e h = (h.0, lanes_push n links new e h.1)

-- what is open was opened
open_known : (s : Setting) (links : List Link) (port : PortState) (jobs : ℕ → List Job) (replies : List Reply) → Stands s links port jobs replies → (l : ℕ) → IsOpen port l → Contains port.opened l
open_known s links port jobs replies h l now = let was = h.linked l now in subst (Contains port.opened) was.2 (h.known was.0 was.1)

pub opens_kept : (s : Setting) (links : List Link) (l : ℕ) (link : Link) (before after : PortState) (jobs : ℕ → List Job) (replies : List Reply) → 1 ≤ s.next → IsFresh s l link → (IsCrowded (after.link l).beside → ⊥) → Opens l before after → Stands s links before jobs replies → Stands (one_more s) (links ++ link ∷ []) after jobs replies
opens_kept s links l link before after jobs replies first fresh uncrowded opens h =
    let seq : link.conn.seq ≡ s.next = ap (λ (c : ConnId). c.seq) fresh.conn in
    let none : IsMade s s.next → ⊥ = λ made. let low : s.next < s.next = made.below in omega arith in
    let apart : (k : ℕ) → IsMade s k → (h.last k).number ≢ l = λ k made e. opens.fresh (subst (Contains before.opened) e (h.known k made)) in
    let on : (m : ℕ) → Contains before.opened m → Contains after.opened m = λ m has. subst (λ (o : List ℕ). Contains o m) (sym opens.opened) (Contains-append_left before.opened (l ∷ []) m has) in
    let number : (k : ℕ) → k ≢ s.next → (with_link s.next link h.last k).number ≡ (h.last k).number = λ k ne. ap (λ (x : Link). x.number) (with_other s.next k link h.last ne) in
    let newest : (k : ℕ) → k ≡ s.next → (with_link s.next link h.last k).number ≡ l = λ k e. ap (λ (x : ℕ). (with_link s.next link h.last x).number) e ∙ ap (λ (x : Link). x.number) (with_same s.next link h.last) ∙ fresh.number_is in
    let fits : Fits (one_more s) link after jobs replies =
    subst (λ (n : ℕ). LinkStands s.lanes s.phase link (after.link n) (λ lane. bodies_of link.conn (jobs lane)) replies) (sym fresh.number_is)
    (subst (λ (x : LinkState). LinkStands s.lanes s.phase link x (λ lane. bodies_of link.conn (jobs lane)) replies) (sym opens.this)
    (fresh_fits s link (after.link l).beside (λ lane. bodies_of link.conn (jobs lane)) replies l fresh
    (λ lane. ap (λ (c : ConnId). bodies_of c (jobs lane)) fresh.conn ∙ h.unused s.next none lane)
    (subst (λ (c : ConnId). IsUnasked c replies) (sym fresh.conn) (h.unasked s.next none)))) in
    record {
      last = with_link s.next link h.last;
      table = table_push h.last s links link first seq h.table;
      complete = λ k made. with_each (λ x. is_done x ≡ false → IsIn k (links ++ link ∷ [])) s.next k link h.last (λ e not_done. in_last k links link (seq ∙ sym e))
          (λ ne not_done. in_left k links link (h.complete k (made_down s k ne made) not_done));
      conn = λ k made. with_each (λ x. x.conn ≡ conn_at s k) s.next k link h.last (λ e. fresh.conn ∙ ap (conn_at s) (sym e)) (λ ne. h.conn k (made_down s k ne made));
      each = λ k made. with_each (λ x. Fits (one_more s) x after jobs replies) s.next k link h.last (λ e. fits)
          (λ ne. subst (λ (x : LinkState). LinkStands s.lanes s.phase (h.last k) x (λ lane. bodies_of (h.last k).conn (jobs lane)) replies) (sym (opens.others (h.last k).number (apart k (made_down s k ne made)))) (h.each k (made_down s k ne made)));
      apart = λ j k mj mk ne e. ⊎_elim
          (λ ej. ⊎_elim (λ ek. ne (ej ∙ sym ek)) (λ nk. apart k (made_down s k nk mk) (sym (number k nk) ∙ sym e ∙ newest j ej)) (same_or_not k s.next))
          (λ nj. ⊎_elim (λ ek. apart j (made_down s j nj mj) (sym (number j nj) ∙ e ∙ newest k ek)) (λ nk. h.apart j k (made_down s j nj mj) (made_down s k nk mk) ne (sym (number j nj) ∙ e ∙ number k nk)) (same_or_not k s.next))
          (same_or_not j s.next);
      known = λ k made. with_each (λ x. Contains after.opened x.number) s.next k link h.last
          (λ e. subst (Contains after.opened) (sym fresh.number_is) (subst (λ (o : List ℕ). Contains o l) (sym opens.opened) (Contains-append_right before.opened (l ∷ []) l (0, omega arith, refl))))
          (λ ne. on (h.last k).number (h.known k (made_down s k ne made)));
      few = λ k made. with_each (λ x. IsCrowded (after.link x.number).beside → ⊥) s.next k link h.last
          (λ e crowd. uncrowded (subst (λ (n : ℕ). IsCrowded (after.link n).beside) fresh.number_is crowd))
          (λ ne crowd. h.few k (made_down s k ne made) (subst (λ (x : LinkState). IsCrowded x.beside) (opens.others (h.last k).number (apart k (made_down s k ne made))) crowd));
      linked = λ m now. ⊎_elim
          (λ e. (s.next, record { first = first; below = omega arith }, newest s.next refl ∙ sym e))
          (λ ne. let was = h.linked m (subst (λ (x : LinkState). x.is_open ≡ true) (opens.others m ne) now) in
          let low : was.0 < s.next = was.1.below in
          (was.0, made_up s was.0 was.1, number was.0 (λ e. omega arith) ∙ was.2))
          (same_or_not m l);
      unused = λ k not lane. h.unused k (λ made. not (made_up s k made)) lane;
      unasked = λ k not. h.unasked k (λ made. not (made_up s k made));
      away = λ m has none_is. ⊎_elim
          (λ e. absurd (none_is s.next (record { first = first; below = omega arith }) (newest s.next refl ∙ sym e)))
          (λ ne. away_set s (one_more s) after m (omega arith) (away_opens s l m before after opens ne (h.away m (opened_before before.opened l m ne (subst (λ (o : List ℕ). Contains o m) opens.opened has))
          (λ k made e. let low : k < s.next = made.below in none_is k (made_up s k made) (number k (λ i. omega arith) ∙ e)))))
          (same_or_not m l);
      beside = beside_opens l before after opens (open_known s links before jobs replies h) h.beside;
      told = told_on s.phase before after opens.stopped opens.failed h.told;
    }

-- a worker with another count of links that it turned away
abbrev counting : ℕ → Setting → Setting
counting w s = record s { turned_away = w }

made_on : (s : Setting) (w k : ℕ) → IsMade s k → IsMade (counting w s) k
made_on s w k made = record { first = made.first; below = made.below }

made_off : (s : Setting) (w k : ℕ) → IsMade (counting w s) k → IsMade s k
made_off s w k made = record { first = made.first; below = made.below }

table_counting : (s : Setting) (w : ℕ) (last : ℕ → Link) (links : List Link) → AreLast last s links → AreLast last (counting w s) links
table_counting s w last [] t = tt
table_counting s w last (x ∷ links) t = (made_on s w x.conn.seq t.0, t.1, t.2, table_counting s w last links t.3)

-- a link that was opened is turned away
pub opens_closed : (s : Setting) (w : ℕ) (links : List Link) (l : ℕ) (before mid after : PortState) (jobs : ℕ → List Job) (replies : List Reply) → s.turned_away ≤ w → is_over mid ≡ false → IsCrowded (mid.link l).beside ⊎ (1 ≤ w) → Opens l before mid → Changes l (closed (is_over mid) (mid.link l)) mid after
    → Stands s links before jobs replies → Stands (counting w s) links after jobs replies
opens_closed s w links l before mid after jobs replies le early why opens close h =
    let opened : after.opened ≡ before.opened ++ l ∷ [] = close.opened ∙ opens.opened in
    let others : (m : ℕ) → m ≢ l → after.link m ≡ before.link m = λ m ne. close.others m ne ∙ opens.others m ne in
    let known : (m : ℕ) → IsOpen before m → Contains before.opened m = open_known s links before jobs replies h in
    let apart : (k : ℕ) → IsMade s k → (h.last k).number ≢ l = λ k made e. opens.fresh (subst (Contains before.opened) e (h.known k made)) in
    let shut : IsOpen after l → ⊥ = λ now. let no : (after.link l).is_open ≡ false = ap (λ (x : LinkState). x.is_open) close.this in let yes : (after.link l).is_open ≡ true = now in cc in
    record {
      last = h.last;
      table = table_counting s w h.last links h.table;
      complete = λ k made. h.complete k (made_off s w k made);
      conn = λ k made. h.conn k (made_off s w k made);
      each = λ k made. subst (λ (x : LinkState). LinkStands s.lanes s.phase (h.last k) x (λ lane. bodies_of (h.last k).conn (jobs lane)) replies) (sym (others (h.last k).number (apart k (made_off s w k made)))) (h.each k (made_off s w k made));
      apart = λ j k mj mk. h.apart j k (made_off s w j mj) (made_off s w k mk);
      known = λ k made. subst (λ (o : List ℕ). Contains o (h.last k).number) (sym opened) (Contains-append_left before.opened (l ∷ []) (h.last k).number (h.known k (made_off s w k made)));
      few = λ k made crowd. h.few k (made_off s w k made) (subst (λ (x : LinkState). IsCrowded x.beside) (others (h.last k).number (apart k (made_off s w k made))) crowd);
      linked = λ m now. ⊎_elim (λ e. absurd (shut (subst (IsOpen after) e now))) (λ ne. let was = h.linked m (subst (λ (x : LinkState). x.is_open ≡ true) (others m ne) now) in (was.0, made_on s w was.0 was.1, was.2)) (same_or_not m l);
      unused = λ k not lane. h.unused k (λ made. not (made_on s w k made)) lane;
      unasked = λ k not. h.unasked k (λ made. not (made_on s w k made));
      away = λ m has none. ⊎_elim
          (λ e. subst (IsTurnedAway (counting w s) after) (sym e) (away_now (counting w s) l before mid after opens close known h.beside early why))
          (λ ne. away_set s (counting w s) after m le (away_still s l m before mid after opens close ne (h.away m (opened_before before.opened l m ne (subst (λ (o : List ℕ). Contains o m) opened has)) (λ k made. none k (made_on s w k made)))))
          (same_or_not m l);
      beside = beside_still l before mid after opens close known h.beside;
      told = told_on s.phase before after (close.stopped ∙ opens.stopped) (close.failed ∙ opens.failed) h.told;
    }

pub admitted_stands : (s t : Setting) (links now : List Link) (l : ℕ) (link : Link) (before after : PortState) (jobs : ℕ → List Job) (replies : List Reply) → t ≡ one_more s → now ≡ links ++ link ∷ [] → 1 ≤ s.next → IsFresh s l link → (IsCrowded (after.link l).beside → ⊥) → Opens l before after → Stands s links before jobs replies → Stands t now after jobs replies
admitted_stands s t links now l link before after jobs replies set is first fresh uncrowded opens h =
    subst (λ (x : Setting). Stands x now after jobs replies) (sym set) (subst (λ (x : List Link). Stands (one_more s) x after jobs replies) (sym is) (opens_kept s links l link before after jobs replies first fresh uncrowded opens h))

pub refused_stands : (s t : Setting) (links now : List Link) (l : ℕ) (before mid after : PortState) (jobs : ℕ → List Job) (replies : List Reply) → t ≡ counting t.turned_away s → now ≡ links → s.turned_away ≤ t.turned_away → is_over mid ≡ false → IsCrowded (mid.link l).beside ⊎ (1 ≤ t.turned_away)
    → Opens l before mid → Changes l (closed (is_over mid) (mid.link l)) mid after → Stands s links before jobs replies → Stands t now after jobs replies
refused_stands s t links now l before mid after jobs replies set is le early why opens close h =
    subst (λ (x : Setting). Stands x now after jobs replies) (sym set) (subst (λ (x : List Link). Stands (counting t.turned_away s) x after jobs replies) (sym is) (opens_closed s t.turned_away links l before mid after jobs replies le early why opens close h))

pub map_at : (f : Link → Link) (xs ys : List Link) → length ys ≡ length xs → ((i : ℕ) (d : Link) → i < length xs → get_or ys i d ≡ f (get_or xs i d)) → ys ≡ map f xs
map_at f [] [] size h = refl
map_at f [] (y ∷ ys) size h = absurd (omega (arith, size))
map_at f (x ∷ xs) [] size h = absurd (omega (arith, size))
map_at f (x ∷ xs) (y ∷ ys) size h =
    ap (λ (v : Link). v ∷ ys) (h 0 x (omega arith)) ∙ ap (λ (l : List Link). f x ∷ l) (map_at f xs ys (omega (arith, size)) (λ i d within. h (suc i) d (omega arith)))
