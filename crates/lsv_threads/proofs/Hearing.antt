-- What a desk takes, and what of it is its worker's.
use Rattle.std.proofs.Common.{◌≡◌, ◌≢◌, ℕ, Bool, true, false, Option, Some, None, List, [], ◌∷◌, ◌++◌, refl, sym, ap, ◌∙◌, subst, append-nil, append_assoc, arith}
use Rattle.std.specs.Prelude.{◌==◌, if◌then◌else◌}
use Rattle.std.proofs.lemmas.Bool.Decides.{nat_tests}
use Rattle.std.proofs.lemmas.Grind.{flat_map-append}
use Rattle.lsv_defs.specs.Pieces.{IsPrefix}
use Rattle.lsv_port.proofs.LedgerLemmas.{continues_same, continues_then}
use Rattle.lsv_session.specs.Connections.{same, server_hello}
use Rattle.lsv_session.specs.Transcript.{answers, frames_of, messages_in, said_to}
use Rattle.lsv_session.specs.declared.connection.ConnId.{ConnId}
use Rattle.lsv_session.specs.declared.job.Job.{Job}
use Rattle.lsv_session.specs.declared.reply.Reply.{Reply}
use Rattle.lsv_wire.specs.Frame.{frame_of}
use Rattle.lsv_msg.specs.Messages.{server_bytes}
use Rattle.lsv_msg.specs.declared.messages.ServerMessage.{ServerMessage}
use Rattle.lsv_links.specs.Links.{IsPut, PutsPrefixes, ServesSome, conn_of}
use Rattle.lsv_links.specs.Turns.{replies_to}
use Rattle.lsv_links.specs.Views.{PortView}
use Rattle.lsv_port.specs.Port.{PortState}
use Rattle.lsv_queue.specs.Passes.{items_of}
use Rattle.lsv_queue.specs.declared.queue.OutPass.{OutPass}
use Rattle.lsv_reactor.specs.declared.endpoint.Endpoint
use Rattle.lsv_threads.specs.declared.desk.Desk.{Desk}
use Rattle.lsv_threads.specs.Desks.{GoesOn, IsAt, IsSameDesk, heard}

-- ---- Replies by their worker

pub data EqOr (a b : ℕ) : Type 0 where
  equal : a ≡ b → (a == b) ≡ true → EqOr a b
  unequal : a ≢ b → (a == b) ≡ false → EqOr a b

pub eq_or : (a b : ℕ) → EqOr a b
eq_or a b = go (a == b) refl
  where
    go : (t : Bool) → (a == b) ≡ t → EqOr a b
    go true e = equal (grind (arith, nat_tests)) e
    go false e = unequal (grind (arith, nat_tests)) e

if_more : {A : Type 0} (b : Bool) (x : A) (xs ys : List A) → (if b then x ∷ (xs ++ ys) else (xs ++ ys)) ≡ (if b then x ∷ xs else xs) ++ ys
if_more true x xs ys = refl
if_more false x xs ys = refl

pub replies_append : (w : ℕ) (xs ys : List Reply) → replies_to w (xs ++ ys) ≡ replies_to w xs ++ replies_to w ys
replies_append w [] ys = refl
replies_append w (x ∷ xs) ys = ap (λ (l : List Reply). if x.conn.worker == w then x ∷ l else l) (replies_append w xs ys) ∙ if_more (x.conn.worker == w) x (replies_to w xs) (replies_to w ys)

pub own_reply : (w : ℕ) (r : Reply) → r.conn.worker ≡ w → replies_to w (r ∷ []) ≡ r ∷ []
own_reply w r e = elim (eq_or r.conn.worker w) [ equal p t ↦ rw t refl | unequal ne t ↦ absurd (ne e) ]

pub other_reply : (w : ℕ) (r : Reply) → r.conn.worker ≢ w → replies_to w (r ∷ []) ≡ []
other_reply w r ne = elim (eq_or r.conn.worker w) [ equal p t ↦ absurd (ne p) | unequal differs t ↦ rw t refl ]

-- one more reply, which is its own
pub heard_own : (w : ℕ) (old new : List Reply) (r : Reply) → new ≡ old ++ r ∷ [] → r.conn.worker ≡ w → replies_to w new ≡ replies_to w old ++ r ∷ []
heard_own w old new r e own = ap (replies_to w) e ∙ (replies_append w old (r ∷ []) ∙ ap (λ (l : List Reply). replies_to w old ++ l) (own_reply w r own))

-- or another's
pub heard_other : (w : ℕ) (old new : List Reply) (r : Reply) → new ≡ old ++ r ∷ [] → r.conn.worker ≢ w → replies_to w new ≡ replies_to w old
heard_other w old new r e other = ap (replies_to w) e ∙ (replies_append w old (r ∷ []) ∙ (ap (λ (l : List Reply). replies_to w old ++ l) (other_reply w r other) ∙ append-nil (replies_to w old)))

-- ---- A prefix of the answers stays one as more replies are taken

said_append : (k : ConnId) (xs ys : List Reply) → said_to k (xs ++ ys) ≡ said_to k xs ++ said_to k ys
said_append k [] ys = refl
said_append k (x ∷ xs) ys =
    let head : List ServerMessage = if same x.conn k then messages_in x.body else [] in
    ap (λ (l : List ServerMessage). head ++ l) (said_append k xs ys) ∙ sym (append_assoc head (said_to k xs) (said_to k ys))

answers_append : (k : ConnId) (xs ys : List Reply) → answers k (xs ++ ys) ≡ answers k xs ++ frames_of (said_to k ys)
answers_append k xs ys =
    let first : List ℕ = frame_of (server_bytes server_hello) in
    ap (λ (l : List ServerMessage). first ++ frames_of l) (said_append k xs ys)
    ∙ (ap (λ (l : List ℕ). first ++ l) (flat_map-append (λ (m : ServerMessage). frame_of (server_bytes m)) (said_to k xs) (said_to k ys))
    ∙ sym (append_assoc first (frames_of (said_to k xs)) (frames_of (said_to k ys))))

pub prefix_more : (k : ConnId) (output : List ℕ) (xs ys : List Reply) → IsPrefix output (answers k xs) → IsPrefix output (answers k (xs ++ ys))
prefix_more k output xs ys p = (p.0 ++ frames_of (said_to k ys), answers_append k xs ys ∙ (ap (λ (l : List ℕ). l ++ frames_of (said_to k ys)) p.1 ∙ append_assoc output p.0 (frames_of (said_to k ys))))

put_more : (lanes worker l : ℕ) (seat : Option ℕ) (jobs : ℕ → List Job) (xs ys : List Reply) (port : PortState) → IsPut lanes worker l seat jobs (λ lane. xs) port → IsPut lanes worker l seat jobs (λ lane. xs ++ ys) port
put_more lanes worker l None jobs xs ys port s = s
put_more lanes worker l (Some seq) jobs xs ys port s =
    let t : ServesSome lanes (conn_of worker seq) (port.link l) jobs (λ lane. xs) = s in
    record { lane = t.lane; decided = t.decided; brought = t.brought; elsewhere = t.elsewhere; prefix = prefix_more (conn_of worker seq) (port.link l).output xs ys t.prefix }

pub puts_more : (lanes worker : ℕ) (jobs : ℕ → List Job) (xs ys : List Reply) (old new : PortView) → PutsPrefixes lanes worker jobs (λ lane. xs) old new → PutsPrefixes lanes worker jobs (λ lane. xs ++ ys) old new
puts_more lanes worker jobs xs ys old new s = record {
  seats = s.seats;
  closed = s.closed;
  put = λ l opened. put_more lanes worker l (s.seats.seat l) jobs xs ys new.state (s.put l opened);
  known = s.known;
  goes_on = s.goes_on;
}

-- ---- Desks

module _ {T : Type 0} (words : Endpoint.Ghosts T) where
  pub same_here : (a : Desk T) → IsSameDesk words a a
  same_here a = record { number_is = refl; endpoint_number = λ g. refl; endpoint_lanes = λ g. refl; queue = refl; joined = refl; stays = λ g. g; continues = continues_same (words.view a.endpoint).ledger }

  pub same_then : (a b c : Desk T) → IsSameDesk words a b → IsSameDesk words b c → IsSameDesk words a c
  same_then a b c f g = record {
    number_is = g.number_is ∙ f.number_is;
    endpoint_number = λ e. g.endpoint_number e ∙ f.endpoint_number (g.stays e);
    endpoint_lanes = λ e. g.endpoint_lanes e ∙ f.endpoint_lanes (g.stays e);
    queue = g.queue ∙ f.queue;
    joined = g.joined ∙ f.joined;
    stays = λ e. f.stays (g.stays e);
    continues = continues_then (words.view a.endpoint).ledger (words.view b.endpoint).ledger (words.view c.endpoint).ledger f.continues g.continues;
  }

  pub on_here : (a : Desk T) → GoesOn words a a
  on_here a = record { same = same_here a; stopped = refl; stands = λ start lanes gave s. s }

  pub on_then : (a b c : Desk T) → GoesOn words a b → GoesOn words b c → GoesOn words a c
  on_then a b c f g = record {
    same = same_then a b c f.same g.same;
    stopped = g.stopped ∙ f.stopped;
    stands = λ start lanes gave s. g.stands start lanes gave (f.stands start lanes gave s);
  }

  pub at_then : (a b : Desk T) (gave : ℕ → List Job) → GoesOn words a b → IsAt words a gave → IsAt words b gave
  at_then a b gave f at = record {
    start = at.start;
    lanes = at.lanes;
    number_is = λ e. f.same.endpoint_number e ∙ (at.number_is (f.same.stays e) ∙ sym f.same.number_is);
    stands = f.stands at.start at.lanes gave at.stands;
  }

-- a desk whose pass took something
abbrev pub with_pass : {T : Type 0} → Desk T → OutPass Reply → Desk T
with_pass {T} desk taken = record { endpoint = desk.endpoint; number = desk.number; taken = taken; stopped = desk.stopped }

module _ {T : Type 0} (words : Endpoint.Ghosts T) (a : Desk T) (taken : OutPass Reply) (queue : taken.queue ≡ a.taken.queue) (joined : taken.taken.joined ≡ a.taken.taken.joined) where
  same_pass : IsSameDesk words a (with_pass a taken)
  same_pass = record { number_is = refl; endpoint_number = λ g. refl; endpoint_lanes = λ g. refl; queue = queue; joined = joined; stays = λ g. g; continues = continues_same (words.view a.endpoint).ledger }

  -- nothing that is its own
  pub on_nothing : replies_to a.number (items_of taken.taken.got) ≡ heard a → GoesOn words a (with_pass a taken)
  on_nothing e = record {
    same = same_pass;
    stopped = refl;
    stands = λ start lanes gave s. record {
      lanes_are = s.lanes_are;
      made = λ g. subst (λ (l : List Reply). words.made_by start a.endpoint gave l) (sym e) (s.made g);
      put = λ g told. subst (λ (l : List Reply). PutsPrefixes lanes a.number gave (λ lane. l) (words.begun start) (words.view a.endpoint)) (sym e) (s.put g told);
    };
  }

  -- a reply, after the endpoint was stopped
  pub on_dropped : (r : Reply) → a.stopped ≡ true → items_of taken.taken.got ≡ items_of a.taken.taken.got ++ r ∷ [] → GoesOn words a (with_pass a taken)
  on_dropped r stopped e =
      let more : replies_to a.number (items_of taken.taken.got) ≡ heard a ++ replies_to a.number (r ∷ []) = ap (replies_to a.number) e ∙ replies_append a.number (items_of a.taken.taken.got) (r ∷ []) in record {
        same = same_pass;
        stopped = refl;
        stands = λ start lanes gave s. record {
          lanes_are = s.lanes_are;
          made = λ g. absurd (let no = sym stopped ∙ g in cc);
          put = λ g told. subst (λ (l : List Reply). PutsPrefixes lanes a.number gave (λ lane. l) (words.begun start) (words.view a.endpoint)) (sym more)
              (puts_more lanes a.number gave (heard a) (replies_to a.number (r ∷ [])) (words.begun start) (words.view a.endpoint) (s.put g told));
        };
      }
