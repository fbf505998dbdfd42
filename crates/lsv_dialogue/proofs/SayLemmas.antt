-- What saying something comes to.
use Rattle.std.proofs.Common.{◌≡◌, ◌≢◌, ◌≤◌, ◌+◌, ◌++◌, List, [], ℕ, length, refl, sym, ◌∙◌, ap, subst, append-nil, arith, Some, None}
use Rattle.lsv_wire.specs.Frame.{IsPartial}
use Rattle.lsv_msg.specs.declared.messages.ClientMessage.{ClientMessage}
use Rattle.lsv_link.specs.Link.{IsConnected, LinkCounts, open_of}
use Rattle.lsv_dialogue.specs.Events.{all_said}
use Rattle.lsv_dialogue.specs.Manner.{Manner}
use Rattle.lsv_dialogue.specs.Stands.{HasPut, IsHaltedBy, PutsMore, Renews, SaidSo, Sends, Stands, View}
use Rattle.lsv_dialogue.specs.declared.ends.TheConstants.{MOST_PUT}
use Rattle.lsv_dialogue.specs.declared.ends.Wants.TheVariants as wants
use Rattle.lsv_dialogue.specs.declared.talk.Halt.{Halt}
use Rattle.lsv_dialogue.specs.declared.talk.Halt.TheVariants as halts
use Rattle.lsv_dialogue.specs.declared.talk.Spoken.{Spoken}
use Rattle.lsv_dialogue.specs.declared.talk.Spoken.TheVariants as spoken
use Rattle.lsv_dialogue.specs.declared.talk.Talk.{Talk}
use Rattle.lsv_dialogue.proofs.LinkLemmas.{put_none, stays_same, stays_then}
use Rattle.lsv_dialogue.proofs.StandLemmas.{after_halt, after_said}

none_so : (h : Halt) (n : ℕ) → spoken.Said n ≡ spoken.Halted h → ⊥
none_so h n e = cc

halt_so : (h : Halt) (n : ℕ) → spoken.Halted h ≡ spoken.Said n → ⊥
halt_so h n e = cc

same_halt : (h k : Halt) → spoken.Halted h ≡ spoken.Halted k → h ≡ k
same_halt h k e = cc

-- the link took no more
pub sends_halt : (put : ℕ) (halt : Halt) (tells : Type 0) (ms : List ClientMessage) (a b : View) → PutsMore (Some halt) tells ms a.1 b.1 → IsHaltedBy a.0 b.0 halt → HasPut (Some halt ≢ Some halts.Failed) (Some halt ≢ Some halts.NotYet) a.0 b.0 → Sends put (spoken.Halted halt) tells ms a b
sends_halt put halt tells ms a b more why counts = record {
  bytes = more.bytes;
  puts = more.puts;
  less = λ h e. more.less h (ap (λ (x : Halt). Some x) (same_halt halt h e));
  stays = λ t. (more.wrote t).stays;
  output = λ t. (more.wrote t).output;
  input = λ t. (more.wrote t).input;
  looks = λ t. (more.wrote t).looks;
  renewed = λ t. let few = more.renewed t in omega (arith, few);
  some = λ n e. absurd (halt_so halt n e);
  older = λ n e. absurd (halt_so halt n e);
  count = λ n e. absurd (halt_so halt n e);
  loud = λ e. cc;
  why = λ h e. subst (λ (x : Halt). IsHaltedBy a.0 b.0 x) (same_halt halt h e) why;
  counts = counts;
}

-- all was put, and the connection renewed
pub sends_whole : (put n : ℕ) (tells : Type 0) (ms : List ClientMessage) (a b c : View) → PutsMore None tells ms a.1 b.1 → HasPut (Unit {0}) (Unit {0}) a.0 b.0 → 1 ≤ length ms → (tells → Renews b.1 c.1) → c.0 ≡ b.0 → n ≡ put + length ms → Sends put (spoken.Said n) tells ms a c
sends_whole put n tells ms a b c more counts some renews same count = record {
  bytes = more.bytes;
  puts = more.puts;
  less = λ h e. absurd (none_so h n e);
  stays = λ t. stays_then a.1 b.1 c.1 (more.wrote t).stays (renews t).stays;
  output = λ t. (renews t).output ∙ (more.wrote t).output;
  input = λ t. (renews t).input ∙ (more.wrote t).input;
  looks = λ t. (renews t).looks ∙ (more.wrote t).looks;
  renewed = λ t. let old = more.renewed t in let new = (renews t).renewed in omega (arith, old, new, some);
  some = λ k e t one. (renews t).some;
  older = λ k e t none. absurd (omega (arith, some, none));
  count = λ k e. let is : n ≡ k = cc in sym is ∙ count;
  loud = λ e. cc;
  why = λ h e. absurd (none_so h n e);
  counts = subst (λ (x : LinkCounts). HasPut (None ≢ Some halts.Failed) (None ≢ Some halts.NotYet) a.0 x) (sym same) (record { continues = counts.continues; faults = λ e. counts.faults tt; full = λ e. counts.full tt; waits = counts.waits });
}

-- nothing was to be put
pub sends_none : (put : ℕ) (tells : Type 0) (ms : List ClientMessage) (a : View) → ms ≡ [] → (tells → IsConnected a.1) → Sends put (spoken.Said put) tells ms a a
sends_none put tells ms a none connected = subst (λ (x : List ClientMessage). Sends put (spoken.Said put) tells x a a) (sym none) (record {
  bytes = [];
  puts = record { sendable = tt; bytes = λ t. refl };
  less = λ h e. absurd (none_so h put e);
  stays = λ t. stays_same a.1 (connected t);
  output = λ t. sym (append-nil (open_of a.1).output);
  input = λ t. refl;
  looks = λ t. refl;
  renewed = λ t. omega arith;
  some = λ k e t one. absurd (omega (arith, one));
  older = λ k e t n. omega arith;
  count = λ k e. let is : put ≡ k = cc in omega (arith, is);
  loud = λ e. cc;
  why = λ h e. absurd (none_so h put e);
  counts = put_none _ _ a.0;
})

-- what was put of what was said
pub said_by : {S W F : Type 0} (manner : Manner S W F) (tells : Type 0) (begun : View) (ms : List ClientMessage) (put : ℕ) (said_so : Spoken) (talk : Talk) (s s' : S) (w w' : W) (a b : View) → (st : Stands manner tells begun [] put talk s w a) → manner.talks s' w' (st.holds.events ++ all_said ms) → put + length ms ≤ MOST_PUT
    → Sends put said_so tells ms a b → IsPartial talk.framer → manner.wants s' ≡ wants.More → manner.opened s' → SaidSo manner tells begun said_so talk s' w' b
said_by manner tells begun ms put spoken.Quiet talk s s' w w' a b st talks few sends partial more opened = absurd (sends.loud refl)
said_by manner tells begun ms put (spoken.Said n) talk s s' w w' a b st talks few sends partial more opened = (record { stands = after_said manner tells begun ms put n talk s s' w w' a b st talks few sends partial; opened = opened }, more)
said_by manner tells begun ms put (spoken.Halted halt) talk s s' w w' a b st talks few sends partial more opened = after_halt manner tells begun ms put halt talk s s' w w' a b st talks few sends more opened
