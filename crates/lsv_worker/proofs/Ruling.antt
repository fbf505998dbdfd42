-- The rules of one connection in a call.
use Rattle.std.proofs.Common.{◌≡◌, ◌≢◌, ◌⊎◌, ℕ, ◌+◌, ◌≤◌, ◌||◌, not, Bool, true, false, List, [], ◌++◌, length, length-append, refl, sym, ap, subst, ◌∙◌, inl, inr, ⊎_elim, arith}
use Rattle.lsv_port.specs.Port.{LinkState, PortState}
use Rattle.lsv_worker.specs.Incoming.{IncomingKeeps, stage_out_of_memory}
use Rattle.lsv_worker.specs.Lanes.{lane_or_home}
use Rattle.lsv_worker.specs.Links.{IsPassed, IsReadWithin, IsSent, IsSpared, KeepsRules, LeavesOutput, MayRead, BlockHasReason, ReadsOn, ReasonOf, Remains, SameSides, reads_in, repeated}
use Rattle.lsv_worker.specs.Outgoing.{PutOf, Writes, kept_up}
use Rattle.lsv_worker.specs.declared.link.Link.{Link}
use Rattle.lsv_worker.specs.declared.link.Blocked.{Blocked}
use Rattle.lsv_worker.specs.declared.link.Blocked.TheVariants as blocks
use Rattle.lsv_worker.specs.declared.link.Phase.{Phase}
use Rattle.lsv_worker.specs.declared.link.Phase.TheVariants.{Going}
use Rattle.lsv_worker.specs.declared.outgoing.Outgoing.{Outgoing}
use Rattle.lsv_worker.specs.declared.outgoing.Sending.{Sending}
use Rattle.lsv_worker.specs.declared.outgoing.Sending.TheVariants.{Open, Failed, OutOfMemory, Over}
use Rattle.lsv_worker.proofs.Linking.{most_none}
use Rattle.lsv_worker.proofs.Ports.{risen_late, risen_on}
use Rattle.lsv_worker.proofs.Reading.{most_late}

-- ---- the same connection

or_true : (b : Bool) → (b || true) ≡ true
or_true true = refl
or_true false = refl

starved_on : (a b : Bool) (v w : Sending) → (a ≡ true → b ≡ true) → (v ≢ Open → w ≡ v) → (a || not (kept_up v)) ≡ true → (b || not (kept_up w)) ≡ true
starved_on true b v w f g e = ap (λ (x : Bool). x || not (kept_up w)) (f refl)
starved_on false b Open w f g e = absurd cc
starved_on false b Failed w f g e = absurd cc
starved_on false b OutOfMemory w f g e = ap (λ (x : Sending). b || not (kept_up x)) (g (λ (no : OutOfMemory ≡ Open). cc)) ∙ or_true b
starved_on false b Over w f g e = absurd cc

pub remains_so : (old new : Link) → new.number ≡ old.number → new.conn ≡ old.conn → (new.live ≡ true → old.live ≡ true) → IncomingKeeps old.incoming new.incoming → (old.outgoing.sending ≢ Open → new.outgoing.sending ≡ old.outgoing.sending) → Remains old new
remains_so old new number conn live keeps mute = record {
  number = number;
  conn = conn;
  lanes = keeps.lanes;
  live = live;
  out_of_memory = λ e. starved_on (stage_out_of_memory old.incoming.stage) (stage_out_of_memory new.incoming.stage) old.outgoing.sending new.outgoing.sending keeps.out_of_memory mute e;
  mute = mute;
}

pub remains_here : (old : Link) → Remains old old
remains_here old = record { number = refl; conn = refl; lanes = refl; live = λ e. e; out_of_memory = λ e. e; mute = λ ne. refl }

pub remains_then : (a b c : Link) → Remains a b → Remains b c → Remains a c
remains_then a b c x y = record {
  number = y.number ∙ x.number;
  conn = y.conn ∙ x.conn;
  lanes = y.lanes ∙ x.lanes;
  live = λ e. x.live (y.live e);
  out_of_memory = λ e. y.out_of_memory (x.out_of_memory e);
  mute = λ ne. y.mute (λ e. ne (sym (x.mute ne) ∙ e)) ∙ x.mute ne;
}

-- ---- what is unsent

pub sent_same : (old new : Link) (s t : LinkState) → (new.live ≡ true → old.live ≡ true) → new.outgoing.unsent ≡ old.outgoing.unsent → t.full ≡ s.full → IsSent old s → IsSent new t
sent_same old new s t live unsent full sent here free = unsent ∙ sent (live here) (sym full ∙ free)

pub sent_closed : (new : Link) (t : LinkState) → new.live ≡ false → IsSent new t
sent_closed new t dead here = let no : true ≡ false = sym here ∙ dead in absurd cc

quiet_at : (sending : Sending) (unsent output answers : List ℕ) → sending ≢ Open → PutOf sending unsent output answers → unsent ≡ []
quiet_at Open unsent output answers ne h = absurd (ne refl)
quiet_at Failed unsent output answers ne h = h.0
quiet_at OutOfMemory unsent output answers ne h = h.0
quiet_at Over unsent output answers ne h = h.0

pub quiet_voice : (out : Outgoing) (output answers : List ℕ) → out.sending ≢ Open → PutOf out.sending out.unsent output answers → out.unsent ≡ []
quiet_voice out output answers ne h = quiet_at out.sending out.unsent output answers ne h

-- what was written was unsent before
pub balances : (l : ℕ) (old new : Outgoing) (s t : PortState) → Writes l old new s t → old.sending ≡ Open → new.sending ≡ old.sending → length new.unsent + length (t.link l).output ≡ length old.unsent + length (s.link l).output
balances l old new s t w speaks sending =
    let words : List ℕ = (s.link l).output ++ old.unsent in
    let first : PutOf old.sending old.unsent (s.link l).output words = subst (λ (v : Sending). PutOf v old.unsent (s.link l).output words) (sym speaks) refl in
    let last : PutOf new.sending new.unsent (t.link l).output words = w.goes words first in
    let is : (t.link l).output ++ new.unsent ≡ words = subst (λ (v : Sending). PutOf v new.unsent (t.link l).output words) (sending ∙ speaks) last in
    let a : length ((t.link l).output ++ new.unsent) ≡ length (t.link l).output + length new.unsent = length-append (t.link l).output new.unsent in
    let b : length words ≡ length (s.link l).output + length old.unsent = length-append (s.link l).output old.unsent in
    let c : length ((t.link l).output ++ new.unsent) ≡ length words = ap length is in
    omega (arith, a, b, c)

-- ---- reading on

pub reads_same : (phase : Phase) (old new : Link) (s : LinkState) → SameSides old new → Remains old new → ReadsOn phase old new s s
reads_same phase old new s sides remains = record {
  remains = remains;
  out_of_memory = λ e. refl;
  output_full = λ going e. refl;
  closed = λ e. refl;
  output = refl;
  sent = λ sent. sent_same old new s s (λ e. sym sides.live ∙ e) (ap (λ (o : Outgoing). o.unsent) sides.outgoing) refl sent;
}

pub reads_here : (phase : Phase) (old : Link) (s : LinkState) → ReadsOn phase old old s s
reads_here phase old s = record { remains = remains_here old; out_of_memory = λ e. refl; output_full = λ going e. refl; closed = λ e. refl; output = refl; sent = λ sent. sent }

-- jobs were put, and then the link was read
pub reads_first : (phase : Phase) (old mid new : Link) (s t : LinkState) → SameSides old mid → Remains old mid → ReadsOn phase mid new s t → ReadsOn phase old new s t
reads_first phase old mid new s t sides remains reads = record {
  remains = remains_then old mid new remains reads.remains;
  out_of_memory = λ e. reads.out_of_memory (remains.out_of_memory e);
  output_full = λ going heavy. reads.output_full going (subst (λ (o : Outgoing). 65536 ≤ length o.unsent) (sym sides.outgoing) heavy);
  closed = λ dead. reads.closed (sides.live ∙ dead);
  output = reads.output;
  sent = λ sent. reads.sent (sent_same old mid s s (λ e. sym sides.live ∙ e) (ap (λ (o : Outgoing). o.unsent) sides.outgoing) refl sent);
}

-- a link that may be read was read once more
pub reads_once : (phase : Phase) (first old mid new : Link) (a b c : LinkState) → ReadsOn phase first old a b → Remains old mid → SameSides mid new → Remains mid new → LeavesOutput old mid b c → MayRead phase old
    → (phase ≡ Going → 65536 ≤ length first.outgoing.unsent → 65536 ≤ length old.outgoing.unsent) → ReadsOn phase first new a c
reads_once phase first old mid new a b c reads once sides put out may heavy = record {
  remains = remains_then first mid new (remains_then first old mid reads.remains once) put;
  out_of_memory = λ e. let no : true ≡ false = sym (reads.remains.out_of_memory e) ∙ may.well in absurd cc;
  output_full = λ going e. let light = may.light going in let full = heavy going e in absurd (omega (arith, light, full));
  closed = λ e. let no : true ≡ false = sym (reads.remains.live may.live) ∙ e in absurd cc;
  output = out.output ∙ reads.output;
  sent = λ was. sent_same mid new c c (λ e. sym sides.live ∙ e) (ap (λ (o : Outgoing). o.unsent) sides.outgoing) refl (out.sent (reads.sent was));
}

-- after a read fewer than 65,536 bytes are unsent
pub light_on : (phase : Phase) (old mid new : Link) (s b c : LinkState) → MayRead phase old → LeavesOutput old mid b c → SameSides mid new → phase ≡ Going → IsSpared new s c
light_on phase old mid new s b c may out sides going heavy =
    let light = may.light going in
    let less = out.unsent in
    let now : length new.outgoing.unsent ≡ length mid.outgoing.unsent = ap (λ (o : Outgoing). length o.unsent) sides.outgoing in
    absurd (omega (arith, light, less, now, heavy))

-- a step that changes nothing on the way out
pub reads_more : (phase : Phase) (old mid new : Link) (s t : LinkState) → ReadsOn phase old mid s t → Remains mid new → new.outgoing ≡ mid.outgoing → new.live ≡ mid.live → ReadsOn phase old new s t
reads_more phase old mid new s t reads remains outgoing live = record {
  remains = remains_then old mid new reads.remains remains;
  out_of_memory = reads.out_of_memory;
  output_full = reads.output_full;
  closed = reads.closed;
  output = reads.output;
  sent = λ was. sent_same mid new t t (λ e. sym live ∙ e) (ap (λ (o : Outgoing). o.unsent) outgoing) refl (reads.sent was);
}

pub remains_paused : (old : Link) (p : Blocked) → Remains old (record old { blocked = p })
remains_paused old p = record { number = refl; conn = refl; lanes = refl; live = λ e. e; out_of_memory = λ e. e; mute = λ ne. refl }

pub reads_paused : (phase : Phase) (old new : Link) (p : Blocked) (s t : LinkState) → ReadsOn phase old new s t → ReadsOn phase old (record new { blocked = p }) s t
reads_paused phase old new p s t reads = reads_more phase old new (record new { blocked = p }) s t reads (remains_paused new p) refl refl

-- ---- a pass

pub reason_late : (p : Blocked) (link : Link) (s t u : LinkState) (a b : ℕ → ℕ) → t.reads ≡ s.reads → ReasonOf p link t u a b → ReasonOf p link s u a b
reason_late blocks.No link s t u a b e h = tt
reason_late blocks.InboxFull link s t u a b e h = h
reason_late blocks.OutputFull link s t u a b e h = h
reason_late blocks.ReadBudget link s t u a b e h = h ∙ ap (λ (l : List ℕ). l ++ repeated 16 65536) e
reason_late blocks.OutOfMemory link s t u a b e h = h

pub reason_from : (p : Blocked) (link : Link) (s t : LinkState) (a b c : ℕ → ℕ) → ((m : ℕ) → a m ≤ b m) → ReasonOf p link s t b c → ReasonOf p link s t a c
reason_from blocks.No link s t a b c le h = tt
reason_from blocks.InboxFull link s t a b c le h = let m = lane_or_home link.incoming.route in risen_late (a m) (b m) (c m) (le m) h
reason_from blocks.OutputFull link s t a b c le h = h
reason_from blocks.ReadBudget link s t a b c le h = h
reason_from blocks.OutOfMemory link s t a b c le h = h

reason_to : (p : Blocked) (link : Link) (s t : LinkState) (a b c : ℕ → ℕ) → ((m : ℕ) → b m ≤ c m) → ReasonOf p link s t a b → ReasonOf p link s t a c
reason_to blocks.No link s t a b c le h = tt
reason_to blocks.InboxFull link s t a b c le h = let m = lane_or_home link.incoming.route in risen_on (a m) (b m) (c m) h (le m)
reason_to blocks.OutputFull link s t a b c le h = h
reason_to blocks.ReadBudget link s t a b c le h = h
reason_to blocks.OutOfMemory link s t a b c le h = h

pub passed_from : (phase : Phase) (old new : Link) (s t : LinkState) (a b c : ℕ → ℕ) → ((m : ℕ) → a m ≤ b m) → IsPassed phase old new s t b c → IsPassed phase old new s t a c
passed_from phase old new s t a b c le h = record { rules = h.rules; reason = reason_from new.blocked new s t a b c le h.reason; sent = h.sent }

pub passed_to : (phase : Phase) (old new : Link) (s t : LinkState) (a b c : ℕ → ℕ) → ((m : ℕ) → b m ≤ c m) → IsPassed phase old new s t a b → IsPassed phase old new s t a c
passed_to phase old new s t a b c le h = record { rules = h.rules; reason = reason_to new.blocked new s t a b c le h.reason; sent = h.sent }

speaks_or_not : (v : Sending) → (v ≡ Open) ⊎ (v ≢ Open)
speaks_or_not Open = inl refl
speaks_or_not Failed = inr (λ (no : Failed ≡ Open). cc)
speaks_or_not OutOfMemory = inr (λ (no : OutOfMemory ≡ Open). cc)
speaks_or_not Over = inr (λ (no : Over ≡ Open). cc)

live_or_not : (b : Bool) → (b ≡ true) ⊎ (b ≡ false)
live_or_not true = inl refl
live_or_not false = inr refl

-- a link was written, and then read
pub passes : (phase : Phase) (old mid new : Link) (s t u : LinkState) (a b : ℕ → ℕ) → Remains old mid → t.reads ≡ s.reads → (old.outgoing.unsent ≡ [] → t.output ≡ s.output)
    → (mid.live ≡ true → old.outgoing.sending ≡ Open → length mid.outgoing.unsent + length t.output ≡ length old.outgoing.unsent + length s.output) → IsSent mid t → (old.outgoing.sending ≢ Open → old.outgoing.unsent ≡ [])
    → ReadsOn phase mid new t u → BlockHasReason new t u a b → IsPassed phase old new s u a b
passes phase old mid new s t u a b remains same mute balance sent quiet reads reason = record {
  rules = record {
    remains = remains_then old mid new remains reads.remains;
    out_of_memory = λ e. reads.out_of_memory (remains.out_of_memory e) ∙ same;
    mute = λ ne. reads.output ∙ mute (quiet ne);
    waiting = λ going le.
        ⊎_elim
        (λ speaks.
        ⊎_elim
        (λ live.
        let even : length mid.outgoing.unsent + length t.output ≡ length old.outgoing.unsent + length s.output = balance live speaks in
        let stays : length u.output ≡ length t.output = ap length reads.output in
        let output_full : 65536 ≤ length mid.outgoing.unsent = omega (arith, even, stays, le) in
        reads.output_full going output_full ∙ same)
        (λ dead. reads.closed dead ∙ same)
        (live_or_not mid.live))
        (λ ne.
        let none : length old.outgoing.unsent ≡ 0 = ap length (quiet ne) in
        let stays : length u.output ≡ length s.output = ap length (reads.output ∙ mute (quiet ne)) in
        absurd (omega (arith, none, stays, le)))
        (speaks_or_not old.outgoing.sending);
  };
  reason = reason_late new.blocked new s t u a b same reason;
  sent = reads.sent sent;
}

-- a link that was read within the limits, after a call that didn't read it
pub read_late : (phase : Phase) (new : Link) (s t u : LinkState) → t.reads ≡ s.reads → IsReadWithin phase new t u → IsReadWithin phase new s u
read_late phase new s t u same h = record { most = most_late 16 s t u same h.most; output_full = λ going heavy. h.output_full going heavy ∙ same; unread = λ quiet. h.unread quiet ∙ same }

-- a link that wasn't read
pub read_never : (phase : Phase) (new : Link) (s t : LinkState) → t.reads ≡ s.reads → IsReadWithin phase new s t
read_never phase new s t same = record { most = most_none 16 s t same; output_full = λ going heavy. same; unread = λ quiet. same }

-- a phase with reads
pub reading : (phase : Phase) (s t : LinkState) → reads_in phase ≡ true → reads_in phase ≡ false → t.reads ≡ s.reads
reading phase s t reads quiet = absurd (let clash : true ≡ false = sym reads ∙ quiet in cc)

-- the limits still hold if nothing changed on the way out
pub read_then : (phase : Phase) (mid new : Link) (s t : LinkState) → new.outgoing ≡ mid.outgoing → IsReadWithin phase mid s t → IsReadWithin phase new s t
read_then phase mid new s t outgoing h = record { most = h.most; output_full = λ going heavy. h.output_full going (subst (λ (o : Outgoing). 65536 ≤ length o.unsent) outgoing heavy); unread = h.unread }

-- a call that neither reads nor writes
pub rules_quiet : (phase : Phase) (old new : Link) (s t : LinkState) → Remains old new → t.reads ≡ s.reads → t.output ≡ s.output → KeepsRules phase old new s t
rules_quiet phase old new s t remains reads output = record { remains = remains; out_of_memory = λ e. reads; mute = λ ne. output; waiting = λ going le. reads }
