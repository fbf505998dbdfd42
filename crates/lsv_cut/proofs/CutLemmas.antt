-- What stands at the front of bytes is one thing, and the next job.
use Rattle.std.proofs.Common.{◌≡◌, ◌≢◌, ℕ, ◌+◌, ◌≤◌, ◌<◌, Ok, Err, List, [], ◌∷◌, ◌++◌, length, take, drop, refl, sym, ap, subst, ◌∙◌, append_assoc, arith, inl, inr, min, ◌-◌}
use Rattle.std.specs.Prelude.{◌⊎◌}
use Rattle.std.specs.Int.{w32, from_be_bytes}
use Rattle.std.proofs.lemmas.Bool.{cases_lt}
use Rattle.std.proofs.Math.ListN.{drop_of_length-le}
use Rattle.std.proofs.lemmas.List.{append-nil, drop-append-le, drop-drop, drop_at, length-append, length-drop, length-take-le, take-append-drop, take-append-le}
use Rattle.lsv_wire.specs.Frame.{IsCutShort, IsPartial, IsTooLong, frame_of, stated_length}
use Rattle.lsv_wire.proofs.Streams.{length-frame_of, partial_not_long, same_message, stop_not_frame}
use Rattle.lsv_msg.specs.Messages.{client_in}
use Rattle.lsv_msg.specs.declared.fault.MsgFault.{MsgFault}
use Rattle.lsv_msg.specs.declared.messages.ClientMessage.{ClientMessage}
use Rattle.lsv_session.specs.Transcript.{AreAllJobs, AreJobs, HasCut, InFront}
use Rattle.lsv_session.specs.Transcript.AreJobs.{Rest, Message as FirstMessage, NoMessage as FirstFault, TooLong as FirstLength}
use Rattle.lsv_session.specs.declared.job.Body.{Body}
use Rattle.lsv_session.specs.declared.job.Body.TheVariants.{Bad, Msg}
use Rattle.lsv_session.specs.declared.job.Fault.{Fault}
use Rattle.lsv_session.specs.declared.job.Fault.TheVariants as faults
use Rattle.lsv_session.proofs.Jobs.{after_rest, after_message, after_no_message, after_too_long, cut_message, cut_no_message, cut_rest, cut_too_long, front-more, long-more}
use Rattle.lsv_cut.specs.Cuts.{BeginsWith, IsCut, IsFirst, IsMalformed, IsNoMessage, left_after, unread}
use Rattle.lsv_cut.specs.declared.cut.Cut.{Cut}
use Rattle.lsv_cut.specs.declared.cut.Cut.TheVariants.{Nothing, Message, NoMessage}

-- ---- The next job

pub cut_is_next : (read rest : List ℕ) (said : List Body) (m : ClientMessage) (taken : ℕ) → HasCut read said rest → IsFirst m taken rest → HasCut read (said ++ Msg m ∷ []) (drop taken rest)
cut_is_next read rest said m taken h f = cut_message read rest f.message (drop taken rest) said m h f.front f.reads

pub cut_is_last : (read rest : List ℕ) (said : List Body) (fault : Fault) → HasCut read said rest → IsNoMessage fault rest → AreAllJobs read (said ++ Bad fault ∷ [])
cut_is_last read rest said (faults.Malformed fault) h bad = cut_no_message read rest bad.message bad.rest said fault h bad.front bad.reads
cut_is_last read rest said (faults.TooLarge stated) h bad = cut_too_long read rest said stated h bad
cut_is_last read rest said faults.NoMem h bad = absurd bad

-- ---- One thing

partial_not_first : (bytes : List ℕ) (m : ClientMessage) (taken : ℕ) → IsPartial bytes → IsFirst m taken bytes → ⊥
partial_not_first bytes m taken partial f = stop_not_frame f.message (drop taken bytes) f.front.is_message (inl (subst IsPartial f.front.whole partial))

partial_is_message : (bytes : List ℕ) (fault : Fault) → IsPartial bytes → IsNoMessage fault bytes → ⊥
partial_is_message bytes (faults.Malformed fault) partial bad = stop_not_frame bad.message bad.rest bad.front.is_message (inl (subst IsPartial bad.front.whole partial))
partial_is_message bytes (faults.TooLarge stated) partial bad = partial_not_long bytes stated partial bad
partial_is_message bytes faults.NoMem partial bad = bad

one_first : (bytes : List ℕ) (m m' : ClientMessage) (taken taken' : ℕ) → IsFirst m taken bytes → IsFirst m' taken' bytes → Message m taken ≡ Message m' taken'
one_first bytes m m' taken taken' f g =
    let same = same_message f.message g.message (drop taken bytes) (drop taken' bytes) f.front.is_message g.front.is_message (sym f.front.whole ∙ g.front.whole) in
    let reads : Ok m ≡ Ok m' = sym f.reads ∙ ap client_in same.0 ∙ g.reads in
    let one : m ≡ m' = cc reads in
    let two : taken ≡ taken' = f.size ∙ ap (λ (l : List ℕ). 4 + length l) same.0 ∙ sym g.size in
    cc (one, two)

first_is_message : (bytes : List ℕ) (m : ClientMessage) (taken : ℕ) (fault : Fault) → IsFirst m taken bytes → IsNoMessage fault bytes → ⊥
first_is_message bytes m taken (faults.Malformed fault) f bad =
    let same = same_message f.message bad.message (drop taken bytes) bad.rest f.front.is_message bad.front.is_message (sym f.front.whole ∙ bad.front.whole) in
    let e : Ok m ≡ Err fault = sym f.reads ∙ ap client_in same.0 ∙ bad.reads in
    cc e
first_is_message bytes m taken (faults.TooLarge stated) f bad = stop_not_frame f.message (drop taken bytes) f.front.is_message (inr (stated, subst (λ (b : List ℕ). IsTooLong b stated) f.front.whole bad))
first_is_message bytes m taken faults.NoMem f bad = bad

one_fault : (bytes : List ℕ) (fault other : Fault) → IsNoMessage fault bytes → IsNoMessage other bytes → fault ≡ other
one_fault bytes (faults.Malformed fault) (faults.Malformed other) a b =
    let same = same_message a.message b.message a.rest b.rest a.front.is_message b.front.is_message (sym a.front.whole ∙ b.front.whole) in
    let e : Err fault ≡ Err other = sym a.reads ∙ ap client_in same.0 ∙ b.reads in
    cc e
one_fault bytes (faults.Malformed fault) (faults.TooLarge stated) a b = absurd (stop_not_frame a.message a.rest a.front.is_message (inr (stated, subst (λ (b : List ℕ). IsTooLong b stated) a.front.whole b)))
one_fault bytes (faults.TooLarge stated) (faults.Malformed fault) a b = absurd (stop_not_frame b.message b.rest b.front.is_message (inr (stated, subst (λ (b : List ℕ). IsTooLong b stated) b.front.whole a)))
one_fault bytes (faults.TooLarge stated) (faults.TooLarge other) a b = ap faults.TooLarge (sym a.states ∙ b.states)
one_fault bytes (faults.Malformed fault) faults.NoMem a b = absurd b
one_fault bytes (faults.TooLarge stated) faults.NoMem a b = absurd b
one_fault bytes faults.NoMem other a b = absurd a

pub one_cut : (bytes : List ℕ) (cut other : Cut) → IsCut cut bytes → IsCut other bytes → cut ≡ other
one_cut bytes Nothing Nothing a b = refl
one_cut bytes Nothing (Message m taken) a b = absurd (partial_not_first bytes m taken a b)
one_cut bytes Nothing (NoMessage fault) a b = absurd (partial_is_message bytes fault a b)
one_cut bytes (Message m taken) Nothing a b = absurd (partial_not_first bytes m taken b a)
one_cut bytes (Message m taken) (Message m' taken') a b = one_first bytes m m' taken taken' a b
one_cut bytes (Message m taken) (NoMessage fault) a b = absurd (first_is_message bytes m taken fault a b)
one_cut bytes (NoMessage fault) Nothing a b = absurd (partial_is_message bytes fault b a)
one_cut bytes (NoMessage fault) (Message m taken) a b = absurd (first_is_message bytes m taken fault b a)
one_cut bytes (NoMessage fault) (NoMessage other) a b = ap NoMessage (one_fault bytes fault other a b)

-- what is after a frame is what is left after as many bytes
after_frame : (bytes message rest : List ℕ) → InFront message rest bytes → rest ≡ drop (4 + length message) bytes
after_frame bytes message rest front =
    let size : length (frame_of message) ≡ 4 + length message = omega (arith, length-frame_of message [], length-append (frame_of message) []) in
    sym (ap (drop (4 + length message)) front.whole ∙ drop_at (frame_of message) rest (4 + length message) size)

pub begins : (bytes : List ℕ) (bodies : List Body) → AreJobs bytes bodies → (cut : Cut) × IsCut cut bytes × BeginsWith cut bytes bodies
begins bytes bodies (Rest b partial) = (Nothing, partial, refl)
begins bytes bodies (FirstMessage b message rest m later front reads j) =
    let same = after_frame b message rest front in (
      Message m (4 + length message),
      record { message = message; front = subst (λ (r : List ℕ). InFront message r b) same front; reads = reads; size = refl },
      (later, refl, subst (λ (r : List ℕ). AreJobs r later) same j),
    )
begins bytes bodies (FirstFault b message rest fault front reads) = (NoMessage (faults.Malformed fault), record { message = message; rest = rest; front = front; reads = reads }, refl)
begins bytes bodies (FirstLength b stated long) = (NoMessage (faults.TooLarge stated), long, refl)

-- ---- What is kept, and more bytes after it

pub first_within : (bytes : List ℕ) (m : ClientMessage) (taken : ℕ) → IsFirst m taken bytes → taken ≤ length bytes
first_within bytes m taken f =
    let whole : length bytes ≡ length (frame_of f.message ++ drop taken bytes) = ap (λ (l : List ℕ). length l) f.front.whole in
    omega (arith, f.size, whole, length-frame_of f.message (drop taken bytes))

-- a frame's length stands in front of it
pub first_from : (bytes : List ℕ) (m : ClientMessage) (taken : ℕ) → IsFirst m taken bytes → 4 ≤ taken
first_from bytes m taken f = omega (arith, f.size)

-- bytes are cut alike if more come, unless they were less than a frame
pub cut_on : (cut : Cut) (kept more : List ℕ) → (cut ≡ Nothing → more ≡ []) → IsCut cut kept → IsCut cut (kept ++ more)
cut_on Nothing kept more none is = subst IsPartial (ap (λ (l : List ℕ). kept ++ l) (sym (none refl))) (subst IsPartial (sym (append-nil kept)) is)
cut_on (Message m taken) kept more none f = record {
  message = f.message;
  front = subst (λ (r : List ℕ). InFront f.message r (kept ++ more)) (sym (drop-append-le taken kept more (first_within kept m taken f))) (front-more more f.front);
  reads = f.reads;
  size = f.size;
}
cut_on (NoMessage (faults.Malformed fault)) kept more none bad = record { message = bad.message; rest = bad.rest ++ more; front = front-more more bad.front; reads = bad.reads }
cut_on (NoMessage (faults.TooLarge stated)) kept more none bad = long-more more bad
cut_on (NoMessage faults.NoMem) kept more none bad = bad

pub left_on : (cut : Cut) (kept more : List ℕ) → IsCut cut kept → left_after cut kept ++ more ≡ left_after cut (kept ++ more)
left_on Nothing kept more is = refl
left_on (Message m taken) kept more f = sym (drop-append-le taken kept more (first_within kept m taken f))
left_on (NoMessage fault) kept more is = refl

-- a frame to which the bytes come that it lacks is whole
pub not_partial : (old more : List ℕ) (lacks : ℕ) → (IsCutShort old → length old + lacks ≡ 4 + stated_length old) → length more ≡ lacks → 4 ≤ length old → IsPartial (old ++ more) → ⊥
not_partial old more lacks short size long (inl few) = omega (arith, length-append old more, few, long)
not_partial old more lacks short size long (inr cut) =
    let states : stated_length (old ++ more) ≡ stated_length old = ap (from_be_bytes w32) (take-append-le 4 old more long) in
    let whole : length (old ++ more) ≡ length old + length more = length-append old more in
    let missing = cut.missing in
    let within = cut.within in
    let was : IsCutShort old = record { length_is_there = long; within = omega (arith, within, states); missing = omega (arith, missing, states, whole) } in
    let now = short was in
    omega (arith, now, missing, states, whole, size)

-- a piece is over, so what is unread is what is kept
pub kept_all : (kept piece bytes : List ℕ) (at : ℕ) → at ≡ length piece → unread kept piece at ≡ bytes → kept ≡ bytes
kept_all kept piece bytes at end is =
    let past : length piece ≤ at = omega (arith, end) in
    sym (ap (λ (l : List ℕ). kept ++ l) (drop_of_length-le piece past) ∙ append-nil kept) ∙ is

-- ---- A frame is filled

-- what is kept and what is left of a piece are what they were
pub fed : (kept piece : List ℕ) (at n : ℕ) → (kept ++ take ((at + n) - at) (drop at piece)) ++ drop (at + n) piece ≡ kept ++ drop at piece
fed kept piece at n =
    let size : (at + n) - at ≡ n = omega arith in
    append_assoc kept (take ((at + n) - at) (drop at piece)) (drop (at + n) piece)
    ∙ ap (λ (l : List ℕ). kept ++ l)
    (ap (λ (k : ℕ). take k (drop at piece) ++ drop (at + n) piece) size ∙ ap (λ (d : List ℕ). take n (drop at piece) ++ d) (sym (drop-drop n at piece)) ∙ take-append-drop n (drop at piece))

-- the piece is over, or a frame whose length was there is whole
pub filled : (kept piece : List ℕ) (at lacks n : ℕ) → at ≤ length piece → n ≡ min lacks (length piece - at) → (IsCutShort kept → length kept + lacks ≡ 4 + stated_length kept)
    → (at + n ≡ length piece) ⊎ (4 ≤ length kept → IsPartial (kept ++ take ((at + n) - at) (drop at piece)) → ⊥)
filled kept piece at lacks n within is short = by_room (cases_lt (length piece - at) lacks)
  where
    by_room : (length piece - at < lacks) ⊎ (lacks ≤ length piece - at) → (at + n ≡ length piece) ⊎ (4 ≤ length kept → IsPartial (kept ++ take ((at + n) - at) (drop at piece)) → ⊥)
    by_room (inl few) = inl (omega (arith, few, within, is))
    by_room (inr all) = inr (λ long partial.
        let room : length (drop at piece) ≡ length piece - at = length-drop at piece in
        let whole : n ≡ lacks = omega (arith, all, is) in
        let some : (at + n) - at ≤ length (drop at piece) = omega (arith, all, whole, room) in
        let size : length (take ((at + n) - at) (drop at piece)) ≡ (at + n) - at = length-take-le ((at + n) - at) (drop at piece) some in
        let given : length (take ((at + n) - at) (drop at piece)) ≡ lacks = omega (arith, size, whole) in
        not_partial kept (take ((at + n) - at) (drop at piece)) lacks short given long partial)
