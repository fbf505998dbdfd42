-- What each end of a read, of a turn and of a write makes of a run under way.
use Rattle.std.proofs.Common.{◌≡◌, ◌≤◌, ◌<◌, ◌-◌, ◌^◌, inl, inr, ◌++◌, ◌∷◌, [], List, map, ℕ, Bool, true, false, length, None, refl, sym, ap, subst, ◌∙◌, append_assoc, append-nil, arith}
use Rattle.std.specs.Prelude.{IsSome}
use Rattle.std.specs.List.{concat}
use Rattle.std.proofs.lemmas.List.{map-append}
use Rattle.lsv_base.specs.Time.{nanos_of}
use Rattle.lsv_defs.specs.Causes.{HasRisen}
use Rattle.lsv_defs.specs.Pieces.{IsPrefix}
use Rattle.lsv_wire.specs.Frame.{frame_of}
use Rattle.lsv_msg.specs.Messages.{server_bytes}
use Rattle.lsv_session.specs.Connections.{server_hello}
use Rattle.lsv_session.specs.Transcript.{answers, frames_of, said_to}
use Rattle.lsv_session.specs.declared.job.Body.{Body}
use Rattle.lsv_session.specs.declared.job.Job.{Job}
use Rattle.lsv_session.specs.declared.reply.Reply.{Reply}
use Rattle.lsv_session.proofs.Jobs.{cut_nothing}
use Rattle.lsv_turn.specs.Turns.{LaneTurn}
use Rattle.lsv_once.specs.declared.run.ReadsEnd.{ReadsEnd}
use Rattle.lsv_once.specs.declared.run.ReadsEnd.TheVariants as ends
use Rattle.lsv_once.specs.declared.once.OnceEnd.TheVariants.{Served, ReadFault, WriteFault, Store, NoMem}
use Rattle.lsv_once.specs.InnerRun.{AnswerEnds, Cuts, Ended, HasReadsCause, HasRead, HelloEnds, MayEnd, Takes, TurnMade, UnderWay, Unput, end_in}
use Rattle.lsv_once.specs.Course.{PutsAll, PutsFor, OnceTurn, bodies_in, once_conn, replies_in, shuts, turn_of, was_shut}
use Rattle.lsv_once.specs.World.{Wires}
use Rattle.lsv_once.proofs.CourseLemmas.{all_is_part, all_last, answers_last, bodies_last, concat_last, last_shut, none_shut, shut_more, turns_last}

-- ---- The source and the sink, where a part of them changed

abbrev pub with_source : Wires → List (List ℕ) → List ℕ → ℕ → ℕ → Wires
with_source w given rest count faults = record w { given = given; rest = rest; count = count; read_faults = faults }

abbrev pub with_sink : Wires → List ℕ → ℕ → Wires
with_sink w put faults = record w { put = put; write_faults = faults }

abbrev pub hello : List ℕ
hello = frame_of (server_bytes server_hello)

-- what follows a count that rose has risen too
pub risen_since : (a b c : ℕ) → a ≤ b → HasRisen b c → HasRisen a c
risen_since a b c less risen few = let more : b < c = risen few in omega arith

module _ (old : Wires) where
  -- nothing was read
  read_on : (now : Wires) (pieces : List (List ℕ)) (given : List (List ℕ)) (rest : List ℕ) (count faults : ℕ) → HasRead old now pieces → (old.source_tells → given ≡ now.given) → (old.source_tells → rest ≡ now.rest) → now.read_faults ≤ faults
      → HasRead old (with_source now given rest count faults) (pieces ++ [])
  read_on now pieces given rest count faults r g e more = subst (λ (ps : List (List ℕ)). HasRead old (with_source now given rest count faults) ps) (sym (append-nil pieces)) (record {
    given = λ told. g told ∙ r.given told;
    rest = λ told. r.rest told ∙ ap (λ (b : List ℕ). concat pieces ++ b) (sym (e told));
    small = r.small;
    read_faults = let a = r.read_faults in omega arith;
    write_faults = r.write_faults;
  })

  -- a piece was read
  read_piece : (now : Wires) (pieces : List (List ℕ)) (given : List (List ℕ)) (rest : List ℕ) (count faults : ℕ) (piece : List ℕ) → HasRead old now pieces → (old.source_tells → given ≡ now.given ++ piece ∷ [])
      → (old.source_tells → now.rest ≡ piece ++ rest) → length piece ≤ 65536 → now.read_faults ≤ faults → HasRead old (with_source now given rest count faults) (pieces ++ piece ∷ [])
  read_piece now pieces given rest count faults piece r g e small more = record {
    given = λ told. g told ∙ ap (λ (l : List (List ℕ)). l ++ piece ∷ []) (r.given told) ∙ append_assoc old.given pieces (piece ∷ []);
    rest = λ told. r.rest told ∙ ap (λ (b : List ℕ). concat pieces ++ b) (e told) ∙ sym (append_assoc (concat pieces) piece rest) ∙ ap (λ (b : List ℕ). b ++ rest) (sym (concat_last pieces piece));
    small = all_last (λ (p : List ℕ). length p ≤ 65536) pieces piece r.small small;
    read_faults = let a = r.read_faults in omega arith;
    write_faults = r.write_faults;
  }

  -- ---- The reads end

  -- at a read: it failed, or the input came to its end
  pub ended_reading : (end : ReadsEnd) (Made : List LaneTurn → Type 0) (now : Wires) (over : Bool) (unread : List ℕ) (given : List (List ℕ)) (rest : List ℕ) (count faults : ℕ) → UnderWay Made old now over unread → MayEnd end false
      → ((reads : List OnceTurn) (bytes : List ℕ) → PutsAll reads bytes → PutsFor (end_in end) reads bytes) → (old.source_tells → given ≡ now.given) → (old.source_tells → rest ≡ now.rest) → now.read_faults ≤ faults
      → (end_in end ≡ Served → old.source_tells → count < 2 ^ 63 - 1 → rest ≡ []) → (old.read_faults ≤ now.read_faults → HasReadsCause old (with_source now given rest count faults) (end_in end))
      → Ended Made old (with_source now given rest count faults) end
  ended_reading end Made now over unread given rest count faults u may puts g e more all cause = record {
    pieces = u.pieces;
    lost = [];
    reads = u.reads;
    read = read_on now u.pieces given rest count faults u.read g e more;
    turns = u.turns;
    moments = u.moments;
    shut_last = none_shut u.reads u.not_shut;
    ends = subst (MayEnd end) (sym u.not_shut) may;
    few_lost = inl refl;
    ended = λ served shut told few. all served told few;
    put = λ told. (answers once_conn (replies_in u.reads), u.put told, puts u.reads (answers once_conn (replies_in u.reads)) refl);
    made = u.made;
    cause = cause u.read.read_faults;
  }

  -- before the next read, for want of memory
  pub ended_here : (Made : List LaneTurn → Type 0) (now : Wires) (over : Bool) (unread : List ℕ) → UnderWay Made old now over unread → Ended Made old now (ends.Last NoMem)
  ended_here Made now over unread u = ended_reading (ends.Last NoMem) Made now over unread now.given now.rest now.count now.read_faults u tt all_is_part (λ told. refl) (λ told. refl) (omega arith) (λ e. absurd (cc)) (λ more. tt)

  -- for want of memory for a piece
  pub ended_lost : (Made Made' : List LaneTurn → Type 0) (now : Wires) (over : Bool) (unread : List ℕ) (given : List (List ℕ)) (rest : List ℕ) (count faults : ℕ) (piece : List ℕ) → UnderWay Made old now over unread
      → (old.source_tells → given ≡ now.given ++ piece ∷ []) → (old.source_tells → now.rest ≡ piece ++ rest) → length piece ≤ 65536 → now.read_faults ≤ faults → ((turns : List LaneTurn) → Made turns → Made' turns)
      → Ended Made' old (with_source now given rest count faults) (ends.Last NoMem)
  ended_lost Made Made' now over unread given rest count faults piece u g e small more made = record {
    pieces = u.pieces;
    lost = piece ∷ [];
    reads = u.reads;
    read = read_piece now u.pieces given rest count faults piece u.read g e small more;
    turns = u.turns;
    moments = u.moments;
    shut_last = none_shut u.reads u.not_shut;
    ends = tt;
    few_lost = inr (refl, u.not_shut, (piece, refl));
    ended = λ served shut told few. absurd (cc);
    put = λ told. (answers once_conn (replies_in u.reads), u.put told, all_is_part u.reads (answers once_conn (replies_in u.reads)) refl);
    cause = tt;
    made = made (map turn_of u.reads) u.made;
  }

  -- ---- A turn

  pub unput_turn : {S : Type 0} (made made' : S → List LaneTurn → Type 0) (start : S) (now : Wires) (over over' : Bool) (unread unread' : List ℕ) (given : List (List ℕ)) (rest : List ℕ) (count faults : ℕ) (piece : List ℕ) (jobs : List Job) (replies : List Reply)
      → UnderWay (made start) old now over unread → (old.source_tells → given ≡ now.given ++ piece ∷ []) → (old.source_tells → now.rest ≡ piece ++ rest) → length piece ≤ 65536 → now.read_faults ≤ faults
      → Takes piece over unread jobs over' unread' → TurnMade made made' jobs replies → Unput (made' start) old (with_source now given rest count faults) over' unread' replies
  unput_turn made made' start now over over' unread unread' given rest count faults piece jobs replies u g e small more k d =
      let t : OnceTurn = record { now = d.now; bodies = k.bodies; replies = replies } in
      let r = read_piece now u.pieces given rest count faults piece u.read g e small more in
      let cut : Cuts over' (concat u.pieces ++ piece) (bodies_in u.reads ++ k.bodies) unread' = k.goes (concat u.pieces) (bodies_in u.reads) u.cuts in
      let are : record { now = d.now; jobs = jobs; gap = None; replies = replies } ≡ turn_of t = ap (λ (js : List Job). let x : LaneTurn = record { now = d.now; jobs = js; gap = None; replies = replies } in x) k.are in
      record {
        pieces = u.pieces ++ piece ∷ [];
        earlier = u.reads;
        last = t;
        replies_are = refl;
        read = r;
        turns = turns_last [] [] u.pieces u.reads piece t u.turns (k.all (concat u.pieces) (bodies_in u.reads) u.cuts);
        moments = all_last (λ (x : OnceTurn). IsSome (nanos_of x.now)) u.reads t u.moments d.valid;
        not_shut = u.not_shut;
        cuts = subst (λ (b : List ℕ). Cuts over' b (bodies_in (u.reads ++ t ∷ [])) unread') (sym (concat_last u.pieces piece))
            (subst (λ (l : List Body). Cuts over' (concat u.pieces ++ piece) l unread') (sym (bodies_last u.reads t)) cut);
        put = u.put;
        made = subst (made' start) (sym (map-append turn_of u.reads (t ∷ []))) (subst (λ (x : LaneTurn). made' start (map turn_of u.reads ++ x ∷ [])) are (d.goes start (map turn_of u.reads) u.made));
      }

  -- ---- What was put of a turn

  abbrev frames : List Reply → List ℕ
  frames replies = frames_of (said_to once_conn replies)

  -- after the answers of a turn all answers are put
  all_put : (Made : List LaneTurn → Type 0) (now : Wires) (over : Bool) (unread : List ℕ) (replies : List Reply) (put : List ℕ) → (u : Unput Made old now over unread replies) → old.sink_tells → put ≡ now.put ++ frames replies
      → put ≡ old.put ++ answers once_conn (replies_in (u.earlier ++ u.last ∷ []))
  all_put Made now over unread replies put u told e =
      e ∙ ap (λ (b : List ℕ). b ++ frames replies) (u.put told) ∙ append_assoc old.put (answers once_conn (replies_in u.earlier)) (frames replies)
      ∙ ap (λ (b : List ℕ). old.put ++ b) (ap (λ (r : List Reply). answers once_conn (replies_in u.earlier) ++ frames r) (sym u.replies_are) ∙ sym (answers_last u.earlier u.last))

  part_put : (Made : List LaneTurn → Type 0) (now : Wires) (over : Bool) (unread : List ℕ) (replies : List Reply) (put front : List ℕ) → (u : Unput Made old now over unread replies) → old.sink_tells → put ≡ now.put ++ front
      → put ≡ old.put ++ (answers once_conn (replies_in u.earlier) ++ front)
  part_put Made now over unread replies put front u told e = e ∙ ap (λ (b : List ℕ). b ++ front) (u.put told) ∙ append_assoc old.put (answers once_conn (replies_in u.earlier)) front

  now_shut : (Made : List LaneTurn → Type 0) (now : Wires) (over : Bool) (unread : List ℕ) (replies : List Reply) → (u : Unput Made old now over unread replies) → was_shut (u.earlier ++ u.last ∷ []) ≡ shuts replies
  now_shut Made now over unread replies u = shut_more u.earlier u.last u.not_shut ∙ ap shuts u.replies_are

  written : (now : Wires) (pieces : List (List ℕ)) (put : List ℕ) (faults : ℕ) → HasRead old now pieces → now.write_faults ≤ faults → HasRead old (with_sink now put faults) pieces
  written now pieces put faults r more = record { given = r.given; rest = r.rest; small = r.small; read_faults = r.read_faults; write_faults = let a = r.write_faults in omega arith }

  -- the run goes on
  pub under_way : (Made : List LaneTurn → Type 0) (now : Wires) (over : Bool) (unread : List ℕ) (replies : List Reply) (put : List ℕ) (faults : ℕ) → Unput Made old now over unread replies → shuts replies ≡ false
      → (old.sink_tells → put ≡ now.put ++ frames replies) → now.write_faults ≤ faults → UnderWay Made old (with_sink now put faults) over unread
  under_way Made now over unread replies put faults u open_ e more = record {
    pieces = u.pieces;
    reads = u.earlier ++ u.last ∷ [];
    read = written now u.pieces put faults u.read more;
    turns = u.turns;
    moments = u.moments;
    not_shut = now_shut Made now over unread replies u ∙ open_;
    cuts = u.cuts;
    put = λ told. all_put Made now over unread replies put u told (e told);
    made = u.made;
  }

  -- or its reads end
  ended_put : (end : ReadsEnd) (Made : List LaneTurn → Type 0) (now : Wires) (over : Bool) (unread : List ℕ) (replies : List Reply) (put : List ℕ) (faults : ℕ) → (u : Unput Made old now over unread replies) → now.write_faults ≤ faults
      → MayEnd end (shuts replies) → (end_in end ≡ Served → shuts replies ≡ true)
      → (old.sink_tells → (bytes : List ℕ) × (put ≡ old.put ++ bytes) × PutsFor (end_in end) (u.earlier ++ u.last ∷ []) bytes) → HasReadsCause old (with_sink now put faults) (end_in end)
      → Ended Made old (with_sink now put faults) end
  ended_put end Made now over unread replies put faults u more may served puts cause = record {
    pieces = u.pieces;
    lost = [];
    reads = u.earlier ++ u.last ∷ [];
    read = written now (u.pieces ++ []) put faults (subst (λ (ps : List (List ℕ)). HasRead old now ps) (sym (append-nil u.pieces)) u.read) more;
    turns = u.turns;
    moments = u.moments;
    shut_last = last_shut u.earlier u.last u.not_shut;
    ends = subst (MayEnd end) (sym (now_shut Made now over unread replies u)) may;
    few_lost = inl refl;
    ended = λ is shut told few. absurd (let a : shuts replies ≡ true = served is in let b : shuts replies ≡ false = sym (now_shut Made now over unread replies u) ∙ shut in cc);
    put = puts;
    made = u.made;
    cause = cause;
  }

  -- the answers were put in part
  part_of : (Made : List LaneTurn → Type 0) (now : Wires) (over : Bool) (unread : List ℕ) (replies : List Reply) (put : List ℕ) → (u : Unput Made old now over unread replies)
      → (old.sink_tells → (front : List ℕ) × IsPrefix front (frames replies) × (put ≡ now.put ++ front)) → old.sink_tells → (bytes : List ℕ) × (put ≡ old.put ++ bytes) × PutsFor WriteFault (u.earlier ++ u.last ∷ []) bytes
  part_of Made now over unread replies put u e told =
      let f = e told in (
        answers once_conn (replies_in u.earlier) ++ f.0,
        part_put Made now over unread replies put f.0 u told f.2,
        inr (record { earlier = u.earlier; last = u.last; are = refl; front = f.0; of_last = subst (λ (r : List Reply). IsPrefix f.0 (frames r)) (sym u.replies_are) f.1; whole = refl }),
      )

  nothing_of : (now : Wires) (put : List ℕ) (replies : List Reply) → (old.sink_tells → put ≡ now.put) → old.sink_tells → (front : List ℕ) × IsPrefix front (frames replies) × (put ≡ now.put ++ front)
  nothing_of now put replies e told = ([], (frames replies, refl), e told ∙ sym (append-nil now.put))

  pub ended_answering : (end : ReadsEnd) (Made : List LaneTurn → Type 0) (now : Wires) (over : Bool) (unread : List ℕ) (replies : List Reply) (put : List ℕ) (faults : ℕ) → Unput Made old now over unread replies → now.write_faults ≤ faults
      → AnswerEnds old.sink_tells (shuts replies) (frames replies) now.put put now.write_faults faults end → Ended Made old (with_sink now put faults) end
  ended_answering (ends.Last NoMem) Made now over unread replies put faults u more a =
      ended_put (ends.Last NoMem) Made now over unread replies put faults u more tt (λ e. absurd (cc)) (part_of Made now over unread replies put u (nothing_of now put replies a)) tt
  ended_answering (ends.Last Served) Made now over unread replies put faults u more a =
      ended_put (ends.Last Served) Made now over unread replies put faults u more a.0 (λ e. a.0)
      (λ told. (answers once_conn (replies_in (u.earlier ++ u.last ∷ [])), all_put Made now over unread replies put u told (a.1 told), refl)) tt
  ended_answering (ends.Last WriteFault) Made now over unread replies put faults u more a =
      ended_put (ends.Last WriteFault) Made now over unread replies put faults u more a.0 (λ e. absurd (cc)) (part_of Made now over unread replies put u a.2) (risen_since _ _ _ u.read.write_faults a.1)
  ended_answering (ends.Open WriteFault) Made now over unread replies put faults u more a =
      ended_put (ends.Open WriteFault) Made now over unread replies put faults u more a.0 (λ e. absurd (cc)) (part_of Made now over unread replies put u a.2) (risen_since _ _ _ u.read.write_faults a.1)
  ended_answering (ends.Last (Store fault)) Made now over unread replies put faults u more a = absurd a
  ended_answering (ends.Last ReadFault) Made now over unread replies put faults u more a = absurd a
  ended_answering (ends.Open Served) Made now over unread replies put faults u more a = absurd a
  ended_answering (ends.Open (Store fault)) Made now over unread replies put faults u more a = absurd a
  ended_answering (ends.Open ReadFault) Made now over unread replies put faults u more a = absurd a
  ended_answering (ends.Open NoMem) Made now over unread replies put faults u more a = absurd a

  -- ---- The hello

  begun_read : (put : List ℕ) (faults : ℕ) → old.write_faults ≤ faults → HasRead old (with_sink old put faults) []
  begun_read put faults more = record { given = λ told. sym (append-nil old.given); rest = λ told. refl; small = tt; read_faults = omega arith; write_faults = more }

  -- the hello was put
  pub under_way_begun : (Made : List LaneTurn → Type 0) (over : Bool) (unread : List ℕ) (put : List ℕ) (faults : ℕ) → Made [] → over ≡ false → unread ≡ [] → (old.sink_tells → put ≡ old.put ++ hello) → old.write_faults ≤ faults
      → UnderWay Made old (with_sink old put faults) over unread
  under_way_begun Made over unread put faults made not_over none e more = record {
    pieces = [];
    reads = [];
    read = begun_read put faults more;
    turns = tt;
    moments = tt;
    not_shut = refl;
    cuts = subst (λ (o : Bool). Cuts o [] [] unread) (sym not_over) (subst (λ (b : List ℕ). Cuts false [] [] b) (sym none) (cut_nothing []));
    put = λ told. e told ∙ ap (λ (b : List ℕ). old.put ++ b) (sym (append-nil hello));
    made = made;
  }

  ended_begun : (end : ReadsEnd) (Made : List LaneTurn → Type 0) (put : List ℕ) (faults : ℕ) → Made [] → old.write_faults ≤ faults → MayEnd end false → (end_in end ≡ Served → ⊥)
      → (old.sink_tells → (bytes : List ℕ) × (put ≡ old.put ++ bytes) × PutsFor (end_in end) [] bytes) → HasReadsCause old (with_sink old put faults) (end_in end) → Ended Made old (with_sink old put faults) end
  ended_begun end Made put faults made more may served puts cause = record {
    pieces = [];
    lost = [];
    reads = [];
    read = begun_read put faults more;
    turns = tt;
    moments = tt;
    shut_last = tt;
    ends = may;
    few_lost = inl refl;
    ended = λ is shut told few. absurd (served is);
    put = puts;
    cause = cause;
    made = made;
  }

  pub ended_greeting : (end : ReadsEnd) (Made : List LaneTurn → Type 0) (put : List ℕ) (faults : ℕ) → Made [] → old.write_faults ≤ faults → HelloEnds old.sink_tells old.put put old.write_faults faults end
      → Ended Made old (with_sink old put faults) end
  ended_greeting (ends.Last NoMem) Made put faults made more h =
      ended_begun (ends.Last NoMem) Made put faults made more tt (λ e. cc) (λ told. ([], h told ∙ sym (append-nil old.put), inl (refl, (hello, refl)))) tt
  ended_greeting (ends.Open WriteFault) Made put faults made more h =
      ended_begun (ends.Open WriteFault) Made put faults made more refl (λ e. cc) (λ told. let f = h.1 told in (f.0, f.2, inl (refl, f.1))) h.0
  ended_greeting (ends.Last Served) Made put faults made more h = absurd h
  ended_greeting (ends.Last (Store fault)) Made put faults made more h = absurd h
  ended_greeting (ends.Last ReadFault) Made put faults made more h = absurd h
  ended_greeting (ends.Last WriteFault) Made put faults made more h = absurd h
  ended_greeting (ends.Open Served) Made put faults made more h = absurd h
  ended_greeting (ends.Open (Store fault)) Made put faults made more h = absurd h
  ended_greeting (ends.Open ReadFault) Made put faults made more h = absurd h
  ended_greeting (ends.Open NoMem) Made put faults made more h = absurd h
