-- The end of a run.
use Rattle.std.proofs.Common.{◌≡◌, ◌⊎◌, inl, inr, ◌++◌, ◌∷◌, [], List, map, ℕ, Bool, false, refl, sym, subst, append-nil}
use Rattle.std.specs.Prelude.{IsSome}
use Rattle.std.specs.List.{AllByRecursion}
use Rattle.std.proofs.lemmas.List.{map-append}
use Rattle.lsv_base.specs.Time.{nanos_of}
use Rattle.lsv_session.specs.declared.job.Body.TheVariants.{Gone}
use Rattle.lsv_session.specs.declared.reply.Reply.{Reply}
use Rattle.lsv_turn.specs.Turns.{LaneTurn}
use Rattle.lsv_once.specs.declared.run.ReadsEnd.TheVariants as ends
use Rattle.lsv_once.specs.declared.once.OnceEnd.{OnceEnd}
use Rattle.lsv_once.specs.declared.once.OnceEnd.TheVariants.{Served, ReadFault, WriteFault, Store, NoMem}
use Rattle.lsv_once.specs.InnerRun.{Ended, MayEnd, Serves, TurnMade}
use Rattle.lsv_once.specs.Course.{EndsFor, IsGone, Leaves, PutsFor, PutsPart, Course, OnceTurn, jobs_of, turn_of, was_shut}
use Rattle.lsv_once.specs.World.{Wires}
use Rattle.lsv_once.proofs.CourseLemmas.{all_is_part, all_last}

-- ---- Where the connection makes no further turn

abbrev last_course : List OnceTurn → Course
last_course reads = record { reads = reads; leaving = [] }

ends_last : (end : OnceEnd) (reads : List OnceTurn) → MayEnd (ends.Last end) (was_shut reads) → EndsFor end (last_course reads)
ends_last Served reads may = subst (λ (b : Bool). Leaves b []) (sym may) refl
ends_last WriteFault reads may = subst (λ (b : Bool). Leaves b []) (sym may) refl
ends_last NoMem reads may = refl
ends_last ReadFault reads may = absurd may
ends_last (Store fault) reads may = absurd may

-- each of these turns was at a valid moment
abbrev Timed : List OnceTurn → Type 0
Timed turns = AllByRecursion (λ (t : OnceTurn). IsSome (nanos_of t.now)) turns

module _ (Made : List LaneTurn → Type 0) (old now : Wires) where
  -- the run is over with its reads: the connection was shut, or memory ran out
  pub runs_last : (end : OnceEnd) → Ended Made old now (ends.Last end) → Serves Made old now end
  runs_last end e =
      let same : e.reads ≡ e.reads ++ [] = sym (append-nil e.reads) in
      record {
        course = last_course e.reads;
        reads = record {
          pieces = e.pieces;
          lost = e.lost;
          given = e.read.given;
          read = e.read.rest;
          small = e.read.small;
          turns = e.turns;
          shut_last = e.shut_last;
          ends = ends_last end e.reads e.ends;
          moments = subst Timed same e.moments;
          few_lost = e.few_lost;
          ended = e.ended;
        };
        puts = e.put;
        cause = e.cause;
        made = subst (λ (turns : List OnceTurn). Made (map turn_of turns)) same e.made;
      }

  -- ---- Where the connection has still to go

  -- a end at which it goes
  abbrev Goes : OnceEnd → Type 0
  Goes end = (end ≡ Served) ⊎ (end ≡ ReadFault) ⊎ (end ≡ WriteFault)

  goes : (end : OnceEnd) (shut : Bool) → MayEnd (ends.Open end) shut → Goes end × (shut ≡ false)
  goes Served shut may = (inl refl, may)
  goes ReadFault shut may = (inr (inl refl), may)
  goes WriteFault shut may = (inr (inr refl), may)
  goes NoMem shut may = absurd may
  goes (Store fault) shut may = absurd may

  none_lost : (end : OnceEnd) (reads : List OnceTurn) (lost : List (List ℕ)) → Goes end → (lost ≡ []) ⊎ ((end ≡ NoMem) × (was_shut reads ≡ false) × ((piece : List ℕ) × (lost ≡ piece ∷ []))) → lost ≡ []
  none_lost end reads lost g (inl e) = e
  none_lost end reads lost (inl s) (inr (n, open_, piece)) = absurd (cc)
  none_lost end reads lost (inr (inl s)) (inr (n, open_, piece)) = absurd (cc)
  none_lost end reads lost (inr (inr s)) (inr (n, open_, piece)) = absurd (cc)

  ends_gone : (end : OnceEnd) (reads leaving : List OnceTurn) → Goes end → was_shut reads ≡ false → IsGone leaving → EndsFor end (record { reads = reads; leaving = leaving })
  ends_gone end reads leaving (inl s) open_ gone = subst (λ (x : OnceEnd). EndsFor x (record { reads = reads; leaving = leaving })) (sym s) (subst (λ (b : Bool). Leaves b leaving) (sym open_) gone)
  ends_gone end reads leaving (inr (inl s)) open_ gone = subst (λ (x : OnceEnd). EndsFor x (record { reads = reads; leaving = leaving })) (sym s) (open_, gone)
  ends_gone end reads leaving (inr (inr s)) open_ gone = subst (λ (x : OnceEnd). EndsFor x (record { reads = reads; leaving = leaving })) (sym s) (subst (λ (b : Bool). Leaves b leaving) (sym open_) gone)

  -- it went
  pub runs_gone : (Made' : List LaneTurn → Type 0) (end : OnceEnd) → (e : Ended Made old now (ends.Open end)) → (t : OnceTurn) → t.bodies ≡ Gone ∷ [] → IsSome (nanos_of t.now) → Made' (map turn_of e.reads ++ turn_of t ∷ [])
      → Serves Made' old now end
  runs_gone Made' end e t gone valid made =
      let g = goes end (was_shut e.reads) e.ends in
      let course : Course = record { reads = e.reads; leaving = t ∷ [] } in
      record {
        course = course;
        reads = record {
          pieces = e.pieces;
          lost = e.lost;
          given = e.read.given;
          read = e.read.rest;
          small = e.read.small;
          turns = e.turns;
          shut_last = e.shut_last;
          ends = ends_gone end e.reads (t ∷ []) g.0 g.1 (t, refl, gone);
          moments = all_last (λ (x : OnceTurn). IsSome (nanos_of x.now)) e.reads t e.moments valid;
          few_lost = inl (none_lost end e.reads e.lost g.0 e.few_lost);
          ended = e.ended;
        };
        puts = e.put;
        cause = e.cause;
        made = subst Made' (sym (map-append turn_of e.reads (t ∷ []))) made;
      }

  put_part : (end : OnceEnd) (reads : List OnceTurn) (bytes : List ℕ) → Goes end → PutsFor end reads bytes → PutsPart reads bytes
  put_part end reads bytes (inl s) p = all_is_part reads bytes (subst (λ (x : OnceEnd). PutsFor x reads bytes) s p)
  put_part end reads bytes (inr (inl s)) p = all_is_part reads bytes (subst (λ (x : OnceEnd). PutsFor x reads bytes) s p)
  put_part end reads bytes (inr (inr s)) p = subst (λ (x : OnceEnd). PutsFor x reads bytes) s p

  -- memory ran out for that
  pub runs_out : (Made' : List LaneTurn → Type 0) (end : OnceEnd) → ((turns : List LaneTurn) → Made turns → Made' turns) → Ended Made old now (ends.Open end) → Serves Made' old now NoMem
  runs_out Made' end made e =
      let same : e.reads ≡ e.reads ++ [] = sym (append-nil e.reads) in
      let g = goes end (was_shut e.reads) e.ends in
      record {
        course = last_course e.reads;
        reads = record {
          pieces = e.pieces;
          lost = e.lost;
          given = e.read.given;
          read = e.read.rest;
          small = e.read.small;
          turns = e.turns;
          shut_last = e.shut_last;
          ends = refl;
          moments = subst Timed same e.moments;
          few_lost = inl (none_lost end e.reads e.lost g.0 e.few_lost);
          ended = λ is shut told few. absurd (cc);
        };
        puts = λ told. let p = e.put told in (p.0, p.1, put_part end e.reads p.0 g.0 p.2);
        cause = tt;
        made = subst (λ (turns : List OnceTurn). Made' (map turn_of turns)) same (made (map turn_of e.reads) e.made);
      }

-- the same, where the connection went in this turn
pub runs_gone_in : {S : Type 0} (made made' : S → List LaneTurn → Type 0) (start : S) (old now : Wires) (end : OnceEnd) (replies : List Reply) → Ended (made start) old now (ends.Open end) → TurnMade made made' (jobs_of (Gone ∷ [])) replies
    → Serves (made' start) old now end
runs_gone_in made made' start old now end replies e d =
    runs_gone (made start) old now (made' start) end e (record { now = d.now; bodies = Gone ∷ []; replies = replies }) refl d.valid (d.goes start (map turn_of e.reads) e.made)
