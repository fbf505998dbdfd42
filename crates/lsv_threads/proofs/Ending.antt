-- What the endpoints did, after they were brought to their ends.
use Rattle.std.proofs.Common.{◌≡◌, ◌++◌, ℕ, Bool, false, Option, Some, None, Result, Ok, Err, List, [], length, take, refl, sym, ap, subst, ◌∙◌, append-nil, arith}
use Rattle.std.specs.Prelude.{OnErr, slice_get, slice_index_or}
use Rattle.std.specs.List.{Contains}
use Rattle.std.proofs.Math.Path.{fun_ext}
use Rattle.std.proofs.Math.Seq.{take-append_seam}
use Rattle.std.proofs.lemmas.Option.{slice_get-get_or, slice_get_within}
use Rattle.atomic_table.specs.Seated.{TableId}
use Rattle.lsv_base.specs.declared.no_mem.NoMem.{NoMem}
use Rattle.lsv_port.proofs.LedgerLemmas.{continues_then}
use Rattle.lsv_queue.proofs.Places.{one_there}
use Rattle.lsv_session.specs.declared.job.Job.{Job}
use Rattle.lsv_session.specs.declared.reply.Reply.{Reply}
use Rattle.lsv_links.specs.Links.{PutsPrefixes}
use Rattle.lsv_links.specs.Views.{PortView}
use Rattle.lsv_turn.specs.declared.lane.Lane
use Rattle.lsv_reactor.specs.Endpoints.{Serves}
use Rattle.lsv_reactor.specs.InnerLoop.{AreMade, AreOver, HasEndBelow}
use Rattle.lsv_reactor.specs.Served.{HasPortsEnd, KeepPorts}
use Rattle.lsv_reactor.specs.declared.endpoint.Endpoint
use Rattle.lsv_reactor.specs.declared.rounds.PortsEnd.{PortsEnd}
use Rattle.lsv_reactor.specs.declared.rounds.PortsEnd.TheVariants.{Stopped, Failed}
use Rattle.lsv_threads.specs.AtEnd.{AreAtEnd, AreStopped, IsAtEnd}
use Rattle.lsv_threads.specs.Run.{AreFresh, AreFreshLanes}
use Rattle.lsv_threads.specs.Served.{AreServed, AreTurned, IsLeft, PutsLanes, ServesLanes}
use Rattle.lsv_threads.proofs.Lifting.{own_jobs, puts_turns, serves_turns}
use Rattle.lsv_threads.proofs.Placing.{get_at, none_asked}

-- the ports are the same still, after two steps
keep_then : {T : Type 0} (view : T → PortView) (olds mids news : List T) → length mids ≡ length olds → KeepPorts view olds mids → KeepPorts view mids news → KeepPorts view olds news
keep_then view olds mids news size first second w old new a e =
    let m = get_at mids w (let l = slice_get_within olds w old a in omega (arith, l, size)) in
    continues_then (view old).ledger (view m.0).ledger (view new).ledger (first w old m.0 a m.1) (second w m.0 new m.1 e)

-- how all ports ended
all_ended : {T : Type 0} (words : Endpoint.Ghosts T) (starts : ℕ → words.Start) (endpoints : List T) (end : PortsEnd) → HasEndBelow words.tells words.begun words.view starts endpoints (length endpoints) end → HasPortsEnd words.tells words.begun words.view starts endpoints end
all_ended words starts endpoints Stopped below = λ told w endpoint at. below told w endpoint (slice_get_within endpoints w endpoint at) at
all_ended words starts endpoints Failed below = below

-- what is written back of a list that keeps its length
pub written : {A : Type 0} (n : ℕ) (news rest : List A) → n ≡ length news → take n (news ++ rest) ≡ news
written n news rest e = ap (λ (k : ℕ). take k (news ++ rest)) e ∙ take-append_seam news rest

-- what is said of an error
pub on_err : {A E : Type 0} (P : Type 0) (r : Result A E) → OnErr r P → (why : E) → r ≡ Err why → P
on_err P (Ok a) said why is = absurd cc
on_err P (Err e) said why is = said

-- ---- After a run

module _ {T L : Type 0} (words : Endpoint.Ghosts T) (lane_words : Lane.Ghosts L) (starts : ℕ → words.Start) (begins : ℕ → lane_words.Start) (olds : List T) (count : ℕ) (endpoints : List T) (stops : List Bool) (lanes : List L) (failed : Bool)
    (t : AreTurned words lane_words starts begins olds count endpoints stops lanes failed) where
  -- what of an endpoint is left, if nothing is read off the list of stops but its own
  abbrev pub LeftAt : ℕ → T → Type 0
  LeftAt w endpoint = IsLeft words (starts w) count w endpoint (slice_index_or stops w false) failed t.turns

  left_at : (w : ℕ) (endpoint : T) → slice_get endpoints w ≡ Some endpoint → LeftAt w endpoint
  left_at w endpoint at = t.left w endpoint (slice_index_or stops w false) at (slice_get-get_or stops w false (let l = slice_get_within endpoints w endpoint at in let a = t.size in let b = t.stops_size in omega arith))

  -- these are what the endpoint at a place put and took, if there is one
  pub record IsPick (w : ℕ) (gave : ℕ → List Job) (took : List Reply) : Type 0 where
    pub here : (endpoint : T) → slice_get endpoints w ≡ Some endpoint → (left : LeftAt w endpoint) × (left.gave ≡ gave) × (left.took ≡ took)

  pub pick : (w : ℕ) → (gave : ℕ → List Job) × (took : List Reply) × IsPick w gave took
  pick w = go (slice_get endpoints w) refl
    where
      go : (o : Option T) → slice_get endpoints w ≡ o → (gave : ℕ → List Job) × (took : List Reply) × IsPick w gave took
      go None e = ((λ l. []), [], record { here = λ endpoint at. let no : None ≡ Some endpoint = sym e ∙ at in absurd cc })
      go (Some s) e =
          let left = left_at w s e in (
            left.gave,
            left.took,
            record { here = λ endpoint at. subst (λ (z : T). (is : LeftAt w z) × (is.gave ≡ left.gave) × (is.took ≡ left.took)) (one_there endpoints w s endpoint e at) (left, refl, refl) },
          )

  abbrev pub gave : ℕ → ℕ → List Job
  gave w = (pick w).0

  abbrev pub took : ℕ → List Reply
  took w = (pick w).1

  pub at_end : AreAtEnd words starts count endpoints stops gave took
  at_end w endpoint at =
      let h = (pick w).2.here endpoint at in
      subst (λ (g : ℕ → List Job). IsAtEnd words (starts w) count w endpoint (slice_index_or stops w false) g (took w)) h.1
      (subst (λ (r : List Reply). IsAtEnd words (starts w) count w endpoint (slice_index_or stops w false) h.0.gave r) h.2 (record { number_is = h.0.number_is; lanes_are = h.0.lanes_are; made = h.0.made; put = h.0.put }))

  -- ---- Nothing was lost

  module _ (working : failed ≡ false) (going : (w : ℕ) → slice_index_or stops w false ≡ false) where
    are_made : AreMade words.made_by starts endpoints gave took
    are_made w endpoint at = (at_end w endpoint at).made (going w)

    module _ (end : PortsEnd) (over : AreOver words.tells words.number words.lanes words.begun words.view starts endpoints gave took (length endpoints) end) where
      serves_at : (w : ℕ) (endpoint : T) → slice_get endpoints w ≡ Some endpoint → words.tells → (left : LeftAt w endpoint) → left.gave ≡ gave w → left.took ≡ took w → Serves count w (own_jobs w t.turns) left.took (words.begun (starts w)) (words.view endpoint)
      serves_at w endpoint at told left gave_is took_is =
          let old : PortView = words.begun (starts w) in
          let new : PortView = words.view endpoint in
          let all : left.gave ≡ own_jobs w t.turns = fun_ext (λ l. left.gave_are l ∙ (ap (λ (d : List Job). own_jobs w t.turns l ++ d) (left.none working l) ∙ append-nil (own_jobs w t.turns l))) in
          subst (λ (g : ℕ → List Job). Serves count w g left.took old new) (sym gave_is ∙ all)
          (subst (λ (r : List Reply). Serves count w (gave w) r old new) (sym took_is)
          (subst (λ (n : ℕ). Serves n w (gave w) (took w) old new) (left.lanes_are (going w))
          (subst (λ (n : ℕ). Serves (words.lanes endpoint) n (gave w) (took w) old new) (left.number_is (going w)) (over.each told w endpoint (slice_get_within endpoints w endpoint at) at))))

      pub serves_lanes : ServesLanes words lane_words.tells count starts endpoints t.turns end
      serves_lanes = record {
        each = λ told w endpoint at.
            let h = (pick w).2.here endpoint at in
            serves_turns w t.turns h.0.took h.0.merge t.to_these lane_words.tells count (words.begun (starts w)) (words.view endpoint) t.asked (serves_at w endpoint at told h.0 h.1 h.2);
        within = λ l job has. let a = t.within l job has in let s = t.size in omega arith;
        ended = all_ended words starts endpoints end over.ended;
      }

  -- ---- Something was lost

  pub puts_lanes : (news : List T) → length news ≡ length endpoints → AreStopped words starts count news gave took (length news) → PutsLanes words count starts news t.turns
  puts_lanes news size stopped = record {
    each = λ told w new at.
        let e = get_at endpoints w (let l = slice_get_within news w new at in omega (arith, l, size)) in
        let h = (pick w).2.here e.0 e.1 in
        puts_turns w t.turns h.0.took h.0.merge t.to_these h.0.gave h.0.dropped h.0.gave_are count (words.begun (starts w)) (words.view new)
        (subst (λ (g : ℕ → List Job). PutsPrefixes count w g (λ l. h.0.took) (words.begun (starts w)) (words.view new)) (sym h.1)
        (subst (λ (r : List Reply). PutsPrefixes count w (gave w) (λ l. r) (words.begun (starts w)) (words.view new)) (sym h.2) (stopped told w new (slice_get_within news w new at) at)));
    within = λ l job has. let a = t.within l job has in let s = t.size in omega arith;
  }

  -- ---- In either case

  pub ran_served : (news : List T) (end : Result PortsEnd NoMem) → length news ≡ length endpoints → KeepPorts words.view endpoints news
      → ((e : PortsEnd) → end ≡ Ok e → (failed ≡ false) × ((w : ℕ) → slice_index_or stops w false ≡ false) × (news ≡ endpoints))
      → ((e : PortsEnd) → end ≡ Ok e → AreMade words.made_by starts endpoints gave took → AreOver words.tells words.number words.lanes words.begun words.view starts endpoints gave took (length endpoints) e)
      → ((why : NoMem) → end ≡ Err why → AreStopped words starts count news gave took (length news))
      → AreServed words lane_words starts begins olds count news lanes end
  ran_served news end size keep whole over stopped = record {
    turns = t.turns;
    past = t.past;
    made = t.made;
    are = t.are;
    asked = t.asked;
    size = size ∙ t.size;
    lanes_size = t.lanes_size;
    keep = keep_then words.view olds endpoints news t.size t.keep keep;
    ended = λ e is.
        let h = whole e is in
        subst (λ (all : List T). ServesLanes words lane_words.tells count starts all t.turns e) (sym h.2) (serves_lanes h.0 h.1 e (over e is (are_made h.0 h.1)));
    broken = λ why is. puts_lanes news size (stopped why is);
  }

-- ---- Without a run

no_table : TableId
no_table = record { words = 0; slots = 0; views_name = 0; atom = 0; block = 0; offset = 0; slot_names = [] }

no_job : (job : Job) → Contains [] job → ⊥
no_job job has = absurd (let less = has.1 in omega arith)

module _ {T L : Type 0} (words : Endpoint.Ghosts T) (lane_words : Lane.Ghosts L) (olds : List T) (lanes : List L) (starts : ℕ → words.Start) where
  -- endpoints that did nothing yet
  pub fresh_ends : AreFresh words olds (length lanes) starts → AreAtEnd words starts (length lanes) olds [] (λ w l. []) (λ w. [])
  fresh_ends fresh w endpoint at = record { number_is = λ e. fresh.numbered w endpoint at; lanes_are = λ e. fresh.lanes_are w endpoint at; made = λ e. fresh.begun w endpoint at; put = λ e. absurd cc }

  pub fresh_served : (begins : ℕ → lane_words.Start) → AreFreshLanes lane_words lanes begins → (news : List T) (why : NoMem) → length news ≡ length olds → KeepPorts words.view olds news → AreStopped words starts (length lanes) news (λ w l. []) (λ w. []) (length news)
      → AreServed words lane_words starts begins olds (length lanes) news lanes (Err why)
  fresh_served begins fresh_lanes news why size keep stopped = record {
    turns = λ l. [];
    past = λ l high. refl;
    made = λ l lane at. fresh_lanes.begun l lane at;
    are = λ l. (no_table, tt);
    asked = λ told l. none_asked;
    size = size;
    lanes_size = refl;
    keep = keep;
    ended = λ e no. absurd cc;
    broken = λ again is. record { each = λ told w endpoint at. stopped told w endpoint (slice_get_within news w endpoint at) at; within = λ l job has. absurd (no_job job has) };
  }
