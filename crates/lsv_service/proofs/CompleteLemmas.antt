-- A legal conversation over a link of a server is served, where nothing is in its way.
use Rattle.std.proofs.Common.{◌≡◌, ◌≤◌, ◌<◌, ◌+◌, ◌-◌, ◌^◌, ℕ, List, [], ◌∷◌, ◌++◌, map, refl, sym, ◌∙◌, ap, subst, inl, inr, arith, Option, Some, None, append-nil}
use Rattle.std.specs.Prelude.{◌==◌, ◌⊎◌, ◌||◌, ◌*◌, ◌%◌, Bool, true, false, if◌then◌else◌, nat_lt, Contains}
use Rattle.std.proofs.lemmas.Bool.Decides.{nat_tests}
use Rattle.std.proofs.Math.Nat.{add-mul}
use Rattle.std.proofs.lemmas.List.Elements.{Contains-append_left, Contains-append_right, Contains-push}
use Rattle.lsv_defs.specs.Causes.{HasRisen}
use Rattle.lsv_disk.specs.Files.{file_of}
use Rattle.lsv_disk.specs.View.{DiskView, Image}
use Rattle.lsv_disk.specs.declared.file.FileId.{FileId}
use Rattle.lsv_disk.specs.declared.file.Owner.{Owner}
use Rattle.lsv_disk.specs.declared.file.Owner.TheVariants.{Events, Log, Numbers, Relay}
use Rattle.lsv_disk.specs.declared.file.Part.{Part}
use Rattle.lsv_iolog.specs.Recovered.{Replays}
use Rattle.lsv_msg.specs.declared.messages.ServerMessage.{ServerMessage}
use Rattle.lsv_msg.specs.Messages.{server_bytes}
use Rattle.lsv_seq.specs.Drawn.{entry_at}
use Rattle.lsv_seq.specs.declared.entry.Entry.{Entry}
use Rattle.lsv_wire.specs.Frame.{frame_of}
use Rattle.lsv_session.specs.Connections.{server_hello}
use Rattle.lsv_session.specs.Transcript.{AreFirst, answers, bodies_of, frames_of, said_to}
use Rattle.lsv_session.specs.declared.connection.ConnId.{ConnId}
use Rattle.lsv_session.specs.declared.connection.ConnState.TheVariants.{Fresh}
use Rattle.lsv_session.specs.declared.job.Body.{Body}
use Rattle.lsv_session.specs.declared.job.Body.TheVariants as body
use Rattle.lsv_session.specs.declared.job.Fault.TheVariants as fault
use Rattle.lsv_session.proofs.Jobs.{one_list}
use Rattle.lsv_machine.specs.Counts.{Counts, IsCounted, all_parts, failed_in, failures, faults_among, is_among, one_if, same_owner}
use Rattle.lsv_machine.specs.Failures.{Act}
use Rattle.lsv_machine.specs.Legal.{IsLegal, all_answers, told_of, whole_log}
use Rattle.lsv_machine.specs.Machine.{IsOfLane, LogState, Machine, Settings}
use Rattle.lsv_machine.specs.Recovery.{Turn, all_turns}
use Rattle.lsv_machine.specs.Silence.{EndsWithGone}
use Rattle.lsv_machine.specs.Starts.{ReadsAs}
use Rattle.lsv_machine.specs.Turns.{Happened, Happened.Tailed, all_acted}
use Rattle.lsv_machine.proofs.Choices.{EqOr.equal, EqOr.unequal, eq_or}
use Rattle.lsv_progress.specs.Among as among
use Rattle.lsv_progress.specs.Among.{FitsAmong, IsServedAmong, IsUndisturbed, MayGet, asked_before, came_of}
use Rattle.lsv_progress.proofs.Served.{served_among}
use Rattle.lsv_keeper.specs.Reading.{IsDrawn}
use Rattle.lsv_turn.specs.Turns.{LaneTurn, jobs_in, replies_in, shuts}
use Rattle.lsv_lane.specs.Store.{Conforms, KeepsStore}
use Rattle.lsv_links.specs.Lanes.{one_lane}
use Rattle.lsv_links.specs.Links.{AtMostStarved, Brings, Puts, ServesBy, ServesLink, ServesPort, conn_of}
use Rattle.lsv_links.specs.Links as links
use Rattle.lsv_links.specs.Views.{LinkFailed, PortView}
use Rattle.lsv_links.proofs.LaneLemmas.{one_lane_serves}
use Rattle.lsv_service.specs.Complete.{AllAmple, AreAmple, Completes, CompletesLanes, IsServedBy, IsUnhindered, KeepLanes, answers_of, came_by, messages_of}
use Rattle.lsv_service.specs.Lanes.{BayView}
use Rattle.lsv_service.proofs.HomeLane.{home_lane}
use Rattle.lsv_service.proofs.Leaving.{isnt_shut_early, unshut_replies}
use Rattle.lsv_service.proofs.Sent.{NoGone, ends_with_gone, first_no_gone, jobs_no_gone, replies_are, said_all, spoken, spoken_all, told_same, turns_sent}

-- ---- Counts that didn't rise

unrisen : (old new : ℕ) → old ≤ new → (HasRisen old new → ⊥) → (new ≡ old) × (new < 2 ^ 64 - 1)
unrisen old new up calm = (same (nat_lt old new) refl, below (nat_lt new (2 ^ 64 - 1)) refl)
  where
    same : (b : Bool) → nat_lt old new ≡ b → new ≡ old
    same true e = absurd (calm (λ few. let h : old < new = grind (arith, nat_tests) in h))
    same false e = let h : new ≤ old = grind (arith, nat_tests) in omega arith

    below : (b : Bool) → nat_lt new (2 ^ 64 - 1) ≡ b → new < 2 ^ 64 - 1
    below true e = grind (arith, nat_tests)
    below false e = let h : (new < 2 ^ 64 - 1) → ⊥ = (λ less. let t : nat_lt new (2 ^ 64 - 1) ≡ true = grind (arith, nat_tests) in cc) in absurd (calm (λ few. absurd (h few)))

owner_same : (o : Owner) → same_owner o o ≡ true
owner_same (Log n) = grind (arith, nat_tests)
owner_same (Events lane) = grind (arith, nat_tests)
owner_same (Numbers lane) = grind (arith, nat_tests)
owner_same (Relay n) = grind (arith, nat_tests)

-- in each job and end of a turn no owner failed
abbrev AllSound : List Happened → Type 0
AllSound [] = Unit {0}
AllSound (x ∷ h) = (failed_in x ≡ []) × AllSound h

none_failed : (failed : List Owner) → ((o : Owner) → is_among o failed ≡ false) → failed ≡ []
none_failed [] calm = refl
none_failed (o ∷ failed) calm = absurd (let h : (same_owner o o || is_among o failed) ≡ false = calm o in let t = owner_same o in let u : (true || is_among o failed) ≡ false = subst (λ (b : Bool). (b || is_among o failed) ≡ false) t h in cc)

same_faults : (old new : DiskView) (o : Owner) (parts : List Part) → ((file : FileId) → new.faults file ≡ old.faults file) → faults_among new o parts ≡ faults_among old o parts
same_faults old new o [] same = refl
same_faults old new o (part ∷ parts) same = let a = same (file_of o part) in let b = same_faults old new o parts same in omega arith

module _ (old new : DiskView) (h : List Happened) (c : Counts h old new) (calm : (file : FileId) → HasRisen (old.faults file) (new.faults file) → ⊥) where
  still : (file : FileId) → (new.faults file ≡ old.faults file) × (new.faults file < 2 ^ 64 - 1)
  still file = unrisen (old.faults file) (new.faults file) (c.monotone file) (calm file)

  no_failure : (o : Owner) → failures o h ≡ 0
  no_failure o =
      let counted : IsCounted new o = λ part. (still (file_of o part)).1 in
      let most = c.failed o counted in
      let same = same_faults old new o all_parts (λ file. (still file).0) in
      omega arith

  not_one : (b : Bool) (rest : ℕ) → one_if b + rest ≡ 0 → (b ≡ false) × (rest ≡ 0)
  not_one true rest e = let x : 1 + rest ≡ 0 = e in absurd (omega arith)
  not_one false rest e = (refl, omega arith)

  all_sound : (g : List Happened) → ((o : Owner) → failures o g ≡ 0) → AllSound g
  all_sound [] none = tt
  all_sound (x ∷ g) none = (
    none_failed (failed_in x) (λ o. (not_one (is_among o (failed_in x)) (failures o g) (none o)).0),
    all_sound g (λ o. (not_one (is_among o (failed_in x)) (failures o g) (none o)).1),
  )

  nothing_failed : AllSound h
  nothing_failed = all_sound h no_failure

-- where no owner failed and memory was ample for the connection, nothing was in its way
undisturbed : (k : ConnId) (turns : List Turn) → AllSound (all_turns turns) → AllAmple k turns → IsUndisturbed k (all_turns turns)
undisturbed k [] sound ample = tt
undisturbed k (t ∷ turns) sound (has, ample) = go t.acts sound has (λ s. undisturbed k turns s ample)
  where
    go : (acts : List Act) → AllSound ((all_acted acts ++ Tailed t.tail ∷ []) ++ all_turns turns) → AreAmple k acts → (AllSound (all_turns turns) → IsUndisturbed k (all_turns turns)) → IsUndisturbed k ((all_acted acts ++ Tailed t.tail ∷ []) ++ all_turns turns)
    go [] (none, rest) ample on = (none, on rest)
    go (act ∷ acts) (none, rest) (has, ample) on = (none, has, go acts rest ample on)

-- ---- The last number drawn

abbrev an_entry : (lane lanes last : ℕ) → Entry
an_entry lane lanes last = record { last = last; lane = lane; lanes = lanes }

one_entry : (lane lanes a b : ℕ) → Some (an_entry lane lanes a) ≡ Some (an_entry lane lanes b) → a ≡ b
one_entry lane lanes a b e = let h : an_entry lane lanes a ≡ an_entry lane lanes b = cc in ap (λ (x : Entry). x.last) h

no_entry : (x : Entry) (o : Option Entry) → o ≡ Some x → o ≡ None → ⊥
no_entry x o p q = cc

one_last : (lane lanes : ℕ) (image : Image) (a b : ℕ) → IsDrawn lane lanes image a → IsDrawn lane lanes image b → a ≡ b
one_last lane lanes image a b (inl p) (inl q) = one_entry lane lanes a b (sym p ∙ q)
one_last lane lanes image a b (inl p) (inr q) = absurd (no_entry (an_entry lane lanes a) (entry_at lane image) p q.0)
one_last lane lanes image a b (inr p) (inl q) = absurd (no_entry (an_entry lane lanes b) (entry_at lane image) q p.0)
one_last lane lanes image a b (inr p) (inr q) = p.1 ∙ sym q.1

-- a number that the connection's log may get is of the lane
may_get_own : (set : Settings) (m : Machine) (asked n : ℕ) → (m.last ≡ 0) ⊎ IsOfLane set.lane set.lanes m.last → MayGet set m asked n → IsOfLane set.lane set.lanes n
may_get_own set m asked n drawn g = elim (eq_or m.last 0) [
  | equal p t ↦ (g.passed, g.is ∙ first_is t)
  | unequal p t ↦ elim drawn [
    | inl none ↦ absurd (p none)
    | inr (steps, at) ↦
        let e : n ≡ m.last + set.lanes + g.passed * set.lanes = g.is ∙ next_is t in
        let a : (steps + 1 + g.passed) * set.lanes ≡ (steps + 1) * set.lanes + g.passed * set.lanes = add-mul (steps + 1) g.passed set.lanes in
        let b : (steps + 1) * set.lanes ≡ steps * set.lanes + 1 * set.lanes = add-mul steps 1 set.lanes in
        (steps + 1 + g.passed, omega arith)
  ]
]
  where
    first_is : (m.last == 0) ≡ true → (if m.last == 0 then set.lane + 1 else m.last + set.lanes) + g.passed * set.lanes ≡ set.lane + 1 + g.passed * set.lanes
    first_is t = rw t refl

    next_is : (m.last == 0) ≡ false → (if m.last == 0 then set.lane + 1 else m.last + set.lanes) + g.passed * set.lanes ≡ m.last + set.lanes + g.passed * set.lanes
    next_is t = rw t refl

-- ---- A link

-- memory didn't run out where its bytes were cut into jobs
not_starved : (heard starved bodies : List Body) → AtMostStarved starved → bodies ≡ heard ++ (starved ++ body.Gone ∷ []) → (Contains bodies (body.Bad fault.NoMem) → ⊥) → starved ≡ []
not_starved heard starved bodies (inl none) is ample = none
not_starved heard starved bodies (inr one) is ample =
    let here : Contains (starved ++ body.Gone ∷ []) (body.Bad fault.NoMem) =
    subst (λ (bs : List Body). Contains (bs ++ body.Gone ∷ []) (body.Bad fault.NoMem)) (sym one)
    (Contains-append_left (body.Bad fault.NoMem ∷ []) (body.Gone ∷ []) (body.Bad fault.NoMem) (Contains-push [] (body.Bad fault.NoMem))) in
    absurd (ample (subst (λ (bs : List Body). Contains bs (body.Bad fault.NoMem)) (sym is) (Contains-append_right heard (starved ++ body.Gone ∷ []) (body.Bad fault.NoMem) here)))

module _ (disk_tells : Type 0) (set : Settings) (texts : List (List ℕ)) (found left : DiskView) (lane : List LaneTurn) (keeps : KeepsStore (Unit {0}) set texts (record { found = found; left = left }) lane)
    (k : ConnId) (l : ℕ) (before after : PortView) (told : disk_tells) (served : ServesBy disk_tells k l (jobs_in lane) (replies_in lane) before after) (bodies : List Body)
    (u : IsUnhindered set found left k (after.state.link l).input lane (keeps.conforms tt).ran.start keeps.story bodies) where
  abbrev turns : List Turn
  turns = keeps.story.turns

  abbrev conforms : Conforms set texts (record { found = found; left = left }) keeps.story
  conforms = keeps.conforms tt

  abbrev start : Machine
  start = conforms.ran.start

  abbrev brings : Brings (after.state.link l).input (shuts k (replies_in lane)) (bodies_of k (jobs_in lane))
  brings = served.brings

  unstarved : brings.starved ≡ []
  unstarved = not_starved brings.heard brings.starved (bodies_of k (jobs_in lane)) brings.at_most brings.are u.had_memory

  jobs_are : brings.jobs ≡ bodies
  jobs_are = one_list brings.of_input u.sent

  no_gone : NoGone brings.heard
  no_gone = first_no_gone brings.heard brings.jobs brings.first (jobs_no_gone brings.of_input)

  came_is : bodies_of k (jobs_in lane) ≡ brings.heard ++ body.Gone ∷ []
  came_is = brings.are ∙ ap (λ (bs : List Body). brings.heard ++ (bs ++ body.Gone ∷ [])) unstarved

  sent_is : among.bodies_of k turns ≡ brings.heard
  sent_is = turns_sent k lane turns keeps.are ∙ (ap spoken came_is ∙ spoken_all brings.heard no_gone)

  calm : IsUndisturbed k (all_turns turns)
  calm = undisturbed k turns (nothing_failed found left (all_turns turns) conforms.ran.counts u.no_call_failed) u.ample

  ends : EndsWithGone k (all_turns turns)
  ends = ends_with_gone k lane turns brings.heard keeps.are no_gone came_is

  -- a part of it shuts nobody
  part_unshut : (later : List Body) → bodies ≡ brings.heard ++ later → (later ≡ [] → ⊥) → shuts k (replies_in lane) ≡ false
  part_unshut later is some =
      let all : bodies ≡ among.bodies_of k turns ++ later = is ∙ ap (λ (bs : List Body). bs ++ later) (sym sent_is) in
      let unshut = isnt_shut_early set texts k start conforms.end turns later u.number conforms.ran.starts conforms.ran.run conforms.ran.moments calm ends
      (subst (λ (bs : List Body). IsLegal u.number Fresh bs) all u.legal) some (subst (λ (bs : List Body). FitsAmong set k start turns bs) all u.fits) in
      ap (shuts k) (replies_are k lane turns keeps.are) ∙ unshut_replies k (all_answers turns) unshut

  all_heard : brings.heard ≡ bodies
  all_heard = go (shuts k (replies_in lane)) refl brings.first
    where
      go : (b : Bool) → shuts k (replies_in lane) ≡ b → AreFirst brings.heard brings.jobs → brings.heard ≡ bodies
      go false e first = brings.whole e unstarved ∙ jobs_are
      go true e ([], is) = sym (append-nil brings.heard) ∙ (sym is ∙ jobs_are)
      go true e (x ∷ later, is) = absurd (let h = part_unshut (x ∷ later) (sym jobs_are ∙ is) (λ none. cc) in cc)

  sent_all : among.bodies_of k turns ≡ bodies
  sent_all = sent_is ∙ all_heard

  done : (n : ℕ) × IsServedAmong set k n texts turns start conforms.end conforms.ran.run
  done = served_among set texts k start conforms.end turns u.number conforms.ran.starts conforms.ran.run conforms.ran.moments calm ends
      (subst (λ (bs : List Body). IsLegal u.number Fresh bs) (sym sent_all) u.legal) (subst (λ (bs : List Body). FitsAmong set k start turns bs) (sym sent_all) u.fits)

  abbrev n : ℕ
  n = done.0

  said_is : said_to k (replies_in lane) ≡ messages_of (told_of n (came_by k lane))
  said_is =
      ap (said_to k) (replies_are k lane turns keeps.are)
      ∙ (said_all k (all_answers turns) (told_of n (map (λ c. c.bodies) (came_of k turns))) done.1.told ∙ ap messages_of (told_same k n lane turns keeps.are))

  answers_are : answers k (replies_in lane) ≡ answers_of (told_of n (came_by k lane))
  answers_are = ap (λ (ms : List ServerMessage). frame_of (server_bytes server_hello) ++ frames_of ms) said_is

  log_now : Replays left.reads n (Some (whole_log texts bodies))
  log_now =
      let there = subst (λ (log : LogState). ReadsAs (Replays left.reads n) log) done.1.log (conforms.logs n done.1.free) in
      subst (λ (bs : List Body). Replays left.reads n (Some (whole_log texts bs))) sent_all there

  pub link_served : (n : ℕ) × IsServedBy set texts found left k (after.state.link l) (LinkFailed l before after) lane bodies n
  link_served = (
    n,
    record {
      came = came_is ∙ ap (λ (bs : List Body). bs ++ body.Gone ∷ []) all_heard;
      own = may_get_own set start (asked_before k (all_turns turns)) done.0 conforms.ran.starts.drawn done.1.number;
      above = λ last drawn. subst (λ (x : ℕ). x < n) (one_last set.lane set.lanes found.reads start.last last conforms.ran.drawn drawn) done.1.above;
      within = (u.fits n done.1.number).number;
      said = said_is;
      put = subst (λ (bytes : List ℕ). Puts (after.state.link l) (LinkFailed l before after) bytes) answers_are (served.puts told);
      log = log_now;
    },
  )

pub completes : (disk_tells : Type 0) → disk_tells → (set : Settings) (texts : List (List ℕ)) (found left : DiskView) (turns : List LaneTurn) (keeps : KeepsStore (Unit {0}) set texts (record { found = found; left = left }) turns)
    → (worker : ℕ) (before after : PortView) (served : ServesPort (λ m. disk_tells) 1 worker (λ m. jobs_in (one_lane m turns)) (λ m. replies_in (one_lane m turns)) before after) → Completes set texts found left turns keeps worker before after served
completes disk_tells told set texts found left turns keeps worker before after served l seq bodies opened seat u =
    let by_lane : ServesLink (λ m. disk_tells) 1 (conn_of worker seq) l (λ m. jobs_in (one_lane m turns)) (λ m. replies_in (one_lane m turns)) before after =
    subst (λ (s : Option ℕ). links.IsServed (λ m. disk_tells) 1 worker l s (λ m. jobs_in (one_lane m turns)) (λ m. replies_in (one_lane m turns)) before after) seat (served.served l opened) in
    link_served disk_tells set texts found left turns keeps (conn_of worker seq) l before after told (one_lane_serves (λ m. disk_tells) 1 (conn_of worker seq) l turns before after by_lane) bodies u

-- and so by its home lane, if there are several
pub completes_lanes : {X : Type 0} (disk_tells : Type 0) → disk_tells → (view : X → BayView) (set : ℕ → Settings) (texts : List (List ℕ)) (lanes opened : ℕ) (olds news : List X) (turns : ℕ → List LaneTurn) (keeps : KeepLanes view set texts opened olds news turns)
    → (worker : ℕ) (before after : PortView) (served : ServesPort (λ m. disk_tells) lanes worker (λ m. jobs_in (turns m)) (λ m. replies_in (turns m)) before after) → CompletesLanes view set texts lanes opened olds news turns keeps worker before after served
completes_lanes disk_tells told view set texts lanes opened olds news turns keeps worker before after served l seq bodies found left opens seat below was is u =
    let home : ℕ = seq % lanes in
    let k : ConnId = conn_of worker seq in
    let link : ServesLink (λ m. disk_tells) lanes k l (λ m. jobs_in (turns m)) (λ m. replies_in (turns m)) before after =
    subst (λ (s : Option ℕ). links.IsServed (λ m. disk_tells) lanes worker l s (λ m. jobs_in (turns m)) (λ m. replies_in (turns m)) before after) seat (served.served l opens) in
    let by_lane : ServesBy disk_tells k l (jobs_in (turns link.lane)) (replies_in (turns link.lane)) before after = link.by_lane in
    let at_home : link.lane ≡ home =
    home_lane lanes home link.lane u.number Fresh (after.state.link l).input (shuts k (replies_in (turns link.lane))) bodies (bodies_of k (jobs_in (turns link.lane))) by_lane.brings (one_list by_lane.brings.of_input u.sent) u.legal link.decided in
    link_served disk_tells (set home) texts (view found).disk (view left).disk (turns home) (keeps home found left below was is) k l before after told
    (subst (λ (m : ℕ). ServesBy disk_tells k l (jobs_in (turns m)) (replies_in (turns m)) before after) at_home by_lane) bodies u
