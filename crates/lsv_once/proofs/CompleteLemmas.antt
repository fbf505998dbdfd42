-- A run whose connection is legal serves it, if nothing is in the way.
use Rattle.std.proofs.Common.{◌≡◌, ◌≤◌, ◌<◌, ◌+◌, ◌-◌, ◌^◌, ℕ, List, [], ◌∷◌, ◌++◌, map, refl, sym, ◌∙◌, ap, subst, inl, inr, arith, Option, Some, None, append_assoc, append-nil}
use Rattle.std.specs.Prelude.{◌==◌, ◌||◌, ◌&&◌, Bool, true, false, nat_lt}
use Rattle.std.specs.List.{concat, flat_map, list_any}
use Rattle.std.proofs.lemmas.List.{map-append}
use Rattle.std.proofs.lemmas.List.Folds.{list_any-append}
use Rattle.std.proofs.lemmas.Bool.Decides.{nat_tests}
use Rattle.lsv_defs.specs.Causes.{HasRisen}
use Rattle.lsv_disk.specs.Files.{file_of}
use Rattle.lsv_disk.specs.View.{DiskView, Image}
use Rattle.lsv_disk.specs.declared.file.FileId.{FileId}
use Rattle.lsv_disk.specs.declared.file.Owner.{Owner}
use Rattle.lsv_disk.specs.declared.file.Owner.TheVariants.{Log, Events, Numbers, Relay}
use Rattle.lsv_disk.specs.declared.file.Part.{Part}
use Rattle.lsv_event.specs.declared.event.Kind.{Kind}
use Rattle.lsv_iolog.specs.Recovered.{Replays}
use Rattle.lsv_seq.specs.Drawn.{entry_at}
use Rattle.lsv_seq.specs.declared.entry.Entry.{Entry}
use Rattle.lsv_msg.specs.declared.messages.ServerMessage.{ServerMessage}
use Rattle.lsv_session.specs.Connections.{same}
use Rattle.lsv_session.specs.Transcript.{AreFirst, AreJobs, AreJobs.Rest, answers, frames_of, messages_in, said_to}
use Rattle.lsv_session.specs.declared.connection.ConnState.TheVariants.{Fresh}
use Rattle.lsv_session.specs.declared.job.Body.{Body}
use Rattle.lsv_session.specs.declared.reply.Reply.{Reply}
use Rattle.lsv_session.proofs.Jobs.{longer, one_list}
use Rattle.lsv_session.proofs.Replies.{answers-append}
use Rattle.lsv_machine.specs.Answers.{Answer, Saying, Saying.CommitPoint, Saying.Error, Saying.LogId, Saying.Shut, body_of, reply_of, say}
use Rattle.lsv_machine.specs.Counts.{Counts, IsCounted, all_parts, failed_in, failures, faults_among, is_among, one_if, same_owner}
use Rattle.lsv_machine.specs.Failures.{Act}
use Rattle.lsv_machine.specs.Legal.{AreSent, AreUndisturbed, Came, Fits, IsLegal, IsServed, all_answers, is_shut, told_of, whole_log}
use Rattle.lsv_machine.specs.Machine.{LogState, Machine, Settings}
use Rattle.lsv_machine.specs.Recovery.{AtTheirMoments, Story, Turn, all_turns}
use Rattle.lsv_machine.specs.Starts.{ReadsAs}
use Rattle.lsv_machine.specs.Turns.{Happened, Happened.Begins, Happened.Did, Happened.Tailed, Run, Tail, all_acted}
use Rattle.lsv_machine.specs.Work.{next_number}
use Rattle.lsv_machine.proofs.LegalTurns.{legal_served, none_is_shut}
use Rattle.lsv_keeper.specs.Opening.{IsStoreFault}
use Rattle.lsv_keeper.specs.Reading.{IsDrawn, reading_of}
use Rattle.lsv_keeper.specs.declared.fault.StoreFault.{StoreFault}
use Rattle.lsv_keeper.specs.declared.fault.StoreFault.TheVariants as faults
use Rattle.lsv_once.specs.Causes.{HasOnceCause}
use Rattle.lsv_once.specs.Complete.{AllAmple, AreAmple, Completes, IsServedBy, IsUnhindered, answers_of, came_in, messages_of}
use Rattle.lsv_lane.specs.Store.{AreTurns, Conforms}
use Rattle.lsv_once.specs.Once.{RunsOnce, once_settings}
use Rattle.lsv_turn.specs.Turns as of_lane
use Rattle.lsv_once.specs.Course.{Leaves, OnceTurn, TurnsOf, bodies_in, once_conn, replies_in, shuts, turn_of, was_shut}
use Rattle.lsv_once.specs.World.{World, placed}
use Rattle.lsv_once.specs.declared.once.OnceEnd.{OnceEnd}
use Rattle.lsv_once.specs.declared.once.OnceEnd.TheVariants.{Served, ReadFault, WriteFault, Store, NoMem}

-- ---- Counts that didn't rise

unrisen : (old new : ℕ) → old ≤ new → (HasRisen old new → ⊥) → (new ≡ old) × (new < 2 ^ 64 - 1)
unrisen old new up calm = (same (nat_lt old new) refl, below (nat_lt new (2 ^ 64 - 1)) refl)
  where
    same : (b : Bool) → nat_lt old new ≡ b → new ≡ old
    same true e = absurd (calm (λ few. let h : old < new = grind (arith, nat_tests) in h))
    same false e = let h : new ≤ old = grind (arith, nat_tests) in omega arith

    below : (b : Bool) → nat_lt new (2 ^ 64 - 1) ≡ b → new < 2 ^ 64 - 1
    below true e = grind (arith, nat_tests)
    below false e = let h : (new < 2 ^ 64 - 1) → ⊥ = (λ less. let t : nat_lt new (2 ^ 64 - 1) ≡ true = grind (arith, nat_tests) in cc) in absurd (calm (λ few. absurd (h few)))

owner_same : (o : Owner) → same_owner o o ≡ true
owner_same (Log n) = grind (arith, nat_tests)
owner_same (Events lane) = grind (arith, nat_tests)
owner_same (Numbers lane) = grind (arith, nat_tests)
owner_same (Relay n) = grind (arith, nat_tests)

-- in each job and end of a turn no owner failed
abbrev pub AllSound : List Happened → Type 0
AllSound [] = Unit {0}
AllSound (x ∷ h) = (failed_in x ≡ []) × AllSound h

none_failed : (failed : List Owner) → ((o : Owner) → is_among o failed ≡ false) → failed ≡ []
none_failed [] calm = refl
none_failed (o ∷ failed) calm = absurd (let h : (same_owner o o || is_among o failed) ≡ false = calm o in let t = owner_same o in let u : (true || is_among o failed) ≡ false = subst (λ (b : Bool). (b || is_among o failed) ≡ false) t h in cc)

same_faults : (old new : DiskView) (o : Owner) (parts : List Part) → ((file : FileId) → new.faults file ≡ old.faults file) → faults_among new o parts ≡ faults_among old o parts
same_faults old new o [] same = refl
same_faults old new o (part ∷ parts) same = let a = same (file_of o part) in let b = same_faults old new o parts same in omega arith

module _ (old new : DiskView) (h : List Happened) (c : Counts h old new) (calm : (file : FileId) → HasRisen (old.faults file) (new.faults file) → ⊥) where
  still : (file : FileId) → (new.faults file ≡ old.faults file) × (new.faults file < 2 ^ 64 - 1)
  still file = unrisen (old.faults file) (new.faults file) (c.monotone file) (calm file)

  no_failure : (o : Owner) → failures o h ≡ 0
  no_failure o =
      let counted : IsCounted new o = λ part. (still (file_of o part)).1 in
      let most = c.failed o counted in
      let same = same_faults old new o all_parts (λ file. (still file).0) in
      omega arith

  not_one : (b : Bool) (rest : ℕ) → one_if b + rest ≡ 0 → (b ≡ false) × (rest ≡ 0)
  not_one true rest e = let x : 1 + rest ≡ 0 = e in absurd (omega arith)
  not_one false rest e = (refl, omega arith)

  all_sound : (g : List Happened) → ((o : Owner) → failures o g ≡ 0) → AllSound g
  all_sound [] none = tt
  all_sound (x ∷ g) none = (
    none_failed (failed_in x) (λ o. (not_one (is_among o (failed_in x)) (failures o g) (none o)).0),
    all_sound g (λ o. (not_one (is_among o (failed_in x)) (failures o g) (none o)).1),
  )

  pub nothing_failed : AllSound h
  nothing_failed = all_sound h no_failure

-- ---- Turns of a run, and the machine's

sound_acts : (acts : List Act) (tail : Tail) (g : List Happened) → AllSound ((all_acted acts ++ Tailed tail ∷ []) ++ g) → AreAmple acts → AreUndisturbed acts × (tail.failed ≡ []) × AllSound g
sound_acts [] tail g (none, rest) ample = (tt, none, rest)
sound_acts (act ∷ acts) tail g (none, rest) (has, ample) = let (calm, sound, on) = sound_acts acts tail g rest ample in ((none, has, calm), sound, on)

are_sent : (turns : List OnceTurn) (did : List Turn) → AreTurns (map turn_of turns) did → AllSound (all_turns did) → AllAmple did → AreSent once_conn (came_in turns) did
are_sent [] [] are sound ample = tt
are_sent [] (d ∷ did) are sound ample = are
are_sent (t ∷ turns) [] are sound ample = are
are_sent (t ∷ turns) (d ∷ did) (is, are) sound (has, ample) =
    let (calm, none, on) = sound_acts d.acts d.tail (all_turns did) sound has in
    (is.now, is.jobs, calm, none, are_sent turns did are on ample)

-- a story in two parts
record Parts (one two : List OnceTurn) (did : List Turn) : Type 0 where
  first : List Turn
  second : List Turn
  are : did ≡ first ++ second
  of_one : AreTurns (map turn_of one) first
  of_two : AreTurns (map turn_of two) second

parts_of : (one two : List OnceTurn) (did : List Turn) → AreTurns (map turn_of (one ++ two)) did → Parts one two did
parts_of [] two did are = record { first = []; second = did; are = refl; of_one = tt; of_two = are }
parts_of (t ∷ one) two [] are = absurd are
parts_of (t ∷ one) two (d ∷ did) (is, are) =
    let p = parts_of one two did are in
    record { first = d ∷ p.first; second = p.second; are = ap (λ (ds : List Turn). d ∷ ds) p.are; of_one = (is, p.of_one); of_two = p.of_two }

all_turns_append : (a b : List Turn) → all_turns (a ++ b) ≡ all_turns a ++ all_turns b
all_turns_append [] b = refl
all_turns_append (t ∷ a) b =
    ap (λ (g : List Happened). (all_acted t.acts ++ Tailed t.tail ∷ []) ++ g) (all_turns_append a b) ∙ sym (append_assoc (all_acted t.acts ++ Tailed t.tail ∷ []) (all_turns a) (all_turns b))

run_first : (set : Settings) (g h : List Happened) (a c : Machine) → Run set a (g ++ h) c → (b : Machine) × Run set a g b × (h ≡ [] → b ≡ c)
run_first set [] [] a c r = (a, refl, λ e. sym r)
run_first set [] (x ∷ h) a c r = (a, refl, λ e. absurd (cc))
run_first set (Did act ∷ g) h a c (mid, step, rest) = let (b, r, e) = run_first set g h mid c rest in (b, (mid, step, r), e)
run_first set (Tailed tail ∷ g) h a c (mid, ended, rest) = let (b, r, e) = run_first set g h mid c rest in (b, (mid, ended, r), e)
run_first set (Begins texts ∷ g) h a c r = absurd r

moments_first : (a b : List Turn) → AtTheirMoments (a ++ b) → AtTheirMoments a
moments_first [] b m = tt
moments_first (t ∷ a) b (all, m) = (all, moments_first a b m)

ample_first : (a b : List Turn) → AllAmple (a ++ b) → AllAmple a
ample_first [] b m = tt
ample_first (t ∷ a) b (has, m) = (has, ample_first a b m)

sound_first : (g h : List Happened) → AllSound (g ++ h) → AllSound g
sound_first [] h s = tt
sound_first (x ∷ g) h (none, s) = (none, sound_first g h s)

-- ---- What was said

replies_are : (turns : List OnceTurn) (did : List Turn) → AreTurns (map turn_of turns) did → replies_in turns ≡ map reply_of (all_answers did)
replies_are [] [] are = refl
replies_are [] (d ∷ did) are = absurd are
replies_are (t ∷ turns) [] are = absurd are
replies_are (t ∷ turns) (d ∷ did) (is, are) =
    ap (λ (rs : List Reply). rs ++ replies_in turns) (sym is.replies)
    ∙ (ap (λ (rs : List Reply). map reply_of (flat_map (λ act. act.answers) d.acts ++ d.tail.answers) ++ rs) (replies_are turns did are)
    ∙ sym (map-append reply_of (flat_map (λ act. act.answers) d.acts ++ d.tail.answers) (all_answers did)))

said_is : (sayings : List Saying) → said_to once_conn (map reply_of (map (λ says. say once_conn says) sayings ++ say once_conn Shut ∷ [])) ≡ messages_of sayings
said_is [] = refl
said_is (says ∷ sayings) = ap (λ (ms : List ServerMessage). messages_in (body_of says) ++ ms) (said_is sayings)

shut_says : (says : Saying) → of_lane.is_shut (body_of says) ≡ is_shut says
shut_says (LogId n) = refl
shut_says (CommitPoint point) = refl
shut_says (Error why) = refl
shut_says Shut = refl

and_false : (b : Bool) → (b && false) ≡ false
and_false true = refl
and_false false = refl

unshut : (answers : List Answer) → list_any (λ a. is_shut a.says) answers ≡ false → shuts (map reply_of answers) ≡ false
unshut [] e = refl
unshut (a ∷ answers) e = go (is_shut a.says) refl e (λ f. unshut answers f)
  where
    go : (b : Bool) → is_shut a.says ≡ b → (is_shut a.says || list_any (λ x. is_shut x.says) answers) ≡ false → (list_any (λ x. is_shut x.says) answers ≡ false → shuts (map reply_of answers) ≡ false)
        → ((same a.conn once_conn && of_lane.is_shut (body_of a.says)) || shuts (map reply_of answers)) ≡ false
    go true p f on = absurd (let h : (true || list_any (λ x. is_shut x.says) answers) ≡ false = subst (λ (c : Bool). (c || list_any (λ x. is_shut x.says) answers) ≡ false) p f in cc)
    go false p f on =
        let h : list_any (λ x. is_shut x.says) answers ≡ false = subst (λ (c : Bool). (c || list_any (λ x. is_shut x.says) answers) ≡ false) p f in
        let q : of_lane.is_shut (body_of a.says) ≡ false = shut_says a.says ∙ p in
        ap (λ (c : Bool). (same a.conn once_conn && c) || shuts (map reply_of answers)) q ∙ (ap (λ (c : Bool). c || shuts (map reply_of answers)) (and_false (same a.conn once_conn)) ∙ on h)

or_true : (b : Bool) → (b || true) ≡ true
or_true true = refl
or_true false = refl

shut_at_end : (answers : List Answer) → shuts (map reply_of (answers ++ say once_conn Shut ∷ [])) ≡ true
shut_at_end [] = refl
shut_at_end (a ∷ answers) = ap (λ (c : Bool). (same a.conn once_conn && of_lane.is_shut (body_of a.says)) || c) (shut_at_end answers) ∙ or_true (same a.conn once_conn && of_lane.is_shut (body_of a.says))

was_shut_is : (turns : List OnceTurn) → was_shut turns ≡ shuts (replies_in turns)
was_shut_is [] = refl
was_shut_is (t ∷ turns) = ap (λ (c : Bool). shuts t.replies || c) (was_shut_is turns) ∙ sym (list_any-append (λ (r : Reply). same r.conn once_conn && of_lane.is_shut r.body) t.replies (replies_in turns))

-- ---- What was read

turns_jobs : (read : List ℕ) (said : List Body) (pieces : List (List ℕ)) (turns : List OnceTurn) → AreJobs read said → TurnsOf read said pieces turns → AreJobs (read ++ concat pieces) (said ++ bodies_in turns)
turns_jobs read said [] [] jobs are = subst (λ (bs : List Body). AreJobs (read ++ []) bs) (sym (append-nil said)) (subst (λ (bytes : List ℕ). AreJobs bytes said) (sym (append-nil read)) jobs)
turns_jobs read said [] (t ∷ turns) jobs are = absurd are
turns_jobs read said (p ∷ pieces) [] jobs are = absurd are
turns_jobs read said (p ∷ pieces) (t ∷ turns) jobs (here, are) =
    let on = turns_jobs (read ++ p) (said ++ t.bodies) pieces turns here are in
    subst (λ (bs : List Body). AreJobs (read ++ (p ++ concat pieces)) bs) (append_assoc said t.bodies (bodies_in turns)) (subst (λ (bytes : List ℕ). AreJobs bytes ((said ++ t.bodies) ++ bodies_in turns)) (append_assoc read p (concat pieces)) on)

came_bodies : (turns : List OnceTurn) → flat_map (λ (c : Came). c.bodies) (came_in turns) ≡ bodies_in turns
came_bodies [] = refl
came_bodies (t ∷ turns) = ap (λ (bs : List Body). t.bodies ++ bs) (came_bodies turns)

came_map : (turns : List OnceTurn) → map (λ (c : Came). c.bodies) (came_in turns) ≡ map (λ (t : OnceTurn). t.bodies) turns
came_map [] = refl
came_map (t ∷ turns) = ap (λ (bs : List (List Body)). t.bodies ∷ bs) (came_map turns)

abbrev an_entry : ℕ → Entry
an_entry last = record { last = last; lane = 0; lanes = 1 }

one_entry : (a b : ℕ) → Some (an_entry a) ≡ Some (an_entry b) → a ≡ b
one_entry a b e = let h : an_entry a ≡ an_entry b = cc in ap (λ (x : Entry). x.last) h

no_entry : (a : ℕ) (o : Option Entry) → o ≡ Some (an_entry a) → o ≡ None → ⊥
no_entry a o p q = cc

one_last : (image : Image) (a b : ℕ) → IsDrawn 0 1 image a → IsDrawn 0 1 image b → a ≡ b
one_last image a b (inl p) (inl q) = one_entry a b (sym p ∙ q)
one_last image a b (inl p) (inr q) = absurd (no_entry a (entry_at 0 image) p q.0)
one_last image a b (inr p) (inl q) = absurd (no_entry b (entry_at 0 image) q p.0)
one_last image a b (inr p) (inr q) = p.1 ∙ sym q.1

-- ---- The run

module _ (kind : Kind) (log_exit : Bool) (texts : List (List ℕ)) (old new : World) where
  abbrev set : Settings
  set = once_settings kind log_exit

  next_is : (m : Machine) (last : ℕ) → m.last ≡ last → next_number set m ≡ last + 1
  next_is m last e = go (m.last == 0) refl
    where
      go : (b : Bool) → (m.last == 0) ≡ b → next_number set m ≡ last + 1
      go true t = let z : m.last ≡ 0 = grind (arith, nat_tests) in rw t (omega arith)
      go false t = rw t (omega arith)

  module _ (from_source : old.wires.source_tells) (to_sink : old.wires.sink_tells) (told : old.disk_tells) (runs : RunsOnce set texts old new Served) (last : ℕ) (lines : List ℕ) (bodies : List Body)
      (u : IsUnhindered set old new Served runs.course (runs.keeps told).store.story last lines bodies) where
    abbrev reads : List OnceTurn
    reads = runs.course.reads

    abbrev story : Story
    story = (runs.keeps told).store.story

    conforms : Conforms set texts (record { found = placed old.disk new.disk; left = new.disk }) story
    conforms = (runs.keeps told).store.conforms tt

    abbrev start : Machine
    start = conforms.ran.start

    parts : Parts reads runs.course.leaving story.turns
    parts = parts_of reads runs.course.leaving story.turns (runs.keeps told).store.are

    apart : all_turns story.turns ≡ all_turns parts.first ++ all_turns parts.second
    apart = ap all_turns parts.are ∙ all_turns_append parts.first parts.second

    first_run : (mid : Machine) × Run set start (all_turns parts.first) mid × (all_turns parts.second ≡ [] → mid ≡ conforms.end)
    first_run = run_first set (all_turns parts.first) (all_turns parts.second) start conforms.end (subst (λ (h : List Happened). Run set start h conforms.end) apart conforms.ran.run)

    sound : AllSound (all_turns parts.first)
    sound = sound_first (all_turns parts.first) (all_turns parts.second) (subst AllSound apart (nothing_failed (placed old.disk new.disk) new.disk (all_turns story.turns) conforms.ran.counts u.no_call_failed))

    moments : AtTheirMoments parts.first
    moments = moments_first parts.first parts.second (subst AtTheirMoments parts.are conforms.ran.moments)

    came : AreSent once_conn (came_in reads) parts.first
    came = are_sent reads parts.first parts.of_one sound (ample_first parts.first parts.second (subst AllAmple parts.are u.ample))

    next : next_number set start ≡ last + 1
    next = next_is start last (one_last old.disk.reads start.last last conforms.ran.drawn u.drawn)

    same_lines : start.lines ≡ lines
    same_lines = (reading_of 0 1).one_text old.disk.reads start.lines lines conforms.ran.lines u.lines_are

    -- ---- What was read of the conversation

    none_lost : runs.reads.lost ≡ []
    none_lost = elim runs.reads.few_lost [ inl e ↦ e | inr (no_memory, more, it) ↦ absurd (cc) ]

    rest_is : old.wires.rest ≡ concat runs.reads.pieces ++ new.wires.rest
    rest_is = runs.reads.read from_source ∙ ap (λ (l : List (List ℕ)). concat l ++ new.wires.rest) (ap (λ (l : List (List ℕ)). runs.reads.pieces ++ l) none_lost ∙ append-nil runs.reads.pieces)

    got : AreJobs (concat runs.reads.pieces) (bodies_in reads)
    got = turns_jobs [] [] runs.reads.pieces reads (Rest [] (inl (omega arith))) runs.reads.turns

    first_of : AreFirst (bodies_in reads) bodies
    first_of = longer new.wires.rest got (subst (λ (bytes : List ℕ). AreJobs bytes bodies) rest_is u.sent)

    module _ (later : List Body) (is : bodies ≡ bodies_in reads ++ later) where
      sent_is : bodies ≡ flat_map (λ (c : Came). c.bodies) (came_in reads) ++ later
      sent_is = is ∙ ap (λ (bs : List Body). bs ++ later) (sym (came_bodies reads))

      legal : IsLegal (next_number set start) Fresh (flat_map (λ (c : Came). c.bodies) (came_in reads) ++ later)
      legal = subst (λ (n : ℕ). IsLegal n Fresh (flat_map (λ (c : Came). c.bodies) (came_in reads) ++ later)) (sym next) (subst (λ (bs : List Body). IsLegal (last + 1) Fresh bs) sent_is u.legal)

      fits : Fits set once_conn (next_number set start) Fresh start.lines (came_in reads) (flat_map (λ (c : Came). c.bodies) (came_in reads) ++ later)
      fits = subst (λ (n : ℕ). Fits set once_conn n Fresh start.lines (came_in reads) (flat_map (λ (c : Came). c.bodies) (came_in reads) ++ later)) (sym next)
          (subst (λ (t : List ℕ). Fits set once_conn (last + 1) Fresh t (came_in reads) (flat_map (λ (c : Came). c.bodies) (came_in reads) ++ later)) (sym same_lines)
          (subst (λ (bs : List Body). Fits set once_conn (last + 1) Fresh lines (came_in reads) bs) sent_is u.fits))

      -- a part of it shuts nobody
      part_unshut : (later ≡ [] → ⊥) → was_shut reads ≡ false
      part_unshut some = was_shut_is reads ∙ (ap shuts (replies_are reads parts.first parts.of_one)
          ∙ unshut (all_answers parts.first) (none_is_shut set texts once_conn start first_run.0 (came_in reads) parts.first later conforms.ran.starts first_run.1 moments came legal some fits))

    module _ (is : bodies ≡ bodies_in reads) where
      whole_is : bodies ≡ bodies_in reads ++ []
      whole_is = is ∙ sym (append-nil (bodies_in reads))

      plain_is : flat_map (λ (c : Came). c.bodies) (came_in reads) ++ [] ≡ flat_map (λ (c : Came). c.bodies) (came_in reads)
      plain_is = append-nil (flat_map (λ (c : Came). c.bodies) (came_in reads))

      done : IsServed once_conn (next_number set start) texts (came_in reads) parts.first first_run.0
      done = legal_served set texts once_conn start first_run.0 (came_in reads) parts.first conforms.ran.starts first_run.1 moments came
          (subst (λ (bs : List Body). IsLegal (next_number set start) Fresh bs) plain_is (legal [] whole_is))
          (subst (λ (bs : List Body). Fits set once_conn (next_number set start) Fresh start.lines (came_in reads) bs) plain_is (fits [] whole_is))

      abbrev sayings : List Saying
      sayings = told_of (last + 1) (map (λ (t : OnceTurn). t.bodies) reads)

      told_all : all_answers parts.first ≡ map (λ says. say once_conn says) sayings ++ say once_conn Shut ∷ []
      told_all = done.told ∙ ap (λ (xs : List Saying). map (λ says. say once_conn says) xs ++ say once_conn Shut ∷ [])
          (ap (λ (n : ℕ). told_of n (map (λ (c : Came). c.bodies) (came_in reads))) next ∙ ap (λ (ts : List (List Body)). told_of (last + 1) ts) (came_map reads))

      replies_told : replies_in reads ≡ map reply_of (map (λ says. say once_conn says) sayings ++ say once_conn Shut ∷ [])
      replies_told = replies_are reads parts.first parts.of_one ∙ ap (map reply_of) told_all

      shut_now : was_shut reads ≡ true
      shut_now = was_shut_is reads ∙ (ap shuts replies_told ∙ shut_at_end (map (λ says. say once_conn says) sayings))

      none_leaves : runs.course.leaving ≡ []
      none_leaves = subst (λ (b : Bool). Leaves b runs.course.leaving) shut_now runs.reads.ends

      none_behind : parts.second ≡ []
      none_behind = nothing parts.second (subst (λ (ts : List OnceTurn). AreTurns (map turn_of ts) parts.second) none_leaves parts.of_two)
        where
          nothing : (ds : List Turn) → AreTurns [] ds → ds ≡ []
          nothing [] are = refl
          nothing (d ∷ ds) are = absurd are

      at_end : first_run.0 ≡ conforms.end
      at_end = first_run.2 (ap all_turns none_behind)

      log_now : Replays new.disk.reads (last + 1) (Some (whole_log texts bodies))
      log_now =
          let free : conforms.end.owner (next_number set start) ≡ None = ap (λ (m : Machine). m.owner (next_number set start)) (sym at_end) ∙ done.free in
          let log = ap (λ (m : Machine). m.logs (next_number set start)) (sym at_end) ∙ done.log in
          let there = subst (λ (l : LogState). ReadsAs (Replays new.disk.reads (next_number set start)) l) log (conforms.logs (next_number set start) free) in
          let same_bodies : flat_map (λ (c : Came). c.bodies) (came_in reads) ≡ bodies = came_bodies reads ∙ sym is in
          subst (λ (n : ℕ). Replays new.disk.reads n (Some (whole_log texts bodies))) next
          (subst (λ (bs : List Body). Replays new.disk.reads (next_number set start) (Some (whole_log texts bs))) same_bodies there)

      put_now : new.wires.put ≡ old.wires.put ++ answers_of sayings
      put_now =
          let (bytes, is_put, all) = runs.puts to_sink in
          let said : said_to once_conn (replies_in reads) ≡ messages_of sayings = ap (said_to once_conn) replies_told ∙ said_is sayings in
          is_put ∙ ap (λ (x : List ℕ). old.wires.put ++ x) (all ∙ (answers-append once_conn [] (replies_in reads) ∙ ap (λ (ms : List ServerMessage). answers once_conn [] ++ frames_of ms) said))

      serves : IsServedBy texts old new Served runs.course last bodies
      serves = record { served = refl; put = put_now; log = log_now }

    all_read : bodies ≡ bodies_in reads
    all_read = go (was_shut reads) refl first_of
      where
        go : (b : Bool) → was_shut reads ≡ b → AreFirst (bodies_in reads) bodies → bodies ≡ bodies_in reads
        go false e first =
            let none : new.wires.rest ≡ [] = runs.reads.ended refl e from_source u.few_bytes in
            let whole : old.wires.rest ≡ concat runs.reads.pieces = rest_is ∙ (ap (λ (bytes : List ℕ). concat runs.reads.pieces ++ bytes) none ∙ append-nil (concat runs.reads.pieces)) in
            one_list (subst (λ (bytes : List ℕ). AreJobs bytes bodies) whole u.sent) got
        go true e ([], is) = is ∙ append-nil (bodies_in reads)
        go true e (x ∷ later, is) = absurd (let h = part_unshut (x ∷ later) is (λ none. cc) in cc)

    pub served_all : IsServedBy texts old new Served runs.course last bodies
    served_all = serves all_read

  pub completes : (end : OnceEnd) → HasOnceCause old new end → Completes kind log_exit texts old new end
  completes Served cause = served_all
  completes (Store fault) cause = λ src snk told runs last lines bodies u. absurd (opened told fault cause u.no_call_failed u.whole u.own)
    where
      opened : old.disk_tells → (f : StoreFault) → HasOnceCause old new (Store f) → ((file : FileId) → HasRisen (old.disk.faults file) (new.disk.faults file) → ⊥)
          → ((file : FileId) → IsStoreFault 0 1 old.disk.reads (faults.Damaged file) → ⊥) → ((kept asked : ℕ) → IsStoreFault 0 1 old.disk.reads (faults.LanesDiffer kept asked) → ⊥) → ⊥
      opened told (faults.Device o) c calm whole lanes = let f = c.failed o refl in calm f.0 f.2
      opened told (faults.Damaged file) c calm whole lanes = whole file (c.is told)
      opened told (faults.LanesDiffer kept asked) c calm whole lanes = lanes kept asked (c.is told)
      opened told faults.NoMem c calm whole lanes = c.memory refl
  completes ReadFault cause = λ src snk told runs last lines bodies u. absurd (u.no_read_failed cause)
  completes WriteFault cause = λ src snk told runs last lines bodies u. absurd (u.no_write_failed cause)
  completes NoMem cause = λ src snk told runs last lines bodies u. absurd (u.had_memory refl)
