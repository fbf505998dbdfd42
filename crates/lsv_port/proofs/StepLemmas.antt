-- What each step of a script does to the links.
use Rattle.std.proofs.Common.{◌≡◌, inl, inr, ◌≤◌, ℕ, zero, suc, take, Bool, true, false, ◌==◌, ◌&&◌, ◌||◌, not, cond, nat_eq, List, [], ◌∷◌, ◌++◌, Option, Some, None, is_some, refl, sym, ap, subst, ◌∙◌, arith}
use Rattle.std.specs.Prelude.{Result, Ok, Err, IfOk, OnOk, OnErr}
use Rattle.lsv_port.specs.declared.memory.link.MemLink.{MemLink}
use Rattle.lsv_port.specs.declared.memory.links.Links.{Links}
use Rattle.lsv_port.specs.declared.port.Ready.{Ready}
use Rattle.lsv_port.specs.declared.port.Ready.TheVariants.{Opened, Readable, Writable, Woken}
use Rattle.lsv_port.specs.declared.step.Step.{Step}
use Rattle.lsv_port.specs.declared.step.Step.TheVariants as step
use Rattle.lsv_port.specs.Port.{fresh_link, Opens, Told}
use Rattle.lsv_port.specs.Memory.Numbers.{has}
use Rattle.lsv_port.specs.Memory.Link.{view_of, IsFresh, IsSound, with_bytes, with_last, with_room, breaking}
use Rattle.lsv_port.specs.Memory.Script.{Sent, unsent, may_open, sent_next}
use Rattle.lsv_port.specs.Memory.Links.{LinkMap, PortOver, links_of, told_of, state_of, faults_of, is_open_in, is_hearing, sent_to, IsSentBy, AreSentBy, AreOpened, AreOpen, changed_at, with_link, ChangesOne, OpensOne, told_if, ready_of, Takes}
use Rattle.lsv_port.proofs.NumberLemmas.{itself, one_or_two, two_numbers, has_more, has_all}
use Rattle.lsv_port.proofs.LinkLemmas.{put_at, put_other, tells_change, tells_same, told_either, is_open_told, hearing_open, hearing_going, bytes_owe, bytes_same, bytes_sent, last_owes, last_same, last_sent, room_frees, room_same, room_sent, break_same, break_sent, IsMild, bytes_mild, last_mild, room_mild, break_mild, mild_some, mild_open, mild_faults}

-- what a step says of links of which one changes
abbrev Tells : Step → (LinkMap → LinkMap) → LinkMap → Type 0
Tells step change f = (sent : ℕ → Sent) (opened : List ℕ) (over : PortOver) → AreSentBy sent f → Told (ready_of f step) (state_of f opened over) (state_of (change f) opened over)

-- a step that changes a link mildly
change_takes : (step : Step) (ready : Ready) (l : ℕ) (F : MemLink → MemLink) (old new : Links) → ChangesOne l F old new → IsMild F → ready ≡ ready_of (links_of old) step
    → Tells step (changed_at l F) (links_of old)
    → ((sent : ℕ → Sent) → AreSentBy sent (links_of old) → (m : ℕ) → IsSentBy (sent_next m (sent m) step) (changed_at l F (links_of old) m))
    → Takes step ready old new
change_takes step ready l F old new h mild answer tells sent =
    let f = links_of old in
    record {
      answer = answer;
      told = λ was over hs ho hn.
          let here : Told (ready_of f step) (state_of f old.opened.items over) (state_of (changed_at l F f) old.opened.items over) = tells was old.opened.items over hs in
          let there : Told (ready_of f step) (state_of f old.opened.items over) (state_of (links_of new) new.opened.items over)
          = subst (λ (g : LinkMap). Told (ready_of f step) (state_of f old.opened.items over) (state_of g new.opened.items over)) (sym h.links)
          (subst (λ (o : List ℕ). Told (ready_of f step) (state_of f old.opened.items over) (state_of (changed_at l F f) o over)) (sym h.opened) here) in
          subst (λ (r : Ready). Told r (state_of f old.opened.items over) (state_of (links_of new) new.opened.items over)) (sym answer) there;
      sent = λ was hs. subst (λ (g : LinkMap). AreSentBy (λ m. sent_next m (was m) step) g) (sym h.links) (sent was hs);
      opened = λ ho m. ap (λ (o : List ℕ). has o m) h.opened ∙ ho m ∙ sym (mild_some F (l == m) (f m)) ∙ ap (λ (g : LinkMap). is_some (g m)) (sym h.links);
      open_now = λ hn m. ap (λ (o : List ℕ). has o m) h.open_now ∙ hn m ∙ sym (mild_open F mild (l == m) (f m)) ∙ ap (λ (g : LinkMap). is_open_in (g m)) (sym h.links);
      faults = λ m. subst (λ (g : LinkMap). faults_of (f m) ≤ faults_of (g m)) (sym h.links) (mild_faults F mild (l == m) (f m));
    }

pub give_takes : (l : ℕ) (bytes : List ℕ) (ready : Ready) (old new : Links) → ready ≡ told_if (is_hearing (links_of old l)) (Readable l) → ChangesOne l (with_bytes bytes) old new → Takes (step.Give l bytes) ready old new
give_takes l bytes ready old new answer h =
    let f = links_of old in
    change_takes (step.Give l bytes) ready l (with_bytes bytes) old new h (bytes_mild bytes) answer
    (λ sent opened over hs. told_either (is_hearing (f l)) (Readable l) _ _
    (λ e. record { is_open = hearing_open (f l) e; going = hearing_going (sent l) (f l) (hs l) e; change = tells_change f l (with_bytes bytes) opened over _ (bytes_owe bytes (sent l) (f l) (hs l) e) })
    (λ e. tells_same f l (with_bytes bytes) opened over (bytes_same bytes (sent l) (f l) (hs l) e)))
    (λ sent hs m. bytes_sent bytes (l == m) (sent m) (f m) (hs m))

pub last_takes : (l : ℕ) (ready : Ready) (old new : Links) → ready ≡ told_if (is_hearing (links_of old l)) (Readable l) → ChangesOne l with_last old new → Takes (step.Last l) ready old new
last_takes l ready old new answer h =
    let f = links_of old in
    change_takes (step.Last l) ready l with_last old new h last_mild answer
    (λ sent opened over hs. told_either (is_hearing (f l)) (Readable l) _ _
    (λ e. record { is_open = hearing_open (f l) e; going = hearing_going (sent l) (f l) (hs l) e; change = tells_change f l with_last opened over _ (last_owes (sent l) (f l) (hs l) e) })
    (λ e. tells_same f l with_last opened over (last_same (sent l) (f l) (hs l) e)))
    (λ sent hs m. last_sent (l == m) (sent m) (f m) (hs m))

pub room_takes : (l count : ℕ) (ready : Ready) (old new : Links) → ready ≡ told_if (is_open_in (links_of old l)) (Writable l) → ChangesOne l (with_room count) old new → Takes (step.Room l count) ready old new
room_takes l count ready old new answer h =
    let f = links_of old in
    change_takes (step.Room l count) ready l (with_room count) old new h (room_mild count) answer
    (λ sent opened over hs. told_either (is_open_in (f l)) (Writable l) _ _
    (λ e. record { is_open = sym (is_open_told (f l)) ∙ e; change = tells_change f l (with_room count) opened over _ (room_frees count (f l) e) })
    (λ e. tells_same f l (with_room count) opened over (room_same count (f l) e)))
    (λ sent hs m. room_sent count (l == m) (sent m) (f m) (hs m))

pub break_takes : (l : ℕ) (old new : Links) → ChangesOne l breaking old new → Takes (step.Break l) Woken old new
break_takes l old new h =
    let f = links_of old in
    change_takes (step.Break l) Woken l breaking old new h break_mild refl
    (λ sent opened over hs. tells_same f l breaking opened over (break_same (f l)))
    (λ sent hs m. break_sent (l == m) (sent m) (f m) (hs m))

-- ---- A link is opened

take_none : (n : ℕ) → take {A = ℕ} n [] ≡ []
take_none zero = refl
take_none (suc n) = refl

fresh_told : (beside : List ℕ) (v : MemLink) → IsFresh beside v → view_of v ≡ fresh_link (view_of v).beside
fresh_told beside v h = λ i. record {
  is_open = h.is_open i;
  input = (ap (take v.taken) h.arrived ∙ take_none v.taken) i;
  output = h.output i;
  ended = h.ended i;
  owed = h.owed i;
  full = h.full i;
  failed = h.failed i;
  reads = h.reads i;
  beside = has v.beside;
  dialled = false;
  late = h.late i;
}

or_on : (a b : Bool) → b ≡ true → (a || b) ≡ true
or_on true b e = refl
or_on false b e = e

or_off : (a b : Bool) → b ≡ false → (a || b) ≡ a
or_off true b e = refl
or_off false b e = e

none_unsent : (s : Sent) (o : Option MemLink) → IsSentBy s o → o ≡ None → s ≡ unsent
none_unsent s None h e = h
none_unsent s (Some v) h e = absurd cc

none_some : (o : Option MemLink) → o ≡ None → is_some o ≡ false
none_some None e = refl
none_some (Some v) e = absurd cc

some_there : (s : Sent) (o : Option MemLink) → IsSentBy s o → is_some o ≡ true → record s { opened = true } ≡ s
some_there s None h e = absurd cc
some_there s (Some v) h e = ap (λ (t : Sent). record t { opened = true }) h.0 ∙ sym h.0

-- what was sent on each link after a new one was opened
open_sent : (l : ℕ) (v : MemLink) (f : LinkMap) (sent : ℕ → Sent) → f l ≡ None → may_open l ≡ true → sent_to v ≡ record unsent { opened = true } → IsSound v → AreSentBy sent f
    → (m : ℕ) → IsSentBy (sent_next m (sent m) (step.Open l)) (with_link l (Some v) f m)
open_sent l v f sent none may fresh sound hs m = elim (one_or_two m l) [
  | inl is ↦ subst (λ (k : ℕ). IsSentBy (sent_next k (sent k) (step.Open l)) (with_link l (Some v) f k)) (sym is)
      (subst (λ (o : Option MemLink). IsSentBy (sent_next l (sent l) (step.Open l)) o) (sym (put_at f l (Some v))) (
        ap (λ (b : Bool). cond (b && may_open l) (record (sent l) { opened = true }) (sent l)) (itself l)
            ∙ ap (λ (b : Bool). cond b (record (sent l) { opened = true }) (sent l)) may
            ∙ ap (λ (s : Sent). record s { opened = true }) (none_unsent (sent l) (f l) (hs l) none)
            ∙ sym fresh,
        sound,
      ))
  | inr ne ↦
      let other : nat_eq l m ≡ false = two_numbers l m (λ e. ne (sym e)) in
      subst (λ (b : Bool). IsSentBy (cond (b && may_open m) (record (sent m) { opened = true }) (sent m)) (cond b (Some v) (f m))) (sym other) (hs m)
]

pub open_takes : (l : ℕ) (old new : Links) → may_open l ≡ true → links_of old l ≡ None → OpensOne l old new → Takes (step.Open l) (Opened l) old new
open_takes l old new may none h =
    let f = links_of old in
    let v = h.link in
    let sent_is : sent_to v ≡ record unsent { opened = true } = λ i. record { opened = true; bytes = h.fresh.arrived i; ended = h.fresh.last i } in
    let opens : (over : PortOver) → AreOpened old.opened.items f → AreOpen old.open_now.items f → Opens l (state_of f old.opened.items over) (state_of (with_link l (Some v) f) (old.opened.items ++ l ∷ []) over)
    = λ over ho hn. record {
      fresh = λ was. absurd (let e : true ≡ false = sym (has_all old.opened.items l was) ∙ ho l ∙ none_some (f l) none in cc);
      this = subst (λ (o : Option MemLink). told_of o ≡ fresh_link (told_of o).beside) (sym (put_at f l (Some v))) (fresh_told old.open_now.items v h.fresh);
      beside = λ m. ap (λ (o : Option MemLink). (told_of o).beside m) (put_at f l (Some v)) ∙ ap (λ (ns : List ℕ). has ns m) h.fresh.those ∙ hn m ∙ is_open_told (f m);
      others = λ m ne. ap told_of (put_other f l (Some v) m ne);
      opened = refl;
      stopped = refl;
      failed = refl;
    } in
    record {
      answer = sym (ap (λ (b : Bool). told_if (b && not (is_some (f l))) (Opened l)) may ∙ ap (λ (b : Bool). told_if (not b) (Opened l)) (none_some (f l) none));
      told = λ was over hs ho hn.
          subst (λ (g : LinkMap). Opens l (state_of f old.opened.items over) (state_of g new.opened.items over)) (sym h.links)
          (subst (λ (o : List ℕ). Opens l (state_of f old.opened.items over) (state_of (with_link l (Some v) f) o over)) (sym h.opened) (opens over ho hn));
      sent = λ was hs. subst (λ (g : LinkMap). AreSentBy (λ m. sent_next m (was m) (step.Open l)) g) (sym h.links) (open_sent l v f was none may sent_is h.sound hs);
      opened = λ ho m. ap (λ (o : List ℕ). has o m) h.opened ∙ has_more old.opened.items l m ∙ ap (λ (b : Bool). b || (l == m)) (ho m) ∙ put_some l v f m ∙ ap (λ (g : LinkMap). is_some (g m)) (sym h.links);
      open_now = λ hn m. ap (λ (o : List ℕ). has o m) h.open_now ∙ has_more old.open_now.items l m ∙ ap (λ (b : Bool). b || (l == m)) (hn m) ∙ put_open l v f none h.fresh.is_open m ∙ ap (λ (g : LinkMap). is_open_in (g m)) (sym h.links);
      faults = λ m. subst (λ (g : LinkMap). faults_of (f m) ≤ faults_of (g m)) (sym h.links) (put_faults l v f none m);
    }
  where
    by_some : (b : Bool) (v : MemLink) (o : Option MemLink) → (is_some o || b) ≡ is_some (cond b (Some v) o)
    by_some true v o = or_on (is_some o) true refl
    by_some false v o = or_off (is_some o) false refl

    put_some : (l : ℕ) (v : MemLink) (f : LinkMap) (m : ℕ) → (is_some (f m) || (l == m)) ≡ is_some (with_link l (Some v) f m)
    put_some l v f m = by_some (l == m) v (f m)

    by_open : (b : Bool) (v : MemLink) (o : Option MemLink) → v.is_open ≡ true → (is_open_in o || b) ≡ is_open_in (cond b (Some v) o)
    by_open true v o e = or_on (is_open_in o) true refl ∙ sym e
    by_open false v o e = or_off (is_open_in o) false refl

    put_open : (l : ℕ) (v : MemLink) (f : LinkMap) → f l ≡ None → v.is_open ≡ true → (m : ℕ) → (is_open_in (f m) || (l == m)) ≡ is_open_in (with_link l (Some v) f m)
    put_open l v f none e m = by_open (l == m) v (f m) e

    none_faults : (o : Option MemLink) → o ≡ None → (n : ℕ) → faults_of o ≤ n
    none_faults None e n = omega arith
    none_faults (Some v) e n = absurd cc

    put_faults : (l : ℕ) (v : MemLink) (f : LinkMap) → f l ≡ None → (m : ℕ) → faults_of (f m) ≤ faults_of (with_link l (Some v) f m)
    put_faults l v f none m = elim (one_or_two m l) [
      | inl is ↦ none_faults (f m) (ap f is ∙ none) _
      | inr ne ↦ let e : with_link l (Some v) f m ≡ f m = put_other f l (Some v) m ne in subst (λ (o : Option MemLink). faults_of (f m) ≤ faults_of o) (sym e) (omega arith)
    ]

passed_sent : (l : ℕ) (s : Sent) (o : Option MemLink) → IsSentBy s o → (may_open l && not (is_some o)) ≡ false → IsSentBy (sent_next l s (step.Open l)) o
passed_sent l s o h e = subst (λ (t : Sent). IsSentBy t o) (sym (ap (λ (b : Bool). cond (b && may_open l) (record s { opened = true }) s) (itself l) ∙ same (may_open l) o h e)) h
  where
    same : (may : Bool) (o : Option MemLink) → IsSentBy s o → (may && not (is_some o)) ≡ false → cond may (record s { opened = true }) s ≡ s
    same false o h e = refl
    same true None h e = absurd cc
    same true (Some v) h e = some_there s (Some v) h refl

-- a number that was opened before, or is too great
pub open_passed : (l : ℕ) (links : Links) → (may_open l && not (is_some (links_of links l))) ≡ false → Takes (step.Open l) Woken links links
open_passed l links e =
    let f = links_of links in
    record {
      answer = sym (ap (λ (b : Bool). told_if b (Opened l)) e);
      told = λ was over hs ho hn. record { links = λ m. refl; opened = refl; stopped = refl; failed = refl };
      sent = λ was hs m. elim (one_or_two m l) [
        | inl is ↦ subst (λ (k : ℕ). IsSentBy (sent_next k (was k) (step.Open l)) (f k)) (sym is) (passed_sent l (was l) (f l) (hs l) e)
        | inr ne ↦ subst (λ (b : Bool). IsSentBy (cond (b && may_open m) (record (was m) { opened = true }) (was m)) (f m)) (sym (two_numbers l m (λ x. ne (sym x)))) (hs m)
      ];
      opened = λ ho. ho;
      open_now = λ hn. hn;
      faults = λ m. omega arith;
    }

pub give_answers : {E : Type 0} (r : Result Ready E) (l : ℕ) (piece bytes : List ℕ) (old new : Links) → piece ≡ bytes
    → IfOk r (λ ready. ready ≡ told_if (is_hearing (links_of old l)) (Readable l)) → OnOk r (ChangesOne l (with_bytes piece) old new) → IfOk r (λ ready. Takes (step.Give l bytes) ready old new)
give_answers {E} (Ok ready) l piece bytes old new is answer change = subst (λ (bs : List ℕ). Takes (step.Give l bs) ready old new) is (give_takes l piece ready old new answer change)
give_answers {E} (Err e) l piece bytes old new is answer change = tt

-- what holds in any case holds after a fault
pub on_err : {A E : Type 0} (r : Result A E) (X : Type 0) → X → OnErr r X
on_err {A} {E} (Ok value) X x = tt
on_err {A} {E} (Err fault) X x = x
