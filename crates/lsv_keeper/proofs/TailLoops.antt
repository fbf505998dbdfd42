-- The end of a turn: logs one after another, and connections one after another.
use Rattle.std.proofs.Common.{◌≡◌, ◌≢◌, ◌≤◌, ◌<◌, ◌+◌, ◌*◌, ℕ, take, drop, slice_index_or, List, [], ◌∷◌, ◌++◌, length, map, refl, sym, ◌∙◌, ap, subst, inl, inr, arith, append_assoc, Option, Some, None}
use Rattle.std.specs.Prelude.{Contains}
use Rattle.std.proofs.lemmas.Grind.{common_steps}
use Rattle.std.proofs.lemmas.List.{take-append-drop}
use Rattle.std.proofs.lemmas.List.Elements.{Contains-append_cases}
use Rattle.lsv_disk.specs.View.{DiskView}
use Rattle.lsv_disk.specs.declared.file.Owner.{Owner}
use Rattle.lsv_disk.specs.declared.file.Owner.TheVariants.{Log}
use Rattle.lsv_session.specs.declared.connection.ConnId.{ConnId}
use Rattle.lsv_session.specs.declared.reply.Reply.{Reply}
use Rattle.lsv_machine.specs.Answers.{Answer, reply_of}
use Rattle.lsv_machine.specs.Machine.{Machine}
use Rattle.lsv_machine.specs.Tails.{NoneFailed, joined, no_answer}
use Rattle.lsv_machine.proofs.TailFolds.{logs_more, logs_none}
use Rattle.lsv_keeper.specs.Reading.{reading_of}
use Rattle.lsv_keeper.specs.Represents.{AllAbove, AllOwned, LogIs, Represents, Rising}
use Rattle.lsv_keeper.specs.Tails.{IsOneOf, LogGives, LogsGive, none_waits}
use Rattle.lsv_keeper.specs.Value.{KeeperView, SameSet, room, settings_of}
use Rattle.lsv_keeper.proofs.Frames.{Laws}
use Rattle.lsv_keeper.proofs.Numbering.{numbers_fit}

-- ---- Rising numbers

above_all : (n : ℕ) (ys : List ℕ) → AllAbove n ys → (i : ℕ) → IsOneOf i ys → n < i
above_all n [] all i is = absurd is
above_all n (y ∷ ys) all i (inl e) = subst (λ z. n < z) (sym e) all.0
above_all n (y ∷ ys) all i (inr is) = above_all n ys all.1 i is

-- the numbers before one are below it, and those after it above
pub rising_before : (xs : List ℕ) (n : ℕ) (ys : List ℕ) → Rising (xs ++ n ∷ ys) → (i : ℕ) → IsOneOf i xs → i < n
rising_before [] n ys up i is = absurd is
rising_before (x ∷ xs) n ys up i (inl e) = subst (λ z. z < n) (sym e) (above_all x (xs ++ n ∷ ys) up.0 n (in_middle xs))
  where
    in_middle : (zs : List ℕ) → IsOneOf n (zs ++ n ∷ ys)
    in_middle [] = inl refl
    in_middle (z ∷ zs) = inr (in_middle zs)
rising_before (x ∷ xs) n ys up i (inr is) = rising_before xs n ys up.1 i is

rising_behind : (xs : List ℕ) (n : ℕ) (ys : List ℕ) → Rising (xs ++ n ∷ ys) → AllAbove n ys
rising_behind [] n ys up = up.0
rising_behind (x ∷ xs) n ys up = rising_behind xs n ys up.1

pub one_of_left : (i : ℕ) (xs ys : List ℕ) → IsOneOf i xs → IsOneOf i (xs ++ ys)
one_of_left i [] ys is = absurd is
one_of_left i (x ∷ xs) ys (inl e) = inl e
one_of_left i (x ∷ xs) ys (inr is) = inr (one_of_left i xs ys is)

pub one_of_last : (xs : List ℕ) (n : ℕ) → IsOneOf n (xs ++ n ∷ [])
one_of_last [] n = inl refl
one_of_last (x ∷ xs) n = inr (one_of_last xs n)

same_number : (i n : ℕ) → Log i ≡ Log n → i ≡ n
same_number i n e = cc

-- where another number alone failed, none of these did
none_failed : (xs : List ℕ) (n : ℕ) (failed : List Owner) → ((i : ℕ) → IsOneOf i xs → i < n) → ((o : Owner) → Contains failed o → o ≡ Log n) → NoneFailed xs failed
none_failed [] n failed below own = tt
none_failed (x ∷ xs) n failed below own = ((λ c. let e = same_number x n (own (Log x) c) in let low = below x (inl refl) in omega arith), none_failed xs n failed (λ i is. below i (inr is)) own)

owned_on : (one two : ℕ → Option ConnId) (n : ℕ) (ys : List ℕ) → AllAbove n ys → ((i : ℕ) → i ≢ n → two i ≡ one i) → AllOwned one ys → AllOwned two ys
owned_on one two n [] above same all = tt
owned_on one two n (y ∷ ys) above same all = ((all.0.0, same y (λ e. let low = above.0 in omega arith) ∙ all.0.1), owned_on one two n ys above.1 same all.1)

-- ---- Logs one after another

-- what is left of a keeper that took its waiting logs out
pub taken_waiting : (v : KeeperView) (disk : DiskView) (m : Machine) → Represents v disk m → Represents (record v { waiting = [] }) disk (none_waits m)
taken_waiting v disk m at = record {
  sound = record { lane = at.sound.lane; drawn = at.sound.drawn; owns = at.sound.owns; owned = at.sound.owned; there = at.sound.there; none_above = at.sound.none_above };
  few_lanes = at.few_lanes;
  texts = at.texts;
  states = at.states;
  owner = at.owner;
  waiting = refl;
  noting = at.noting;
  rising = tt;
  waits = tt;
  logs = λ n. log_left (m.owner n) n (at.logs n);
  numbers = at.numbers;
  unmade = at.unmade;
  events = record {
    lane_is = at.events.lane_is;
    sound = at.events.sound;
    reads = at.events.reads;
    whole = λ w. let x = at.events.whole w in record { represents = x.represents; committed = x.committed; added = x.added };
    broken = λ b. let x = at.events.broken b in record { none_fresh = x.none_fresh; nobody_noted = x.nobody_noted };
  };
}
  where
    log_left : (o : Option ConnId) (n : ℕ) → LogIs v disk m n o → LogIs (record v { waiting = [] }) disk (none_waits m) n o
    log_left None n x = record { closed = x.closed; reads = x.reads; enough = x.enough }
    log_left (Some k) n x = record { its = x.its; here = x.here; value = x.value; represents = x.represents; number = x.number; going = x.going; mask = x.mask; promised = x.promised; there = x.there; enough = x.enough }

-- these logs are flushed, and those are still to come
pub record LogsDone (done rest : List ℕ) (v : KeeperView) (m : Machine) (said said' : List Reply) (v' : KeeperView) (old new : DiskView) : Type 0 where
  pub gives : LogsGive done v m said said' v' old new
  pub waits : AllOwned gives.after.owner rest

pub logs_start : (v v0 : KeeperView) (m : Machine) (disk : DiskView) (said : List Reply) → Laws disk → Represents v disk m → v0 ≡ record v { waiting = [] } → LogsDone [] m.waiting v m said said v0 disk disk
logs_start v v0 m disk said laws at is = record {
  gives = record {
    tail = no_answer;
    after = m;
    told = sym (append_nil said);
    ended = logs_none (reading_of v.lane v.lanes) (settings_of v) m disk laws.only_now (numbers_fit v disk m at);
    own = λ o c. absurd (let low = c.1 in omega arith);
    represents = subst (λ (x : KeeperView). Represents x disk (none_waits m)) (sym is) (taken_waiting v disk m at);
  };
  waits = at.waits;
}
  where
    append_nil : (xs : List Reply) → xs ++ [] ≡ xs
    append_nil xs = grind (arith, common_steps)

pub replies_joined : (said one two : List Reply) (a b : List Answer) → one ≡ said ++ map reply_of a → two ≡ one ++ map reply_of b → two ≡ said ++ map reply_of (a ++ b)
replies_joined said one two a b e f = f ∙ ap (λ (x : List Reply). x ++ map reply_of b) e ∙ append_assoc said (map reply_of a) (map reply_of b) ∙ ap (λ (x : List Reply). said ++ x) (sym (map_append a b))
  where
    map_append : (xs ys : List Answer) → map reply_of (xs ++ ys) ≡ map reply_of xs ++ map reply_of ys
    map_append [] ys = refl
    map_append (x ∷ xs) ys = ap (λ (z : List Reply). reply_of x ∷ z) (map_append xs ys)

-- the settings of a keeper that is set as before
pub same_settings : (v v' : KeeperView) → SameSet v v' → settings_of v' ≡ settings_of v
same_settings v v' s = λ i. record { lane = s.lane i; lanes = s.lanes i; log_exit = s.log_exit i; line_of = λ now k asked log. Rattle.lsv_keeper.specs.Value.event_line (s.kind i) now k asked log }

pub log_given : (n : ℕ) (v v' v'' : KeeperView) (m : Machine) (said said' : List Reply) (old new : DiskView) → SameSet v v' → LogGives n v' m said said' v'' old new → LogGives n v m said said' v'' old new
log_given n v v' v'' m said said' old new s g = record {
  tail = g.tail;
  after = g.after;
  told = g.told;
  ended = subst (λ (set : Rattle.lsv_machine.specs.Machine.Settings). Rattle.lsv_machine.specs.Tails.LogEnded (reading_of v.lane v.lanes) set n g.tail m g.after old new) (same_settings v v' s)
      (subst (λ (lanes : ℕ). Rattle.lsv_machine.specs.Tails.LogEnded (reading_of v.lane lanes) (settings_of v') n g.tail m g.after old new) s.lanes
      (subst (λ (lane : ℕ). Rattle.lsv_machine.specs.Tails.LogEnded (reading_of lane v'.lanes) (settings_of v') n g.tail m g.after old new) s.lane g.ended));
  own = g.own;
  others = g.others;
  represents = g.represents;
}

pub logs_step : (done : List ℕ) (n : ℕ) (rest : List ℕ) (v v' v'' : KeeperView) (m : Machine) (said said' said'' : List Reply) (one two three : DiskView) → Rising (done ++ n ∷ rest) → (d : LogsDone done (n ∷ rest) v m said said' v' one two)
    → LogGives n v d.gives.after said' said'' v'' two three → LogsDone (done ++ n ∷ []) rest v m said said'' v'' one three
logs_step done n rest v v' v'' m said said' said'' one two three up d g = record {
  gives = record {
    tail = joined d.gives.tail g.tail;
    after = g.after;
    told = replies_joined said said' said'' d.gives.tail.answers g.tail.answers d.gives.told g.told;
    ended = logs_more (reading_of v.lane v.lanes) (settings_of v) done n d.gives.tail g.tail m d.gives.after g.after one two three
        (none_failed done n g.tail.failed (rising_before done n rest up) g.own)
        (λ c. let (i, e, is) = d.gives.own (Log n) c in let same = same_number n i e in let low = rising_before done n rest up i is in omega arith)
        d.gives.ended g.ended;
    own = λ o c. elim (Contains-append_cases d.gives.tail.failed g.tail.failed o c) [
      | inl x ↦ (let (i, e, is) = d.gives.own o x in (i, e, one_of_left i done (n ∷ []) is))
      | inr y ↦ (n, g.own o y, one_of_last done n)
    ];
    represents = g.represents;
  };
  waits = owned_on d.gives.after.owner g.after.owner n rest (rising_behind done n rest up) g.others d.waits.1;
}

-- ---- The loop over the waiting logs

pub take_next : (xs : List ℕ) (i x : ℕ) → i < length xs → x ≡ slice_index_or xs i x → take (i + 1) xs ≡ take i xs ++ x ∷ []
take_next xs i x low is = grind (arith, common_steps)

pub drop_next : (xs : List ℕ) (i x : ℕ) → i < length xs → x ≡ slice_index_or xs i x → drop i xs ≡ x ∷ drop (i + 1) xs
drop_next xs i x low is = grind (arith, common_steps)

-- the waiting logs up to a place are flushed
pub record Flushing (told : Type 0) (i : ℕ) (items : List ℕ) (v v' : KeeperView) (was now : ℕ) (said said' : List Reply) (old new : DiskView) : Type 0 where
  pub set : SameSet v v'
  pub none : v'.waiting ≡ []
  pub noting : v'.noting ≡ v.noting
  pub places : room v ≤ room v' + i
  pub replies : was ≤ now + 2 * i
  pub logs : told → (m : Machine) → Represents v old m → LogsDone (take i items) (drop i items) v m said said' v' old new

pub set_on : (a b c : KeeperView) → SameSet a b → SameSet b c → SameSet a c
set_on a b c s t = record { lane = t.lane ∙ s.lane; lanes = t.lanes ∙ s.lanes; log_exit = t.log_exit ∙ s.log_exit; kind = t.kind ∙ s.kind; texts = t.texts ∙ s.texts }

pub flushing_on : (told : Type 0) (i n : ℕ) (items : List ℕ) (v v' v'' : KeeperView) (was now then_ : ℕ) (said said' said'' : List Reply) (one two three : DiskView) → v.waiting ≡ items → i < length items → n ≡ slice_index_or items i n
    → Flushing told i items v v' was now said said' one two → SameSet v' v'' → v''.waiting ≡ [] → v''.noting ≡ v'.noting → room v' ≤ room v'' + 1 → now ≤ then_ + 2
    → (told → (m : Machine) (k : ConnId) → Represents v' two (none_waits m) → m.owner n ≡ Some k → LogGives n v' m said' said'' v'' two three)
    → Flushing told (i + 1) items v v'' was then_ said said'' one three
flushing_on told i n items v v' v'' was now then_ said said' said'' one two three waiting low item f set none noting places replies gives = record {
  set = set_on v v' v'' f.set set;
  none = none;
  noting = noting ∙ f.noting;
  places = let x = f.places in omega arith;
  replies = let x = f.replies in omega arith;
  logs = λ t m at.
      let d = f.logs t m at in
      let rest : drop i items ≡ n ∷ drop (i + 1) items = drop_next items i n low item in
      let d' : LogsDone (take i items) (n ∷ drop (i + 1) items) v m said said' v' one two = record { gives = d.gives; waits = subst (AllOwned d.gives.after.owner) rest d.waits } in
      let up : Rising (take i items ++ n ∷ drop (i + 1) items) = subst (λ (xs : List ℕ). Rising (take i items ++ xs)) rest (subst Rising (at.waiting ∙ waiting ∙ parts) at.rising) in
      let g = log_given n v v' v'' d.gives.after said' said'' two three f.set (gives t d.gives.after d'.waits.0.0 d.gives.represents d'.waits.0.1) in
      subst (λ (xs : List ℕ). LogsDone xs (drop (i + 1) items) v m said said'' v'' one three) (sym (take_next items i n low item)) (logs_step (take i items) n (drop (i + 1) items) v v' v'' m said said' said'' one two three up d' g);
}
  where
    parts : items ≡ take i items ++ drop i items
    parts = sym (take-append-drop i items)

pub flushing_start : (told : Type 0) (items : List ℕ) (v v0 : KeeperView) (was : ℕ) (said : List Reply) (disk : DiskView) → (told → Laws disk) → v0 ≡ record v { waiting = [] } → v.waiting ≡ items → Flushing told 0 items v v0 was was said said disk disk
flushing_start told items v v0 was said disk laws is waiting = record {
  set = record { lane = ap (λ (x : KeeperView). x.lane) is; lanes = ap (λ (x : KeeperView). x.lanes) is; log_exit = ap (λ (x : KeeperView). x.log_exit) is; kind = ap (λ (x : KeeperView). x.kind) is; texts = ap (λ (x : KeeperView). x.texts) is };
  none = ap (λ (x : KeeperView). x.waiting) is;
  noting = ap (λ (x : KeeperView). x.noting) is;
  places = let e : room v0 ≡ room v = ap room is in omega arith;
  replies = omega arith;
  logs = λ t m at. let d = logs_start v v0 m disk said (laws t) at is in record { gives = d.gives; waits = subst (AllOwned d.gives.after.owner) (at.waiting ∙ waiting) d.waits };
}

pub flushing_ends : (told : Type 0) (items : List ℕ) (v v' : KeeperView) (was now : ℕ) (said said' : List Reply) (old new : DiskView) (i : ℕ) → i ≡ length items → v.waiting ≡ items → Flushing told i items v v' was now said said' old new → told
    → (m : Machine) → Represents v old m → LogsGive m.waiting v m said said' v' old new
flushing_ends told items v v' was now said said' old new i end waiting f t m at =
    let e : take i items ≡ m.waiting = ap (λ j. take j items) end ∙ sym (take_all items) ∙ sym waiting ∙ sym at.waiting in
    subst (λ (xs : List ℕ). LogsGive xs v m said said' v' old new) e (f.logs t m at).gives
  where
    take_all : (xs : List ℕ) → xs ≡ take (length xs) xs
    take_all xs = grind (arith, common_steps)
