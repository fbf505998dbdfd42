-- The end of a turn: connections whose lines were lost, one after another.
use Rattle.std.proofs.Common.{◌≡◌, ◌≢◌, ◌≤◌, ◌<◌, ◌+◌, ◌*◌, ℕ, take, slice_index_or, List, [], ◌∷◌, ◌++◌, length, map, refl, sym, ◌∙◌, ap, subst, inl, inr, arith, Option, Some, None}
use Rattle.std.specs.Prelude.{true, false}
use Rattle.std.proofs.lemmas.Grind.{common_steps}
use Rattle.std.proofs.lemmas.List.Elements.{Contains-append_cases}
use Rattle.lsv_disk.specs.View.{DiskView}
use Rattle.lsv_disk.specs.declared.file.Owner.{Owner}
use Rattle.lsv_disk.specs.declared.file.Owner.TheVariants.{Log}
use Rattle.lsv_session.specs.declared.connection.ConnId.{ConnId}
use Rattle.lsv_session.specs.declared.connection.ConnState.TheVariants.{Dead}
use Rattle.lsv_session.specs.declared.reply.Reply.{Reply}
use Rattle.lsv_machine.specs.Answers.{Answer, reply_of}
use Rattle.lsv_machine.specs.Failures.{IsRefused}
use Rattle.lsv_machine.specs.Machine.{Machine, is_dead, leaves, log_of, without, without_log}
use Rattle.lsv_machine.specs.Tails.{joined, no_answer}
use Rattle.lsv_machine.proofs.Choices.{EqOr, EqOr.equal, EqOr.unequal, eq_or}
use Rattle.lsv_machine.proofs.StepLooks.{leaving_still}
use Rattle.lsv_machine.proofs.TailFolds.{logs_none}
use Rattle.lsv_keeper.specs.Reading.{reading_of}
use Rattle.lsv_keeper.specs.Represents.{Represents}
use Rattle.lsv_keeper.specs.Rows.{Left}
use Rattle.lsv_keeper.specs.Tails.{IsOneOf, Refused, RefusedGive}
use Rattle.lsv_keeper.specs.Value.{KeeperView, SameSet, room, settings_of, un_noted}
use Rattle.lsv_keeper.proofs.Frames.{Laws}
use Rattle.lsv_keeper.proofs.Losing.{lost_line}
use Rattle.lsv_keeper.proofs.Numbering.{numbers_fit}
use Rattle.lsv_keeper.proofs.TailLoops.{replies_joined, same_settings, set_on}
use Rattle.lsv_keeper.proofs.TailPieces.{refused_more}

append_nil : (xs : List Reply) → xs ++ [] ≡ xs
append_nil xs = grind (arith, common_steps)

-- ---- Nobody, or one who is shut

pub refuses_nobody : (v v' : KeeperView) (m : Machine) (disk : DiskView) (said : List Reply) → Laws disk → Represents v disk m → Represents v' disk m → RefusedGive [] v m said said v' disk disk
refuses_nobody v v' m disk said laws at at' =
    let x = logs_none (reading_of v.lane v.lanes) (settings_of v) m disk laws.only_now (numbers_fit v disk m at) in
    record {
      tail = no_answer;
      after = m;
      told = sym (append_nil said);
      refused = record {
        ended = record { ends = (refl, refl); counts = x.ended.counts; settled_logs = x.ended.settled_logs; unsettled_logs = x.ended.unsettled_logs; numbers = x.ended.numbers; files = x.ended.files };
        lines = x.lines;
        text = refl;
      };
      logs = λ o c. absurd (let low = c.1 in omega arith);
      lost = λ n is. ((λ c. let low = c.1 in omega arith), is);
      represents = at';
    }

pub refuses_no_more : (k : ConnId) (v : KeeperView) (m : Machine) (disk : DiskView) (said : List Reply) → Laws disk → Represents v disk m → is_dead (m.states k) ≡ true → RefusedGive (k ∷ []) v m said said v disk disk
refuses_no_more k v m disk said laws at dead =
    let x = logs_none (reading_of v.lane v.lanes) (settings_of v) m disk laws.only_now (numbers_fit v disk m at) in
    record {
      tail = no_answer;
      after = m;
      told = sym (append_nil said);
      refused = record {
        ended = record { ends = inl (dead, (refl, refl)); counts = x.ended.counts; settled_logs = x.ended.settled_logs; unsettled_logs = x.ended.unsettled_logs; numbers = x.ended.numbers; files = x.ended.files };
        lines = x.lines;
        text = refl;
      };
      logs = λ o c. absurd (let low = c.1 in omega arith);
      lost = λ n is. ((λ c. let low = c.1 in omega arith), is);
      represents = at;
    }

-- ---- One who isn't

without_one : (n i : ℕ) (xs : List ℕ) → IsOneOf i (without n xs) → (i ≢ n) × IsOneOf i xs
without_one n i [] is = absurd is
without_one n i (x ∷ xs) is = go (without_one n i xs) (eq_or n x) is
  where
    go : (IsOneOf i (without n xs) → (i ≢ n) × IsOneOf i xs) → EqOr n x → IsOneOf i (without n (x ∷ xs)) → (i ≢ n) × IsOneOf i (x ∷ xs)
    go rest (equal e t) is' = let r = rest (rw t at is') in (r.0, inr r.1)
    go rest (unequal e t) is' = kept rest (λ g. e (g)) (rw t at is')
      where
        kept : (IsOneOf i (without n xs) → (i ≢ n) × IsOneOf i xs) → (n ≢ x) → IsOneOf i (x ∷ without n xs) → (i ≢ n) × IsOneOf i (x ∷ xs)
        kept more ne (inl f) = ((λ g. ne (sym g ∙ f)), inl f)
        kept more ne (inr r) = let s = more r in (s.0, inr s.1)

without_its : (o : Option ℕ) (i : ℕ) (xs : List ℕ) → IsOneOf i (without_log o xs) → (o ≢ Some i) × IsOneOf i xs
without_its None i xs is = ((λ e. cc), is)
without_its (Some n) i xs is = let r = without_one n i xs is in ((λ e. r.0 (let f : n ≡ i = cc in sym f)), r.1)

one_log : (i n : ℕ) → Log i ≡ Log n → i ≡ n
one_log i n e = cc

pub refuses_one : (k : ConnId) (v v' : KeeperView) (m : Machine) (old new : DiskView) (said said' : List Reply) (answers : List Answer) → Laws old → Represents v old m → is_dead (m.states k) ≡ false → Left k Dead v m v' old new → IsRefused k answers
    → said' ≡ said ++ map reply_of answers → RefusedGive (k ∷ []) v m said said' v' old new
refuses_one k v v' m old new said said' answers laws at living left refused told = record {
  tail = record { answers = answers; failed = left.failed };
  after = leaves k Dead left.left;
  told = told;
  refused = lost_line k v v' m old new laws at left answers refused living;
  logs = λ o c. (let (i, its, is) = left.own o c in (i, is));
  lost = λ n is.
      let still = leaving_still left.failed (log_of (m.states k)) None m left.left left.log in
      let r = without_its (log_of (left.left.states k)) n left.left.waiting is in
      ((λ c. let (i, its, same) = left.own (Log n) c in r.0 (ap (λ (f : ConnId → Rattle.lsv_session.specs.declared.connection.ConnState.ConnState). log_of (f k)) still.states ∙ its ∙ ap Some (sym (one_log n i same)))), left_waiting left.failed (log_of (m.states k)) left.left left.log n r.1);
  represents = left.represents;
}
  where
    left_waiting : (failed : List Owner) (o : Option ℕ) (x : Machine) → Rattle.lsv_machine.specs.Failures.LeavesLog failed o None m x → (n : ℕ) → IsOneOf n x.waiting → IsOneOf n m.waiting
    left_waiting failed None x is n one = subst (λ (y : Machine). IsOneOf n y.waiting) is one
    left_waiting failed (Some i) x is n one = subst (λ (y : Machine). IsOneOf n y.waiting) is.2 one

-- ---- One after another

pub given_on : (conns : List ConnId) (v v' v'' : KeeperView) (m : Machine) (said said' : List Reply) (old new : DiskView) → SameSet v v' → RefusedGive conns v' m said said' v'' old new → RefusedGive conns v m said said' v'' old new
given_on conns v v' v'' m said said' old new s g = record {
  tail = g.tail;
  after = g.after;
  told = g.told;
  refused = subst (λ (set : Rattle.lsv_machine.specs.Machine.Settings). Refused (reading_of v.lane v.lanes) set conns g.tail m g.after old new) (same_settings v v' s)
      (subst (λ (lanes : ℕ). Refused (reading_of v.lane lanes) (settings_of v') conns g.tail m g.after old new) s.lanes
      (subst (λ (lane : ℕ). Refused (reading_of lane v'.lanes) (settings_of v') conns g.tail m g.after old new) s.lane g.refused));
  logs = g.logs;
  lost = g.lost;
  represents = g.represents;
}

pub refuses_more : (xs ys : List ConnId) (v v' v'' : KeeperView) (m : Machine) (said said' said'' : List Reply) (one two three : DiskView) → (a : RefusedGive xs v m said said' v' one two) → RefusedGive ys v a.after said' said'' v'' two three
    → RefusedGive (xs ++ ys) v m said said'' v'' one three
refuses_more xs ys v v' v'' m said said' said'' one two three a b = record {
  tail = joined a.tail b.tail;
  after = b.after;
  told = replies_joined said said' said'' a.tail.answers b.tail.answers a.told b.told;
  refused = refused_more (reading_of v.lane v.lanes) (settings_of v) xs ys a.tail b.tail m a.after b.after one two three a.refused b.refused;
  logs = λ o c. elim (Contains-append_cases a.tail.failed b.tail.failed o c) [ inl x ↦ a.logs o x | inr y ↦ b.logs o y ];
  lost = λ n is.
      let y = b.lost n is in let x = a.lost n y.1 in
      ((λ c. elim (Contains-append_cases a.tail.failed b.tail.failed (Log n) c) [ inl p ↦ x.0 p | inr q ↦ y.0 q ]), x.1);
  represents = b.represents;
}

-- ---- The loop over those who were noted

take_one : (xs : List ConnId) (i : ℕ) (x : ConnId) → i < length xs → x ≡ slice_index_or xs i x → take (i + 1) xs ≡ take i xs ++ x ∷ []
take_one xs i x low is = grind (arith, common_steps)

-- those up to a place are refused
pub record Refusing (told : Type 0) (i : ℕ) (items : List ConnId) (v v' : KeeperView) (was now : ℕ) (said said' : List Reply) (old new : DiskView) : Type 0 where
  pub set : SameSet v v'
  pub none : v'.noting ≡ []
  pub fewer : length v'.waiting ≤ length v.waiting
  pub places : room v ≤ room v' + i
  pub replies : was ≤ now + 2 * i
  pub gives : told → (m : Machine) → Represents (un_noted v) old m → RefusedGive (take i items) v m said said' v' old new

pub refusing_start : (told : Type 0) (items : List ConnId) (v v0 : KeeperView) (was : ℕ) (said : List Reply) (disk : DiskView) → (told → Laws disk) → v0 ≡ un_noted v → Refusing told 0 items v v0 was was said said disk disk
refusing_start told items v v0 was said disk laws is = record {
  set = record { lane = ap (λ (x : KeeperView). x.lane) is; lanes = ap (λ (x : KeeperView). x.lanes) is; log_exit = ap (λ (x : KeeperView). x.log_exit) is; kind = ap (λ (x : KeeperView). x.kind) is; texts = ap (λ (x : KeeperView). x.texts) is };
  none = ap (λ (x : KeeperView). x.noting) is;
  fewer = let e : length v0.waiting ≡ length v.waiting = ap (λ (x : KeeperView). length x.waiting) is in omega arith;
  places = let e : room v0 ≡ room v = ap room is in omega arith;
  replies = omega arith;
  gives = λ t m at. given_on [] v (un_noted v) v0 m said said disk disk (record { lane = refl; lanes = refl; log_exit = refl; kind = refl; texts = refl })
      (refuses_nobody (un_noted v) v0 m disk said (laws t) at (subst (λ (x : KeeperView). Represents x disk m) (sym is) at));
}

pub refusing_on : (told : Type 0) (i : ℕ) (k : ConnId) (items : List ConnId) (v v' v'' : KeeperView) (was now then_ : ℕ) (said said' said'' : List Reply) (one two three : DiskView) → i < length items → k ≡ slice_index_or items i k
    → Refusing told i items v v' was now said said' one two → SameSet v' v'' → v''.noting ≡ v'.noting → length v''.waiting ≤ length v'.waiting → room v' ≤ room v'' + 1 → now ≤ then_ + 2
    → (told → (m : Machine) → Represents v' two m → RefusedGive (k ∷ []) v' m said' said'' v'' two three)
    → Refusing told (i + 1) items v v'' was then_ said said'' one three
refusing_on told i k items v v' v'' was now then_ said said' said'' one two three low item f set noting fewer places replies gives = record {
  set = set_on v v' v'' f.set set;
  none = noting ∙ f.none;
  fewer = let x = f.fewer in omega arith;
  places = let x = f.places in omega arith;
  replies = let x = f.replies in omega arith;
  gives = λ t m at.
      let a = f.gives t m at in
      let b = given_on (k ∷ []) v v' v'' a.after said' said'' two three f.set (gives t a.after a.represents) in
      subst (λ (xs : List ConnId). RefusedGive xs v m said said'' v'' one three) (sym (take_one items i k low item)) (refuses_more (take i items) (k ∷ []) v v' v'' m said said' said'' one two three a b);
}

pub refusing_ends : (told : Type 0) (items : List ConnId) (v v' : KeeperView) (was now : ℕ) (said said' : List Reply) (old new : DiskView) (i : ℕ) → i ≡ length items → v.noting ≡ items → Refusing told i items v v' was now said said' old new → told
    → (m : Machine) → Represents (un_noted v) old m → RefusedGive v.noting v m said said' v' old new
refusing_ends told items v v' was now said said' old new i end noting f t m at =
    let e : take i items ≡ v.noting = ap (λ j. take j items) end ∙ sym (take_all items) ∙ sym noting in
    subst (λ (xs : List ConnId). RefusedGive xs v m said said' v' old new) e (f.gives t m at)
  where
    take_all : (xs : List ConnId) → xs ≡ take (length xs) xs
    take_all xs = grind (arith, common_steps)
