-- What a message makes of what is kept.
use Rattle.std.proofs.Common.{◌≡◌, ◌≢◌, ◌≤◌, ◌<◌, ◌^◌, arith, inl, inr, ℕ, zero, suc, List, length, Option, Some, None, refl, sym, ◌∙◌, ap, subst}
use Rattle.std.specs.Prelude.{Bool, OnOk, Result, true, false, not, nat_lt, ◌==◌, ◌&&◌, ◌||◌}
use Rattle.std.proofs.lemmas.Bool.Decides.{nat_tests}
use Rattle.lsv_disk.specs.Throughout.{Throughout}
use Rattle.lsv_disk.specs.View.{DiskView, Image, IsCrashImage}
use Rattle.lsv_disk.proofs.Composition.{OnlyNow, started, widened}
use Rattle.lsv_kept.specs.Aim.{AimView}
use Rattle.lsv_kept.specs.Kept.{IsChanged, IsOfRelay, IsReplaced, Keeps}
use Rattle.lsv_kept.specs.Value.{KeepingView, is_done, keeps_id, with_point}
use Rattle.lsv_kept.specs.declared.state.State.{State}
use Rattle.lsv_kept.specs.declared.state.State.TheVariants as states
use Rattle.lsv_msg.specs.declared.messages.ServerMessage.{ServerMessage}
use Rattle.lsv_transcript.specs.Transcript.{is_id}
use Rattle.lsv_relay.specs.Inner.{HasTaken}
use Rattle.lsv_relay.specs.Talk.{Talk, kept_at, hears, hears_error, hears_id, hears_point}
use Rattle.lsv_relay.specs.Value.{RelayView, aim_of}
use Rattle.lsv_relay.specs.Talks.{IsDurable, IsNext, KeepsOneOf}
use Rattle.lsv_relay.specs.declared.relay.Meter.{Meter}
use Rattle.lsv_relay.proofs.Saying.{talk_by}

-- by one entry
pub changed_through : (m n : ℕ) (aim : AimView) (before one two : State) (kind extra : ℕ) (old new : DiskView) → m ≡ n → one ≡ two → Throughout (IsOfRelay m) (IsChanged m aim before kind extra one) old new → Throughout (IsOfRelay n) (KeepsOneOf n aim before two old) old new
changed_through m n aim before one two kind extra old new number is run =
    widened (IsOfRelay n) (IsOfRelay n) (IsChanged n aim before kind extra two) _ old new (λ g own. own) (λ image holds beside durable. next image holds)
    (subst (λ (s : State). Throughout (IsOfRelay n) (IsChanged n aim before kind extra s) old new) is (subst (λ (k : ℕ). Throughout (IsOfRelay k) (IsChanged k aim before kind extra one) old new) number run))
  where
    next : (image : Image) → IsChanged n aim before kind extra two image → IsNext n aim before two image
    next image (inl keeps) = inl keeps
    next image (inr keeps) = inr (inl keeps.0)

-- by an identifier
pub replaced_through : (m n : ℕ) (aim : AimView) (before two : State) (id : List ℕ) (old new : DiskView) → m ≡ n → states.Kept (record { id = id; point = None }) ≡ two → before ≢ states.Done → Throughout (IsOfRelay m) (IsReplaced m aim before (states.Kept (record { id = id; point = None }))) old new
    → Throughout (IsOfRelay n) (KeepsOneOf n aim before two old) old new
replaced_through m n aim before two id old new number is undone run =
    widened (IsOfRelay n) (IsOfRelay n) (IsReplaced n aim before two) _ old new (λ g own. own) (λ image holds beside durable. next before undone image holds)
    (subst (λ (s : State). Throughout (IsOfRelay n) (IsReplaced n aim before s) old new) is (subst (λ (k : ℕ). Throughout (IsOfRelay k) (IsReplaced k aim before (states.Kept (record { id = id; point = None }))) old new) number run))
  where
    next : (s : State) → s ≢ states.Done → (image : Image) → IsReplaced n aim s two image → IsNext n aim s two image
    next s none image (inl keeps) = inl keeps
    next s none image (inr (inr keeps)) = inr (inl keeps.0)
    next states.Nothing none image (inr (inl keeps)) = inl keeps.0
    next (states.Kept kept) none image (inr (inl keeps)) = inr (inr (record { kept = refl; id = id; is = sym is }, keeps.0))
    next states.Done none image (inr (inl keeps)) = absurd (none refl)

-- nothing is kept
pub nothing_through : (n : ℕ) (aim : AimView) (before after : State) (disk : DiskView) → OnlyNow disk → Throughout (IsOfRelay n) (KeepsOneOf n aim before after disk) disk disk
nothing_through n aim before after disk now = started (IsOfRelay n) _ disk now (λ image left durable. inl (durable image left))

pub now_durable : (m n : ℕ) (aim : AimView) (state : State) (disk : DiskView) → m ≡ n → ((image : Image) → IsCrashImage disk image → Keeps m aim image state) → IsDurable n aim state disk
now_durable m n aim state disk number keeps image left = subst (λ (k : ℕ). Keeps k aim image state) number (keeps image left)

-- ---- an identifier

pub id_ignored : (id : List ℕ) (talk : Talk) → (talk.known || nat_lt 4096 (length id) || is_done talk.state) ≡ true → talk ≡ hears_id id talk
id_ignored id talk is = rw is refl

pub id_kept : (id : List ℕ) (talk : Talk) → (talk.known || nat_lt 4096 (length id) || is_done talk.state) ≡ false → (let t : Talk = record talk { state = states.Kept (record { id = id; point = None }); known = true } in t) ≡ hears_id id talk
id_kept id talk is = rw is refl

-- ---- a commit point

pub point_ignored : (total c : ℕ) (talk : Talk) → (nat_lt talk.sent c || not talk.known || not (keeps_id talk.state) || talk.whole) ≡ true → talk ≡ hears_point total (Some c) talk
point_ignored total c talk is = rw is refl

pub point_kept : (total c : ℕ) (talk : Talk) → (nat_lt talk.sent c || not talk.known || not (keeps_id talk.state) || talk.whole) ≡ false → (let t : Talk = record talk { state = kept_at c talk.state; asked = false; whole = talk.ended && c == total } in t) ≡ hears_point total (Some c) talk
point_kept total c talk is = rw is refl

-- ---- an error

pub error_ignored : (talk : Talk) → (talk.asked && keeps_id talk.state) ≡ false → talk ≡ hears_error talk
error_ignored talk is = rw is refl

pub error_drops : (talk : Talk) → (talk.asked && keeps_id talk.state) ≡ true → (let t : Talk = record talk { state = states.Nothing; asked = false } in t) ≡ hears_error talk
error_drops talk is = rw is refl

-- a state is no mark where it isn't done
pub undone : (state : State) → is_done state ≡ false → state ≡ states.Done → ⊥
undone state none is = let h : is_done state ≡ true = ap is_done is in cc (h, none)

pub last_false : (a b c : Bool) → (a || b || c) ≡ false → c ≡ false
last_false false false c e = e
last_false true b c e = absurd (cc)
last_false false true c e = absurd (cc)

-- of two that are neither, the first isn't
pub either_false : (a b : Bool) → (a || b) ≡ false → a ≡ false
either_false false b e = refl
either_false true b e = absurd (cc)

pub middle_false : (a b c : Bool) → (a || b || c) ≡ false → b ≡ false
middle_false false b true e = absurd (or_true b e)
  where
    or_true : (d : Bool) → (d || true) ≡ false → ⊥
    or_true true h = absurd (cc (h))
    or_true false h = absurd (cc (h))
middle_false false true false e = absurd (cc)
middle_false false false false e = refl
middle_false true b c e = absurd (cc)

pub short_id : (n : ℕ) → nat_lt 4096 n ≡ false → n ≤ 4096
short_id n is = grind (arith, nat_tests)

pub opened : (b : Bool) → not b ≡ false → b ≡ true
opened true e = refl
opened false e = absurd (cc)

pub first_false : (a b c : Bool) → (a || b || c) ≡ false → a ≡ false
first_false false b c e = refl
first_false true b c e = absurd (cc)

pub first_true : (a b : Bool) → (a && b) ≡ true → a ≡ true
first_true true b e = refl
first_true false b e = absurd (cc)

pub is_zero : (n : ℕ) → (n == 0) ≡ true → n ≡ 0
is_zero n e = grind (arith, nat_tests)

pub not_zero : (n : ℕ) → (n == 0) ≡ false → n ≡ 0 → ⊥
not_zero n e is = let h : (n == 0) ≡ true = grind (arith, nat_tests) in let k : true ≡ false = sym h ∙ e in cc (k)

-- the whole time is a commit point, and so it is small
pub all_small : (ended : Bool) (c total : ℕ) → (ended && c == total) ≡ true → c < 2 ^ 63 → (ended ≡ true) × (total < 2 ^ 63)
all_small true c total e small = (refl, let h : c ≡ total = same c total e in subst (λ (k : ℕ). k < 2 ^ 63) h small)
  where
    same : (a b : ℕ) → (a == b) ≡ true → a ≡ b
    same a b is = grind (arith, nat_tests)
all_small false c total e small = absurd (cc)

-- by the same meter and aim
pub all_same : (a b : RelayView) (c : ℕ) → a.meter ≡ b.meter → aim_of a ≡ aim_of b → (a.meter.ended && c == (aim_of a).total) ≡ (b.meter.ended && c == (aim_of b).total)
all_same a b c meter aim = ap (λ (m : Meter). m.ended && c == (aim_of a).total) meter ∙ ap (λ (x : AimView). b.meter.ended && c == x.total) aim

pub second_true : (a b : Bool) → (a && b) ≡ true → b ≡ true
second_true true true e = refl
second_true true false e = absurd (cc)
second_true false b e = absurd (cc)

-- a point that isn't 0 is kept
pub kept_point : (c : ℕ) (state : State) → (c ≡ 0 → ⊥) → with_point c state ≡ kept_at c state
kept_point zero state some = absurd (some refl)
kept_point (suc c) state some = refl

pub zero_kept : (c : ℕ) (state : State) → c ≡ 0 → state ≡ kept_at c state
zero_kept c state is = ap (λ (k : ℕ). kept_at k state) (sym is)

-- ---- a commit point is a time

pub no_point : (total : ℕ) (o : Option ℕ) (talk : Talk) → o ≡ None → talk ≡ hears_point total o talk
no_point total o talk is = ap (λ (x : Option ℕ). hears_point total x talk) (sym is)

pub of_point : (total c : ℕ) (o : Option ℕ) (talk now : Talk) → o ≡ Some c → now ≡ hears_point total (Some c) talk → now ≡ hears_point total o talk
of_point total c o talk now is heard = heard ∙ ap (λ (x : Option ℕ). hears_point total x talk) (sym is)

-- the connection, once a commit point was kept
pub point_talk : (old : KeepingView) (m n : Meter) (state : State) (c total : ℕ) (whole : Bool) → n ≡ m → state ≡ kept_at c old.state → whole ≡ (m.ended && c == total) → (nat_lt m.sent c || not m.known || not (keeps_id old.state) || m.whole) ≡ false
    → (let t : Talk = record { state = state; known = n.known; asked = false; sent = n.sent; ended = n.ended; whole = whole } in t) ≡ hears_point total (Some c) (talk_by old m)
point_talk old m n state c total whole meter is all taken =
    ap (λ (x : Meter). let t : Talk = record { state = state; known = x.known; asked = false; sent = x.sent; ended = x.ended; whole = whole } in t) meter
    ∙ (ap (λ (s : State). let t : Talk = record { state = s; known = m.known; asked = false; sent = m.sent; ended = m.ended; whole = whole } in t) is
    ∙ (ap (λ (b : Bool). let t : Talk = record { state = kept_at c old.state; known = m.known; asked = false; sent = m.sent; ended = m.ended; whole = b } in t) all
    ∙ point_kept total c (talk_by old m) taken))

-- what is kept is what hearing it makes of it
pub heard_through : (n : ℕ) (aim : AimView) (before one two : State) (old new : DiskView) → one ≡ two → Throughout (IsOfRelay n) (KeepsOneOf n aim before one old) old new → Throughout (IsOfRelay n) (KeepsOneOf n aim before two old) old new
heard_through n aim before one two old new is run = subst (λ (s : State). Throughout (IsOfRelay n) (KeepsOneOf n aim before s old) old new) is run

-- ---- any message

pub heard_as : (total : ℕ) (m same : ServerMessage) (talk : Talk) → m ≡ same → hears total same talk ≡ hears total m talk
heard_as total m same talk is = ap (λ (x : ServerMessage). hears total x talk) (sym is)

and_true : (w : Bool) → w ≡ (w && true)
and_true true = refl
and_true false = refl

and_false : (w : Bool) → false ≡ (w && false)
and_false true = refl
and_false false = refl

-- an identifier ends the wait, and no other message does
pub waits_no_more : (w : Bool) (m : ServerMessage) → is_id m ≡ true → false ≡ (w && not (is_id m))
waits_no_more w m is = and_false w ∙ ap (λ (b : Bool). w && not b) (sym is)

pub waits_on : (w : Bool) (m : ServerMessage) → is_id m ≡ false → w ≡ (w && not (is_id m))
waits_on w m is = and_true w ∙ ap (λ (b : Bool). w && not b) (sym is)

pub taken_as : {T E : Type 0} (r : Result T E) (a b : RelayView) (t1 t2 : Talk) (w1 w2 : Bool) → t1 ≡ t2 → w1 ≡ w2 → OnOk r (HasTaken a b t1 w1) → OnOk r (HasTaken a b t2 w2)
taken_as r a b t1 t2 w1 w2 talks waits taken = subst (λ (t : Talk). OnOk r (HasTaken a b t w2)) talks (subst (λ (w : Bool). OnOk r (HasTaken a b t1 w)) waits taken)
