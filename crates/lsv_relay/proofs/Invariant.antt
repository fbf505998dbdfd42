-- What holds of each relay stays so.
use Rattle.std.proofs.Common.{◌≡◌, ◌<◌, ◌^◌, ℕ, zero, suc, refl, sym, ◌∙◌, ap, subst}
use Rattle.std.specs.Prelude.{Bool, true, false}
use Rattle.lsv_kept.specs.Aim.{AimView}
use Rattle.lsv_kept.specs.Value.{KeepingView, keeps_id, with_point}
use Rattle.lsv_kept.specs.declared.state.State.{State}
use Rattle.lsv_kept.specs.declared.state.State.TheVariants as states
use Rattle.lsv_relay.specs.Inner.{HasWhole, IsLogOf, IsRelay}
use Rattle.lsv_relay.specs.Talk.{kept_at}
use Rattle.lsv_relay.specs.Value.{RelayView, aim_of, is_broken, state_of}
use Rattle.lsv_relay.specs.declared.relay.Meter.{Meter}
use Rattle.lsv_relay.specs.declared.relay.Place.{Place}
use Rattle.lsv_relay.specs.declared.relay.Place.TheVariants as places

not_both : (b : Bool) → b ≡ true → b ≡ false → ⊥
not_both true one two = cc (two)
not_both false one two = cc (one)

-- with other parts
pub with_parts : (r : RelayView) (k : KeepingView) (m : Meter) → IsRelay r → k.number ≡ r.keeping.number → k.aim ≡ aim_of r → m.ended ≡ r.meter.ended → (m.whole ≡ true → k.broken ≡ false → HasWhole (record r { keeping = k; meter = m })) → IsRelay (record r { keeping = k; meter = m })
with_parts r k m is number aim ended whole = record {
  number = number ∙ is.number;
  log = subst (λ (b : Bool). IsLogOf r.number k.aim.total b r.at) (sym ended) (subst (λ (a : AimView). IsLogOf r.number a.total r.meter.ended r.at) (sym aim) is.log);
  whole = whole;
}

-- a broken one
pub when_broken : (r : RelayView) (k : KeepingView) (m : Meter) → k.broken ≡ true → m.whole ≡ true → k.broken ≡ false → HasWhole (record r { keeping = k; meter = m })
when_broken r k m broken whole not_ = absurd (not_both k.broken broken not_)

unended_log : (n total : ℕ) (ended : Bool) (p : Place) → IsLogOf n total ended p → IsLogOf n total false p
unended_log n total ended places.Idle is = tt
unended_log n total ended (places.Starts view) is = (is.0, is.1, refl)
unended_log n total ended (places.Sends view) is = (is.0, refl)
unended_log n total ended places.Over is = tt

-- as if the exit hadn't been said
pub when_unended : (r : RelayView) → IsRelay r → IsRelay (record r { meter = record r.meter { ended = false; whole = false } })
when_unended r is = record { number = is.number; log = unended_log r.number (aim_of r).total r.meter.ended r.at is.log; whole = λ whole broken. absurd (not_both false whole refl) }

-- without the wait
pub when_named : (r : RelayView) → IsRelay r → IsRelay (record r { meter = record r.meter { waits = false } })
when_named r is = with_parts r r.keeping (record r.meter { waits = false }) is refl refl refl (λ whole broken. let h = is.whole whole broken in record { known = h.known; asked = h.asked; ended = h.ended; kept = h.kept; small = h.small })

-- with a first identifier
pub when_kept : (r : RelayView) (k : KeepingView) → IsRelay r → is_broken r ≡ false → k.number ≡ r.keeping.number → k.aim ≡ aim_of r → r.meter.known ≡ false → IsRelay (record r { keeping = k; meter = record r.meter { waits = false; known = true } })
when_kept r k is sound number aim unknown = with_parts r k (record r.meter { waits = false; known = true }) is number aim refl (λ whole broken. absurd (not_both r.meter.known (is.whole whole sound).known unknown))

-- that failed
pub when_failed : (r : RelayView) (k : KeepingView) (m : Meter) → IsRelay r → k.number ≡ r.keeping.number → k.aim ≡ aim_of r → m.ended ≡ r.meter.ended → k.broken ≡ true → IsRelay (record r { keeping = k; meter = m })
when_failed r k m is number aim ended broken = with_parts r k m is number aim ended (when_broken r k m broken)

-- with nothing kept any more
pub when_dropped : (r : RelayView) (k : KeepingView) → IsRelay r → is_broken r ≡ false → k.number ≡ r.keeping.number → k.aim ≡ aim_of r → r.meter.asked ≡ true → IsRelay (record r { keeping = k; meter = record r.meter { asked = false } })
when_dropped r k is sound number aim asked = with_parts r k (record r.meter { asked = false }) is number aim refl (λ whole broken. absurd (not_both r.meter.asked asked (is.whole whole sound).asked))

still_keeps : (c : ℕ) (state : State) → keeps_id state ≡ true → keeps_id (kept_at c state) ≡ true
still_keeps zero state is = is
still_keeps (suc c) states.Nothing is = is
still_keeps (suc c) (states.Kept kept) is = refl
still_keeps (suc c) states.Done is = absurd (not_both false is refl)

still_with : (c : ℕ) (state : State) → keeps_id state ≡ true → keeps_id (with_point c state) ≡ true
still_with c states.Nothing is = is
still_with c (states.Kept kept) is = refl
still_with c states.Done is = absurd (not_both false is refl)

-- with another commit point
pub when_point : (r : RelayView) (k : KeepingView) (c : ℕ) → IsRelay r → is_broken r ≡ false → k.number ≡ r.keeping.number → k.aim ≡ aim_of r → k.state ≡ with_point c (state_of r) → keeps_id (state_of r) ≡ true → IsRelay (record r { keeping = k })
when_point r k c is sound number aim state kept = with_parts r k r.meter is number aim refl (λ whole broken. let h = is.whole whole sound in record {
  known = h.known;
  asked = h.asked;
  ended = h.ended;
  kept = ap keeps_id state ∙ still_with c (state_of r) kept;
  small = subst (λ (a : AimView). a.total < 2 ^ 63) (sym aim) h.small;
})

pub at_keeps : (c : ℕ) (old new : State) → new ≡ kept_at c old → keeps_id old ≡ true → keeps_id new ≡ true
at_keeps c old new is kept = ap keeps_id is ∙ still_keeps c old kept

-- a commit point was acknowledged
pub when_acked : (r : RelayView) (whole : Bool) → IsRelay r → r.meter.known ≡ true → keeps_id (state_of r) ≡ true → (whole ≡ true → (r.meter.ended ≡ true) × ((aim_of r).total < 2 ^ 63)) → IsRelay (record r { meter = record r.meter { asked = false; whole = whole } })
when_acked r whole is known kept all = with_parts r r.keeping (record r.meter { asked = false; whole = whole }) is refl refl refl (λ yes_ broken. record { known = known; asked = refl; ended = (all yes_).0; kept = kept; small = (all yes_).1 })

-- once the exit is said, or records, the other server doesn't have all
pub sending_open : (r : RelayView) → IsRelay r → is_broken r ≡ false → r.meter.ended ≡ false → r.meter.whole ≡ false
sending_open r is sound unended = go r.meter.whole refl
  where
    go : (b : Bool) → r.meter.whole ≡ b → r.meter.whole ≡ false
    go false e = e
    go true e = absurd (not_both r.meter.ended (is.whole e sound).ended unended)
