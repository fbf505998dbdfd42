-- What a look comes to.
use Rattle.std.proofs.Common.{◌≡◌, ◌<◌, [], ℕ, length, refl, sym, ◌∙◌, ap, subst, length-append, arith, Bool, true, false, ◌⊎◌, inl, inr}
use Rattle.lsv_defs.specs.Causes.{HasRisen}
use Rattle.lsv_wire.specs.Frame.{IsPartial}
use Rattle.lsv_link.specs.Link.{IsConnected, LinkState, look_of, open_of}
use Rattle.lsv_dialogue.specs.Manner.{Manner}
use Rattle.lsv_dialogue.specs.Ends.{IsSilence}
use Rattle.lsv_dialogue.specs.Stands.{Breaks, EndsSo, Finishes, HasLooked, HasRead, Holds, Paused, Renews, Stands, View}
use Rattle.lsv_dialogue.specs.declared.ends.TheConstants.{MOST_HEARD}
use Rattle.lsv_dialogue.specs.declared.ends.Cause.TheVariants as causes
use Rattle.lsv_dialogue.specs.declared.ends.End.{End}
use Rattle.lsv_dialogue.specs.declared.ends.End.TheVariants as ends
use Rattle.lsv_dialogue.specs.declared.ends.TalkFault.TheVariants as faults
use Rattle.lsv_dialogue.specs.declared.talk.TheConstants.{BUFFER}
use Rattle.lsv_dialogue.specs.declared.talk.Talk.{Talk}
use Rattle.lsv_dialogue.proofs.EndLemmas.{end_failed, ends_ended, ends_silent, read_broken}
use Rattle.lsv_dialogue.proofs.LinkLemmas.{stays_connected}
use Rattle.lsv_dialogue.proofs.StandLemmas.{after_look, after_refresh, looked_holds}

-- it is still open after it may have been renewed
pub refresh_connects : (fresh : Bool) (a b : LinkState) → (fresh ≡ true → Renews a b) → (fresh ≡ false → b ≡ a) → IsConnected a → IsConnected b
refresh_connects true a b renews same old = stays_connected a b (renews refl).stays
refresh_connects false a b renews same old = subst IsConnected (sym (same refl)) old

-- the connection may have been renewed; then it was read
pub record Looks {S W F : Type 0} (manner : Manner S W F) (tells : Type 0) (begun : View) (kept failed here : Type 0) (put : ℕ) (fresh quiet : Bool) (talk talk1 talk2 : Talk) (s : S) (w : W) (a a1 b : View) : Type 0 where
  pub stands : Stands manner tells begun [] put talk s w a
  pub paused : Paused manner quiet put s
  pub partial : IsPartial talk.framer
  pub more : talk.heard < MOST_HEARD
  pub fresh_is : fresh ≡ talk.came
  pub refreshed : talk1 ≡ record talk { came = false }
  pub renews : fresh ≡ true → tells → Renews a.1 a1.1
  pub same : fresh ≡ false → a1.1 ≡ a.1
  pub counts : a1.0 ≡ a.0
  pub read : HasRead tells kept failed quiet talk1.framer talk2.framer a1.1 b.1
  pub is : talk2 ≡ record talk1 { framer = talk2.framer; buffer = talk2.buffer }
  pub room : length talk2.buffer.items ≡ BUFFER
  pub looked : HasLooked failed here a1.0 b.0

module _ {S W F : Type 0} (manner : Manner S W F) (tells : Type 0) (begun : View) (kept failed here : Type 0) (put : ℕ) (fresh quiet : Bool) (talk talk1 talk2 : Talk) (s : S) (w : W) (a a1 b : View) (l : Looks manner tells begun kept failed here put fresh quiet talk talk1 talk2 s w a a1 b) where
  abbrev now : Stands manner tells begun [] put talk1 s w a1
  now = after_refresh manner tells begun put fresh talk talk1 s w a a1 l.stands l.fresh_is l.refreshed l.renews l.same l.counts

  none_came : talk1.came ≡ false
  none_came = ap (λ (x : Talk). x.came) l.refreshed

  still_partial : IsPartial talk1.framer
  still_partial = subst IsPartial (sym (ap (λ (x : Talk). x.framer) l.refreshed)) l.partial

  fewer : talk2.heard < MOST_HEARD
  fewer = let e = ap (λ (x : Talk). x.heard) l.is in let f = ap (λ (x : Talk). x.heard) l.refreshed in let more = l.more in omega (arith, e, f, more)

  pub look_more : kept → (failed → ⊥) → here → Stands manner tells begun [] 0 talk2 s w b
  look_more k not so = after_look manner tells begun kept failed here put quiet talk1 talk2 s w a1 b now l.paused still_partial none_came k l.read not l.is l.room l.looked so

  pub look_broke : (failed → ⊥) → here → Breaks manner tells begun s w b faults.NoMem
  look_broke not so = read_broken manner tells begun kept failed here put quiet talk1 talk2 s w a1 b now l.paused l.read not none_came l.looked so

  abbrev then : kept → ((failed → ⊥) ⊎ failed) → (h : Holds manner tells begun [] talk2 s w b) × (h.events ≡ now.holds.events)
  then k which = looked_holds manner tells begun kept failed here put quiet talk1 talk2 s w a1 b now l.paused none_came k l.read which l.is l.room l.looked

  left_partial : talk2.framer ≡ talk1.framer → IsPartial talk2.framer
  left_partial same = subst IsPartial (sym same) still_partial

  pub look_failed : kept → failed → here → talk2.framer ≡ talk1.framer → (tells → (open_of b.1).dry ≡ true) → HasRisen a1.0.faults b.0.faults → Finishes manner tells begun s w b (ends.Stopped causes.Failed)
  look_failed k bad so same dry risen = end_failed manner tells begun put talk1 talk2 s w a1 b now (then k (inr bad)).0 (then k (inr bad)).1 l.read.output (left_partial same) dry l.paused.wanting l.looked.full (l.looked.waits so) risen

  pub look_ended : (end : End) → kept → (failed → ⊥) → here → talk2.framer ≡ talk1.framer → (tells → (open_of b.1).ended ≡ true) → EndsSo (manner.wants s) true causes.Ended talk2.framer end → Finishes manner tells begun s w b end
  look_ended end k not so same ended ends = ends_ended manner tells begun put quiet talk1 talk2 s w a1 b end now (then k (inl not)).0 (then k (inl not)).1 l.read.output (left_partial same) fewer l.paused (l.looked.faults not) l.looked.full (l.looked.waits so) ended ends

  none_more : kept → talk2.framer ≡ talk1.framer → length l.read.more ≡ 0
  none_more k same = let e = ap length (sym same ∙ l.read.framer k) in omega (arith, e, length-append talk1.framer l.read.more)

  silence : kept → (failed → ⊥) → quiet ≡ true → talk2.framer ≡ talk1.framer → fresh ≡ true → tells → IsSilence (open_of b.1)
  silence k not still same is t = record {
    front = (open_of a1.1).looks;
    look = look_of quiet (length l.read.more) (open_of a1.1);
    are = (l.read.looked t not).looks;
    waited = still;
    none = none_more k same;
    renewed = (l.renews is t).some;
  }

  pub look_silent : (end : End) → kept → (failed → ⊥) → quiet ≡ true → talk2.framer ≡ talk1.framer → HasRisen a1.0.waits b.0.waits → EndsSo (manner.wants s) fresh causes.NotYet talk2.framer end → Finishes manner tells begun s w b end
  look_silent end k not still same risen ends =
      ends_silent manner tells begun put fresh talk1 talk2 s w a1 b end now (then k (inl not)).0 (then k (inl not)).1 l.read.output (left_partial same) fewer (subst (λ (q : Bool). Paused manner q put s) still l.paused) (l.looked.faults not) l.looked.full risen (silence k not still same) ends
