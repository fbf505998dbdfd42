-- What a call says of a port in memory.
use Rattle.std.proofs.Common.{◌≡◌, ◌≢◌, inl, inr, ◌≤◌, ℕ, Bool, true, false, ◌==◌, cond, List, take, Option, Some, None, is_some, option_map, refl, sym, ap, subst, ◌∙◌, arith}
use Rattle.lsv_base.specs.Outside.{HasCause}
use Rattle.lsv_defs.specs.Causes.{HasRisen}
use Rattle.lsv_port.specs.declared.memory.link.MemLink.{MemLink}
use Rattle.lsv_port.specs.declared.memory.links.Links.{Links}
use Rattle.lsv_port.specs.declared.memory.run.Run.{Run}
use Rattle.lsv_port.specs.declared.port.Took.{Took}
use Rattle.lsv_port.specs.declared.port.Took.TheVariants as took
use Rattle.lsv_port.specs.declared.port.Gave.{Gave}
use Rattle.lsv_port.specs.declared.port.Gave.TheVariants as gave
use Rattle.lsv_port.specs.Ledger.{Continues, HasLinkCause}
use Rattle.lsv_port.specs.Port.{LinkState, Changes, MayTake, after_read, after_write, closed}
use Rattle.lsv_port.specs.Memory.Link.{view_of, IsSound, IsSameSent, IsRead, IsWritten, shut}
use Rattle.lsv_port.specs.Memory.Numbers.{has}
use Rattle.lsv_port.specs.Memory.Script.{Sent, sent_by}
use Rattle.lsv_port.specs.Memory.Links.{LinkMap, PortOver, links_of, told_of, state_of, faults_of, is_open_in, sent_to, IsSentBy, AreSentBy, AreSound, AreOpen, changed_at, with_link, UsesOne}
use Rattle.lsv_port.specs.Memory.Value.{ledger_of, IsRun}
use Rattle.lsv_port.proofs.NumberLemmas.{one_or_two}
use Rattle.lsv_port.proofs.LinkLemmas.{put_at, put_other, tells_change}

-- links that were sent to are sound
pub sound_sent : (sent : ℕ → Sent) (f : LinkMap) → AreSentBy sent f → AreSound f
sound_sent sent f hs l v e = (subst (λ (o : Option MemLink). IsSentBy (sent l) o) e (hs l)).1

-- ---- A link is used

-- a fact of each link after one was used
each_used : (l : ℕ) (f : LinkMap) (now : MemLink) (P : ℕ → Option MemLink → Type 0) → P l (Some now) → ((m : ℕ) → m ≢ l → P m (f m)) → (m : ℕ) → P m (with_link l (Some now) f m)
each_used l f now P here others m = elim (one_or_two m l) [
  | inl is ↦ subst (λ (k : ℕ). P k (with_link l (Some now) f k)) (sym is) (subst (P l) (sym (put_at f l (Some now))) here)
  | inr ne ↦ subst (P m) (sym (put_other f l (Some now) m ne)) (others m ne)
]

pub use_changes : (l : ℕ) (Used : MemLink → MemLink → Type 0) (after : LinkState → LinkState) (old new : Links) (over : PortOver) → UsesOne l Used old new
    → ((v w : MemLink) → Used v w → view_of w ≡ after (view_of v))
    → Changes l (after (told_of (links_of old l))) (state_of (links_of old) old.opened.items over) (state_of (links_of new) new.opened.items over)
use_changes l Used after old new over h view = record {
  this = ap (λ (g : LinkMap). told_of (g l)) h.links ∙ ap told_of (put_at (links_of old) l (Some h.now)) ∙ view h.was h.now h.used ∙ sym (ap (λ (o : Option MemLink). after (told_of o)) h.here);
  others = λ m ne. ap (λ (g : LinkMap). told_of (g m)) h.links ∙ ap told_of (put_other (links_of old) l (Some h.now) m ne);
  opened = h.opened;
  stopped = refl;
  failed = refl;
}

-- a port runs on where a link was used
pub use_runs : (l : ℕ) (Used : MemLink → MemLink → Type 0) (old : Run) (links : Links) (refused : ℕ) → UsesOne l Used old.links links
    → ((v w : MemLink) → Used v w → (w.is_open ≡ v.is_open) × IsSound w × IsSameSent v w)
    → IsRun old → IsRun (record old { links = links; refused = refused })
use_runs l Used old links refused h keeps run =
    let f = links_of old.links in
    let kept = keeps h.was h.now h.used in
    record {
      done = run.done;
      sent = subst (λ (g : LinkMap). AreSentBy (λ m. sent_by m (take old.done old.script.items)) g) (sym h.links)
          (each_used l f h.now (λ m o. IsSentBy (sent_by m (take old.done old.script.items)) o) (
            (subst (λ (o : Option MemLink). IsSentBy (sent_by l (take old.done old.script.items)) o) h.here (run.sent l)).0
                ∙ same_sent h.was h.now kept.2,
            kept.1,
          )
          (λ m ne. run.sent m));
      opened = λ m. ap (λ (ns : List ℕ). has ns m) h.opened
          ∙ subst (λ (g : LinkMap). has old.links.opened.items m ≡ is_some (g m)) (sym h.links)
          (each_used l f h.now (λ k o. has old.links.opened.items k ≡ is_some o) (run.opened l ∙ ap is_some h.here) (λ k ne. run.opened k) m);
      open_now = λ m. ap (λ (ns : List ℕ). has ns m) h.open_now
          ∙ subst (λ (g : LinkMap). has old.links.open_now.items m ≡ is_open_in (g m)) (sym h.links)
          (each_used l f h.now (λ k o. has old.links.open_now.items k ≡ is_open_in o) (run.open_now l ∙ ap is_open_in h.here ∙ sym kept.0) (λ k ne. run.open_now k) m);
      stopped = run.stopped;
    }
  where
    same_sent : (v w : MemLink) → IsSameSent v w → sent_to v ≡ sent_to w
    same_sent v w same = sym (λ i. record { opened = true; bytes = same.arrived i; ended = same.last i })

-- why a call on a link failed
pub use_cause : (l : ℕ) (Used : MemLink → MemLink → Type 0) (failed : Type 0) (old : Run) (links : Links) (refused : ℕ) → UsesOne l Used old.links links
    → ((v w : MemLink) → Used v w → HasCause failed v.faults w.faults)
    → HasLinkCause l failed (ledger_of old) (ledger_of (record old { links = links; refused = refused }))
use_cause l Used failed old links refused h cause =
    let f = links_of old.links in
    let its = cause h.was h.now h.used in
    let at_now : faults_of (links_of links l) ≡ h.now.faults = ap (λ (g : LinkMap). faults_of (g l)) h.links ∙ ap faults_of (put_at f l (Some h.now)) in
    record {
      continues = record {
        script = refl;
        listens = refl;
        turned = λ e. e;
        deaf = refl;
        turns = omega arith;
        links = λ m. subst (λ (g : LinkMap). faults_of (f m) ≤ faults_of (g m)) (sym h.links)
            (each_used l f h.now (λ k o. faults_of (f k) ≤ faults_of o) (subst (λ (o : Option MemLink). faults_of o ≤ h.now.faults) (sym h.here) its.monotone) (λ k ne. omega arith) m);
      };
      risen = λ fails. subst (λ (n : ℕ). HasRisen n (faults_of (links_of links l))) (sym (ap faults_of h.here)) (subst (λ (n : ℕ). HasRisen h.was.faults n) (sym at_now) (its.risen fails));
    }

read_open : (a : Took) (buf : List ℕ) (s : LinkState) → (after_read a buf s).is_open ≡ s.is_open
read_open (took.Bytes n) buf s = refl
read_open took.NotYet buf s = refl
read_open took.End buf s = refl
read_open took.Failed buf s = refl

write_open : (a : Gave) (bytes : List ℕ) (s : LinkState) → (after_write a bytes s).is_open ≡ s.is_open
write_open (gave.Bytes n) bytes s = refl
write_open gave.NotYet bytes s = refl
write_open gave.Failed bytes s = refl

pub read_keeps : (a : Took) (buf : List ℕ) (v w : MemLink) → IsRead a buf v w → (w.is_open ≡ v.is_open) × IsSound w × IsSameSent v w
read_keeps a buf v w h = (ap (λ (s : LinkState). s.is_open) h.view ∙ read_open a buf (view_of v), h.sound, h.sent)

pub write_keeps : (a : Gave) (bytes : List ℕ) (v w : MemLink) → IsWritten a bytes v w → (w.is_open ≡ v.is_open) × IsSound w × IsSameSent v w
write_keeps a bytes v w h = (ap (λ (s : LinkState). s.is_open) h.view ∙ write_open a bytes (view_of v), h.sound, h.sent)

-- no bytes are read after the end
pub read_may : (l : ℕ) (a : Took) (buf : List ℕ) (old new : Links) → UsesOne l (IsRead a buf) old new → MayTake a (told_of (links_of old l))
read_may l a buf old new h = subst (λ (o : Option MemLink). MayTake a (told_of o)) (sym h.here) h.used.may

-- ---- A link is closed

shut_told : (late : Bool) (o : Option MemLink) → is_open_in o ≡ true → told_of (option_map (shut late) o) ≡ closed late (told_of o)
shut_told late None e = absurd cc
shut_told late (Some v) e = refl

pub close_changes : (l : ℕ) (late : Bool) (old new : Links) (over : PortOver) → links_of new ≡ changed_at l (shut late) (links_of old) → new.opened.items ≡ old.opened.items → is_open_in (links_of old l) ≡ true
    → Changes l (closed late (told_of (links_of old l))) (state_of (links_of old) old.opened.items over) (state_of (links_of new) new.opened.items over)
close_changes l late old new over links opened here =
    subst (λ (g : LinkMap). Changes l (closed late (told_of (links_of old l))) (state_of (links_of old) old.opened.items over) (state_of g new.opened.items over)) (sym links)
    (subst (λ (o : List ℕ). Changes l (closed late (told_of (links_of old l))) (state_of (links_of old) old.opened.items over) (state_of (changed_at l (shut late) (links_of old)) o over)) (sym opened)
    (tells_change (links_of old) l (shut late) old.opened.items over _ (shut_told late (links_of old l) here)))

shut_sent : (late b : Bool) (s : Sent) (o : Option MemLink) → IsSentBy s o → IsSentBy s (cond b (option_map (shut late) o) o)
shut_sent late false s o h = h
shut_sent late true s None h = h
shut_sent late true s (Some v) h = (h.0, record { within = h.1.within; ended = h.1.ended; settled = λ here owed whole. absurd cc })

shut_some : (late b : Bool) (o : Option MemLink) → is_some (cond b (option_map (shut late) o) o) ≡ is_some o
shut_some late false o = refl
shut_some late true None = refl
shut_some late true (Some v) = refl

shut_faults : (late b : Bool) (o : Option MemLink) → faults_of o ≤ faults_of (cond b (option_map (shut late) o) o)
shut_faults late false o = omega arith
shut_faults late true None = omega arith
shut_faults late true (Some v) = omega arith

pub close_runs : (l : ℕ) (late : Bool) (old : Run) (links : Links) → links_of links ≡ changed_at l (shut late) (links_of old.links) → links.opened.items ≡ old.links.opened.items
    → (AreOpen old.links.open_now.items (links_of old.links) → AreOpen links.open_now.items (links_of links)) → IsRun old
    → IsRun (record old { links = links })
close_runs l late old links change opened open_now run =
    let f = links_of old.links in
    record {
      done = run.done;
      sent = subst (λ (g : LinkMap). AreSentBy (λ m. sent_by m (take old.done old.script.items)) g) (sym change) (λ m. shut_sent late (l == m) _ (f m) (run.sent m));
      opened = λ m. ap (λ (ns : List ℕ). has ns m) opened ∙ run.opened m ∙ sym (shut_some late (l == m) (f m)) ∙ ap (λ (g : LinkMap). is_some (g m)) (sym change);
      open_now = open_now run.open_now;
      stopped = run.stopped;
    }

pub close_continues : (l : ℕ) (late : Bool) (old : Run) (links : Links) → links_of links ≡ changed_at l (shut late) (links_of old.links)
    → Continues (ledger_of old) (ledger_of (record old { links = links }))
close_continues l late old links change = record {
  script = refl;
  listens = refl;
  turned = λ e. e;
  deaf = refl;
  turns = omega arith;
  links = λ m. subst (λ (g : LinkMap). faults_of (links_of old.links m) ≤ faults_of (g m)) (sym change) (shut_faults late (l == m) (links_of old.links m));
}
