-- The links of a port in memory.
use Rattle.std.specs.Prelude.{◌≡◌, ℕ, ◌==◌, ◌&&◌, Bool, true, false, not, if◌then◌else◌, nat_eq, Option, Some, None, is_some, option_map, ◌≤◌, List, [], ◌∷◌, ◌++◌}
use Rattle.std.specs.HashMap as hash
use Rattle.lsv_port.specs.declared.memory.link.MemLink.{MemLink}
use Rattle.lsv_port.specs.declared.memory.links.Links.{Links}
use Rattle.lsv_port.specs.declared.port.Ready.{Ready}
use Rattle.lsv_port.specs.declared.port.Ready.TheVariants.{Opened, Readable, Writable, Woken}
use Rattle.lsv_port.specs.declared.step.Step.{Step}
use Rattle.lsv_port.specs.declared.step.Step.TheVariants as step
use Rattle.lsv_port.specs.Port.{LinkState, PortState, Told}
use Rattle.lsv_port.specs.Memory.Link.{view_of, IsSound, IsFresh}
use Rattle.lsv_port.specs.Memory.Numbers.{has}
use Rattle.lsv_port.specs.Memory.Script.{Sent, unsent, may_open, sent_next}

-- the links by their numbers: those that were opened
abbrev pub LinkMap : Type 0
LinkMap = ℕ → Option MemLink

-- the links of these
abbrev pub links_of : Links → LinkMap
links_of links l = hash.get nat_eq links.by_number l

-- a link that wasn't opened
abbrev pub never_opened : LinkState
never_opened = record { is_open = false; input = []; output = []; ended = false; owed = false; full = false; failed = false; reads = []; beside = λ m. false; dialled = false; late = false }

-- what is told of a link
abbrev pub told_of : Option MemLink → LinkState
told_of None = never_opened
told_of (Some v) = view_of v

-- whether Stop was told, and whether the port failed as a whole
pub record PortOver : Type 0 where
  pub stopped : Bool
  pub failed : Bool

-- what is told of links that were opened in this order
abbrev pub state_of : LinkMap → List ℕ → PortOver → PortState
state_of links opened over = record { opened = opened; link = λ l. told_of (links l); stopped = over.stopped; failed = over.failed }

-- how often calls on a link failed
abbrev pub faults_of : Option MemLink → ℕ
faults_of None = 0
faults_of (Some v) = v.faults

-- the link was opened, and is still open
abbrev pub is_open_in : Option MemLink → Bool
is_open_in None = false
is_open_in (Some v) = v.is_open

-- bytes, or their end, may still arrive on the link, and it is open
abbrev pub is_hearing : Option MemLink → Bool
is_hearing None = false
is_hearing (Some v) = v.is_open && not v.last

-- a link on which these bytes were sent, as they came to be there
abbrev pub sent_to : MemLink → Sent
sent_to v = record { opened = true; bytes = v.arrived; ended = v.last }

-- the link is as it can come about by what was sent on it
abbrev pub IsSentBy : Sent → Option MemLink → Type 0
IsSentBy sent None = sent ≡ unsent
IsSentBy sent (Some v) = (sent ≡ sent_to v) × IsSound v

-- each link is as it can come about by what was sent
abbrev pub AreSentBy : (ℕ → Sent) → LinkMap → Type 0
AreSentBy sent links = (l : ℕ) → IsSentBy (sent l) (links l)

-- these are the numbers of the links that were opened
abbrev pub AreOpened : List ℕ → LinkMap → Type 0
AreOpened numbers links = (l : ℕ) → has numbers l ≡ is_some (links l)

-- these are the numbers of the links that are open
abbrev pub AreOpen : List ℕ → LinkMap → Type 0
AreOpen numbers links = (l : ℕ) → has numbers l ≡ is_open_in (links l)

-- the links, with another one or none at a number
abbrev pub with_link : ℕ → Option MemLink → LinkMap → LinkMap
with_link l link links m = if l == m then link else links m

-- the links after a change of one, where it was opened
abbrev pub changed_at : ℕ → (MemLink → MemLink) → LinkMap → LinkMap
changed_at l change links m = if l == m then option_map change (links m) else links m

-- nothing changed
pub record AreSame (old new : Links) : Type 0 where
  pub links : links_of new ≡ links_of old
  pub opened : new.opened.items ≡ old.opened.items
  pub open_now : new.open_now.items ≡ old.open_now.items

-- one link changed, where it was opened, and is open as before
pub record ChangesOne (l : ℕ) (change : MemLink → MemLink) (old new : Links) : Type 0 where
  pub links : links_of new ≡ changed_at l change (links_of old)
  pub opened : new.opened.items ≡ old.opened.items
  pub open_now : new.open_now.items ≡ old.open_now.items

-- a new link was opened
pub record OpensOne (l : ℕ) (old new : Links) : Type 0 where
  pub link : MemLink
  pub fresh : IsFresh old.open_now.items link
  pub sound : IsSound link
  pub links : links_of new ≡ with_link l (Some link) (links_of old)
  pub opened : new.opened.items ≡ old.opened.items ++ l ∷ []
  pub open_now : new.open_now.items ≡ old.open_now.items ++ l ∷ []

-- each link is one that can come about
abbrev pub AreSound : LinkMap → Type 0
AreSound links = (l : ℕ) (v : MemLink) → links l ≡ Some v → IsSound v

-- a link was read from or written to, and nothing else changed
pub record UsesOne (l : ℕ) (Used : MemLink → MemLink → Type 0) (old new : Links) : Type 0 where
  pub was : MemLink
  pub now : MemLink
  pub here : links_of old l ≡ Some was
  pub links : links_of new ≡ with_link l (Some now) (links_of old)
  pub opened : new.opened.items ≡ old.opened.items
  pub open_now : new.open_now.items ≡ old.open_now.items
  pub used : Used was now

-- this is told where that holds, else nothing
abbrev pub told_if : Bool → Ready → Ready
told_if holds ready = if holds then ready else Woken

-- what a step tells of its link
abbrev pub ready_of : LinkMap → Step → Ready
ready_of links (step.Open l) = told_if (may_open l && not (is_some (links l))) (Opened l)
ready_of links (step.Give l bytes) = told_if (is_hearing (links l)) (Readable l)
ready_of links (step.Room l count) = told_if (is_open_in (links l)) (Writable l)
ready_of links (step.Last l) = told_if (is_hearing (links l)) (Readable l)
ready_of links (step.Break l) = Woken
ready_of links step.BreakTurn = Woken
ready_of links step.Wake = Woken
ready_of links step.Stop = Woken

-- what a step does that told this
pub record Takes (step : Step) (ready : Ready) (old new : Links) : Type 0 where
  pub answer : ready ≡ ready_of (links_of old) step
  pub told : (sent : ℕ → Sent) (over : PortOver) → AreSentBy sent (links_of old) → AreOpened old.opened.items (links_of old) → AreOpen old.open_now.items (links_of old)
      → Told ready (state_of (links_of old) old.opened.items over) (state_of (links_of new) new.opened.items over)
  pub sent : (sent : ℕ → Sent) → AreSentBy sent (links_of old) → AreSentBy (λ l. sent_next l (sent l) step) (links_of new)
  pub opened : AreOpened old.opened.items (links_of old) → AreOpened new.opened.items (links_of new)
  pub open_now : AreOpen old.open_now.items (links_of old) → AreOpen new.open_now.items (links_of new)
  pub faults : (l : ℕ) → faults_of (links_of old l) ≤ faults_of (links_of new l)
