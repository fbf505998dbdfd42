-- A worker that has made no connections.
use Rattle.std.proofs.Common.{◌≡◌, ℕ, ◌<◌, ◌≤◌, false, None, List, [], refl, sym, subst, arith}
use Rattle.std.specs.List.{Contains}
use Rattle.lsv_port.specs.Port.{IsOpen, PortState}
use Rattle.lsv_worker.specs.Links.{KnowsPort}
use Rattle.lsv_worker.specs.Worker.{AreLast, IsMade, Represents, conn_at, setting}
use Rattle.lsv_worker.specs.declared.incoming.Stage.TheVariants.{Open}
use Rattle.lsv_worker.specs.declared.link.Link.{Link}
use Rattle.lsv_worker.specs.declared.link.Blocked.TheVariants as blocks
use Rattle.lsv_worker.specs.declared.link.Phase.{Phase}
use Rattle.lsv_worker.specs.declared.link.Phase.TheVariants.{Going}
use Rattle.lsv_worker.specs.declared.outgoing.Sending.TheVariants as sendings
use Rattle.lsv_worker.specs.declared.worker.Worker.{Worker}

-- some link: no connection is one
abbrev nobody : Worker → Link
nobody w = record {
  number = 0;
  conn = conn_at (setting w) 0;
  incoming = record { rest = []; first = None; waiting = None; route = record { lanes = 1; home = 0; lane = None }; stage = Open };
  outgoing = record { alloc = w.alloc; unsent = []; sending = sendings.Open };
  live = false;
  owed = false;
  shut = false;
  blocked = blocks.No;
}

none_made : (w : Worker) (k : ℕ) → w.next ≡ 1 → IsMade (setting w) k → ⊥
none_made w k next made = let low : k < w.next = made.below in let first : 1 ≤ k = made.first in omega (arith, next)

in_none : (l : ℕ) → Contains [] l → ⊥
in_none l has = let low : has.0 < 0 = has.1 in omega arith

not_in_none : (l : ℕ) (opened : List ℕ) → opened ≡ [] → Contains opened l → ⊥
not_in_none l opened none has = in_none l (subst (λ (o : List ℕ). Contains o l) none has)

pub new_stands : (w : Worker) (port : PortState) → w.next ≡ 1 → w.links.items ≡ [] → w.phase ≡ Going → port.stopped ≡ false → port.opened ≡ [] → ((l : ℕ) → IsOpen port l → ⊥) → Represents w port (λ lane. []) []
new_stands w port next links going going_on opened none = record {
  last = λ k. nobody w;
  table = subst (AreLast (λ k. nobody w) (setting w)) (sym links) tt;
  complete = λ k made undone. absurd (none_made w k next made);
  conn = λ k made. absurd (none_made w k next made);
  each = λ k made. absurd (none_made w k next made);
  apart = λ j k mj mk ne e. none_made w j next mj;
  known = λ k made. absurd (none_made w k next made);
  few = λ k made. absurd (none_made w k next made);
  linked = λ l now. absurd (none l now);
  unused = λ k not lane. refl;
  unasked = λ k not. tt;
  away = λ l has not. absurd (not_in_none l port.opened opened has);
  beside = λ m l has e. absurd (not_in_none m port.opened opened has);
  told = subst (λ (p : Phase). KnowsPort p port) (sym going) going_on;
}
