-- What a port in memory tells is what its run tells.
use Rattle.std.proofs.Common.{◌≡◌, inl, inr, ℕ, Bool, true, cond, take, drop, length, Option, Some, None, is_some, refl, sym, ap, subst, ◌∙◌, arith}
use Rattle.std.proofs.lemmas.List.{take-append-drop, take_all}
use Rattle.lsv_port.specs.declared.memory.link.MemLink.{MemLink}
use Rattle.lsv_port.specs.declared.memory.run.Run.{Run}
use Rattle.lsv_port.specs.Port.{PortState, IsOpen}
use Rattle.lsv_port.specs.Memory.Script.{Sent, sent_by}
use Rattle.lsv_port.specs.Memory.Links.{links_of, told_of, is_open_in, IsSentBy}
use Rattle.lsv_port.specs.Memory.Value.{told_by, value_of, port_state, IsRun, TellsSent, TellsScript}
use Rattle.lsv_port.proofs.LinkLemmas.{is_open_told}

some_or_none : {X : Type 0} (o : Option X) → cond (is_some o) o None ≡ o
some_or_none {X} None = refl
some_or_none {X} (Some x) = refl

-- a port tells what its run tells
pub port_tells : (p : Run) → IsRun p → port_state (value_of p) ≡ told_by p
port_tells p run i = record {
  opened = p.links.opened.items;
  link = λ l. told_of ((ap (λ (b : Bool). cond b (links_of p.links l) None) (run.opened l) ∙ some_or_none (links_of p.links l)) i);
  stopped = p.stopped;
  failed = p.failed;
}

-- so what holds of what runs tell holds of what ports tell
pub told_both : (P : PortState → PortState → Type 0) (old new : Run) → IsRun old → IsRun new → P (told_by old) (told_by new) → P (port_state (value_of old)) (port_state (value_of new))
told_both P old new was now h = subst (λ (s : PortState). P s (port_state (value_of new))) (sym (port_tells old was)) (subst (P (told_by old)) (sym (port_tells new now)) h)

pub told_one : (P : PortState → Type 0) (p : Run) → IsRun p → P (told_by p) → P (port_state (value_of p))
told_one P p run h = subst P (sym (port_tells p run)) h

pub is_open_here : (p : Run) (l : ℕ) → IsRun p → IsOpen (port_state (value_of p)) l → is_open_in (links_of p.links l) ≡ true
is_open_here p l run here = is_open_told (links_of p.links l) ∙ ap (λ (s : PortState). (s.link l).is_open) (sym (port_tells p run)) ∙ here

-- ---- What the script says

sent_tells : (s : Sent) (o : Option MemLink) → IsSentBy s o → TellsSent s (told_of o)
sent_tells s None h = record {
  prefix = (s.bytes, refl);
  end = λ e. absurd cc;
  all = λ here owed whole. absurd cc;
}
sent_tells s (Some v) h = record {
  prefix = (drop v.taken v.arrived, ap (λ (t : Sent). t.bytes) h.0 ∙ sym (take-append-drop v.taken v.arrived));
  end = λ e. let at = h.1.ended e in (ap (λ (t : Sent). t.ended) h.0 ∙ at.0, all_read at.1);
  all = λ here owed whole. let at = h.1.settled here owed whole in (all_read at.taken, λ e. at.ended (sym (ap (λ (t : Sent). t.ended) h.0) ∙ e));
}
  where
    all_read : v.taken ≡ length v.arrived → take v.taken v.arrived ≡ s.bytes
    all_read e = take_all v.taken v.arrived (omega (arith, e)) ∙ sym (ap (λ (t : Sent). t.bytes) h.0)

sent_opened : (s : Sent) (o : Option MemLink) → IsSentBy s o → is_some o ≡ s.opened
sent_opened s None h = sym (ap (λ (t : Sent). t.opened) h)
sent_opened s (Some v) h = sym (ap (λ (t : Sent). t.opened) h.0)

pub run_tells : (p : Run) → IsRun p → TellsScript p.script.items (port_state (value_of p))
run_tells p run = told_one (TellsScript p.script.items) p run (record {
  done = p.done;
  tells = record {
    links = λ l. sent_tells (sent_by l (take p.done p.script.items)) (links_of p.links l) (run.sent l);
    opened = λ l. run.opened l ∙ sent_opened (sent_by l (take p.done p.script.items)) (links_of p.links l) (run.sent l);
  };
  stopped = λ e. elim (run.stopped e) [
    | inl among ↦ inl among
    | inr all ↦ inr (take_all p.done p.script.items (omega (arith, all)))
  ];
})
