use Rattle.std.proofs.Common.{◌≤◌, ℕ, List, length, sym, ap, subst, ◌∙◌, rules}
use Rattle.lsv_port.specs.Port.{LinkState, Opens, TellsReadable, Told}
use Rattle.lsv_port.specs.declared.port.Ready.{Ready}
use Rattle.lsv_worker.specs.Worker.{AreOfLanes, AreOfWorker, Stands, setting}
use Rattle.lsv_worker.specs.declared.link.Link.{Link}
use Rattle.lsv_worker.proofs.Notes.{lanes_marked, readable_stands, stop_stands, woken_stands, writable_stands}
use Rattle.lsv_worker.specs.Worker.{IsNoted, marked, open_in}
use Rattle.lsv_worker.proofs.FrameLemmas.{port_here}
use Rattle.lsv_worker.proofs.Reading.{quiet_here}
use Rattle.lsv_worker.proofs.Tables.{given_back}
use Rattle.lsv_worker.proofs.Passing.{noted_marked, noted_same, open_marked}
use Rattle.lsv_worker.proofs.Owning.{workers_marked}
use Rattle.lsv_worker.proofs.worker.Worker.note.Goals as goal

pub opened-requires : goal.opened-requires
opened-requires g c = record {
  fit = c.requires.fit;
  going = c.requires.going;
  well = c.requires.well;
  is_open = λ told.
      let b = c.requires.told told in
      let opens : Opens c.in-Opened.number b.0 (g.P.Port.state c.args.port.now) = subst (λ (r : Ready). Told r b.0 (g.P.Port.state c.args.port.now)) c.in-Opened.is b.1 in
      ap (λ (x : LinkState). x.is_open) opens.this;
}

pub returns-in-Opened-clause-notes : goal.returns-in-Opened-clause-notes
returns-in-Opened-clause-notes g c = λ told before jobs replies is h.
    c.opened.ensures.opens told before jobs replies (subst (λ (r : Ready). Told r before (g.P.Port.state c.args.port.now)) c.in-Opened.is is) h

pub returns-in-Readable-clause-notes : goal.returns-in-Readable-clause-notes
returns-in-Readable-clause-notes g c = λ told before jobs replies is h.
    let tells : TellsReadable c.in-Readable.number before (g.P.Port.state c.args.port.now) = subst (λ (r : Ready). Told r before (g.P.Port.state c.args.port.now)) c.in-Readable.is is in
    subst (λ (l : List Link). Stands (setting c.args.self.now) l (g.P.Port.state c.args.port.now) jobs replies) (sym (given_back _ _ _ _ c.deref_mut.ensures.value c.deref_mut.ensures.len c.mark.auto.links ∙ c.mark.ensures ∙ ap (marked c.in-Readable.number) c.deref_mut.ensures.value))
    (readable_stands (setting c.args.self.now) c.args.self.now.links.items c.in-Readable.number before (g.P.Port.state c.args.port.now) jobs replies c.requires.going tells h)

pub returns-in-Readable-clause-fit : goal.returns-in-Readable-clause-fit
returns-in-Readable-clause-fit g c = record {
  first = c.requires.fit.first;
  some = c.requires.fit.some;
  few = c.requires.fit.few;
  room = search rules;
  open_few = let less = open_marked c.in-Readable.number c.args.self.now.links.items in subst (λ (l : List Link). length (open_in l) ≤ 128) (sym (given_back _ _ _ _ c.deref_mut.ensures.value c.deref_mut.ensures.len c.mark.auto.links ∙ c.mark.ensures ∙ ap (marked c.in-Readable.number) c.deref_mut.ensures.value)) (subst (λ (n : ℕ). n ≤ 128) (sym less) c.requires.fit.open_few);
  workers = subst (AreOfWorker c.args.self.now.number) (sym (given_back _ _ _ _ c.deref_mut.ensures.value c.deref_mut.ensures.len c.mark.auto.links ∙ c.mark.ensures ∙ ap (marked c.in-Readable.number) c.deref_mut.ensures.value)) (workers_marked c.args.self.now.number c.in-Readable.number c.args.self.now.links.items c.requires.fit.workers);
  lanes = subst (AreOfLanes c.args.self.now.lanes) (sym (given_back _ _ _ _ c.deref_mut.ensures.value c.deref_mut.ensures.len c.mark.auto.links ∙ c.mark.ensures ∙ ap (marked c.in-Readable.number) c.deref_mut.ensures.value)) (lanes_marked c.args.self.now.lanes c.in-Readable.number c.args.self.now.links.items c.requires.fit.lanes);
}

pub returns-in-Writable-clause-notes : goal.returns-in-Writable-clause-notes
returns-in-Writable-clause-notes g c = λ told before jobs replies is h.
    writable_stands (setting c.args.self.now) c.args.self.now.links.items c.in-Writable.field-0 before (g.P.Port.state c.args.port.now) jobs replies (subst (λ (r : Ready). Told r before (g.P.Port.state c.args.port.now)) c.in-Writable.is is) h

pub returns-in-Woken-clause-notes : goal.returns-in-Woken-clause-notes
returns-in-Woken-clause-notes g c = λ told before jobs replies is h.
    woken_stands (setting c.args.self.now) c.args.self.now.links.items before (g.P.Port.state c.args.port.now) jobs replies (subst (λ (r : Ready). Told r before (g.P.Port.state c.args.port.now)) c.in-Woken.is is) h

pub returns-in-Stop-clause-notes : goal.returns-in-Stop-clause-notes
returns-in-Stop-clause-notes g c = λ told before jobs replies is h.
    stop_stands (setting c.args.self.now) c.args.self.now.links.items before (g.P.Port.state c.args.port.now) jobs replies c.requires.going (subst (λ (r : Ready). Told r before (g.P.Port.state c.args.port.now)) c.in-Stop.is is) h

pub returns-in-Readable-clause-noted : goal.returns-in-Readable-clause-noted
returns-in-Readable-clause-noted g c = λ link has. subst (IsNoted link) (sym (given_back _ _ _ _ c.deref_mut.ensures.value c.deref_mut.ensures.len c.mark.auto.links ∙ c.mark.ensures ∙ ap (marked c.in-Readable.number) c.deref_mut.ensures.value)) (noted_marked c.in-Readable.number link c.args.self.now.links.items has)

pub returns-in-Writable-clause-noted : goal.returns-in-Writable-clause-noted
returns-in-Writable-clause-noted g c = λ link has. noted_same link c.args.self.now.links.items has

pub returns-in-Woken-clause-noted : goal.returns-in-Woken-clause-noted
returns-in-Woken-clause-noted g c = λ link has. noted_same link c.args.self.now.links.items has

pub returns-in-Stop-clause-noted : goal.returns-in-Stop-clause-noted
returns-in-Stop-clause-noted g c = λ link has. noted_same link c.args.self.now.links.items has

pub returns-in-Readable-clause-quiet : goal.returns-in-Readable-clause-quiet
returns-in-Readable-clause-quiet g c = λ told. quiet_here (g.P.Port.state c.args.port.now)

pub returns-in-Readable-clause-port : goal.returns-in-Readable-clause-port
returns-in-Readable-clause-port g c = port_here g.P.Port.tells g.P.Port.state g.P.Port.ledger c.args.port.now

pub returns-in-Writable-clause-quiet : goal.returns-in-Writable-clause-quiet
returns-in-Writable-clause-quiet g c = λ told. quiet_here (g.P.Port.state c.args.port.now)

pub returns-in-Writable-clause-port : goal.returns-in-Writable-clause-port
returns-in-Writable-clause-port g c = port_here g.P.Port.tells g.P.Port.state g.P.Port.ledger c.args.port.now

pub returns-in-Woken-clause-quiet : goal.returns-in-Woken-clause-quiet
returns-in-Woken-clause-quiet g c = λ told. quiet_here (g.P.Port.state c.args.port.now)

pub returns-in-Woken-clause-port : goal.returns-in-Woken-clause-port
returns-in-Woken-clause-port g c = port_here g.P.Port.tells g.P.Port.state g.P.Port.ledger c.args.port.now

pub returns-in-Stop-clause-quiet : goal.returns-in-Stop-clause-quiet
returns-in-Stop-clause-quiet g c = λ told. quiet_here (g.P.Port.state c.args.port.now)

pub returns-in-Stop-clause-port : goal.returns-in-Stop-clause-port
returns-in-Stop-clause-port g c = port_here g.P.Port.tells g.P.Port.state g.P.Port.ledger c.args.port.now
