use Rattle.std.proofs.Common.{◌≤◌, ◌++◌, List, length, refl, sym, subst, rules, arith}
use Rattle.lsv_worker.specs.Worker.{AllRemain, AreOfLanes, AreOfWorker, IsTable, KeepRules, Stands, Steps, open_in, setting}
use Rattle.lsv_worker.specs.declared.link.Link.{Link}
use Rattle.lsv_worker.specs.declared.link.Phase.TheVariants.{Stopped}
use Rattle.lsv_worker.proofs.Notes.{stopped_stands}
use Rattle.lsv_worker.proofs.Passing.{lanes_remain, none_open, open_remain, rules_all}
use Rattle.lsv_worker.proofs.Tables.{given_back}
use Rattle.lsv_worker.proofs.Owning.{workers_remain}
use Rattle.lsv_worker.proofs.worker.Worker.stop.Goals as goal

pub close_all-requires : goal.close_all-requires
close_all-requires g c = record {
  at = λ told.
      let at = c.requires.at told in
      subst (λ (l : List Link). IsTable Stopped l (g.P.Port.state c.args.port.now)) (sym c.deref_mut.ensures.value)
      (record { set = record (setting c.args.self.now) { phase = Stopped }; phase_is = refl; jobs = at.jobs; replies = at.replies; stands = stopped_stands (setting c.args.self.now) c.args.self.now.links.items (g.P.Port.state c.args.port.now) at.jobs at.replies at.represents });
}

pub returns-clause-goes : goal.returns-clause-goes
returns-clause-goes g c = λ told all.
    let links = c.close_all.new.links in
    let steps : Steps (record (setting c.args.self.now) { phase = Stopped }) c.args.self.now.links.items links (g.P.Port.state c.args.port.now) (g.P.Port.state c.close_all.new.port) all all =
    subst (λ (l : List Link). Steps (record (setting c.args.self.now) { phase = Stopped }) l links (g.P.Port.state c.args.port.now) (g.P.Port.state c.close_all.new.port) all all) c.deref_mut.ensures.value (c.close_all.ensures.steps told (record (setting c.args.self.now) { phase = Stopped }) all refl) in
    record {
      added = steps.added;
      put = steps.put;
      goes = λ jobs replies h. subst (λ (l : List Link). Stands (record (setting c.args.self.now) { phase = Stopped }) l (g.P.Port.state c.close_all.new.port) (λ lane. jobs lane ++ steps.added lane) replies) (sym (given_back _ _ _ _ c.deref_mut.ensures.value c.deref_mut.ensures.len c.close_all.auto.links))
          (steps.goes jobs replies (stopped_stands (setting c.args.self.now) c.args.self.now.links.items (g.P.Port.state c.args.port.now) jobs replies h));
    }

pub returns-clause-fit : goal.returns-clause-fit
returns-clause-fit g c =
    let links = c.close_all.new.links in
    let remain : AllRemain c.args.self.now.links.items links = subst (λ (l : List Link). AllRemain l links) c.deref_mut.ensures.value c.close_all.ensures.remains in
    record {
      first = c.requires.fit.first;
      some = c.requires.fit.some;
      few = c.requires.fit.few;
      room = search rules;
      lanes = subst (AreOfLanes c.args.self.now.lanes) (sym (given_back _ _ _ _ c.deref_mut.ensures.value c.deref_mut.ensures.len c.close_all.auto.links)) (lanes_remain c.args.self.now.lanes c.args.self.now.links.items links remain c.requires.fit.lanes);
      workers = subst (AreOfWorker c.args.self.now.number) (sym (given_back _ _ _ _ c.deref_mut.ensures.value c.deref_mut.ensures.len c.close_all.auto.links)) (workers_remain c.args.self.now.number c.args.self.now.links.items links remain c.requires.fit.workers);
      open_few =
          let less = open_remain c.args.self.now.links.items links remain in
          let few = c.requires.fit.open_few in
          subst (λ (l : List Link). length (open_in l) ≤ 128) (sym (given_back _ _ _ _ c.deref_mut.ensures.value c.deref_mut.ensures.len c.close_all.auto.links)) (omega (arith, less, few));
    }

pub returns-clause-rules : goal.returns-clause-rules
returns-clause-rules g c = λ told.
    let links = c.close_all.new.links in
    let remain : AllRemain c.args.self.now.links.items links = subst (λ (l : List Link). AllRemain l links) c.deref_mut.ensures.value c.close_all.ensures.remains in
    let quiet = c.close_all.ensures.quiet told in
    subst (λ (l : List Link). KeepRules Stopped c.args.self.now.links.items l (g.P.Port.state c.args.port.now) (g.P.Port.state c.close_all.new.port)) (sym (given_back _ _ _ _ c.deref_mut.ensures.value c.deref_mut.ensures.len c.close_all.auto.links)) (rules_all Stopped c.args.self.now.links.items links (g.P.Port.state c.args.port.now) (g.P.Port.state c.close_all.new.port) remain quiet.unread quiet.unwritten)

pub returns-clause-closed : goal.returns-clause-closed
returns-clause-closed g c = λ told.
    let at = c.requires.at told in
    let links = c.close_all.new.links in
    let steps : Steps (record (setting c.args.self.now) { phase = Stopped }) c.args.self.now.links.items links (g.P.Port.state c.args.port.now) (g.P.Port.state c.close_all.new.port) at.jobs at.jobs =
    subst (λ (l : List Link). Steps (record (setting c.args.self.now) { phase = Stopped }) l links (g.P.Port.state c.args.port.now) (g.P.Port.state c.close_all.new.port) at.jobs at.jobs) c.deref_mut.ensures.value (c.close_all.ensures.steps told (record (setting c.args.self.now) { phase = Stopped }) at.jobs refl) in
    none_open (record (setting c.args.self.now) { phase = Stopped }) links (g.P.Port.state c.close_all.new.port) (λ lane. at.jobs lane ++ steps.added lane) at.replies
    (steps.goes at.jobs at.replies (stopped_stands (setting c.args.self.now) c.args.self.now.links.items (g.P.Port.state c.args.port.now) at.jobs at.replies at.represents)) c.close_all.ensures.closed
