use Rattle.std.proofs.Common.{◌≡◌, ◌≢◌, ◌<◌, ◌≤◌, ◌++◌, ℕ, List, length, get_or, sym, ap, subst, ◌∙◌, refl, arith}
use Rattle.std.specs.List.{Contains}
use Rattle.lsv_worker.specs.Worker.{AllRemain, AreOfLanes, AreOfWorker, ArePassed, AreSpared, IsBlocked, IsTable, IsWritten, KeepRules, Stands, Steps, open_in, setting, undone}
use Rattle.lsv_worker.specs.declared.link.Link.{Link}
use Rattle.lsv_worker.specs.declared.link.Blocked.TheVariants as blocks
use Rattle.lsv_worker.proofs.Passing.{all_held, all_rules, all_written, lanes_remain, open_remain, open_swept}
use Rattle.lsv_worker.proofs.Reading.{spared_swept}
use Rattle.lsv_worker.proofs.Tables.{calm_swept, given_back, held_all, holds_owed, lanes_swept, stands_swept}
use Rattle.lsv_worker.proofs.Owning.{workers_remain, workers_swept}
use Rattle.lsv_worker.proofs.worker.Worker.pass_in_order.Goals as goal

pub pass_all-requires : goal.pass_all-requires
pass_all-requires g c = record {
  lanes = subst (AreOfLanes (g.I.Inbox.lanes c.args.inbox.now)) (sym c.deref_mut.ensures.value) (subst (λ (n : ℕ). AreOfLanes n c.args.self.now.links.items) (sym c.requires.lanes) c.requires.fit.lanes);
  at = λ told.
      let at = c.requires.at told in
      subst (λ (l : List Link). IsTable c.args.self.now.phase l (g.P.Port.state c.args.port.now)) (sym c.deref_mut.ensures.value) (record { set = setting c.args.self.now; phase_is = refl; jobs = at.jobs; replies = at.replies; stands = at.represents });
}

pub returns-clause-goes : goal.returns-clause-goes
returns-clause-goes g c = λ told.
    let links = c.pass_all.new.links in
    let swept : c.sweep.new.links.items ≡ undone links = c.sweep.ensures.items ∙ ap undone (given_back _ _ _ _ c.deref_mut.ensures.value c.deref_mut.ensures.len c.pass_all.auto.links) in
    let steps : Steps (setting c.args.self.now) c.args.self.now.links.items links (g.P.Port.state c.args.port.now) (g.P.Port.state c.pass_all.new.port) (g.I.Inbox.jobs c.args.inbox.now) (g.I.Inbox.jobs c.pass_all.new.inbox) =
    subst (λ (l : List Link). Steps (setting c.args.self.now) l links (g.P.Port.state c.args.port.now) (g.P.Port.state c.pass_all.new.port) (g.I.Inbox.jobs c.args.inbox.now) (g.I.Inbox.jobs c.pass_all.new.inbox)) c.deref_mut.ensures.value (c.pass_all.ensures.steps told (setting c.args.self.now) refl) in
    record {
      added = steps.added;
      put = steps.put;
      goes = λ jobs replies h. subst (λ (l : List Link). Stands (setting c.args.self.now) l (g.P.Port.state c.pass_all.new.port) (λ lane. jobs lane ++ steps.added lane) replies) (sym swept)
          (stands_swept (setting c.args.self.now) links (g.P.Port.state c.pass_all.new.port) (λ lane. jobs lane ++ steps.added lane) replies (steps.goes jobs replies h));
    }

pub returns-clause-served : goal.returns-clause-served
returns-clause-served g c = λ told.
    let links = c.pass_all.new.links in
    let olds = c.args.self.now.links.items in
    let phase = c.args.self.now.phase in
    let before = g.I.Inbox.refused c.args.inbox.now in
    let after = g.I.Inbox.refused c.pass_all.new.inbox in
    let swept : c.sweep.new.links.items ≡ undone links = c.sweep.ensures.items ∙ ap undone (given_back _ _ _ _ c.deref_mut.ensures.value c.deref_mut.ensures.len c.pass_all.auto.links) in
    let is : c.deref.result.now ≡ undone links = c.deref.ensures.value ∙ swept in
    let passed : ArePassed phase olds links (g.P.Port.state c.args.port.now) (g.P.Port.state c.pass_all.new.port) before after = subst (λ (l : List Link). ArePassed phase l links (g.P.Port.state c.args.port.now) (g.P.Port.state c.pass_all.new.port) before after) c.deref_mut.ensures.value (c.pass_all.ensures.passed told) in
    let steps : Steps (setting c.args.self.now) olds links (g.P.Port.state c.args.port.now) (g.P.Port.state c.pass_all.new.port) (g.I.Inbox.jobs c.args.inbox.now) (g.I.Inbox.jobs c.pass_all.new.inbox) =
    subst (λ (l : List Link). Steps (setting c.args.self.now) l links (g.P.Port.state c.args.port.now) (g.P.Port.state c.pass_all.new.port) (g.I.Inbox.jobs c.args.inbox.now) (g.I.Inbox.jobs c.pass_all.new.inbox)) c.deref_mut.ensures.value (c.pass_all.ensures.steps told (setting c.args.self.now) refl) in
    let held : (i : ℕ) (d : Link) → i < length (undone links) → (get_or (undone links) i d).blocked ≢ blocks.No → Contains c.collect.new.held.items (get_or (undone links) i d).number =
    subst (λ (l : List Link). (i : ℕ) (d : Link) → i < length l → (get_or l i d).blocked ≢ blocks.No → Contains c.collect.new.held.items (get_or l i d).number) is c.collect.ensures.held in
    record {
      owed = λ reads.
          let at = c.requires.at told in
          holds_owed (setting c.args.self.now) (undone links) (g.P.Port.state c.pass_all.new.port) (λ lane. at.jobs lane ++ steps.added lane) at.replies c.collect.new.held.items
          (stands_swept (setting c.args.self.now) links (g.P.Port.state c.pass_all.new.port) (λ lane. at.jobs lane ++ steps.added lane) at.replies (steps.goes at.jobs at.replies at.represents))
          (calm_swept links (c.pass_all.ensures.unblocked reads)) (held_all (undone links) c.collect.new.held.items held);
      held = λ l has. all_held phase (record c.args.self.now { links = c.sweep.new.links; held = c.collect.new.held; buffer = record c.args.self.now.buffer { value = c.pass_all.new.buffer } }) olds links (g.P.Port.state c.args.port.now) (g.P.Port.state c.pass_all.new.port) before after l swept passed (subst (λ (x : List Link). IsBlocked x l) is (c.collect.ensures.blocked_by l has));
      limits =
          let limits = c.pass_all.ensures.limits told in
          record {
            reads = limits.reads;
            output_full = λ going. subst (λ (l : List Link). AreSpared l (g.P.Port.state c.args.port.now) (g.P.Port.state c.pass_all.new.port)) (sym swept) (spared_swept links (g.P.Port.state c.args.port.now) (g.P.Port.state c.pass_all.new.port) (limits.output_full going));
            unread = limits.unread;
          };
      written = subst (λ (l : List Link). IsWritten l (g.P.Port.state c.pass_all.new.port)) (sym swept) (all_written phase olds links (g.P.Port.state c.args.port.now) (g.P.Port.state c.pass_all.new.port) before after passed);
      rules = subst (λ (l : List Link). KeepRules phase olds l (g.P.Port.state c.args.port.now) (g.P.Port.state c.pass_all.new.port)) (sym swept) (all_rules phase olds links (g.P.Port.state c.args.port.now) (g.P.Port.state c.pass_all.new.port) before after passed);
    }

pub returns-clause-fit : goal.returns-clause-fit
returns-clause-fit g c =
    let links = c.pass_all.new.links in
    let swept : c.sweep.new.links.items ≡ undone links = c.sweep.ensures.items ∙ ap undone (given_back _ _ _ _ c.deref_mut.ensures.value c.deref_mut.ensures.len c.pass_all.auto.links) in
    let remain : AllRemain c.args.self.now.links.items links = subst (λ (l : List Link). AllRemain l links) c.deref_mut.ensures.value c.pass_all.ensures.remains in
    record {
      first = c.requires.fit.first;
      some = c.requires.fit.some;
      few = c.requires.fit.few;
      room = omega (arith, c.requires.fit.room, c.sweep.ensures.fewer, c.collect.ensures.room);
      open_few =
          let less = open_remain c.args.self.now.links.items links remain in
          let fewer = open_swept links in
          let few = c.requires.fit.open_few in
          subst (λ (l : List Link). length (open_in l) ≤ 128) (sym swept) (omega (arith, less, fewer, few));
      workers = subst (AreOfWorker c.args.self.now.number) (sym swept) (workers_swept c.args.self.now.number links (workers_remain c.args.self.now.number c.args.self.now.links.items links remain c.requires.fit.workers));
      lanes = subst (AreOfLanes c.args.self.now.lanes) (sym swept) (lanes_swept c.args.self.now.lanes links (lanes_remain c.args.self.now.lanes c.args.self.now.links.items links remain c.requires.fit.lanes));
    }

pub returns-clause-own : goal.returns-clause-own
returns-clause-own g c = c.pass_all.ensures.own c.args.self.now.number (subst (AreOfWorker c.args.self.now.number) (sym c.deref_mut.ensures.value) c.requires.fit.workers)
