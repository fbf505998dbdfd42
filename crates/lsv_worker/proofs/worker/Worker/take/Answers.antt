use Rattle.std.proofs.Common.{◌≡◌, ◌≢◌, ◌<◌, ◌≤◌, ◌++◌, ◌∷◌, [], ℕ, List, length, get_or, refl, sym, ap, subst, ◌∙◌, rules, arith}
use Rattle.lsv_worker.specs.Worker.{AllRemain, AreOfLanes, AreOfWorker, IsTable, IsThere, KeepRules, Stands, open_in, setting}
use Rattle.lsv_worker.specs.declared.link.Link.{Link}
use Rattle.lsv_worker.specs.declared.link.Phase.{Phase}
use Rattle.lsv_worker.proofs.Passing.{lanes_remain, open_remain, remain_here, rules_all, there_at}
use Rattle.lsv_worker.proofs.FrameLemmas.{port_here}
use Rattle.lsv_worker.proofs.Reading.{quiet_here, unread_here, unwritten_here}
use Rattle.lsv_worker.proofs.Tables.{given_back}
use Rattle.lsv_worker.proofs.Taking.{not_in, stands_dropped}
use Rattle.lsv_worker.proofs.Owning.{workers_remain}
use Rattle.lsv_worker.proofs.worker.Worker.take.Goals as goal

pub take_at-requires : goal.take_at-requires
take_at-requires g c =
    let lent = c.deref_mut.ensures.value in
    record {
      within = subst (λ (l : List Link). c.in-Some.place < length l) (c.deref.ensures.value ∙ sym lent) (c.place_of.ensures.found c.in-Some.place c.in-Some.is);
      seq = λ d. subst (λ (l : List Link). (get_or l c.in-Some.place d).conn.seq ≡ c.args.reply.conn.seq) (c.deref.ensures.value ∙ sym lent) (c.place_of.ensures.is c.in-Some.place d c.in-Some.is);
      at = λ told.
          let at = c.requires.at told in
          subst (λ (l : List Link). (p : Phase) × IsTable p l (g.P.Port.state c.args.port.now)) (sym lent) (c.args.self.now.phase, record { set = setting c.args.self.now; phase_is = refl; jobs = at.jobs; replies = at.replies; stands = at.represents });
    }

pub returns-clause-takes : goal.returns-clause-takes
returns-clause-takes g c = λ told jobs replies h.
    subst (λ (l : List Link). Stands (setting c.args.self.now) l (g.P.Port.state c.take_at.new.port) jobs (replies ++ c.args.reply ∷ [])) (sym (given_back _ _ _ _ c.deref_mut.ensures.value c.deref_mut.ensures.len c.take_at.auto.links))
    (c.take_at.ensures.took told (setting c.args.self.now) jobs replies (ap (λ (w : ℕ). record { worker = w; seq = c.args.reply.conn.seq }) c.requires.worker)
    (subst (λ (l : List Link). Stands (setting c.args.self.now) l (g.P.Port.state c.args.port.now) jobs replies) (sym c.deref_mut.ensures.value) h))

pub returns-in_default-clause-takes : goal.returns-in_default-clause-takes
returns-in_default-clause-takes g c = λ told jobs replies h.
    let none : (i : ℕ) (d : Link) → i < length c.args.self.now.links.items → (get_or c.args.self.now.links.items i d).conn.seq ≢ c.args.reply.conn.seq =
    subst (λ (l : List Link). (i : ℕ) (d : Link) → i < length l → (get_or l i d).conn.seq ≢ c.args.reply.conn.seq) c.deref.ensures.value (c.place_of.ensures.none (search rules)) in
    stands_dropped (setting c.args.self.now) c.args.self.now.links.items (g.P.Port.state c.args.port.now) jobs replies c.args.reply (ap (λ (w : ℕ). record { worker = w; seq = c.args.reply.conn.seq }) c.requires.worker) c.requires.made
    (not_in c.args.reply.conn.seq c.args.self.now.links.items none) h

pub returns-clause-fit : goal.returns-clause-fit
returns-clause-fit g c =
    let links = c.take_at.new.links in
    let remain : AllRemain c.args.self.now.links.items links = subst (λ (l : List Link). AllRemain l links) c.deref_mut.ensures.value c.take_at.ensures.remains in
    record {
      first = c.requires.fit.first;
      some = c.requires.fit.some;
      few = c.requires.fit.few;
      room = search rules;
      lanes = subst (AreOfLanes c.args.self.now.lanes) (sym (given_back _ _ _ _ c.deref_mut.ensures.value c.deref_mut.ensures.len c.take_at.auto.links)) (lanes_remain c.args.self.now.lanes c.args.self.now.links.items links remain c.requires.fit.lanes);
      workers = subst (AreOfWorker c.args.self.now.number) (sym (given_back _ _ _ _ c.deref_mut.ensures.value c.deref_mut.ensures.len c.take_at.auto.links)) (workers_remain c.args.self.now.number c.args.self.now.links.items links remain c.requires.fit.workers);
      open_few =
          let less = open_remain c.args.self.now.links.items links remain in
          let few = c.requires.fit.open_few in
          subst (λ (l : List Link). length (open_in l) ≤ 128) (sym (given_back _ _ _ _ c.deref_mut.ensures.value c.deref_mut.ensures.len c.take_at.auto.links)) (omega (arith, less, few));
    }

pub returns-clause-owed : goal.returns-clause-owed
returns-clause-owed g c = λ told holds l owed. holds l (c.take_at.ensures.owes told l owed)

pub returns-clause-rules : goal.returns-clause-rules
returns-clause-rules g c = λ told.
    let links = c.take_at.new.links in
    let remain : AllRemain c.args.self.now.links.items links = subst (λ (l : List Link). AllRemain l links) c.deref_mut.ensures.value c.take_at.ensures.remains in
    let quiet = c.take_at.ensures.quiet told in
    subst (λ (l : List Link). KeepRules c.args.self.now.phase c.args.self.now.links.items l (g.P.Port.state c.args.port.now) (g.P.Port.state c.take_at.new.port)) (sym (given_back _ _ _ _ c.deref_mut.ensures.value c.deref_mut.ensures.len c.take_at.auto.links)) (rules_all c.args.self.now.phase c.args.self.now.links.items links (g.P.Port.state c.args.port.now) (g.P.Port.state c.take_at.new.port) remain quiet.unread quiet.unwritten)

pub returns-in_default-clause-rules : goal.returns-in_default-clause-rules
returns-in_default-clause-rules g c = λ told.
    rules_all c.args.self.now.phase c.args.self.now.links.items c.args.self.now.links.items (g.P.Port.state c.args.port.now) (g.P.Port.state c.args.port.now) (remain_here c.args.self.now.links.items) (unread_here (g.P.Port.state c.args.port.now)) (unwritten_here (g.P.Port.state c.args.port.now))

pub returns-clause-ignored : goal.returns-clause-ignored
returns-clause-ignored g c = λ body last there.
    let lent = c.deref_mut.ensures.value in
    let within : c.in-Some.place < length c.deref_mut.result.now = subst (λ (l : List Link). c.in-Some.place < length l) (c.deref.ensures.value ∙ sym lent) (c.place_of.ensures.found c.in-Some.place c.in-Some.is) in
    let same = c.take_at.ensures.ignored body last (λ d. there_at c.args.reply.conn.seq c.deref_mut.result.now c.in-Some.place d within
    (subst (λ (l : List Link). (get_or l c.in-Some.place d).conn.seq ≡ c.args.reply.conn.seq) (c.deref.ensures.value ∙ sym lent) (c.place_of.ensures.is c.in-Some.place d c.in-Some.is)) (subst (IsThere c.args.reply.conn.seq) (sym lent) there)) in
    (given_back _ _ _ _ c.deref_mut.ensures.value c.deref_mut.ensures.len c.take_at.auto.links ∙ same.0 ∙ lent, same.1)

pub returns-clause-only : goal.returns-clause-only
returns-clause-only g c = record { set = refl; held = refl }

pub returns-in_default-clause-only : goal.returns-in_default-clause-only
returns-in_default-clause-only g c = record { set = refl; held = refl }

pub returns-in_default-clause-quiet : goal.returns-in_default-clause-quiet
returns-in_default-clause-quiet g c = λ told. quiet_here (g.P.Port.state c.args.port.now)

pub returns-in_default-clause-port : goal.returns-in_default-clause-port
returns-in_default-clause-port g c = port_here g.P.Port.tells g.P.Port.state g.P.Port.ledger c.args.port.now
