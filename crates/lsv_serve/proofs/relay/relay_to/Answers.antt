-- A run over the logs, by how it ended.
use Rattle.std.proofs.Common.{◌≡◌, ◌≤◌, ℕ, zero, suc, refl, subst, arith}
use Rattle.lsv_forward.specs.Run.{Forwards, HasRunCause}
use Rattle.lsv_forward.specs.declared.fault.ForwardFault.{ForwardFault}
use Rattle.lsv_serve.specs.Relay.{RelayWorld, relay_of}
use Rattle.lsv_serve.proofs.RelayLemmas.{runs_logs, runs_unread, runs_stops}
use Rattle.lsv_serve.proofs.relay.relay_to.Goals as goal

some_left : (left : ℕ) → (left ≡ 0 → ⊥) → 1 ≤ left
some_left zero not = absurd (not refl)
some_left (suc left) not = omega arith

pub returns-in-Ok-eq0-clause-runs : goal.returns-in-Ok-eq0-clause-runs
returns-in-Ok-eq0-clause-runs g c =
    let old : RelayWorld = relay_of g.D.Disk g.L.Link c.args.disk.now c.args.link.now in
    let new : RelayWorld = relay_of g.D.Disk g.L.Link c.forward_logs.new.disk c.forward_logs.new.link in
    runs_logs g.D.Disk.view c.args.host.now old new 0
    (subst (λ (left : ℕ). Forwards g.D.Disk.view c.args.host.now old.disk_tells old.link_tells old.disk new.disk old.link new.link old.counts new.counts left) c.in-Ok-eq0.field-0-test c.in-Ok-eq0.ensures.forwards)

pub returns-in-Ok-clause-runs : goal.returns-in-Ok-clause-runs
returns-in-Ok-clause-runs g c =
    let old : RelayWorld = relay_of g.D.Disk g.L.Link c.args.disk.now c.args.link.now in
    let new : RelayWorld = relay_of g.D.Disk g.L.Link c.forward_logs.new.disk c.forward_logs.new.link in
    (some_left c.in-Ok.left c.in-Ok.left-test.1, runs_logs g.D.Disk.view c.args.host.now old new c.in-Ok.left c.in-Ok.ensures.forwards)

pub returns-in-Err-Numbers-clause-runs : goal.returns-in-Err-Numbers-clause-runs
returns-in-Err-Numbers-clause-runs g c =
    let old : RelayWorld = relay_of g.D.Disk g.L.Link c.args.disk.now c.args.link.now in
    let new : RelayWorld = relay_of g.D.Disk g.L.Link c.forward_logs.new.disk c.forward_logs.new.link in
    let why = subst (λ (f : ForwardFault). HasRunCause g.D.Disk.view c.args.host.now old.disk_tells old.link_tells old.disk new.disk old.link new.link old.counts new.counts f) c.in-Err-Numbers.field-0-is c.in-Err-Numbers.ensures.early in
    runs_unread c.args.host.now old new c.in-Err-Numbers.fault c.store_fault.result c.store_fault.ensures why.0 why.1 why.2

pub returns-in-Err-NoMem-clause-runs : goal.returns-in-Err-NoMem-clause-runs
returns-in-Err-NoMem-clause-runs g c =
    let old : RelayWorld = relay_of g.D.Disk g.L.Link c.args.disk.now c.args.link.now in
    let new : RelayWorld = relay_of g.D.Disk g.L.Link c.forward_logs.new.disk c.forward_logs.new.link in
    runs_stops g.D.Disk.view c.args.host.now old new
    (subst (λ (f : ForwardFault). HasRunCause g.D.Disk.view c.args.host.now old.disk_tells old.link_tells old.disk new.disk old.link new.link old.counts new.counts f) c.in-Err-NoMem.field-0-is c.in-Err-NoMem.ensures.early)
