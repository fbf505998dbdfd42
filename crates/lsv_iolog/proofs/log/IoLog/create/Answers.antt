-- The text is written and read, and then its files are made.
use Rattle.lsv_info.specs.Layout.{head_text}
use Rattle.lsv_bundle.specs.declared.body.Body.{Body}
use Rattle.std.proofs.Common.{false, ℕ, Some, None, List, option_map, refl, ap, subst, arith}
use Rattle.lsv_disk.specs.Throughout.{Throughout}
use Rattle.lsv_iolog.specs.Recovered.{IsOfLog, Replays}
use Rattle.lsv_iolog.specs.Value.{IoLogView, bare, made}
use Rattle.lsv_iolog.specs.Represents.{Represents}
use Rattle.lsv_iolog.proofs.Committing.{unmade_started, nothing_started}
use Rattle.lsv_iolog.proofs.Results.{if_err_always}
use Rattle.lsv_iolog.proofs.Representing.{settled_represents, settled_invariant, settled_small}
use Rattle.lsv_iolog.proofs.log.IoLog.create.Goals as goal

pub returns-in_err-text-clause-any_moment : goal.returns-in_err-text-clause-any_moment
returns-in_err-text-clause-any_moment g c told = unmade_started c.args.number (Some (made (head_text c.args.head.now))) (g.D.Disk.view c.args.disk.now) (g.met.D.Disk.only_now told c.args.disk.now) (c.requires.unmade told)

pub returns-in_err-head-clause-any_moment : goal.returns-in_err-head-clause-any_moment
returns-in_err-head-clause-any_moment g c told = unmade_started c.args.number (Some (made (head_text c.args.head.now))) (g.D.Disk.view c.args.disk.now) (g.met.D.Disk.only_now told c.args.disk.now) (c.requires.unmade told)

pub returns-in_err-text-clause-nothing : goal.returns-in_err-text-clause-nothing
returns-in_err-text-clause-nothing g c told long = nothing_started c.args.number (g.D.Disk.view c.args.disk.now) (g.met.D.Disk.only_now told c.args.disk.now) (c.requires.unmade told)

pub returns-in_err-head-clause-nothing : goal.returns-in_err-head-clause-nothing
returns-in_err-head-clause-nothing g c told long = nothing_started c.args.number (g.D.Disk.view c.args.disk.now) (g.met.D.Disk.only_now told c.args.disk.now) (c.requires.unmade told)

pub returns-in_err-text-clause-undone : goal.returns-in_err-text-clause-undone
returns-in_err-text-clause-undone g c told =
    let old = g.D.Disk.view c.args.disk.now in
    if_err_always c.from_residual.result (Throughout (IsOfLog c.args.number) (λ image. Replays image c.args.number None) old old)
    (nothing_started c.args.number old (g.met.D.Disk.only_now told c.args.disk.now) (c.requires.unmade told))

pub returns-in_err-head-clause-undone : goal.returns-in_err-head-clause-undone
returns-in_err-head-clause-undone g c told =
    let old = g.D.Disk.view c.args.disk.now in
    if_err_always c.from_residual-in_err-head.result (Throughout (IsOfLog c.args.number) (λ image. Replays image c.args.number None) old old)
    (nothing_started c.args.number old (g.met.D.Disk.only_now told c.args.disk.now) (c.requires.unmade told))

pub invariant_of-result : goal.invariant_of-result
invariant_of-result g c =
    let settled = c.in_ok-bundle.ensures.settled in
    let empty = c.in_ok-bundle.ensures.empty in
    settled_invariant (record { number = c.args.number; head = c.in_ok-head.head; count = 0; elapsed = 0; is_broken = false; bundle = c.in_ok-bundle.bundle })
    (record { kind = 0; count = 0; elapsed = 0; lens = settled.0; extra = 0 }) settled.1 (omega arith) (omega arith) (omega (arith, empty))

pub returns-clause-represents : goal.returns-clause-represents
returns-clause-represents g c told =
    let settled = c.in_ok-bundle.ensures.settled in
    let empty = c.in_ok-bundle.ensures.empty in
    let body : Body = record { kind = 0; count = 0; elapsed = 0; lens = settled.0; extra = 0 } in
    let log : IoLogView = record { number = c.args.number; head = c.in_ok-head.head; count = 0; elapsed = 0; is_broken = false; bundle = c.in_ok-bundle.bundle } in
    let disk = g.D.Disk.view c.make_files.new.disk in
    subst (λ (text : List ℕ). Represents log (bare (made text)) disk) c.in_ok-text.ensures
    (settled_represents log (made c.in_ok-text.text) body disk refl settled.1 (c.in_ok-bundle.ensures.holds told)
    (settled_small c.args.number body c.in_ok-bundle.bundle settled.1 (omega (arith, empty))) c.in_ok-head.ensures.read refl refl)

pub returns-clause-kind : goal.returns-clause-kind
returns-clause-kind g c =
    let settled = c.in_ok-bundle.ensures.settled in
    ap (option_map (λ (b : Body). b.kind)) settled.1.last
