use Rattle.std.proofs.Common.{◌≡◌, ◌≢◌, Some, None}
use Rattle.lsv_disk.specs.declared.file.Owner.TheVariants.{Events}
use Rattle.lsv_bundle.specs.declared.shape.Shape.TheVariants as shapes
use Rattle.lsv_bundle.specs.declared.body.Body.{Body}
use Rattle.lsv_bundle.specs.Committed.{HasEntry}
use Rattle.lsv_bundle.specs.Represents.{Represents}
use Rattle.lsv_bundle.specs.Value.{IsFresh}
use Rattle.lsv_eventlog.proofs.Opening.{counts_entry, is_opened, of_some, opened_log, opened_text, opens}
use Rattle.lsv_eventlog.proofs.open.find.Goals as goal

pub returns-in_err-bundle-clause-any_moment : goal.returns-in_err-bundle-clause-any_moment
returns-in_err-bundle-clause-any_moment g c told = opens c.args.lane (g.D.Disk.view c.args.disk.now) (g.D.Disk.view c.open.new.disk) (c.open.ensures.any_moment told)

pub returns-in_default-clause-any_moment : goal.returns-in_default-clause-any_moment
returns-in_default-clause-any_moment g c told = opens c.args.lane (g.D.Disk.view c.args.disk.now) (g.D.Disk.view c.open.new.disk) (c.open.ensures.any_moment told)

pub returns-clause-any_moment : goal.returns-clause-any_moment
returns-clause-any_moment g c told = opens c.args.lane (g.D.Disk.view c.args.disk.now) (g.D.Disk.view c.open.new.disk) (c.open.ensures.any_moment told)

pub invariant_of-result : goal.invariant_of-result
invariant_of-result g c = opened_log c.args.lane c.in-Some.bundle
    (of_some c.in_ok-bundle.field-0 c.in-Some.bundle (IsFresh (Events c.args.lane) shapes.Lines) c.in-Some.is c.in_ok-bundle.ensures.fresh)
    (of_some c.in_ok-bundle.field-0 c.in-Some.bundle (λ b. b.last ≢ None) c.in-Some.is c.in_ok-bundle.ensures.entry)

pub returns-clause-value : goal.returns-clause-value
returns-clause-value g c = is_opened c.args.lane c.in-Some.bundle
    (of_some c.in_ok-bundle.field-0 c.in-Some.bundle (IsFresh (Events c.args.lane) shapes.Lines) c.in-Some.is c.in_ok-bundle.ensures.fresh)

pub returns-clause-held : goal.returns-clause-held
returns-clause-held g c told =
    let old = g.D.Disk.view c.args.disk.now in
    let new = g.D.Disk.view c.open.new.disk in
    opened_text c.args.lane c.in-Some.bundle old new _
    (of_some c.in_ok-bundle.field-0 c.in-Some.bundle (IsFresh (Events c.args.lane) shapes.Lines) c.in-Some.is c.in_ok-bundle.ensures.fresh)
    (of_some c.in_ok-bundle.field-0 c.in-Some.bundle (λ b. b.last ≢ None) c.in-Some.is c.in_ok-bundle.ensures.entry)
    (of_some c.in_ok-bundle.field-0 c.in-Some.bundle (λ b. Represents b new) c.in-Some.is (c.in_ok-bundle.ensures.represents told))
    (g.met.D.Disk.reads_itself told c.open.new.disk) (c.open.ensures.any_moment told) (c.open.ensures.reads told)

pub returns-clause-counted : goal.returns-clause-counted
returns-clause-counted g c told =
    let old = g.D.Disk.view c.args.disk.now in
    let read : (body : Body) × (c.in-Some.bundle.last ≡ Some body) × HasEntry (Events c.args.lane) body old.reads =
    of_some c.in_ok-bundle.field-0 c.in-Some.bundle (λ b. (body : Body) × (b.last ≡ Some body) × HasEntry (Events c.args.lane) body old.reads) c.in-Some.is (c.in_ok-bundle.ensures.last told) in
    counts_entry c.args.lane old.reads (record { lane = c.args.lane; added = 0; bundle = c.in-Some.bundle }) read.0 read.1 read.2

pub returns-clause-sound : goal.returns-clause-sound
returns-clause-sound g c = opened_log c.args.lane c.in-Some.bundle
    (of_some c.in_ok-bundle.field-0 c.in-Some.bundle (IsFresh (Events c.args.lane) shapes.Lines) c.in-Some.is c.in_ok-bundle.ensures.fresh)
    (of_some c.in_ok-bundle.field-0 c.in-Some.bundle (λ b. b.last ≢ None) c.in-Some.is c.in_ok-bundle.ensures.entry)
