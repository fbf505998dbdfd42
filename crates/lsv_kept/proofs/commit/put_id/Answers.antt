use Rattle.std.proofs.Common.{◌∙◌, ap}
use Rattle.lsv_disk.proofs.Composition.{on_ok_map}
use Rattle.lsv_bundle.proofs.Laws.{staging_represents}
use Rattle.lsv_kept.specs.Inner.{next_state}
use Rattle.lsv_kept.specs.Kept.{state_of}
use Rattle.lsv_bundle.specs.Value.{BundleView}
use Rattle.lsv_kept.proofs.Keepings.{after_is, before_is, next_of, rests, staged_as, staged_state}
use Rattle.lsv_kept.proofs.commit.put_id.Goals as goal

pub commit-requires-clause-represents : goal.commit-requires-clause-represents
commit-requires-clause-represents g c told = staging_represents c.args.bundle.now c.stage.new.self (g.D.Disk.view c.args.disk.now) c.in-Ok.ensures.value.same (c.requires.represents told)

pub returns-in-Ok-clause-state : goal.returns-in-Ok-clause-state
returns-in-Ok-clause-state g c told aim =
    let b = c.args.bundle.now in
    let staged = staged_as c.args.number b c.stage.new.self c.args.bytes.now c.requires.bundle c.in-Ok.ensures.value in
    on_ok_map c.commit.result _ _ (λ is. is ∙ next_of aim c.stage.new.self (g.D.Disk.view c.args.disk.now) 1 c.args.count 0 c.args.bytes.now (staged.4 ∙ c.requires.empty) staged.3) (c.commit.ensures.state told aim)

pub returns-in-Ok-clause-any_moment : goal.returns-in-Ok-clause-any_moment
returns-in-Ok-clause-any_moment g c told aim =
    let b = c.args.bundle.now in
    let old = g.D.Disk.view c.args.disk.now in
    let new = g.D.Disk.view c.commit.new.disk in
    let staged = staged_as c.args.number b c.stage.new.self c.args.bytes.now c.requires.bundle c.in-Ok.ensures.value in
    before_is c.args.number aim b c.stage.new.self old 1 0 (state_of aim 1 c.args.count 0 c.args.bytes.now) old new (staged_state aim b c.stage.new.self old _ c.in-Ok.ensures.value) (ap (λ (x : BundleView). x.last) c.in-Ok.ensures.value.same)
    (after_is c.args.number aim c.stage.new.self old 1 0 (next_state aim c.stage.new.self old 1 c.args.count 0) (state_of aim 1 c.args.count 0 c.args.bytes.now) old new (next_of aim c.stage.new.self old 1 c.args.count 0 c.args.bytes.now (staged.4 ∙ c.requires.empty) staged.3) (c.commit.ensures.any_moment told aim))

pub returns-in-Err-clause-any_moment : goal.returns-in-Err-clause-any_moment
returns-in-Err-clause-any_moment g c told aim =
    rests c.args.number aim c.args.bundle.now (g.D.Disk.view c.args.disk.now) 1 0 (state_of aim 1 c.args.count 0 c.args.bytes.now) c.requires.bundle (c.requires.represents told) (g.met.D.Disk.only_now told c.args.disk.now)
