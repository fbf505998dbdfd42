use Rattle.std.proofs.Common.{◌≡◌, refl}
use Rattle.lsv_disk.specs.declared.file.Part.TheVariants.{Id}
use Rattle.lsv_disk.proofs.Composition.{on_ok_map}
use Rattle.lsv_bundle.specs.Shape.{journal_of}
use Rattle.lsv_bundle.specs.Value.{committed_length}
use Rattle.lsv_kept.proofs.Keepings.{either_through, ends_in, is_part, journal_own}
use Rattle.lsv_kept.specs.Inner.{EndsIn}
use Rattle.lsv_kept.specs.declared.state.State.TheVariants as states
use Rattle.lsv_kept.proofs.commit.clear.Goals as goal

pub returns-clause-empty : goal.returns-clause-empty
returns-clause-empty g c = on_ok_map c.cut.result _ (committed_length c.cut.new.self Id ≡ 0) (λ is. is.lengths_are Id (is_part c.args.bundle.now.shape c.requires.bundle.shape)) c.cut.ensures.value

pub returns-clause-any_moment : goal.returns-clause-any_moment
returns-clause-any_moment g c told aim =
    let b = c.args.bundle.now in
    either_through c.args.number aim b (g.D.Disk.view c.args.disk.now) (g.D.Disk.view c.cut.new.disk) _ 2 0 states.Nothing c.requires.bundle.owner c.requires.bundle.shape refl refl refl
    (λ f. f ≡ journal_of b.owner) (journal_own c.args.number b c.requires.bundle.owner) (c.cut.ensures.any_moment told c.requires.bundle.whole)

pub returns-clause-last : goal.returns-clause-last
returns-clause-last g c = on_ok_map c.cut.result _ (EndsIn 2 0 c.cut.new.self) (λ is. ends_in _ _ _ _ is.last refl refl) c.cut.ensures.value
