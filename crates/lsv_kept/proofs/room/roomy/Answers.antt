use Rattle.std.proofs.Common.{◌∙◌, ap}
use Rattle.lsv_bundle.specs.declared.body.Body.{Body}
use Rattle.std.specs.Prelude.{slice_index_or}
use Rattle.lsv_disk.specs.Files.{file_of}
use Rattle.lsv_disk.specs.declared.file.Part.TheVariants.{Id}
use Rattle.lsv_kept.specs.Kept.{owner_of}
use Rattle.lsv_kept.proofs.Rooms.{first_length, roomy_holds, roomy_represents, roomy_same, roomy_there}
use Rattle.lsv_kept.proofs.room.roomy.Goals as goal

pub lengthen-requires : goal.lengthen-requires
lengthen-requires g c = record {
  there = λ told. roomy_there c.args.number c.args.bundle (g.D.Disk.view c.args.disk.now) c.new.result (slice_index_or c.next_body.result.lens 0 0) (c.new.ensures ∙ ap (λ k. file_of (owner_of k) Id) c.get.ensures.value)
      (ap (λ (b : Body). slice_index_or b.lens 0 0) c.next_body.ensures.next ∙ first_length c.args.bundle 0 0 0 0 c.requires.bundle.shape c.requires.bundle.none_staged) c.requires.bundle (c.requires.represents told);
}

pub returns-in_err-lengthen-clause-any_moment : goal.returns-in_err-lengthen-clause-any_moment
returns-in_err-lengthen-clause-any_moment g c told =
    roomy_holds c.args.number c.args.bundle (g.D.Disk.view c.args.disk.now) c.new.result (slice_index_or c.next_body.result.lens 0 0) (c.new.ensures ∙ ap (λ k. file_of (owner_of k) Id) c.get.ensures.value)
    (ap (λ (b : Body). slice_index_or b.lens 0 0) c.next_body.ensures.next ∙ first_length c.args.bundle 0 0 0 0 c.requires.bundle.shape c.requires.bundle.none_staged) c.requires.bundle (c.requires.represents told) (g.D.Disk.view c.lengthen.new.disk) (c.lengthen.ensures.any_moment told)

pub returns-clause-any_moment : goal.returns-clause-any_moment
returns-clause-any_moment g c told =
    roomy_holds c.args.number c.args.bundle (g.D.Disk.view c.args.disk.now) c.new.result (slice_index_or c.next_body.result.lens 0 0) (c.new.ensures ∙ ap (λ k. file_of (owner_of k) Id) c.get.ensures.value)
    (ap (λ (b : Body). slice_index_or b.lens 0 0) c.next_body.ensures.next ∙ first_length c.args.bundle 0 0 0 0 c.requires.bundle.shape c.requires.bundle.none_staged) c.requires.bundle (c.requires.represents told) (g.D.Disk.view c.lengthen.new.disk) (c.lengthen.ensures.any_moment told)

pub returns-clause-same : goal.returns-clause-same
returns-clause-same g c told =
    roomy_same c.args.number c.args.bundle (g.D.Disk.view c.args.disk.now) c.new.result (slice_index_or c.next_body.result.lens 0 0) (c.new.ensures ∙ ap (λ k. file_of (owner_of k) Id) c.get.ensures.value)
    (ap (λ (b : Body). slice_index_or b.lens 0 0) c.next_body.ensures.next ∙ first_length c.args.bundle 0 0 0 0 c.requires.bundle.shape c.requires.bundle.none_staged) c.requires.bundle (c.requires.represents told) (g.D.Disk.view c.lengthen.new.disk) (c.lengthen.ensures.any_moment told) (c.in_ok-lengthen.ensures.same told)

pub returns-clause-represents : goal.returns-clause-represents
returns-clause-represents g c told =
    roomy_represents c.args.number c.args.bundle (g.D.Disk.view c.args.disk.now) c.new.result (slice_index_or c.next_body.result.lens 0 0) (c.new.ensures ∙ ap (λ k. file_of (owner_of k) Id) c.get.ensures.value)
    (ap (λ (b : Body). slice_index_or b.lens 0 0) c.next_body.ensures.next ∙ first_length c.args.bundle 0 0 0 0 c.requires.bundle.shape c.requires.bundle.none_staged) c.requires.bundle (c.requires.represents told) (g.D.Disk.view c.lengthen.new.disk) (c.lengthen.ensures.any_moment told) (c.in_ok-lengthen.ensures.durable told)
