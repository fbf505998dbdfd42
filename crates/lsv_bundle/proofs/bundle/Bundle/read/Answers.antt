use Rattle.std.proofs.Common.{◌≡◌, ℕ, ◌-◌, ◌<◌, min, List, ◌++◌, length, take, drop, map, sym, subst, ◌∙◌, ap}
use Rattle.std.specs.Prelude.{slice_index}
use Rattle.lsv_defs.specs.Pieces.{piece}
use Rattle.lsv_bundle.specs.Committed.{committed_bytes}
use Rattle.lsv_disk.specs.declared.file.FileId.{FileId}
use Rattle.lsv_disk.specs.Bytes.{bytes_of}
use Rattle.lsv_disk.specs.Files.{file_of}
use Rattle.lsv_bundle.specs.Shape.{IsPart}
use Rattle.lsv_bundle.specs.Value.{BundleView, committed_length}
use Rattle.lsv_disk.proofs.Composition.{one_read}
use Rattle.lsv_bundle.proofs.Laws.{unchanged_at}
use Rattle.lsv_bundle.proofs.Reading.{committed_here, read_count, read_bytes}
use Rattle.lsv_bundle.proofs.Staging.{index_within}
use Rattle.lsv_bundle.proofs.bundle.Bundle.read.Goals as goal

pub returns-clause-count : goal.returns-clause-count
returns-clause-count g c told =
    let disk = g.D.Disk.view c.args.disk.now in
    let view : BundleView = record { owner = c.self.inside.owner; shape = c.self.inside.shape; last = c.self.inside.last; prepared = c.self.inside.prepared; files = c.self.inside.files.items; is_broken = c.self.inside.is_broken; journal = c.self.inside.journal } in
    let content : List ℕ = bytes_of (disk.reads (file_of view.owner c.args.part)) in
    let part : IsPart view.shape c.args.part = subst (λ (b : BundleView). IsPart b.shape c.args.part) (sym c.self.view_is) c.requires.part in
    let within : c.index_of.result < length view.files = subst (λ (i : ℕ). i < length view.files) (sym c.index_of.ensures.index) (index_within view.shape view.files c.args.part c.self.invariant.parts part) in
    let counts : committed_length view c.args.part ≡ c.index.result.now.committed =
    ap (λ (i : ℕ). slice_index (map (λ f. f.committed) view.files) i) (sym c.index_of.ensures.index) ∙ committed_here view.files c.index_of.result c.index.result.now within c.index.ensures in
    let room : c.min-room.result ≡ min (committed_length view c.args.part - c.args.at) (length c.args.buf.now) =
    c.min-room.ensures ∙ ap (λ (n : ℕ). min n (length c.args.buf.now)) (c.committed_from-left.ensures ∙ ap (λ (n : ℕ). n - c.args.at) (sym counts)) in
    subst (λ (b : BundleView). c.in-Ok.count ≡ length (piece (committed_bytes b disk c.args.part) c.args.at (length c.args.buf.now))) c.self.view_is
    (read_count content c.args.buf.now c.read_at.new.buf (committed_length view c.args.part) c.args.at c.min-room.result c.in-Ok.count room
    (subst (λ (f : FileId). c.in-Ok.count ≡ length (piece (bytes_of (disk.reads f)) c.args.at (length (take c.min-room.result c.args.buf.now)))) c.new-file.ensures (c.in-Ok.ensures.count told)))

pub returns-clause-bytes : goal.returns-clause-bytes
returns-clause-bytes g c told =
    let disk = g.D.Disk.view c.args.disk.now in
    let view : BundleView = record { owner = c.self.inside.owner; shape = c.self.inside.shape; last = c.self.inside.last; prepared = c.self.inside.prepared; files = c.self.inside.files.items; is_broken = c.self.inside.is_broken; journal = c.self.inside.journal } in
    let content : List ℕ = bytes_of (disk.reads (file_of view.owner c.args.part)) in
    let part : IsPart view.shape c.args.part = subst (λ (b : BundleView). IsPart b.shape c.args.part) (sym c.self.view_is) c.requires.part in
    let within : c.index_of.result < length view.files = subst (λ (i : ℕ). i < length view.files) (sym c.index_of.ensures.index) (index_within view.shape view.files c.args.part c.self.invariant.parts part) in
    let counts : committed_length view c.args.part ≡ c.index.result.now.committed =
    ap (λ (i : ℕ). slice_index (map (λ f. f.committed) view.files) i) (sym c.index_of.ensures.index) ∙ committed_here view.files c.index_of.result c.index.result.now within c.index.ensures in
    let room : c.min-room.result ≡ min (committed_length view c.args.part - c.args.at) (length c.args.buf.now) =
    c.min-room.ensures ∙ ap (λ (n : ℕ). min n (length c.args.buf.now)) (c.committed_from-left.ensures ∙ ap (λ (n : ℕ). n - c.args.at) (sym counts)) in
    subst (λ (b : BundleView). c.read_at.new.buf ++ drop c.min-room.result c.args.buf.now ≡ piece (committed_bytes b disk c.args.part) c.args.at (length c.args.buf.now) ++ drop c.in-Ok.count c.args.buf.now) c.self.view_is
    (read_bytes content c.args.buf.now c.read_at.new.buf (committed_length view c.args.part) c.args.at c.min-room.result c.in-Ok.count room c.in-Ok.ensures.within
    (subst (λ (f : FileId). c.read_at.new.buf ≡ piece (bytes_of (disk.reads f)) c.args.at (length (take c.min-room.result c.args.buf.now)) ++ drop c.in-Ok.count (take c.min-room.result c.args.buf.now)) c.new-file.ensures (c.in-Ok.ensures.bytes told)))

pub returns-clause-represents : goal.returns-clause-represents
returns-clause-represents g c told whole =
    unchanged_at c.args.self.now (g.D.Disk.view c.args.disk.now) (g.D.Disk.view c.read_at.new.self) (c.in-Ok.ensures.frame told).quiet (c.requires.represents told whole)

pub returns-clause-reads : goal.returns-clause-reads
returns-clause-reads g c told =
    let only = g.met.D.Disk.only_now told in
    one_read (g.D.Disk.view c.args.disk.now) (g.D.Disk.view c.read_at.new.self) (c.in-Ok.ensures.frame told) (only c.args.disk.now) (only c.read_at.new.self)
