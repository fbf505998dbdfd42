use Rattle.std.proofs.Common.{◌≡◌, ℕ, ◌-◌, min, List, ◌++◌, length, take, drop, subst, ◌∙◌, ap}
use Rattle.std.specs.Prelude.{slice_index}
use Rattle.lsv_defs.specs.Pieces.{piece}
use Rattle.lsv_disk.specs.declared.file.FileId.{FileId}
use Rattle.lsv_disk.specs.Bytes.{bytes_of}
use Rattle.lsv_disk.specs.Files.{file_of}
use Rattle.lsv_bundle.specs.Body.{length_of}
use Rattle.lsv_bundle.proofs.Reading.{read_bytes}
use Rattle.lsv_bundle.proofs.view.View.read.Goals as goal

pub returns-clause-bytes : goal.returns-clause-bytes
returns-clause-bytes g c told =
    let disk = g.D.Disk.view c.args.disk.now in
    let content : List ℕ = bytes_of (disk.reads (file_of c.args.self.now.owner c.args.part)) in
    let room : c.min-room.result ≡ min (length_of c.args.self.now.body c.args.part - c.args.at) (length c.args.buf.now) =
    c.min-room.ensures ∙ ap (λ (n : ℕ). min n (length c.args.buf.now)) (c.saturating_sub-left.ensures ∙ ap (λ (i : ℕ). slice_index c.args.self.now.body.lens i - c.args.at) c.index_of.ensures.index) in
    read_bytes content c.args.buf.now c.read_at.new.buf (length_of c.args.self.now.body c.args.part) c.args.at c.min-room.result c.in-Ok.count room c.in-Ok.ensures.within
    (subst (λ (f : FileId). c.read_at.new.buf ≡ piece (bytes_of (disk.reads f)) c.args.at (length (take c.min-room.result c.args.buf.now)) ++ drop c.in-Ok.count (take c.min-room.result c.args.buf.now)) c.new.ensures (c.in-Ok.ensures.bytes told))
