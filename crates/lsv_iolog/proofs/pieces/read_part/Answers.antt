use Rattle.std.proofs.Common.{◌≡◌, ℕ, List, IfOk, take, subst, ◌∙◌, ap}
use Rattle.lsv_defs.specs.Pieces.{piece}
use Rattle.lsv_disk.specs.Bytes.{bytes_of}
use Rattle.lsv_disk.specs.Files.{file_of}
use Rattle.lsv_disk.specs.View.{DiskView}
use Rattle.lsv_bundle.specs.Body.{length_of}
use Rattle.lsv_iolog.specs.Inner.Scanning.{text_of}
use Rattle.lsv_iolog.proofs.Windows.{take_again}
use Rattle.lsv_iolog.proofs.pieces.read_part.Goals as goal

pub returns-clause-bytes : goal.returns-clause-bytes
returns-clause-bytes g c told =
    let disk : DiskView = g.D.Disk.view c.args.disk.now in
    let text : List ℕ = text_of c.args.view.now disk c.args.part in
    let whole : piece text 0 c.committed.result ≡ text =
    ap (λ (n : ℕ). take n text) c.committed.ensures ∙ take_again (length_of c.args.view.now.body c.args.part) (bytes_of (disk.reads (file_of c.args.view.now.owner c.args.part))) in
    subst (λ (xs : List ℕ). IfOk c.read_piece.result (λ bytes. bytes ≡ xs)) whole (c.read_piece.ensures.bytes told)
