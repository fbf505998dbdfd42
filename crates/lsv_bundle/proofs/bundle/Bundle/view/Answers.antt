-- A data file that is short, as the files read.
use Rattle.std.proofs.Common.{◌≡◌, Some, List, Err, sym, subst, ◌∙◌, ap}
use Rattle.lsv_disk.specs.declared.file.FileId.{FileId}
use Rattle.lsv_disk.specs.declared.file.Part.{Part}
use Rattle.lsv_disk.specs.Files.{file_of}
use Rattle.lsv_journal.specs.Last.{LastAt}
use Rattle.lsv_bundle.specs.declared.fault.BundleFault.TheVariants.{Damaged}
use Rattle.lsv_bundle.specs.Committed.{IsFirstShort}
use Rattle.lsv_bundle.proofs.Results.{same_fault}
use Rattle.lsv_bundle.proofs.Opening.{short_reads, last_by}
use Rattle.lsv_bundle.proofs.bundle.Bundle.view.Goals as goal

pub returns-in_err-check_lengths-clause-damaged : goal.returns-in_err-check_lengths-clause-damaged
returns-in_err-check_lengths-clause-damaged g c told part is =
    let old = g.D.Disk.view c.args.disk.now in
    let mid = g.D.Disk.view c.view.new.disk in
    let same : c.in_err-check_lengths.field-0.0 ≡ Damaged part = same_fault c.from_residual.result c.in_err-check_lengths.field-0.0 (Damaged part) c.from_residual.ensures.1 is in
    let short : IsFirstShort c.args.owner mid.reads c.decode-body.result.lens c.parts.result.now part = c.in_err-check_lengths.ensures.damaged told part (ap Err same) in
    record {
      body = c.decode-body.result;
      entry = record {
        is_body = c.decode-body.ensures.is_body;
        last = subst (λ (f : FileId). LastAt 89 f old.reads ≡ Some c.in-Some.bytes) c.new.ensures (last_by c.in-Ok.last (LastAt 89 c.new.result old.reads) c.in-Some.bytes (c.in-Ok.ensures.last told) c.in-Some.is) ∙ ap Some (sym c.decode-body.ensures.encoded);
      };
      first = subst (λ (ps : List Part). IsFirstShort c.args.owner old.reads c.decode-body.result.lens ps part) c.parts.ensures
          (short_reads c.args.owner mid.reads old.reads c.decode-body.result.lens c.parts.result.now (λ p _. (c.in-Ok.ensures.reads told).unchanged.elsewhere.same (file_of c.args.owner p) (λ none. none)) part short);
    }
