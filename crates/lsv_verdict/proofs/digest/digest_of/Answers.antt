use Rattle.std.proofs.Common.{◌++◌, List, [], Some, ap, subst}
use Rattle.sha2.specs.Hashers.{Holds256}
use Rattle.lsv_base.specs.LogNo.{digits_of}
use Rattle.lsv_disk.specs.View.{DiskView}
use Rattle.lsv_disk.specs.declared.file.Part.{Part}
use Rattle.lsv_verdict.specs.Sealed.{sealed_parts}
use Rattle.lsv_verdict.proofs.digest.digest_of.Goals as goal

pub returns-then-branch-clause-digest : goal.returns-then-branch-clause-digest
returns-then-branch-clause-digest g c told there =
    let old : DiskView = g.D.Disk.view c.args.disk.now in
    let begun : Holds256 c.update.new.self (digits_of c.args.number) = subst (Holds256 c.update.new.self) c.digits.ensures (c.update.ensures [] c.new-hasher.ensures) in
    let fed = (c.in_ok-seal_parts.ensures.sealed told there).1 (digits_of c.args.number) begun in
    ap Some (c.finalize.ensures _ (subst (λ (parts : List Part). Holds256 c.seal_parts.new.hasher (digits_of c.args.number ++ sealed_parts old.reads c.args.number c.args.body.now parts)) c.parts.ensures fed))
