-- The numbers are known, or nothing is put.
use Rattle.std.proofs.Common.{◌≡◌, ◌∙◌, ℕ, List, [], Some, None, Result, Err, append-nil, ap, arith, inl, refl, subst, sym}
use Rattle.lsv_disk.specs.View.{DiskView, Image}
use Rattle.lsv_disk.proofs.Composition.{reads_trans}
use Rattle.lsv_play.proofs.Played.{same_image}
use Rattle.lsv_check_args.specs.Asked.{asked_in}
use Rattle.lsv_replay.specs.declared.fault.ListFault.{ListFault}
use Rattle.lsv_replay.specs.declared.fault.ListFault.TheVariants as lists
use Rattle.lsv_check.specs.Checks.{ChecksBy, count_of}
use Rattle.lsv_verdict.specs.Verdicts.{counts_of}
use Rattle.lsv_check.proofs.Running.{are_unknown, checks_wider, none_checks}
use Rattle.lsv_check.proofs.program.check_store.Goals as goal

err_of : (e fault : ListFault) → e ≡ fault → (let r : Result ℕ ListFault = Err e in r) ≡ Err fault
err_of e fault is = ap (λ (x : ListFault). let r : Result ℕ ListFault = Err x in r) is

pub returns-in-Some-clause-checks : goal.returns-in-Some-clause-checks
returns-in-Some-clause-checks g c told told_too =
    let old : DiskView = g.D.Disk.view c.args.disk.now in
    let asked = asked_in c.args.request.now in
    let counts = counts_of old (g.D.Disk.view c.count_of.new.disk) in
    let ends = c.end_unknown.ensures.ends told_too in (
      ends.0,
      ends.1,
      none_checks asked old.reads counts c.in-Some.numbers c.end_unknown.result ends.0
          (are_unknown asked old.reads counts c.in-Err.fault c.in-Some.numbers (sym c.numbers_at.ensures ∙ c.in-Some.is)
          (λ part e. subst (λ (ids : List ℕ). count_of ids old.reads ≡ None) c.as_slice.ensures (c.in-Err.ensures.refused told part (err_of c.in-Err.fault (lists.Damaged part) e)))
          (λ e. (sym c.as_slice.ensures ∙ c.in-Err.ensures.needed (err_of c.in-Err.fault lists.Disk e), c.in-Err.ensures.cause.risen (err_of c.in-Err.fault lists.Disk e))))
          ends.2,
    )

pub returns-in-None-clause-checks : goal.returns-in-None-clause-checks
returns-in-None-clause-checks g c told told_too = ([], sym (append-nil (g.K.Sink.put c.args.sink.now)), inl refl)

pub returns-in-Ok-clause-checks : goal.returns-in-Ok-clause-checks
returns-in-Ok-clause-checks g c told told_too =
    let old : DiskView = g.D.Disk.view c.args.disk.now in
    let mid : DiskView = g.D.Disk.view c.count_of.new.disk in
    let new : DiskView = g.D.Disk.view c.check_all.new.disk in
    let asked = asked_in c.args.request.now in
    let same = same_image old mid (c.count_of.ensures.reads told) in
    let known = subst (λ (ids : List ℕ). count_of ids mid.reads ≡ Some c.in-Ok.count) c.as_slice.ensures (subst (λ (image : Image). count_of c.as_slice.result.now image ≡ Some c.in-Ok.count) (sym same) (c.in-Ok.ensures.count told)) in
    let puts = c.check_all.ensures.checks told told_too known in (
      puts.0,
      puts.1,
      checks_wider asked old.reads (counts_of mid new) (counts_of old new) (record { before = c.count_of.ensures.cause.monotone; now = λ f. omega arith }) c.check_all.result puts.0
          (subst (λ (image : Image). ChecksBy asked image (counts_of mid new) c.check_all.result puts.0) same puts.2),
    )

pub returns-in-Ok-clause-reads : goal.returns-in-Ok-clause-reads
returns-in-Ok-clause-reads g c told = reads_trans (g.D.Disk.view c.args.disk.now) (g.D.Disk.view c.count_of.new.disk) (g.D.Disk.view c.check_all.new.disk) (c.count_of.ensures.reads told) (c.check_all.ensures.reads told)
