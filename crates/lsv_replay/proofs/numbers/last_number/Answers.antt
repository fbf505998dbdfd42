-- Lane 0 says how many lanes there are, and all of them are gone through.
use Rattle.std.proofs.Common.{◌≡◌, ◌≢◌, ℕ, Some, None, subst}
use Rattle.lsv_disk.specs.View.{DiskView, Image}
use Rattle.lsv_play.proofs.Played.{same_image}
use Rattle.lsv_replay.specs.Numbers.{greatest, last_number}
use Rattle.lsv_replay.specs.declared.fault.ListFault.{ListFault}
use Rattle.lsv_replay.specs.declared.fault.ListFault.TheVariants as faults
use Rattle.lsv_replay.proofs.Cases.{if_err, if_err_map, if_ok_map}
use Rattle.lsv_replay.proofs.Drawing.{last_is, last_none, last_refused}
use Rattle.lsv_replay.proofs.numbers.last_number.Goals as goal

pub returns-in_err-lanes-clause-refused : goal.returns-in_err-lanes-clause-refused
returns-in_err-lanes-clause-refused g c told =
    if_err c.from_residual.result c.in_err-lanes.field-0.0 (λ (e : ListFault). e ≢ faults.Disk → last_number (g.D.Disk.view c.args.disk.now).reads ≡ None) c.from_residual.ensures.1
    (λ other. last_refused (g.D.Disk.view c.args.disk.now).reads (c.in_err-lanes.ensures.refused told other))

pub returns-clause-last : goal.returns-clause-last
returns-clause-last g c told =
    let old : DiskView = g.D.Disk.view c.args.disk.now in
    let mid : DiskView = g.D.Disk.view c.drawn.new.disk in
    let lanes : ℕ = c.in_ok-lanes.lanes in
    if_ok_map c.greatest.result (λ (n : ℕ). greatest lanes mid.reads ≡ Some n) (λ (n : ℕ). last_number old.reads ≡ Some n)
    (λ n all. last_is old.reads (c.in_ok-lanes.field-0-0, lanes) n (c.in_ok-lanes.ensures.found told) (subst (λ (image : Image). greatest lanes image ≡ Some n) (same_image old mid (c.drawn.ensures.reads told)) all))
    (c.greatest.ensures.last told)

pub returns-clause-refused : goal.returns-clause-refused
returns-clause-refused g c told =
    let old : DiskView = g.D.Disk.view c.args.disk.now in
    let mid : DiskView = g.D.Disk.view c.drawn.new.disk in
    let lanes : ℕ = c.in_ok-lanes.lanes in
    if_err_map c.greatest.result (λ (e : ListFault). e ≢ faults.Disk → greatest lanes mid.reads ≡ None) (λ (e : ListFault). e ≢ faults.Disk → last_number old.reads ≡ None)
    (λ e none other. last_none old.reads (c.in_ok-lanes.field-0-0, lanes) (c.in_ok-lanes.ensures.found told) (subst (λ (image : Image). greatest lanes image ≡ None) (same_image old mid (c.drawn.ensures.reads told)) (none other)))
    (c.greatest.ensures.refused told)
