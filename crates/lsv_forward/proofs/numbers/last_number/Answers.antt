-- Lane 0 says how many lanes there are, and all of them are gone through.
use Rattle.std.proofs.Common.{◌≡◌, ℕ, Some, subst}
use Rattle.lsv_disk.specs.View.{DiskView, Image}
use Rattle.lsv_forward.specs.Numbers.{greatest, last_number}
use Rattle.lsv_forward.proofs.Drawing.{if_first_cause, if_numbers_cause, if_ok_map, last_is, same_image}
use Rattle.lsv_forward.proofs.numbers.last_number.Goals as goal

pub returns-clause-last : goal.returns-clause-last
returns-clause-last g c told =
    let old : DiskView = g.D.Disk.view c.args.disk.now in
    let mid : DiskView = g.D.Disk.view c.drawn.new.disk in
    let lanes : ℕ = c.in_ok-lanes.lanes in
    if_ok_map c.greatest.result (λ (n : ℕ). greatest lanes mid.reads ≡ Some n) (λ (n : ℕ). last_number old.reads ≡ Some n)
    (λ n all. last_is old.reads (c.in_ok-lanes.field-0-0, lanes) n (c.in_ok-lanes.ensures.found told) (subst (λ (image : Image). greatest lanes image ≡ Some n) (same_image old mid (c.drawn.ensures.reads told)) all))
    (c.greatest.ensures.last told)

pub returns-clause-cause : goal.returns-clause-cause
returns-clause-cause g c =
    if_numbers_cause c.greatest.result g.D.Disk.tells (g.D.Disk.view c.args.disk.now) (g.D.Disk.view c.drawn.new.disk) (g.D.Disk.view c.greatest.new.disk) (c.in_ok-lanes.field-0-0, c.in_ok-lanes.lanes) c.drawn.ensures.monotone
    c.drawn.ensures.reads (λ told. c.in_ok-lanes.ensures.found told) c.greatest.ensures.cause c.greatest.ensures.lane

pub returns-in_err-lanes-clause-cause : goal.returns-in_err-lanes-clause-cause
returns-in_err-lanes-clause-cause g c =
    if_first_cause c.from_residual.result c.in_err-lanes.field-0.0 c.from_residual.ensures.1 g.D.Disk.tells (g.D.Disk.view c.args.disk.now) (g.D.Disk.view c.drawn.new.disk) c.in_err-lanes.ensures.cause c.in_err-lanes.ensures.lane
