-- The number files are read, and then the count of lanes.
use Rattle.std.proofs.Common.{◌≡◌, arith, inl, subst}
use Rattle.lsv_disk.specs.View.{DiskView, Image}
use Rattle.lsv_play.proofs.Played.{same_image}
use Rattle.lsv_check.specs.Checks.{lanes_asked}
use Rattle.lsv_check.proofs.Running.{numbers_wider}
use Rattle.lsv_verdict.specs.Verdicts.{counts_of}
use Rattle.lsv_check.proofs.numbers.see.Goals as goal

pub returns-in-Ok-clause-seen : goal.returns-in-Ok-clause-seen
returns-in-Ok-clause-seen g c told =
    let old : DiskView = g.D.Disk.view c.args.disk.now in
    let mid : DiskView = g.D.Disk.view c.see_numbers-numbers.new.disk in
    let new : DiskView = g.D.Disk.view c.lanes_asked.new.disk in
    let same = same_image old mid (c.see_numbers-numbers.ensures.reads told) in (
      numbers_wider old.reads (counts_of old mid) (counts_of old new) c.see_numbers-numbers.result (record { before = λ f. omega arith; now = c.lanes_asked.ensures.cause.monotone }) (c.see_numbers-numbers.ensures.are told),
      inl (subst (λ (image : Image). c.in-Ok.lanes ≡ lanes_asked c.args.events.now image) same (c.in-Ok.ensures.lanes told)),
    )
