-- The log is sent or judged.
use Rattle.std.proofs.Common.{ℕ, List}
use Rattle.lsv_disk.specs.View.{DiskView}
use Rattle.lsv_link.specs.Link.{LinkState}
use Rattle.lsv_kept.proofs.Opening.{reads_as_before}
use Rattle.lsv_forward.specs.Inner.{HandlesNext, HandlesPart, Judges}
use Rattle.lsv_forward.proofs.Drawing.{if_ok_map}
use Rattle.lsv_forward.proofs.Handling.{any_err, next_judged, part_unopened}
use Rattle.lsv_forward.proofs.forward.handle_log.Goals as goal

pub returns-else-next-clause-handles : goal.returns-else-next-clause-handles
returns-else-next-clause-handles g c =
    let old : DiskView = g.D.Disk.view c.args.disk.now in
    let new : DiskView = g.D.Disk.view c.judge_log.new.disk in
    let link : LinkState = g.L.Link.state c.args.link.now in
    let host : List ℕ = c.args.host.now in
    let n : ℕ = c.args.next.number in
    let counts = g.L.Link.counts c.args.link.now in
    if_ok_map c.judge_log.result (λ o. Judges g.D.Disk.tells n o old new) (λ o. HandlesNext g.D.Disk.view host g.D.Disk.tells g.L.Link.tells n c.args.next.reached o old new link link counts counts)
    (λ o judged. next_judged g.D.Disk.view host g.D.Disk.tells g.L.Link.tells n c.args.next.reached o old new link counts c.if-next.false judged) c.judge_log.ensures.judges

pub returns-else-next-clause-part : goal.returns-else-next-clause-part
returns-else-next-clause-part g c =
    let old : DiskView = g.D.Disk.view c.args.disk.now in
    let new : DiskView = g.D.Disk.view c.judge_log.new.disk in
    let link : LinkState = g.L.Link.state c.args.link.now in
    let n : ℕ = c.args.next.number in
    let counts = g.L.Link.counts c.args.link.now in
    any_err c.judge_log.result (HandlesPart g.D.Disk.view c.args.host.now g.D.Disk.tells g.L.Link.tells n old new link link counts counts)
    (part_unopened g.D.Disk.view c.args.host.now g.D.Disk.tells g.L.Link.tells n old new link counts (λ told. reads_as_before n old new (c.judge_log.ensures.reads told)))
