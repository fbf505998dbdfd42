-- The numbers are read, and then the logs are gone through.
use Rattle.std.proofs.Common.{◌≡◌, Some, Result, Ok, Err, IfErr, IsErrAnd, subst, sym}
use Rattle.lsv_disk.specs.View.{DiskView, Image}
use Rattle.lsv_link.specs.Link.{LinkState}
use Rattle.lsv_forward.specs.Numbers.{last_number}
use Rattle.lsv_forward.specs.Run.{HasRunCause}
use Rattle.lsv_forward.specs.declared.fault.ForwardFault.{ForwardFault}
use Rattle.lsv_forward.specs.declared.fault.ForwardFault.TheVariants.{NoMem}
use Rattle.lsv_forward.proofs.Drawing.{same_image}
use Rattle.lsv_forward.proofs.Going.{continues_same, forwards_closed, forwards_since, stops_closed, stops_since}
use Rattle.lsv_forward.proofs.Moments.{unchanged_start}
use Rattle.lsv_forward.proofs.forward.forward_logs.Goals as goal

pub returns-clause-forwards : goal.returns-clause-forwards
returns-clause-forwards g c =
    let old : DiskView = g.D.Disk.view c.args.disk.now in
    let mid : DiskView = g.D.Disk.view c.last_number.new.disk in
    let new : DiskView = g.D.Disk.view c.forward_to.new.disk in
    let link : LinkState = g.L.Link.state c.args.link.now in
    let start = (λ (told : g.D.Disk.tells). unchanged_start old mid (c.last_number.ensures.reads told).unchanged) in
    let last = (λ (told : g.D.Disk.tells). subst (λ (image : Image). last_number image ≡ Some c.in_ok-last.last) (sym (same_image old mid (c.last_number.ensures.reads told))) (c.in_ok-last.ensures.last told)) in
    let counts = g.L.Link.counts c.args.link.now in
    let end = g.L.Link.counts c.forward_to.new.link in
    forwards_closed g.D.Disk.view c.args.host.now g.D.Disk.tells g.L.Link.tells old new link (g.L.Link.state c.close.new.self) (g.L.Link.state c.forward_to.new.link) counts end c.in_ok-forward_to.field-0 c.close.ensures.change
    (forwards_since g.D.Disk.view c.args.host.now g.D.Disk.tells g.L.Link.tells old mid new (g.L.Link.state c.close.new.self) (g.L.Link.state c.forward_to.new.link) counts (g.L.Link.counts c.close.new.self) end c.in_ok-forward_to.field-0 start
    c.forward_to.ensures.touches c.last_number.ensures.monotone (continues_same counts (g.L.Link.counts c.close.new.self) c.close.ensures.same) (c.in_ok-forward_to.ensures.forwards last))

err_is : {T : Type 0} (r : Result T ForwardFault) (P : ForwardFault → Type 0) → IsErrAnd r (λ x. x ≡ NoMem) → P NoMem → IfErr r P
err_is (Ok x) P is p = tt
err_is (Err fault) P is p = subst P (sym is) p

pub returns-in_err-forward_to-clause-early : goal.returns-in_err-forward_to-clause-early
returns-in_err-forward_to-clause-early g c =
    let old : DiskView = g.D.Disk.view c.args.disk.now in
    let mid : DiskView = g.D.Disk.view c.last_number.new.disk in
    let new : DiskView = g.D.Disk.view c.forward_to.new.disk in
    let link : LinkState = g.L.Link.state c.args.link.now in
    let counts = g.L.Link.counts c.args.link.now in
    let end = g.L.Link.counts c.forward_to.new.link in
    err_is c.from_residual-in_err-forward_to.result (λ fault. HasRunCause g.D.Disk.view c.args.host.now g.D.Disk.tells g.L.Link.tells old new link (g.L.Link.state c.forward_to.new.link) counts end fault) c.from_residual-in_err-forward_to.ensures.1
    (stops_closed g.D.Disk.view c.args.host.now g.D.Disk.tells g.L.Link.tells old new link (g.L.Link.state c.close.new.self) (g.L.Link.state c.forward_to.new.link) counts end c.close.ensures.change
    (stops_since g.D.Disk.view c.args.host.now g.D.Disk.tells g.L.Link.tells old mid new (g.L.Link.state c.close.new.self) (g.L.Link.state c.forward_to.new.link) counts (g.L.Link.counts c.close.new.self) end
    (λ told. unchanged_start old mid (c.last_number.ensures.reads told).unchanged) c.forward_to.ensures.touches c.last_number.ensures.monotone (continues_same counts (g.L.Link.counts c.close.new.self) c.close.ensures.same) c.in_err-forward_to.ensures.stops))
