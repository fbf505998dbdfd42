-- Block after block of the committed bytes.
use Rattle.std.proofs.Common.{◌≡◌, ◌+◌, ◌<◌, ◌≤◌, ◌^◌, ℕ, List, replicate, ap, arith}
use Rattle.std.proofs.lemmas.List.{length-replicate}
use Rattle.lsv_disk.specs.View.{DiskView}
use Rattle.lsv_play.proofs.Played.{same_image}
use Rattle.lsv_tally.proofs.Going.{at_fits, bad_in, going_on, read_block, read_count, room_of}
use Rattle.lsv_tally.specs.Tallies.{lines_at}
use Rattle.lsv_tally.proofs.look.read_lines.Goals as goal

pub returns-then-not-branch-clause-runs : goal.returns-then-not-branch-clause-runs
returns-then-not-branch-clause-runs g c told there =
    let old : DiskView = g.D.Disk.view c.args.disk.now in
    let now : DiskView = g.D.Disk.view c.blocks-2.disk in
    let later : DiskView = g.D.Disk.view c.read.new.disk in
    let text : List ℕ = lines_at c.args.view.now.owner c.args.view.now.body old.reads in
    let room : ℕ = c.min-room.result in
    let few : room ≤ 16384 = omega (arith, c.min-room.ensures) in
    let same_room = room_of (replicate {A = ℕ} 16384 0) room (length-replicate {A = ℕ} 16384 0) few in
    let same : (told' : g.D.Disk.tells) → lines_at c.args.view.now.owner c.args.view.now.body now.reads ≡ text = λ told'. ap (lines_at c.args.view.now.owner c.args.view.now.body) (same_image old now (c.blocks-2.invariant.reads told')) in
    let fits : c.blocks-2.at + c.in-Ok.count < 2 ^ 64 = at_fits c.blocks-2.at c.in-Ok.count room _ c.args.length c.blocks-2-test.true c.in-Ok.ensures.within same_room (omega (arith, c.min-room.ensures)) (omega (arith, c.ranges.length.fits)) in
    bad_in g.D.Disk.tells text _ c.blocks-2.at c.in-Ok.count room old now later c.blocks-2.reading.lines c.take.new.self.lines c.blocks-2.reading.line.items c.take.new.self.line.items c.blocks-2.invariant
    (λ told'. read_count text (lines_at c.args.view.now.owner c.args.view.now.body now.reads) c.blocks-2.at room _ c.in-Ok.count (same told') same_room (c.in-Ok.ensures.count told'))
    (λ told'. read_block text (lines_at c.args.view.now.owner c.args.view.now.body now.reads) c.blocks-2.at room _ c.in-Ok.count c.read.new.buf _ _ (same told') same_room (c.in-Ok.ensures.count told') (c.in-Ok.ensures.bytes told'))
    told c.in_ok-take.field-0 fits c.if-not-branch.true (λ after short at is. c.in_ok-take.ensures.bad _ after short at is)

pub blocks-2-preserved : goal.blocks-2-preserved
blocks-2-preserved g c =
    let old : DiskView = g.D.Disk.view c.args.disk.now in
    let now : DiskView = g.D.Disk.view c.blocks-2.disk in
    let later : DiskView = g.D.Disk.view c.read.new.disk in
    let text : List ℕ = lines_at c.args.view.now.owner c.args.view.now.body old.reads in
    let room : ℕ = c.min-room.result in
    let few : room ≤ 16384 = omega (arith, c.min-room.ensures) in
    let same_room = room_of (replicate {A = ℕ} 16384 0) room (length-replicate {A = ℕ} 16384 0) few in
    let same : (told' : g.D.Disk.tells) → lines_at c.args.view.now.owner c.args.view.now.body now.reads ≡ text = λ told'. ap (lines_at c.args.view.now.owner c.args.view.now.body) (same_image old now (c.blocks-2.invariant.reads told')) in
    let fits : c.blocks-2.at + c.in-Ok.count < 2 ^ 64 = at_fits c.blocks-2.at c.in-Ok.count room _ c.args.length c.blocks-2-test.true c.in-Ok.ensures.within same_room (omega (arith, c.min-room.ensures)) (omega (arith, c.ranges.length.fits)) in
    going_on g.D.Disk.tells text _ c.blocks-2.at c.in-Ok.count room old now later c.blocks-2.reading.lines c.take.new.self.lines c.blocks-2.reading.line.items c.take.new.self.line.items c.blocks-2.invariant
    (λ told'. read_count text (lines_at c.args.view.now.owner c.args.view.now.body now.reads) c.blocks-2.at room _ c.in-Ok.count (same told') same_room (c.in-Ok.ensures.count told'))
    (λ told'. read_block text (lines_at c.args.view.now.owner c.args.view.now.body now.reads) c.blocks-2.at room _ c.in-Ok.count c.read.new.buf _ _ (same told') same_room (c.in-Ok.ensures.count told') (c.in-Ok.ensures.bytes told'))
    c.in_ok-take.field-0 (λ told'. c.read.ensures.reads told') c.read.ensures.cause.monotone fits c.if-not-branch.false (λ told' short at is. c.in_ok-take.ensures.more _ short at is)
