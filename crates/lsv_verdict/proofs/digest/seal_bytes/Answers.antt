-- Block after block is fed.
use Rattle.std.proofs.Common.{◌≡◌, ◌∙◌, ◌+◌, ◌≤◌, ℕ, List, replicate, ap, refl, arith}
use Rattle.std.proofs.lemmas.List.{length-replicate}
use Rattle.lsv_disk.specs.View.{DiskView, Image}
use Rattle.lsv_play.proofs.Played.{same_image}
use Rattle.lsv_play.specs.Playing.{text_at}
use Rattle.lsv_verdict.proofs.Feeding.{feeding_goes_on, feeding_starts, read_block, read_count, room_of}
use Rattle.lsv_verdict.proofs.digest.seal_bytes.Goals as goal

pub blocks-2-init : goal.blocks-2-init
blocks-2-init g c = feeding_starts g.D.Disk.tells (text_at c.args.number c.args.body.now (g.D.Disk.view c.args.disk.now).reads c.args.part) (g.D.Disk.view c.args.disk.now) c.args.hasher.now (λ told. g.met.D.Disk.only_now told c.args.disk.now)

pub blocks-2-preserved : goal.blocks-2-preserved
blocks-2-preserved g c =
    let old : DiskView = g.D.Disk.view c.args.disk.now in
    let now : DiskView = g.D.Disk.view c.blocks-2.disk in
    let later : DiskView = g.D.Disk.view c.read.new.disk in
    let text : List ℕ = text_at c.args.number c.args.body.now old.reads c.args.part in
    let text_read : g.D.Disk.tells → List ℕ = λ told. text_at c.get.result c.args.body.now now.reads c.args.part in
    let same_text : (told : g.D.Disk.tells) → text_read told ≡ text = λ told.
    ap (λ (k : ℕ). text_at k c.args.body.now now.reads c.args.part) c.get.ensures.value ∙ ap (λ (image : Image). text_at c.args.number c.args.body.now image c.args.part) (same_image old now (c.blocks-2.invariant.reads told)) in
    let few : c.min-room.result ≤ 16384 = omega (arith, c.min-room.ensures) in
    let room_is = room_of (replicate {A = ℕ} 16384 0) c.min-room.result (length-replicate {A = ℕ} 16384 0) few in
    feeding_goes_on g.D.Disk.tells text _ c.blocks-2.at c.in-Ok.count (c.blocks-2.at + c.in-Ok.count) c.min-room.result old now later c.args.hasher.now c.blocks-2.hasher c.update.new.self c.blocks-2.invariant
    (λ told. c.read.ensures.reads told) c.read.ensures.cause.monotone refl
    (λ told. read_count text (text_read told) c.blocks-2.at c.min-room.result _ c.in-Ok.count (same_text told) room_is (c.in-Ok.ensures.count told))
    (λ told. read_block text (text_read told) c.blocks-2.at c.min-room.result _ c.in-Ok.count c.read.new.buf _ _ (same_text told) room_is (c.in-Ok.ensures.count told) (c.in-Ok.ensures.bytes told))
    (λ m held. c.update.ensures m held)
