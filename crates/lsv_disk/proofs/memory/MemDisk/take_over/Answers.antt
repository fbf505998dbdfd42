use Rattle.std.proofs.Common.{◌≡◌, ◌∙◌, true, None, sym, rules}
use Rattle.std.proofs.lemmas.Result.{on_ok_weaker}
use Rattle.lsv_disk.specs.Memory.Calls.{reads_of}
use Rattle.lsv_disk.specs.Memory.Stored.{content_of}
use Rattle.lsv_disk.specs.Memory.Images.{may_make}
use Rattle.lsv_disk.proofs.MemoryLemmas.Holding.{held_noted, held_here, held_others}
use Rattle.lsv_disk.proofs.memory.MemDisk.take_over.Goals as goal

pub returns-in-Some-clause-held : goal.returns-in-Some-clause-held
returns-in-Some-clause-held c =
    let absent : reads_of c.args.self.now.calls.items c.args.call.now.file ≡ None = search rules in
    on_ok_weaker c.hold.result (λ noted. held_noted c.args.self.now.calls.items c.hold.new.calls.items c.args.call.now.file c.in-Some.bytes.now noted c.requires.held absent) c.hold.ensures.ok

pub returns-in-Some-clause-taken : goal.returns-in-Some-clause-taken
returns-in-Some-clause-taken c =
    let absent : reads_of c.args.self.now.calls.items c.args.call.now.file ≡ None = search rules in
    let makes : may_make c.args.call.now.effect ≡ true = sym c.may_make.ensures ∙ c.if-not-may_make.false in
    on_ok_weaker c.hold.result
    (λ noted. record {
      here = held_here c.args.self.now.calls.items c.hold.new.calls.items c.args.call.now.file c.in-Some.bytes.now noted (may_make c.args.call.now.effect) (content_of c.args.left.now c.args.call.now.file) makes absent c.in-Some.ensures;
      others = held_others c.args.self.now.calls.items c.hold.new.calls.items c.args.call.now.file c.in-Some.bytes.now noted;
    })
    c.hold.ensures.ok
