use Rattle.std.proofs.Common.{Some}
use Rattle.std.specs.HashMap.{get}
use Rattle.lsv_disk.specs.Files.{same_file}
use Rattle.lsv_disk.specs.declared.memory.call.Effect.TheVariants.{Made}
use Rattle.lsv_disk.proofs.MemoryLemmas.Found.{Kept, reordered}
use Rattle.lsv_disk.proofs.MemoryLemmas.Changed.{made_tied}
use Rattle.lsv_disk.proofs.MemoryLemmas.Noting.{legal_noted}
use Rattle.lsv_disk.proofs.memory.change.make.Goals as goal

pub returns-clause-tied : goal.returns-clause-tied
returns-clause-tied c =
    let was : Kept = get same_file c.args.files.now in
    let now : Kept = get same_file c.insert.new.self in
    made_tied was now c.args.file c.new.result
    (reordered was (get same_file c.reserve.new.self) now c.args.file (Some c.new.result) c.in_ok-reserve.ensures.entries.2 c.in_ok-insert.ensures.updates.0)
    c.args.calls.now.items c.push.new.self.items c.requires.tied c.new.ensures.items c.in_ok-push.ensures.items

pub returns-clause-legal : goal.returns-clause-legal
returns-clause-legal c = legal_noted c.args.calls.now.items c.push.new.self.items c.args.file Made c.in_ok-push.ensures.items (c.requires.legal c.args.file) c.requires.legal
