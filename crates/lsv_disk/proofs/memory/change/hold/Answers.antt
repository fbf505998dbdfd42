use Rattle.std.proofs.Common.{◌≡◌, ◌∙◌, Some, sym, rules}
use Rattle.std.specs.HashMap.{get}
use Rattle.lsv_disk.specs.Files.{same_file}
use Rattle.lsv_disk.specs.declared.memory.call.Effect.TheVariants.{Held}
use Rattle.lsv_disk.proofs.MemoryLemmas.Found.{Kept, reordered}
use Rattle.lsv_disk.proofs.MemoryLemmas.Changed.{held_tied}
use Rattle.lsv_disk.proofs.MemoryLemmas.Noting.{legal_noted}
use Rattle.lsv_disk.proofs.memory.change.hold.Goals as goal

pub returns-clause-tied : goal.returns-clause-tied
returns-clause-tied c =
    let copied : c.in_ok-copy.copy.items ≡ c.args.bytes.now = search rules in
    let same : c.in_ok-content.content.items ≡ c.args.bytes.now = search rules in
    let was : Kept = get same_file c.args.files.now in
    let now : Kept = get same_file c.insert.new.self in
    held_tied was now c.args.file c.in_ok-content.content
    (reordered was (get same_file c.reserve.new.self) now c.args.file (Some c.in_ok-content.content) c.in_ok-reserve.ensures.entries.2 c.in_ok-insert.ensures.updates.0)
    c.args.calls.now.items c.push.new.self.items c.requires.tied c.in_ok-copy.copy (copied ∙ sym same) c.in_ok-push.ensures.items

pub returns-clause-legal : goal.returns-clause-legal
returns-clause-legal c = legal_noted c.args.calls.now.items c.push.new.self.items c.args.file (Held c.in_ok-copy.copy) c.in_ok-push.ensures.items (c.requires.legal c.args.file) c.requires.legal

pub returns-clause-ok : goal.returns-clause-ok
returns-clause-ok c = (c.in_ok-copy.copy, search rules, c.in_ok-push.ensures.items)
