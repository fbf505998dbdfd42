use Rattle.std.proofs.Common.{◌≡◌, ◌∙◌, Some, sym, rules}
use Rattle.std.proofs.lemmas.Result.{on_ok_weaker}
use Rattle.std.specs.HashMap.{get}
use Rattle.lsv_disk.specs.Files.{same_file}
use Rattle.lsv_disk.proofs.MemoryLemmas.Found.{Kept, reordered, replaced}
use Rattle.lsv_disk.proofs.MemoryLemmas.Changed.{reaches, write_tied}
use Rattle.lsv_disk.proofs.MemoryLemmas.Noting.{write_legal}
use Rattle.lsv_disk.proofs.memory.change.write.Goals as goal

pub write_at-written-requires-clause-place : goal.write_at-written-requires-clause-place
write_at-written-requires-clause-place c =
    let was : Kept = get same_file c.args.files.now in
    reaches was c.args.calls.now.items c.args.file c.in-Some.content c.args.at (sym (c.in-Some.ensures.value ∙ c.in_ok-reserve.ensures.entries.2 c.args.file)) c.requires.tied c.requires.place

pub returns-clause-tied : goal.returns-clause-tied
returns-clause-tied c =
    let was : Kept = get same_file c.args.files.now in
    let kept : Kept = get same_file c.reserve.new.self in
    let out : Kept = get same_file c.remove.new.self in
    let now : Kept = get same_file c.insert.new.self in
    let content = c.write_at-written.new.content in
    write_tied was now c.args.file content
    (reordered was kept now c.args.file (Some content) c.in_ok-reserve.ensures.entries.2 (replaced kept out now c.args.file (Some content) c.in-Some.ensures.updates.0 c.in_ok-insert.ensures.updates.0))
    c.args.calls.now.items c.write_at-written.new.calls.items c.requires.tied c.in-Some.content (sym (c.in-Some.ensures.value ∙ c.in_ok-reserve.ensures.entries.2 c.args.file))
    c.args.at c.args.bytes.now c.in_ok-copy.copy c.write_at-written.result (search rules) c.write_at-written.ensures.content.0 c.write_at-written.ensures.kept.0 c.write_at-written.ensures.content.1 c.write_at-written.ensures.kept.1

pub returns-clause-kept : goal.returns-clause-kept
returns-clause-kept c =
    let copied : c.in_ok-copy.copy.items ≡ c.args.bytes.now = search rules in
    (on_ok_weaker c.write_at-written.result (λ noted. (c.in_ok-copy.copy, copied, noted)) c.write_at-written.ensures.kept.0, c.write_at-written.ensures.kept.1)

pub returns-clause-legal : goal.returns-clause-legal
returns-clause-legal c =
    let copied : c.in_ok-copy.copy.items ≡ c.args.bytes.now = search rules in
    write_legal c.write_at-written.result c.args.calls.now.items c.write_at-written.new.calls.items c.args.file c.args.at c.args.bytes.now c.requires.place
    (on_ok_weaker c.write_at-written.result (λ noted. (c.in_ok-copy.copy, copied, noted)) c.write_at-written.ensures.kept.0)
    c.write_at-written.ensures.kept.1 c.requires.legal
