use Rattle.std.proofs.Common.{◌≡◌, ◌∙◌, List, ℕ, Option, Some, Vec, Global, option_map, ap}
use Rattle.std.specs.HashMap.{get}
use Rattle.lsv_disk.specs.Files.{same_file}
use Rattle.lsv_disk.specs.Memory.Images.{left_next}
use Rattle.lsv_disk.proofs.MemoryLemmas.Found.{Kept, replaced, goes_on}
use Rattle.lsv_disk.proofs.memory.image.left_by_call.Goals as goal

pub returns-in_ok-insert : goal.returns-in_ok-insert
returns-in_ok-insert c =
    let file = c.args.call.now.file in
    let next : Option (List ℕ) → Option (List ℕ) = left_next c.args.fill c.args.call.now.effect in
    let was : Kept = get same_file c.args.left.now in
    let out : Kept = get same_file c.remove-content.new.self in
    let now : Kept = get same_file c.insert.new.self in
    let read : Some c.in-Some.bytes.items ≡ next (option_map (λ v. v.items) c.remove-content.result) = rw c.in-Some.is at c.in_ok-bytes.ensures in
    goes_on was now file (Some c.in-Some.bytes) next
    (replaced was out now file (Some c.in-Some.bytes) c.remove-content.ensures.updates.0 c.in_ok-insert.ensures.updates.0)
    (read ∙ ap (λ (o : Option (Vec ℕ Global)). next (option_map (λ v. v.items) o)) c.remove-content.ensures.value)
