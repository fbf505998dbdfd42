use Rattle.std.proofs.Common.{string_bytes, ap, ◌∙◌, Ok, ◌++◌}
use Rattle.serde_json.specs.View.{view, members_view}
use Rattle.lsv_info.specs.Reading.{and_then, entries_in}
use Rattle.lsv_info.proofs.Reading.{entry_read}
use Rattle.lsv_info.proofs.read.entries_in.Goals as goal

pub loop-key-preserved : goal.loop-key-preserved
loop-key-preserved c =
    let l = c.loop-key in
    let before = l.invariant ∙ ap (λ es. and_then (entries_in (members_view es)) (λ more. Ok (l.entries.items ++ more))) c.in-Some.ensures.steps in
    let read = entry_read _ l.entries.items (string_bytes c.in-Some.key) _ (view c.in-Some.json) c.in_ok-value.value _ (members_view c.next.new.self) before c.in_ok-value.ensures c.in_ok-value_in.ensures in
    rw (c.in_ok-push.ensures.items, c.from_vec-key.ensures, c.into_bytes.ensures.value) read
