use Rattle.std.proofs.Common.{◌≡◌, ℕ, List, ◌++◌, ap, ◌∙◌, arith, to_z, of_z, w64}
use Rattle.std.proofs.lemmas.Int.{to_z-of_z}
use Rattle.jiff_core.specs.declared.timestamp.Timestamp.{Timestamp}
use Rattle.lsv_event.proofs.Days.{date_written}
use Rattle.lsv_event.proofs.date.put_date.Goals as goal

pub returns : goal.returns
returns c =
    let same : to_z w64 (of_z w64 c.args.time.sec) ≡ c.args.time.sec = grind (arith, to_z-of_z) in
    let at = rw same at c.in-Ok.ensures.value in
    let dated = date_written c.new.result c.to_plain.result _ c.args.time c.new.ensures (ap (λ (t : Timestamp). t.nanosecond) c.to_plain.ensures ∙ at) c.requires c.timestamp_text-text.ensures in
    c.in_ok-extend_from_slice.ensures.items ∙ ap (λ (t : List ℕ). c.args.out.now.items ++ t) (c.as_bytes.ensures.value ∙ (c.deref.ensures.0 ∙ dated))
