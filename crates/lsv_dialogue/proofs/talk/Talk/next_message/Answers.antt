use Rattle.std.proofs.Common.{◌∙◌, sym, ap, List, ℕ, ◌++◌}
use Rattle.lsv_wire.specs.Frame.{frame_of}
use Rattle.lsv_dialogue.proofs.talk.Talk.next_message.Goals as goal

pub returns-in-Ok-clause-next : goal.returns-in-Ok-clause-next
returns-in-Ok-clause-next c =
    let next = rw c.in-Ok-Some.field-0-is at c.in-Ok-Some.ensures.message in
    record {
      message = c.in-Ok-Some.message.now;
      within = next.0;
      framed = next.1 ∙ ap (λ (x : List ℕ). frame_of c.in-Ok-Some.message.now ++ x) (sym c.consume.ensures);
      reads = c.in-Ok.ensures.message;
    }
