use Rattle.std.proofs.Common.{◌≡◌, ◌++◌, take}
use Rattle.lsv_msg.specs.Format.{repeated, text}
use Rattle.lsv_msg.proofs.put.put_texts.Given as goal

abbrev pub invariant-loop-text : goal.invariant-loop-text
invariant-loop-text l = l.out ≡ l.fn.out ++ (repeated l.number text.kind).write (take l.text-index l.texts)
