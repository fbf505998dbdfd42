use Rattle.std.proofs.Common.{◌≡◌, take}
use Rattle.std.specs.Prelude.{fold}
use Rattle.lsv_search.specs.BadWords.{due_after}
use Rattle.lsv_search.specs.declared.bad.Due.TheVariants.{Search}
use Rattle.lsv_search.proofs.bad.due_at.Given as goal

-- what is due after the words so far
abbrev pub invariant-loop-word : goal.invariant-loop-word
invariant-loop-word l = l.due ≡ fold due_after Search (take l.word-index l.words)
