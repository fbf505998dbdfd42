use Rattle.std.proofs.Common.{◌≡◌, ◌++◌, take}
use Rattle.lsv_load.specs.Numbers.{numbers_told}
use Rattle.lsv_load.proofs.numbering.note.Given as goal

-- the numbers of which the replies so far told are noted
abbrev pub invariant-loop-reply : goal.invariant-loop-reply
invariant-loop-reply l = l.numbers.items ≡ l.initial.numbers.items ++ numbers_told (take l.reply-index l.replies)
