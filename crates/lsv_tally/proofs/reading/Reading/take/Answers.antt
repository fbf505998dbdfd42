-- Byte after byte of a block.
use Rattle.std.proofs.Common.{◌≡◌, ◌+◌, ◌++◌, ℕ, List, true, false, take, drop}
use Rattle.lsv_tally.proofs.Lines.{bad_taken, push_taken, taken_fits}
use Rattle.lsv_tally.proofs.reading.Reading.take.Goals as goal

pub returns-then-not-branch-clause-bad : goal.returns-then-not-branch-clause-bad
returns-then-not-branch-clause-bad c text rest fits at e =
    let i : ℕ = c.loop-byte.byte-index in
    let bytes : List ℕ = c.args.bytes.now in
    let is : c.in_ok-put.field-0 ≡ false = cc in
    bad_taken c.put.new.self.lines i text bytes rest c.loop-byte-test.true (c.in_ok-put.ensures.bad (text ++ take i bytes) (drop (i + 1) bytes ++ rest) (c.loop-byte.invariant text fits at) is)

pub loop-byte-preserved : goal.loop-byte-preserved
loop-byte-preserved c text fits at =
    let i : ℕ = c.loop-byte.byte-index in
    let bytes : List ℕ = c.args.bytes.now in
    let is : c.in_ok-put.field-0 ≡ true = cc in
    push_taken c.put.new.self.lines i c.put.new.self.line.items text bytes c.loop-byte-test.true (c.in_ok-put.ensures.more (text ++ take i bytes) (taken_fits i text bytes c.loop-byte-test.true fits) (c.loop-byte.invariant text fits at) is)
