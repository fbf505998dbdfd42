use Rattle.std.proofs.Common.{◌≡◌, ◌-◌, ◌≤◌, length}
use Rattle.lsv_msg.specs.Format.{extended, packed_from}
use Rattle.lsv_msg.proofs.packed.push_packed.Given as goal

-- the numbers so far and those that are left are those of the whole list
abbrev pub invariant-loop-at : goal.invariant-loop-at
invariant-loop-at l = record {
  within : l.at ≤ length l.text;
  same : extended l.numbers (packed_from l.text l.key l.at) ≡ extended l.fn.numbers (packed_from l.text l.key 0);
}

abbrev pub decreases-loop-at : goal.decreases-loop-at
decreases-loop-at l = length l.text - l.at
