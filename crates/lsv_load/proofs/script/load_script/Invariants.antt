use Rattle.std.proofs.Common.{◌≡◌}
use Rattle.lsv_load.specs.Load.{all_links}
use Rattle.lsv_load.proofs.script.load_script.Given as goal

-- the links of the conversations so far
abbrev pub invariant-loop-before : goal.invariant-loop-before
invariant-loop-before l = l.steps.items ≡ all_links l.before
