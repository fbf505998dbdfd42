use Rattle.std.proofs.Common.{◌≡◌, false}
use Rattle.lsv_iolog.specs.Value.{is_complete}
use Rattle.lsvt_bench.proofs.logs.fill.Given as goal

-- the log goes on
abbrev pub invariant-loop : goal.invariant-loop
invariant-loop o l = is_complete l.log ≡ false
