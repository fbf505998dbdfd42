use Rattle.lsv_live.specs.Pairs.{AllTaken, IsHearing, IsNoticed}
use Rattle.lsvt_rows_live.proofs.played.settle.Given as goal

abbrev pub invariant-passes : goal.invariant-passes
invariant-passes l = record {
  hearing : IsHearing l.pair;
  taken : AllTaken l.pair × IsNoticed l.pair;
}
