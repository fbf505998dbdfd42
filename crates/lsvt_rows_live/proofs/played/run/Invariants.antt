use Rattle.lsv_live.specs.Pairs.{AllTaken, IsHearing, IsNoticed}
use Rattle.lsvt_rows_live.proofs.played.run.Given as goal

abbrev pub invariant-turns : goal.invariant-turns
invariant-turns l = record {
  hearing : IsHearing l.pair;
  taken : AllTaken l.pair × IsNoticed l.pair;
}
