use Rattle.std.proofs.Common.{◌≡◌, ◌^◌, ◌<◌, take, length}
use Rattle.std.specs.List.{All}
use Rattle.lsv_base.specs.LogNo.{IsDigit, number_of}
use Rattle.lsv_base.proofs.log_no.number_in.Given as goal

abbrev pub invariant-loop-byte : goal.invariant-loop-byte
invariant-loop-byte l = record {
  six : length l.text ≡ 6;
  digits : All IsDigit (take l.byte-index l.text);
  value : l.number ≡ number_of (take l.byte-index l.text);
  bound : l.number < 36 ^ l.byte-index;
}
