use Rattle.lsv_wire.proofs.Streams.{one_cut, one_over, cut_not_over, begins}
use Rattle.lsv_wire.proofs.laws.one_text_has_one_cutting.Goals as goal

pub returns : goal.returns
returns c = record {
  cut = λ bytes rest other_rest messages others a b. one_cut bytes messages others rest other_rest a b;
  over = one_over;
  one_of_two = λ bytes rest messages others stated a b. cut_not_over bytes messages others rest stated a b;
  always = begins;
}
