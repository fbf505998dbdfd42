use Rattle.std.proofs.Common.{rules, tests}
use Rattle.std.proofs.lemmas.Iterator.{YieldsList-from_slice}
use Rattle.std.proofs.lemmas.Iterator.Search.{all_from_yields_List}
use Rattle.lsv_seal.specs.Line.{is_hex}
use Rattle.lsv_seal.proofs.line.is_hex_text.Goals as goal

pub returns : goal.returns
returns c = all_from_yields_List is_hex _ _ _ c.all.ensures.ran (YieldsList-from_slice c.args.text.now cc) (λ x b q k. search (rules, tests))
