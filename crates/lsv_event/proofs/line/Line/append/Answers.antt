use Rattle.std.proofs.Common.{refl}
use Rattle.std.proofs.lemmas.Result.{on_ok_weaker}
use Rattle.lsv_event.specs.Escapes.{escaped}
use Rattle.lsv_event.proofs.Parts.{has_more}
use Rattle.lsv_event.proofs.line.Line.append.Goals as goal

pub returns : goal.returns
returns c = λ start parts last has. on_ok_weaker c.put_escaped.result (λ is. has_more start parts last (escaped c.args.text.now) c.args.self.now _ is refl has) c.put_escaped.ensures
