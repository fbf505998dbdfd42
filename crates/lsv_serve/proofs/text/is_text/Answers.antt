use Rattle.std.proofs.Common.{◌∙◌, ap}
use Rattle.std.specs.Str.{is_utf8}
use Rattle.lsv_serve.proofs.TextLemmas.{text_told}
use Rattle.lsv_serve.proofs.text.is_text.Goals as goal

pub returns : goal.returns
returns c = c.is_ok.ensures.value ∙ text_told c.from_utf8.result c.as_slice.result.now _ _ c.from_utf8.ensures.cases ∙ ap is_utf8 c.as_slice.ensures
