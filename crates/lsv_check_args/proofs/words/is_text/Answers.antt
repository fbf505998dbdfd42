use Rattle.std.proofs.Common.{sym}
use Rattle.std.proofs.lemmas.Str.{is_utf8-from_IsUtf8}
use Rattle.lsv_check_args.proofs.Identifiers.{not_text}
use Rattle.lsv_check_args.proofs.words.is_text.Goals as goal

pub returns-in_default : goal.returns-in_default
returns-in_default c = not_text c.args.word.now c.in_default.ensures.cases.0

pub returns : goal.returns
returns c = sym (is_utf8-from_IsUtf8 c.args.word.now c.in-Ok.ensures.cases.1)
