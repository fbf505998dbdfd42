use Rattle.std.proofs.Common.{◌∙◌, ap, subst, sym}
use Rattle.std.specs.List.{list_all}
use Rattle.std.specs.Str.{IsUtf8, is_utf8}
use Rattle.lsvt_rows_settings.proofs.TextWords.{texts_push}
use Rattle.lsvt_rows_settings.proofs.words.words_of.Goals as goal

pub loop-word-preserved : goal.loop-word-preserved
loop-word-preserved c =
    ap (list_all is_utf8) c.in_ok-push.ensures.items
    ∙ texts_push c.loop-word.words.items c.in_ok-of.field-0 c.loop-word.invariant (subst IsUtf8 (sym c.in_ok-of.ensures) c.as_bytes.ensures.utf8)
