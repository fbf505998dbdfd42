use Rattle.std.proofs.Common.{◌∙◌, ap, map, sym, subst, arith}
use Rattle.std.specs.Str.{IsUtf8}
use Rattle.lsv_replay_args.proofs.Parsed.{texts_more, word_is_text}
use Rattle.lsv_replay_args.proofs.words.texts_of.Goals as goal

pub loop-word-preserved : goal.loop-word-preserved
loop-word-preserved c =
    ap (map (λ t. t.now)) c.in_ok-push.ensures.items
    ∙ texts_more c.loop-word.texts.items c.args.words.now c.loop-word.word-index c.in-Ok.text c.word-item.result (omega arith) c.loop-word.invariant (c.in-Ok.ensures.cases.0 ∙ c.as_slice.ensures) c.word-item.is

pub unreachable-requires : goal.unreachable-requires
unreachable-requires c =
    c.in_default.ensures.cases.0 (subst IsUtf8 (sym (c.as_slice.ensures ∙ c.word-item.is)) (word_is_text c.args.words.now c.loop-word.word-index c.word-item.result c.requires (omega arith)))
