use Rattle.std.proofs.Common.{◌∙◌, ap, subst, sym, arith}
use Rattle.std.specs.List.{list_all}
use Rattle.std.specs.Str.{IsUtf8, is_utf8}
use Rattle.lsv_replay_args.proofs.Parsed.{words_more}
use Rattle.lsv_replay_args.proofs.TextWords.{texts_push}
use Rattle.lsv_replay_args.proofs.request.bytes_of.Goals as goal

pub loop-text-preserved : goal.loop-text-preserved
loop-text-preserved c = record {
  copies = words_more c.args.texts.now c.loop-text.words.items c.push.new.self.items c.loop-text.text-index _ c.in_ok-of.field-0 (omega arith) c.loop-text.invariant.copies
      (c.in_ok-of.ensures ∙ c.as_bytes.ensures.value) c.in_ok-push.ensures.items;
  text = ap (list_all is_utf8) c.in_ok-push.ensures.items
      ∙ texts_push c.loop-text.words.items c.in_ok-of.field-0 c.loop-text.invariant.text (subst IsUtf8 (sym c.in_ok-of.ensures) c.as_bytes.ensures.utf8);
}
