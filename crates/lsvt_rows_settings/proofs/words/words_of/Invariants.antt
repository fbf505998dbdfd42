use Rattle.std.proofs.Common.{◌≡◌, true}
use Rattle.std.specs.List.{list_all}
use Rattle.std.specs.Str.{is_utf8}
use Rattle.lsvt_rows_settings.proofs.words.words_of.Given as goal

-- the words so far are text
abbrev pub invariant-loop-word : goal.invariant-loop-word
invariant-loop-word l = list_all is_utf8 l.words.items ≡ true
