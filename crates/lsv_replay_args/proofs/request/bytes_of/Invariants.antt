use Rattle.std.proofs.Common.{◌≡◌, map, take, true}
use Rattle.std.specs.List.{list_all}
use Rattle.std.specs.Str.{is_utf8}
use Rattle.lsv_replay_args.proofs.request.bytes_of.Given as goal

-- the words so far are the texts so far, and are text
abbrev pub invariant-loop-text : goal.invariant-loop-text
invariant-loop-text l = record {
  copies : l.words.items ≡ take l.text-index (map (λ t. t.now) l.texts);
  text : list_all is_utf8 l.words.items ≡ true;
}
