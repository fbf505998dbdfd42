use Rattle.std.proofs.Common.{◌≡◌, map, take}
use Rattle.lsv_replay_args.proofs.words.texts_of.Given as goal

-- the texts so far are the words so far
abbrev pub invariant-loop-word : goal.invariant-loop-word
invariant-loop-word l = map (λ t. t.now) l.texts.items ≡ take l.word-index l.words
