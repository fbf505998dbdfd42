use Rattle.std.proofs.Common.{◌∙◌, ℕ, List, [], Option, ap, codes, unwrap_or}
use Rattle.std.proofs.lemmas.Result.{IfOk-weaker}
use Rattle.clap.specs.Words.{found_of}
use Rattle.clap.proofs.WalkLemmas.{raw_values-rows}
use Rattle.lsv_replay_args.proofs.request.words_of.Goals as goal

pub returns-in-Some-clause-words : goal.returns-in-Some-clause-words
returns-in-Some-clause-words c =
    IfOk-weaker c.bytes_of.result _ _ (λ words is. is ∙ ap (λ (o : Option (List (List ℕ))). unwrap_or o []) (c.in-Some.ensures ∙ raw_values-rows (found_of c.args.found.now) (codes "words"))) c.bytes_of.ensures.copies

pub returns-in-None-clause-words : goal.returns-in-None-clause-words
returns-in-None-clause-words c = c.new.ensures ∙ ap (λ (o : Option (List (List ℕ))). unwrap_or o []) (c.in-None.ensures ∙ raw_values-rows (found_of c.args.found.now) (codes "words"))
