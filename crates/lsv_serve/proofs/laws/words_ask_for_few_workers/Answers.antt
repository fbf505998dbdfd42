use Rattle.lsv_args.specs.Reading.{Serve}
use Rattle.lsv_args.proofs.Asked.{taken_in_range}
use Rattle.lsv_serve.proofs.laws.words_ask_for_few_workers.Goals as goal

pub returns : goal.returns
returns c = λ o asks. let ranges = taken_in_range c.args.words.now (Serve o) asks.taken asks.is in (ranges.least_workers, ranges.most_workers)
