use Rattle.lsv_search.proofs.Parsing.{element_there, text_there}
use Rattle.lsv_search.proofs.read.Reader.argument.Goals as goal

pub test_of-requires : goal.test_of-requires
test_of-requires c =
    let l = c.in-Some.ensures.lookup in
    text_there c.args.self.now.words.now c.args.self.now.at c.in-Some.word.now c.requires (element_there c.args.self.now.words.now c.args.self.now.at c.in-Some.word.now l.3.0 l.1)
