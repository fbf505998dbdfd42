use Rattle.std.proofs.Common.{◌≡◌, ◌++◌, true, false, refl, rules}
use Rattle.lsv_live.proofs.EndLemmas.{stands_said}
use Rattle.lsv_live.proofs.end.End.say.Goals as goal

pub returns-clause-goes : goal.returns-clause-goes
returns-clause-goes c = λ s taken said h.
    let added : c.add.new.self ≡ c.args.self.now.unsent ++ c.args.bytes.now = search rules in
    let cut : c.args.self.now.is_cut ≡ false = search rules in
    let here : c.args.self.now.is_open ≡ true = search rules in
    stands_said c.args.self.now (record c.args.self.now { unsent = c.add.new.self }) s taken said c.args.bytes.now cut here refl added h
