use Rattle.std.proofs.Common.{◌≡◌, Some, ap, ◌∙◌}
use Rattle.lsv_threads.proofs.closing.close.Goals as goal

pub returns-in-Some-clause-over : goal.returns-in-Some-clause-over
returns-in-Some-clause-over g c = λ end e. let same : c.in-Some.end ≡ end = cc in c.whole_end.ensures.over end (c.in-Some.is ∙ ap Some same)
