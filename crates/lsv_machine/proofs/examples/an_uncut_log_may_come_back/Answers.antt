use Rattle.std.proofs.Common.{refl}
use Rattle.lsv_machine.proofs.Cases.{cut_reads, cut_within, goes_on, uncut_lost, uncut_within}
use Rattle.lsv_machine.proofs.examples.an_uncut_log_may_come_back.Goals as goal

pub returns : goal.returns
returns c = record { within = uncut_within; also = cut_within; goes_on = goes_on; reads = cut_reads; lost = uncut_lost; unsettled = refl; no_answer = refl; settled = refl }
