use Rattle.lsv_machine.proofs.RunLaws.{job_stands, stands_begun, stands_more, tail_stands}
use Rattle.lsv_machine.proofs.laws.the_invariant_is_kept.Goals as goal

pub returns : goal.returns
returns c = record { job = job_stands; tail = tail_stands; run = stands_more; start = λ set n g texts m s good. stands_begun set n texts g m s good }
