use Rattle.lsv_verdict.proofs.text.bytes_in.Goals as goal

pub returns : goal.returns
returns c = cc
