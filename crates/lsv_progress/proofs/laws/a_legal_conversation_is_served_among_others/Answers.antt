use Rattle.lsv_progress.proofs.Served.{isnt_shut_among, served_among}
use Rattle.lsv_progress.proofs.laws.a_legal_conversation_is_served_among_others.Goals as goal

pub returns : goal.returns
returns c = record { whole = served_among; part = isnt_shut_among }
