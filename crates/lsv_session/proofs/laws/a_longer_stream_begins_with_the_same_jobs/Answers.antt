use Rattle.lsv_session.proofs.Jobs.{longer}
use Rattle.lsv_session.proofs.laws.a_longer_stream_begins_with_the_same_jobs.Goals as goal

pub returns : goal.returns
returns c = λ bytes more jobs others j o. longer more j o
