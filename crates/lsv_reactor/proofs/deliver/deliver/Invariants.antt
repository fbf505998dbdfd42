use Rattle.std.proofs.Common.{◌≡◌, ◌++◌, List, ℕ, length}
use Rattle.std.specs.Vec.Iter.{into_iter_items, into_iter_len}
use Rattle.lsv_port.specs.Ledger.{PortLedger}
use Rattle.lsv_session.specs.declared.job.Job.{Job}
use Rattle.lsv_session.specs.declared.reply.Reply.{Reply}
use Rattle.lsv_reactor.specs.InnerLoop.{ArePosts}
use Rattle.lsv_reactor.proofs.deliver.deliver.Given as goal

abbrev pub invariant-loop-reply : goal.invariant-loop-reply
invariant-loop-reply g l = record {
  items : l.yielded ++ into_iter_items l.reply-iterator ≡ l.fn.replies.items;
  counted : into_iter_len l.reply-iterator ≡ length (into_iter_items l.reply-iterator);
  took : (starts : ℕ → g.T.Endpoint.Start) (ledgers : ℕ → PortLedger) (calls : List (List Job)) (took : List Reply) → ArePosts g.T.Endpoint.number g.T.Endpoint.lanes g.T.Endpoint.view g.T.Endpoint.made_by g.T.Endpoint.called starts ledgers l.fn.posts calls took → ArePosts g.T.Endpoint.number g.T.Endpoint.lanes g.T.Endpoint.view g.T.Endpoint.made_by g.T.Endpoint.called starts ledgers l.posts calls (took ++ l.yielded);
}
