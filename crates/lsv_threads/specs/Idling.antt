-- Workers without a thread, turned by another thread.
use Rattle.std.specs.Prelude.{◌≡◌, List, refl}
use Rattle.std.specs.List.{AllZip}
use Rattle.std.proofs.Common.{◌∙◌, subst}
use Rattle.lsv_queue.specs.declared.queue.Queue.{Queue}
use Rattle.lsv_session.specs.declared.job.Job.{Job}
use Rattle.lsv_session.specs.declared.reply.Reply.{Reply}
use Rattle.lsv_threads.specs.Threads.{Went}
use Rattle.lsv_threads.specs.Zips.{zip_same, zip_along}
use Rattle.lsv_reactor.specs.declared.endpoint.Endpoint
use Rattle.lsv_threads.specs.declared.worker_thread.WorkerThread.{WorkerThread}

module _ {T : Type 0} (words : Endpoint.Ghosts T) where
  -- the queues are the same, and each worker is the old one after some steps
  pub record IdleGoes (inboxes : List (Queue Job)) (outs : List (Queue Reply)) (old : List (WorkerThread T)) (inboxes' : List (Queue Job)) (outs' : List (Queue Reply)) (new : List (WorkerThread T)) : Type 0 where
    pub same_inboxes : inboxes' ≡ inboxes
    pub same_outs : outs' ≡ outs
    pub went : AllZip (Went words inboxes outs) old new

  pub went_here : (inboxes : List (Queue Job)) (outs : List (Queue Reply)) (a : List (WorkerThread T)) → AllZip (Went words inboxes outs) a a
  went_here inboxes outs a = zip_same (Went words inboxes outs) (λ x first placed is. is) a

  pub went_through : (inboxes : List (Queue Job)) (outs : List (Queue Reply)) (a b c : List (WorkerThread T)) → AllZip (Went words inboxes outs) a b → AllZip (Went words inboxes outs) b c → AllZip (Went words inboxes outs) a c
  went_through inboxes outs a b c f g = zip_along (Went words inboxes outs) (Went words inboxes outs) (Went words inboxes outs) (λ x y z h k first placed is. k first placed (h first placed is)) a b c f g

  pub idle_here : (inboxes : List (Queue Job)) (outs : List (Queue Reply)) (a : List (WorkerThread T)) → IdleGoes inboxes outs a inboxes outs a
  idle_here inboxes outs a = record { same_inboxes = refl; same_outs = refl; went = went_here inboxes outs a }

  pub idle_through : (i j k : List (Queue Job)) (o p q : List (Queue Reply)) (a b c : List (WorkerThread T)) → IdleGoes i o a j p b → IdleGoes j p b k q c → IdleGoes i o a k q c
  idle_through i j k o p q a b c f g = record {
    same_inboxes = g.same_inboxes ∙ f.same_inboxes;
    same_outs = g.same_outs ∙ f.same_outs;
    went = went_through i o a b c f.went (subst (λ (x : List (Queue Job)). AllZip (Went words x o) b c) f.same_inboxes (subst (λ (y : List (Queue Reply)). AllZip (Went words j y) b c) f.same_outs g.went));
  }
