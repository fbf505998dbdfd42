-- An endpoint, with the pass by which it takes replies.
use Rattle.std.specs.Prelude.{◌≡◌, ℕ, true, false, List}
use Rattle.lsv_port.specs.Ledger.{Continues}
use Rattle.lsv_queue.specs.Passes.{items_of}
use Rattle.lsv_session.specs.declared.job.Job.{Job}
use Rattle.lsv_session.specs.declared.reply.Reply.{Reply}
use Rattle.lsv_links.specs.Links.{PutsPrefixes}
use Rattle.lsv_links.specs.Turns.{replies_to}
use Rattle.lsv_reactor.specs.declared.endpoint.Endpoint
use Rattle.lsv_threads.specs.declared.desk.Desk.{Desk}

-- the replies to its worker that its pass took
abbrev pub heard : {T : Type 0} → Desk T → List Reply
heard {T} desk = replies_to desk.number (items_of desk.taken.taken.got)

module _ {T : Type 0} (words : Endpoint.Ghosts T) where
  -- The endpoint, of a server of this many lanes, gave these jobs and took the replies to its worker. If it was stopped, its links
  -- are closed, and were served by these up to some point.
  pub record Stands (start : words.Start) (lanes : ℕ) (desk : Desk T) (gave : ℕ → List Job) : Type 0 where
    pub lanes_are : desk.stopped ≡ false → words.lanes desk.endpoint ≡ lanes
    pub made : desk.stopped ≡ false → words.made_by start desk.endpoint gave (heard desk)
    pub put : desk.stopped ≡ true → words.tells → PutsPrefixes lanes desk.number gave (λ lane. heard desk) (words.begun start) (words.view desk.endpoint)

  -- a desk with these jobs in its inboxes
  pub record IsAt (desk : Desk T) (gave : ℕ → List Job) : Type 0 where
    pub start : words.Start
    pub lanes : ℕ
    pub number_is : desk.stopped ≡ false → words.number desk.endpoint ≡ desk.number
    pub stands : Stands start lanes desk gave

  -- a desk at a later time; one that was stopped stays so
  pub record IsSameDesk (old new : Desk T) : Type 0 where
    pub number_is : new.number ≡ old.number
    pub endpoint_number : new.stopped ≡ false → words.number new.endpoint ≡ words.number old.endpoint
    pub endpoint_lanes : new.stopped ≡ false → words.lanes new.endpoint ≡ words.lanes old.endpoint
    pub queue : new.taken.queue ≡ old.taken.queue
    pub joined : new.taken.taken.joined ≡ old.taken.taken.joined
    pub stays : new.stopped ≡ false → old.stopped ≡ false
    pub continues : Continues (words.view old.endpoint).ledger (words.view new.endpoint).ledger

  -- a desk after it took replies, and put no job
  pub record GoesOn (old new : Desk T) : Type 0 where
    pub same : IsSameDesk old new
    pub stopped : new.stopped ≡ old.stopped
    pub stands : (start : words.Start) (lanes : ℕ) (gave : ℕ → List Job) → Stands start lanes old gave → Stands start lanes new gave

  -- a desk after it put jobs, and took no reply: the jobs in its inboxes before, and after
  pub record Puts (old new : Desk T) (before after : ℕ → List Job) : Type 0 where
    pub same : IsSameDesk old new
    pub taken : new.taken ≡ old.taken
    pub stopped : new.stopped ≡ old.stopped
    pub stands : (start : words.Start) (lanes : ℕ) → Stands start lanes old before → Stands start lanes new after
