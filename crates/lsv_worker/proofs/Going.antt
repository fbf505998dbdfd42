-- Calls of a worker, one after another.
use Rattle.std.proofs.Common.{◌≡◌, ℕ, true, List, refl, ap, ◌∙◌, arith}
use Rattle.lsv_port.specs.Port.{PortState}
use Rattle.lsv_port.specs.declared.port.Ready.{Ready}
use Rattle.lsv_port.specs.declared.port.Ready.TheVariants.{Opened, Readable, Writable, Woken, Stop}
use Rattle.lsv_session.specs.declared.job.Job.{Job}
use Rattle.lsv_session.specs.declared.reply.Reply.{Reply}
use Rattle.lsv_worker.specs.Links.{reads_in}
use Rattle.lsv_worker.specs.Worker.{Goes, IsAt, IsSameWorker, Represents, Setting, phase_after, setting}
use Rattle.lsv_worker.specs.declared.worker.Worker.{Worker}

pub reads_after : (ready : Ready) → reads_in (phase_after ready) ≡ true
reads_after (Opened l) = refl
reads_after (Readable l) = refl
reads_after (Writable l) = refl
reads_after Woken = refl
reads_after Stop = refl

pub same_set : (old new : Worker) → setting new ≡ setting old → IsSameWorker old new
same_set old new e = record {
  number = ap (λ (s : Setting). s.number) e;
  lanes = ap (λ (s : Setting). s.lanes) e;
  next = let is : new.next ≡ old.next = ap (λ (s : Setting). s.next) e in omega arith;
}

pub same_then : (a b c : Worker) → IsSameWorker a b → IsSameWorker b c → IsSameWorker a c
same_then a b c x y = record { number = y.number ∙ x.number; lanes = y.lanes ∙ x.lanes; next = omega (arith, x.next, y.next) }

pub goes_after : (a b c : Worker) (s t u : PortState) (p q : ℕ → List Job) → ((jobs : ℕ → List Job) (replies : List Reply) → Represents a s jobs replies → Represents b t jobs replies) → Goes b c t u p q → Goes a c s u p q
goes_after a b c s t u p q first then = record { added = then.added; put = then.put; goes = λ jobs replies h. then.goes jobs replies (first jobs replies h) }

pub at_after : (a b : Worker) (s t : PortState) → ((jobs : ℕ → List Job) (replies : List Reply) → Represents a s jobs replies → Represents b t jobs replies) → IsAt a s → IsAt b t
at_after a b s t on at = record { jobs = at.jobs; replies = at.replies; represents = on at.jobs at.replies at.represents }
