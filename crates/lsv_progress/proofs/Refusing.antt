-- A restart of a log that is no other's is refused.
use Rattle.std.proofs.Common.{◌≡◌, ℕ, [], refl, ◌∙◌, ap, inl, inr, ◌⊎◌}
use Rattle.std.specs.Prelude.{false}
use Rattle.lsv_request.specs.declared.request.Request.TheVariants as request
use Rattle.lsv_request.specs.declared.request.Restart.{Restart}
use Rattle.lsv_session.specs.declared.connection.ConnId.{ConnId}
use Rattle.lsv_machine.specs.Answers.{refusal}
use Rattle.lsv_machine.specs.Failures.{Act, AsksFor, Step, WantsMemory}
use Rattle.lsv_machine.specs.Machine.{Machine, Settings, is_dead}
use Rattle.lsv_machine.specs.Work.{Done, restarted}
use Rattle.lsv_machine.proofs.OutcomeLemmas.{plainly_or}
use Rattle.lsv_progress.specs.Among.{IsHeld, IsHeld.NotYet, IsHeld.Over, IsHeld.Written, why_not}
use Rattle.lsv_progress.proofs.Asked.{asked_does}

restart_refused : (k j : ConnId) (n point : ℕ) (m : Machine) (held : IsHeld k n m) → (restarted j n point m).answers ≡ refusal j (why_not held)
restart_refused k j n point m (NotYet absent free) = rw (free, absent) refl
restart_refused k j n point m (Written owned) = rw owned refl
restart_refused k j n point m (Over stored promised there complete free) = rw (free, there, complete) refl

pub held_refuses : (set : Settings) (old new : Machine) (act : Act) (restart : Restart) (k : ConnId) → Step set old act new → act.failed ≡ [] → is_dead (old.states act.job.conn) ≡ false
    → AsksFor (old.states act.job.conn) act.job.body (request.Restart restart) → (held : IsHeld k restart.log old) → (act.answers ≡ refusal act.job.conn (why_not held)) ⊎ WantsMemory act.job.conn act.answers
held_refuses set old new act restart k step none living asks held = elim (plainly_or set old new act step none) [
  | inl p ↦
      let does = asked_does set act.now act.job.conn act.job.body p.number old (old.states act.job.conn) (request.Restart restart) refl living asks in
      inl (p.answers ∙ (ap (λ (d : Done). d.answers) does ∙ restart_refused k act.job.conn restart.log restart.point old held))
  | inr wants ↦ inr wants
]
