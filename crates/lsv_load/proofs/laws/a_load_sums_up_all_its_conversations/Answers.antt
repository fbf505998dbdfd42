-- The logs that the disk replays now are those that it replayed when all was served.
use Rattle.std.proofs.Common.{◌∙◌, subst}
use Rattle.lsv_disk.specs.View.{DiskView, Image}
use Rattle.lsv_lane.specs.Store.{KeepsStore}
use Rattle.lsv_reactor.specs.declared.rounds.PortsEnd.TheVariants.{Stopped}
use Rattle.lsv_service.specs.Runs.{RunsStore}
use Rattle.lsv_service.specs.declared.run.End.TheVariants.{Over}
use Rattle.lsv_turn.specs.Turns.{replies_in}
use Rattle.lsv_load.specs.Numbers.{numbers_told}
use Rattle.lsv_load.specs.Replayed.{AreReplayed}
use Rattle.lsv_load.specs.Runs.{view_of}
use Rattle.lsv_load.proofs.Adding.{same_image}
use Rattle.lsv_load.proofs.SummingUp.{summary_is}
use Rattle.lsv_load.proofs.laws.a_load_sums_up_all_its_conversations.Goals as goal

pub returns : goal.returns
returns g c = λ set texts count found left tape new_tape small text run told up free.
    let was : DiskView = g.D.Disk.view found in
    let served : DiskView = g.D.Disk.view run.served in
    let kept = run.store.keeps told in
    let keeps : KeepsStore (Unit {0}) set texts (record { found = was; left = served }) run.turns = record { story = kept.story; are = kept.are; conforms = λ x. kept.conforms up; recovers = kept.recovers; spared = kept.spared } in
    let runs : RunsStore g.D.Disk.tells g.G.Tape.tells set texts was served tape new_tape (Over Stopped) run.turns = record { some = tt; timed = run.store.timed; answered = run.store.answered; entry = λ fault is. absurd (cc); taped = run.store.taped; keeps = λ t. keeps } in
    let load = run.ends.load in
    let (logs, are, is) = run.ends.sum told in
    is ∙ summary_is g.D.Disk.tells set texts count small was served run.turns keeps load
    (c.a_legal_conversation_over_a_link_is_served.ensures set texts found run.served tape new_tape Stopped run.turns runs told 0 (view_of load.old) (view_of load.new) load.served.served)
    c.a_generated_conversation_is_legal.ensures.jobs c.a_generated_conversation_is_legal.ensures.legal (λ i few. c.a_generated_conversation_is_legal.ensures.log i texts few)
    (λ l first last. c.a_load_sends_its_conversations.ensures.sent count l small first last) (λ l other. c.a_load_sends_its_conversations.ensures.others count l other) free logs
    (subst (λ (image : Image). AreReplayed image (numbers_told (replies_in run.turns)) logs) (same_image served (g.D.Disk.view left) (run.read told)) are)
