use Rattle.std.proofs.Common.{◌++◌, List}
use Rattle.std.proofs.lemmas.Result.{IfOk-weaker}
use Rattle.lsv_dialogue.specs.Events.{Event}
use Rattle.lsv_send.proofs.Exits.{at_exit}
use Rattle.lsv_iolog.specs.declared.fault.ViewFault.{ViewFault}
use Rattle.lsv_send.specs.Faults.{IsStuck}
use Rattle.lsv_send.specs.Handing.{Source}
use Rattle.lsv_send.specs.Talks.{IsOf, Told, start_at}
use Rattle.lsv_send.proofs.Batches.{at_fault, by_fault, faulty_exit, faulty_records, none_by, not_past, past_taken, some_by, told_end, whole_taken}
use Rattle.lsv_send.proofs.Telling.{told_records}
use Rattle.lsv_send.proofs.sender.Sender.hand_records.Goals as goal

pub returns-then-is_empty-clause-told : goal.returns-then-is_empty-clause-told
returns-then-is_empty-clause-told g c = λ d. IfOk-weaker c.say_ending.result _ _
    (λ ms ends source begun events is t.
    told_end (start_at source (g.D.Disk.view begun)) c.args.self.now c.say_ending.new.self c.next_messages.new.log _ _ _ events ms is c.requires.place c.next_messages.ensures.same.0 c.next_messages.ensures.same.2
    (c.next_messages.ensures.reads d) (c.say_ending.ensures.reads d) ends t
    (whole_taken (start_at source (g.D.Disk.view begun)) c.args.self.now c.next_messages.new.log _ _ events c.in_ok-batch.batch c.args.most c.most-most.result c.requires.some is c.requires.place c.next_messages.ensures.same.0 c.next_messages.ensures.same.2
    (c.next_messages.ensures.reads d) (c.in_ok-batch.ensures.gives d) c.most-most.ensures (none_by c.in_ok-batch.batch.messages _ _ c.as_slice.ensures c.is_empty.ensures c.if-is_empty.true) t))
    (c.say_ending.ensures.ends d)

pub returns-then-is_empty-clause-stuck : goal.returns-then-is_empty-clause-stuck
returns-then-is_empty-clause-stuck g c = λ d. by_fault c.say_ending.result _ c.say_ending.ensures.fault (λ source begun events is t. tt) (λ source begun events is t. tt)
    (λ part e source begun events is t.
    faulty_exit (start_at source (g.D.Disk.view begun)) c.args.self.now c.next_messages.new.log _ _ events part is c.requires.place c.next_messages.ensures.same.0 c.next_messages.ensures.same.2 (c.next_messages.ensures.reads d) t
    (whole_taken (start_at source (g.D.Disk.view begun)) c.args.self.now c.next_messages.new.log _ _ events c.in_ok-batch.batch c.args.most c.most-most.result c.requires.some is c.requires.place c.next_messages.ensures.same.0 c.next_messages.ensures.same.2
    (c.next_messages.ensures.reads d) (c.in_ok-batch.ensures.gives d) c.most-most.ensures (none_by c.in_ok-batch.batch.messages _ _ c.as_slice.ensures c.is_empty.ensures c.if-is_empty.true) t)
    (c.say_ending.ensures.damaged d part e))

pub returns-in_err-batch-clause-stuck : goal.returns-in_err-batch-clause-stuck
returns-in_err-batch-clause-stuck g c = λ d. at_exit _ c.from_residual.result c.in_err-batch.field-0.0 c.from_residual.ensures.1
    (at_fault c.next_messages.result c.in_err-batch.field-0.0
    (λ (fault : ViewFault). (source : Source) (begun : g.row.D.Denot) (events : List Event) → IsOf source c.args.self.now → (t : Told (start_at source (g.D.Disk.view begun)) c.args.self.now (g.D.Disk.view c.args.disk.now) events) → IsStuck source (g.D.Disk.view begun).reads (source.skipped ++ t.hands.more) fault)
    c.in_err-batch.was
    (by_fault c.next_messages.result _ c.next_messages.ensures.fault (λ source begun events is t. tt) (λ source begun events is t. tt)
    (λ part e source begun events is t. faulty_records (start_at source (g.D.Disk.view begun)) c.args.self.now (g.D.Disk.view c.args.disk.now) events part is c.requires.place (c.next_messages.ensures.damaged d part e) t)))

pub returns-then-is_past-clause-told : goal.returns-then-is_past-clause-told
returns-then-is_past-clause-told g c = λ d. IfOk-weaker c.say_ending-then-is_past.result _ _
    (λ ms ends source begun events is t.
    told_end (start_at source (g.D.Disk.view begun)) c.args.self.now c.say_ending-then-is_past.new.self c.next_messages.new.log _ _ _ events ms is c.requires.place c.next_messages.ensures.same.0 c.next_messages.ensures.same.2
    (c.next_messages.ensures.reads d) (c.say_ending-then-is_past.ensures.reads d) ends t
    (past_taken (start_at source (g.D.Disk.view begun)) c.args.self.now c.next_messages.new.log _ _ events c.in_ok-batch.batch c.args.most c.most-most.result c.saturating_add-through.result is c.requires.place c.next_messages.ensures.same.0 c.next_messages.ensures.same.2
    (c.next_messages.ensures.reads d) (c.in_ok-batch.ensures.gives d) c.most-most.ensures c.in_ok-batch.ensures.few.1 (some_by c.in_ok-batch.batch.messages _ _ c.as_slice.ensures c.is_empty.ensures c.if-is_empty.false)
    c.saturating_add-through.ensures (c.is_past.ensures.0 c.if-is_past.true) t))
    (c.say_ending-then-is_past.ensures.ends d)

pub returns-then-is_past-clause-stuck : goal.returns-then-is_past-clause-stuck
returns-then-is_past-clause-stuck g c = λ d. by_fault c.say_ending-then-is_past.result _ c.say_ending-then-is_past.ensures.fault (λ source begun events is t. tt) (λ source begun events is t. tt)
    (λ part e source begun events is t.
    faulty_exit (start_at source (g.D.Disk.view begun)) c.args.self.now c.next_messages.new.log _ _ events part is c.requires.place c.next_messages.ensures.same.0 c.next_messages.ensures.same.2 (c.next_messages.ensures.reads d) t
    (past_taken (start_at source (g.D.Disk.view begun)) c.args.self.now c.next_messages.new.log _ _ events c.in_ok-batch.batch c.args.most c.most-most.result c.saturating_add-through.result is c.requires.place c.next_messages.ensures.same.0 c.next_messages.ensures.same.2
    (c.next_messages.ensures.reads d) (c.in_ok-batch.ensures.gives d) c.most-most.ensures c.in_ok-batch.ensures.few.1 (some_by c.in_ok-batch.batch.messages _ _ c.as_slice.ensures c.is_empty.ensures c.if-is_empty.false)
    c.saturating_add-through.ensures (c.is_past.ensures.0 c.if-is_past.true) t)
    (c.say_ending-then-is_past.ensures.damaged d part e))

pub returns-clause-told : goal.returns-clause-told
returns-clause-told g c = λ d source begun events is t.
    told_records (start_at source (g.D.Disk.view begun)) c.args.self.now c.next_messages.new.log _ _ events c.in_ok-batch.batch c.most-most.result c.saturating_add-through.result is c.requires.place c.next_messages.ensures.same.0 c.next_messages.ensures.same.2
    (c.next_messages.ensures.reads d) (c.in_ok-batch.ensures.gives d) (some_by c.in_ok-batch.batch.messages _ _ c.as_slice.ensures c.is_empty.ensures c.if-is_empty.false) c.saturating_add-through.ensures (λ past. not_past c.is_past.result _ c.is_past.ensures past c.if-is_past.false) t
