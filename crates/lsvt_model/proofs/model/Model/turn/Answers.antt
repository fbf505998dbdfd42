use Rattle.std.proofs.Common.{◌++◌, map, ap, ◌∙◌}
use Rattle.lsv_machine.specs.Answers.{reply_of}
use Rattle.lsv_session.specs.declared.reply.Reply.{Reply}
use Rattle.lsvt_model.specs.Turning.{told}
use Rattle.lsvt_model.specs.Views.{machine_of, settings_of}
use Rattle.std.specs.Prelude.{List}
use Rattle.lsvt_model.proofs.TurnLemmas.{machine_after_turn, replies_in_turn}
use Rattle.lsvt_model.proofs.model.Model.turn.Goals as goal

pub returns-clause-replies : goal.returns-clause-replies
returns-clause-replies g c =
    let set = settings_of c.args.set (g.E.EventLines.line_of c.args.events.now) in
    let on_new : List Reply → List Reply = λ xs. xs ++ map reply_of (told (settings_of c.args.set (g.E.EventLines.line_of c.args.events.now)) c.args.now c.args.jobs.items (machine_of c.args.self.now)) in
    replies_in_turn set c.args.now c.args.jobs.items (machine_of c.args.self.now) (machine_of c.answer_jobs.new.self) (machine_of c.flush_lines.new.self) c.answer_jobs.new.replies.items c.flush_logs.new.replies.items
    (c.in_ok-answer_jobs.ensures.replies ∙ ap on_new c.new-replies.ensures.items) c.in_ok-answer_jobs.ensures.machine c.in_ok-flush_lines.ensures c.in_ok-flush_logs.ensures.replies

pub returns-clause-machine : goal.returns-clause-machine
returns-clause-machine g c =
    let set = settings_of c.args.set (g.E.EventLines.line_of c.args.events.now) in
    machine_after_turn set c.args.now c.args.jobs.items (machine_of c.args.self.now) (machine_of c.answer_jobs.new.self) (machine_of c.flush_lines.new.self) (machine_of c.flush_logs.new.self)
    c.in_ok-answer_jobs.ensures.machine c.in_ok-flush_lines.ensures c.in_ok-flush_logs.ensures.machine
