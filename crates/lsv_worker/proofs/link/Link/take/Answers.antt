use Rattle.std.proofs.Common.{◌≡◌, refl, rules}
use Rattle.lsv_session.specs.declared.reply.ReplyBody.TheVariants as said
use Rattle.lsv_worker.proofs.FrameLemmas.{port_here}
use Rattle.lsv_worker.proofs.Reading.{quiet_here}
use Rattle.lsv_worker.proofs.link.Link.take.Goals as goal

pub returns-in-Say-clause-takes : goal.returns-in-Say-clause-takes
returns-in-Say-clause-takes g c = λ told conn.
    let body : c.args.reply.now.body ≡ said.Say c.in-Say.message = search rules in
    c.say.ensures.takes c.args.reply.now (g.P.Port.state c.args.port.now) conn body

pub returns-in-Shut-clause-takes : goal.returns-in-Shut-clause-takes
returns-in-Shut-clause-takes g c = λ told conn.
    let body : c.args.reply.now.body ≡ said.Shut = search rules in
    c.take_shut.ensures.takes told c.args.reply.now conn body refl

pub returns-in-Say-clause-quiet : goal.returns-in-Say-clause-quiet
returns-in-Say-clause-quiet g c = λ told. quiet_here (g.P.Port.state c.args.port.now)

pub returns-in-Say-clause-port : goal.returns-in-Say-clause-port
returns-in-Say-clause-port g c = port_here g.P.Port.tells g.P.Port.state g.P.Port.ledger c.args.port.now
