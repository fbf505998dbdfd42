use Rattle.std.proofs.Common.{◌≡◌, [], true, false, refl, subst, ◌∙◌, rules}
use Rattle.lsv_wire.specs.Frame.{frame_of}
use Rattle.lsv_msg.specs.Messages.{server_bytes}
use Rattle.lsv_msg.specs.declared.messages.ServerMessage.{ServerMessage}
use Rattle.lsv_session.specs.Connections.{server_hello}
use Rattle.lsv_worker.specs.Outgoing.{Sends}
use Rattle.lsv_worker.specs.Worker.{IsFresh, setting}
use Rattle.lsv_worker.specs.declared.link.Link.{Link}
use Rattle.lsv_worker.specs.declared.link.Blocked.TheVariants as blocks
use Rattle.lsv_worker.proofs.Speaking.{first_words}
use Rattle.lsv_worker.proofs.worker.Worker.fresh.Goals as goal

pub returns : goal.returns
returns c = λ link is.
    let made : Link = record { number = c.args.number; conn = record { worker = c.args.self.now.number; seq = c.args.self.now.next }; incoming = c.new.result; outgoing = c.say.new.self; live = true; owed = true; shut = false; blocked = blocks.No } in
    let same : made ≡ link = cc in
    let hello : c.in-Ok.hello ≡ server_hello = search rules in
    let words : Sends c.say.new.self [] (frame_of (server_bytes c.in-Ok.hello)) = first_words c.new-outgoing.result c.say.new.self (frame_of (server_bytes c.in-Ok.hello)) c.new-outgoing.ensures.unsent c.new-outgoing.ensures.sending c.say.ensures.goes in
    subst (IsFresh (setting c.args.self.now) c.args.number) same (record {
      number_is = refl;
      conn = refl;
      lanes = c.new.ensures.lanes;
      incoming = c.new.ensures.receives;
      outgoing = subst (λ (m : ServerMessage). Sends c.say.new.self [] (frame_of (server_bytes m))) hello words;
      sending = c.say.ensures.sending c.if-not-say.false ∙ c.new-outgoing.ensures.sending;
      live = refl;
      owed = refl;
      shut = refl;
    })
