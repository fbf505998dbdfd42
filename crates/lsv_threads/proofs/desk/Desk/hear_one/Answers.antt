use Rattle.std.proofs.Common.{List, refl, sym, ap, subst, ◌∙◌}
use Rattle.lsv_queue.specs.Passes.{items_of}
use Rattle.lsv_session.specs.declared.reply.Reply.{Reply}
use Rattle.lsv_links.specs.Turns.{replies_to}
use Rattle.lsv_threads.specs.Desks.{heard}
use Rattle.lsv_threads.proofs.Hearing.{heard_other, heard_own, on_dropped, on_nothing}
use Rattle.lsv_threads.proofs.desk.Desk.hear_one.Goals as goal

pub returns-in-Err : goal.returns-in-Err
returns-in-Err g c = record { on = on_nothing g.T.Endpoint c.args.self.now c.get.new.pass c.get.ensures.queue c.get.ensures.joined (ap (replies_to c.args.self.now.number) c.in-Err.ensures.items) }

pub returns-then-self : goal.returns-then-self
returns-then-self g c = record { on = on_dropped g.T.Endpoint c.args.self.now c.get.new.pass c.get.ensures.queue c.get.ensures.joined c.in-Ok.reply c.if-self.true c.in-Ok.ensures.items }

pub returns-then-reply-self : goal.returns-then-reply-self
returns-then-reply-self g c = record {
  on = record {
    same = record { number_is = refl; endpoint_number = λ e. c.take.ensures.number; endpoint_lanes = λ e. c.take.ensures.lanes; queue = c.get.ensures.queue; joined = c.get.ensures.joined; stays = λ e. e; continues = c.take.ensures.continues };
    stopped = refl;
    stands = λ start lanes gave s. record {
      lanes_are = λ e. c.take.ensures.lanes ∙ s.lanes_are e;
      made = λ e.
          subst (λ (l : List Reply). g.T.Endpoint.made_by start c.take.new.self gave l) (sym (heard_own c.args.self.now.number (items_of c.args.self.now.taken.taken.got) (items_of c.get.new.pass.taken.got) c.in-Ok.reply c.in-Ok.ensures.items c.if-reply-self.true))
          (c.take.ensures.made start gave (heard c.args.self.now) (s.made e));
      put = λ e. absurd (cc (e, c.if-self.false));
    };
  };
}

pub returns-in-Ok : goal.returns-in-Ok
returns-in-Ok g c = record {
  on = on_nothing g.T.Endpoint c.args.self.now c.get.new.pass c.get.ensures.queue c.get.ensures.joined
      (heard_other c.args.self.now.number (items_of c.args.self.now.taken.taken.got) (items_of c.get.new.pass.taken.got) c.in-Ok.reply c.in-Ok.ensures.items c.if-reply-self.false);
}
