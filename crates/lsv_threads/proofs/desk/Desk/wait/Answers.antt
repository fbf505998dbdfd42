use Rattle.std.proofs.Common.{[], refl, ◌∙◌}
use Rattle.lsv_threads.specs.Desks.{heard}
use Rattle.lsv_threads.proofs.desk.Desk.wait.Goals as goal

pub wait-requires-clause-begun : goal.wait-requires-clause-begun
wait-requires-clause-begun g c = let at = c.requires.at in (at.start, λ lane. [], heard c.args.self.now, at.stands.made c.requires.going)

pub returns-clause-on : goal.returns-clause-on
returns-clause-on g c = record {
  same = record { number_is = refl; endpoint_number = λ e. c.wait.ensures.number; endpoint_lanes = λ e. c.wait.ensures.lanes; queue = refl; joined = refl; stays = λ e. e; continues = c.wait.ensures.continues };
  taken = refl;
  stopped = refl;
  stands = λ start lanes s. record {
    lanes_are = λ e. c.wait.ensures.lanes ∙ s.lanes_are e;
    made = λ e. c.wait.ensures.made start (λ lane. []) (heard c.args.self.now) (s.made e);
    put = λ e. absurd (cc (e, c.requires.going));
  };
}
