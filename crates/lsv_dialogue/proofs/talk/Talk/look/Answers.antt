use Rattle.std.proofs.Common.{◌≡◌, length, true, Ok, sym, ◌∙◌, ap, subst}
use Rattle.std.specs.Result.{is_ok}
use Rattle.lsv_dialogue.specs.Stands.{EndsSo}
use Rattle.lsv_dialogue.specs.declared.ends.Cause.TheVariants as causes
use Rattle.lsv_dialogue.specs.declared.ends.Wants.{Wants}
use Rattle.lsv_dialogue.specs.declared.read.Came.TheVariants as came
use Rattle.lsv_dialogue.specs.declared.talk.Talk.{Talk}
use Rattle.lsv_dialogue.proofs.LinkLemmas.{stays_connected}
use Rattle.lsv_dialogue.proofs.LookLemmas.{Looks, look_broke, look_ended, look_failed, look_more, look_silent, refresh_connects}
use Rattle.lsv_dialogue.proofs.ReadLemmas.{came_else, not_true}
use Rattle.lsv_dialogue.proofs.talk.Talk.look.Goals as goal

pub refresh-fresh-requires : goal.refresh-fresh-requires
refresh-fresh-requires g c = record { connected = λ t. stays_connected _ _ (c.requires.speaks.3.stands.holds.stays t) }

pub read_more-requires-clause-connected : goal.read_more-requires-clause-connected
read_more-requires-clause-connected g c = λ t. refresh_connects c.refresh-fresh.result _ _ (λ e. c.refresh-fresh.ensures.renewed e t) c.refresh-fresh.ensures.not (stays_connected _ _ (c.requires.speaks.3.stands.holds.stays t))

pub read_more-requires-clause-room : goal.read_more-requires-clause-room
read_more-requires-clause-room g c = ap (λ (t : Talk). length t.buffer.items) c.refresh-fresh.ensures.talk ∙ c.requires.speaks.3.stands.holds.room

pub returns-in_default-clause-broke : goal.returns-in_default-clause-broke
returns-in_default-clause-broke g c = λ start begun put sp paused.
    let l : Looks (g.S.Speaker.manner start) g.L.Link.tells begun _ _ _ put c.refresh-fresh.result c.args.quiet c.args.self.now c.refresh-fresh.new.self c.read_more.new.self _ _ (g.L.Link.counts c.args.link.now, g.L.Link.state c.args.link.now) (g.L.Link.counts c.refresh-fresh.new.link, g.L.Link.state c.refresh-fresh.new.link) (g.L.Link.counts c.read_more.new.link, g.L.Link.state c.read_more.new.link) = record {
      stands = sp.stands;
      paused = paused;
      partial = c.requires.partial;
      more = c.requires.more;
      fresh_is = c.refresh-fresh.ensures.fresh;
      refreshed = c.refresh-fresh.ensures.talk;
      renews = c.refresh-fresh.ensures.renewed;
      same = c.refresh-fresh.ensures.not;
      counts = c.refresh-fresh.ensures.counts;
      read = c.read_more.ensures.read;
      is = c.read_more.ensures.rest;
      room = c.read_more.ensures.room;
      looked = c.read_more.ensures.counts;
    } in
    look_broke (g.S.Speaker.manner start) g.L.Link.tells begun _ _ _ put c.refresh-fresh.result c.args.quiet c.args.self.now c.refresh-fresh.new.self c.read_more.new.self _ _ (g.L.Link.counts c.args.link.now, g.L.Link.state c.args.link.now) (g.L.Link.counts c.refresh-fresh.new.link, g.L.Link.state c.refresh-fresh.new.link) (g.L.Link.counts c.read_more.new.link, g.L.Link.state c.read_more.new.link) l (λ e. c.in_default.not-Ok came.Failed e) (λ e wait. c.in_default.not-Ok came.Nothing e)

pub returns-in-More-clause-goes : goal.returns-in-More-clause-goes
returns-in-More-clause-goes g c = λ start begun put sp paused.
    let l : Looks (g.S.Speaker.manner start) g.L.Link.tells begun _ _ _ put c.refresh-fresh.result c.args.quiet c.args.self.now c.refresh-fresh.new.self c.read_more.new.self _ _ (g.L.Link.counts c.args.link.now, g.L.Link.state c.args.link.now) (g.L.Link.counts c.refresh-fresh.new.link, g.L.Link.state c.refresh-fresh.new.link) (g.L.Link.counts c.read_more.new.link, g.L.Link.state c.read_more.new.link) = record {
      stands = sp.stands;
      paused = paused;
      partial = c.requires.partial;
      more = c.requires.more;
      fresh_is = c.refresh-fresh.ensures.fresh;
      refreshed = c.refresh-fresh.ensures.talk;
      renews = c.refresh-fresh.ensures.renewed;
      same = c.refresh-fresh.ensures.not;
      counts = c.refresh-fresh.ensures.counts;
      read = c.read_more.ensures.read;
      is = c.read_more.ensures.rest;
      room = c.read_more.ensures.room;
      looked = c.read_more.ensures.counts;
    } in
    record { stands = look_more (g.S.Speaker.manner start) g.L.Link.tells begun _ _ _ put c.refresh-fresh.result c.args.quiet c.args.self.now c.refresh-fresh.new.self c.read_more.new.self _ _ (g.L.Link.counts c.args.link.now, g.L.Link.state c.args.link.now) (g.L.Link.counts c.refresh-fresh.new.link, g.L.Link.state c.refresh-fresh.new.link) (g.L.Link.counts c.read_more.new.link, g.L.Link.state c.read_more.new.link) l (ap is_ok c.in-Ok.is) (λ e. came_else _ _ came.More came.Failed c.in-Ok.is c.in-More.is (λ k. cc) e) (λ e wait. came_else _ _ came.More came.Nothing c.in-Ok.is c.in-More.is (λ k. cc) e); opened = sp.opened }

pub returns-then-not-quiet-clause-goes : goal.returns-then-not-quiet-clause-goes
returns-then-not-quiet-clause-goes g c = λ start begun put sp paused.
    let l : Looks (g.S.Speaker.manner start) g.L.Link.tells begun _ _ _ put c.refresh-fresh.result c.args.quiet c.args.self.now c.refresh-fresh.new.self c.read_more.new.self _ _ (g.L.Link.counts c.args.link.now, g.L.Link.state c.args.link.now) (g.L.Link.counts c.refresh-fresh.new.link, g.L.Link.state c.refresh-fresh.new.link) (g.L.Link.counts c.read_more.new.link, g.L.Link.state c.read_more.new.link) = record {
      stands = sp.stands;
      paused = paused;
      partial = c.requires.partial;
      more = c.requires.more;
      fresh_is = c.refresh-fresh.ensures.fresh;
      refreshed = c.refresh-fresh.ensures.talk;
      renews = c.refresh-fresh.ensures.renewed;
      same = c.refresh-fresh.ensures.not;
      counts = c.refresh-fresh.ensures.counts;
      read = c.read_more.ensures.read;
      is = c.read_more.ensures.rest;
      room = c.read_more.ensures.room;
      looked = c.read_more.ensures.counts;
    } in
    record { stands = look_more (g.S.Speaker.manner start) g.L.Link.tells begun _ _ _ put c.refresh-fresh.result c.args.quiet c.args.self.now c.refresh-fresh.new.self c.read_more.new.self _ _ (g.L.Link.counts c.args.link.now, g.L.Link.state c.args.link.now) (g.L.Link.counts c.refresh-fresh.new.link, g.L.Link.state c.refresh-fresh.new.link) (g.L.Link.counts c.read_more.new.link, g.L.Link.state c.read_more.new.link) l (ap is_ok c.in-Ok.is) (λ e. came_else _ _ came.Nothing came.Failed c.in-Ok.is c.in-Nothing.is (λ k. cc) e) (λ e wait. not_true c.args.quiet c.if-not-quiet.true wait); opened = sp.opened }

pub returns-in-Failed-clause-goes : goal.returns-in-Failed-clause-goes
returns-in-Failed-clause-goes g c = λ start begun put sp paused.
    let l : Looks (g.S.Speaker.manner start) g.L.Link.tells begun _ _ _ put c.refresh-fresh.result c.args.quiet c.args.self.now c.refresh-fresh.new.self c.read_more.new.self _ _ (g.L.Link.counts c.args.link.now, g.L.Link.state c.args.link.now) (g.L.Link.counts c.refresh-fresh.new.link, g.L.Link.state c.refresh-fresh.new.link) (g.L.Link.counts c.read_more.new.link, g.L.Link.state c.read_more.new.link) = record {
      stands = sp.stands;
      paused = paused;
      partial = c.requires.partial;
      more = c.requires.more;
      fresh_is = c.refresh-fresh.ensures.fresh;
      refreshed = c.refresh-fresh.ensures.talk;
      renews = c.refresh-fresh.ensures.renewed;
      same = c.refresh-fresh.ensures.not;
      counts = c.refresh-fresh.ensures.counts;
      read = c.read_more.ensures.read;
      is = c.read_more.ensures.rest;
      room = c.read_more.ensures.room;
      looked = c.read_more.ensures.counts;
    } in
    look_failed (g.S.Speaker.manner start) g.L.Link.tells begun _ _ _ put c.refresh-fresh.result c.args.quiet c.args.self.now c.refresh-fresh.new.self c.read_more.new.self _ _ (g.L.Link.counts c.args.link.now, g.L.Link.state c.args.link.now) (g.L.Link.counts c.refresh-fresh.new.link, g.L.Link.state c.refresh-fresh.new.link) (g.L.Link.counts c.read_more.new.link, g.L.Link.state c.read_more.new.link) l (ap is_ok c.in-Ok.is) (c.in-Ok.is ∙ ap (λ x. Ok x) c.in-Failed.is) (λ e wait. came_else _ _ came.Failed came.Nothing c.in-Ok.is c.in-Failed.is (λ k. cc) e) (c.in-Ok.ensures.none (λ e. absurd (let k : came.Failed ≡ came.More = sym c.in-Failed.is ∙ e in cc))) (λ t. c.in-Ok.ensures.dry t (λ e. absurd (let k : came.Failed ≡ came.More = sym c.in-Failed.is ∙ e in cc))) (c.in-Ok.ensures.failed c.in-Failed.is)

pub returns-in-End-clause-goes : goal.returns-in-End-clause-goes
returns-in-End-clause-goes g c = λ start begun put sp paused.
    let l : Looks (g.S.Speaker.manner start) g.L.Link.tells begun _ _ _ put c.refresh-fresh.result c.args.quiet c.args.self.now c.refresh-fresh.new.self c.read_more.new.self _ _ (g.L.Link.counts c.args.link.now, g.L.Link.state c.args.link.now) (g.L.Link.counts c.refresh-fresh.new.link, g.L.Link.state c.refresh-fresh.new.link) (g.L.Link.counts c.read_more.new.link, g.L.Link.state c.read_more.new.link) = record {
      stands = sp.stands;
      paused = paused;
      partial = c.requires.partial;
      more = c.requires.more;
      fresh_is = c.refresh-fresh.ensures.fresh;
      refreshed = c.refresh-fresh.ensures.talk;
      renews = c.refresh-fresh.ensures.renewed;
      same = c.refresh-fresh.ensures.not;
      counts = c.refresh-fresh.ensures.counts;
      read = c.read_more.ensures.read;
      is = c.read_more.ensures.rest;
      room = c.read_more.ensures.room;
      looked = c.read_more.ensures.counts;
    } in
    look_ended (g.S.Speaker.manner start) g.L.Link.tells begun _ _ _ put c.refresh-fresh.result c.args.quiet c.args.self.now c.refresh-fresh.new.self c.read_more.new.self _ _ (g.L.Link.counts c.args.link.now, g.L.Link.state c.args.link.now) (g.L.Link.counts c.refresh-fresh.new.link, g.L.Link.state c.refresh-fresh.new.link) (g.L.Link.counts c.read_more.new.link, g.L.Link.state c.read_more.new.link) l c.end_of-in-End.result (ap is_ok c.in-Ok.is) (λ e. came_else _ _ came.End came.Failed c.in-Ok.is c.in-End.is (λ k. cc) e) (λ e wait. came_else _ _ came.End came.Nothing c.in-Ok.is c.in-End.is (λ k. cc) e) (c.in-Ok.ensures.none (λ e. absurd (let k : came.End ≡ came.More = sym c.in-End.is ∙ e in cc))) (λ t. c.in-Ok.ensures.ended t c.in-End.is) (subst (λ (x : Wants). EndsSo x true causes.Ended c.read_more.new.self.framer c.end_of-in-End.result) (c.wants-in-End.ensures start) c.end_of-in-End.ensures)

pub returns-else-not-quiet-clause-goes : goal.returns-else-not-quiet-clause-goes
returns-else-not-quiet-clause-goes g c = λ start begun put sp paused.
    let l : Looks (g.S.Speaker.manner start) g.L.Link.tells begun _ _ _ put c.refresh-fresh.result c.args.quiet c.args.self.now c.refresh-fresh.new.self c.read_more.new.self _ _ (g.L.Link.counts c.args.link.now, g.L.Link.state c.args.link.now) (g.L.Link.counts c.refresh-fresh.new.link, g.L.Link.state c.refresh-fresh.new.link) (g.L.Link.counts c.read_more.new.link, g.L.Link.state c.read_more.new.link) = record {
      stands = sp.stands;
      paused = paused;
      partial = c.requires.partial;
      more = c.requires.more;
      fresh_is = c.refresh-fresh.ensures.fresh;
      refreshed = c.refresh-fresh.ensures.talk;
      renews = c.refresh-fresh.ensures.renewed;
      same = c.refresh-fresh.ensures.not;
      counts = c.refresh-fresh.ensures.counts;
      read = c.read_more.ensures.read;
      is = c.read_more.ensures.rest;
      room = c.read_more.ensures.room;
      looked = c.read_more.ensures.counts;
    } in
    look_silent (g.S.Speaker.manner start) g.L.Link.tells begun _ _ _ put c.refresh-fresh.result c.args.quiet c.args.self.now c.refresh-fresh.new.self c.read_more.new.self _ _ (g.L.Link.counts c.args.link.now, g.L.Link.state c.args.link.now) (g.L.Link.counts c.refresh-fresh.new.link, g.L.Link.state c.refresh-fresh.new.link) (g.L.Link.counts c.read_more.new.link, g.L.Link.state c.read_more.new.link) l c.end_of.result (ap is_ok c.in-Ok.is) (λ e. came_else _ _ came.Nothing came.Failed c.in-Ok.is c.in-Nothing.is (λ k. cc) e) c.if-not-quiet.false (c.in-Ok.ensures.none (λ e. absurd (let k : came.Nothing ≡ came.More = sym c.in-Nothing.is ∙ e in cc))) (c.in-Ok.ensures.waited c.in-Nothing.is c.if-not-quiet.false) (subst (λ (x : Wants). EndsSo x c.refresh-fresh.result causes.NotYet c.read_more.new.self.framer c.end_of.result) (c.wants.ensures start) c.end_of.ensures)
