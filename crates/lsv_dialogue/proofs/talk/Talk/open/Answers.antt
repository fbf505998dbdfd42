use Rattle.std.proofs.Common.{List, length, ap, subst, arith, inl}
use Rattle.std.proofs.lemmas.Result.{IfErr-weaker, IfOk-weaker}
use Rattle.lsv_msg.specs.declared.messages.ClientMessage.{ClientMessage}
use Rattle.lsv_dialogue.specs.Stands.{SaidSo, Sends}
use Rattle.lsv_dialogue.specs.declared.talk.Spoken.{Spoken}
use Rattle.lsv_dialogue.proofs.OpenLemmas.{fresh_connects, new_fewer, new_partial, opening_failed, opening_said, opening_unput}
use Rattle.lsv_dialogue.proofs.ReadLemmas.{at_exit}
use Rattle.lsv_dialogue.proofs.talk.Talk.open.Goals as goal

pub returns-in-Err-clause-broke : goal.returns-in-Err-clause-broke
returns-in-Err-clause-broke g c = λ start talks. opening_failed (g.S.Speaker.manner start) g.L.Link.tells (g.L.Link.counts c.args.link.now, g.L.Link.state c.args.link.now) c.args.self.now _ _ _ _ (g.L.Link.counts c.args.link.now, g.L.Link.state c.args.link.now) talks c.requires.fresh c.requires.new c.in-Err.fault (c.in-Err.ensures.fails start talks)

pub put-requires-clause-connected : goal.put-requires-clause-connected
put-requires-clause-connected g c = λ t. fresh_connects _ (c.requires.fresh t)

pub put-requires-clause-few : goal.put-requires-clause-few
put-requires-clause-few g c =
    let few = c.in-Ok.ensures.few in
    let same = ap (λ (ms : List ClientMessage). length ms) c.as_slice.ensures in
    omega (arith, few, same)

pub returns-in_default-clause-broke : goal.returns-in_default-clause-broke
returns-in_default-clause-broke g c = λ start talks. opening_unput (g.S.Speaker.manner start) g.L.Link.tells (g.L.Link.counts c.args.link.now, g.L.Link.state c.args.link.now) c.args.self.now _ _ _ _ (g.L.Link.counts c.put.new.link, g.L.Link.state c.put.new.link) talks c.requires.fresh c.requires.new c.in-Ok.messages (c.in-Ok.ensures.talks start talks) c.in-Ok.ensures.few c.in_default.ensures.same.0 c.in_default.ensures.same.1

pub drain-requires-clause-stopped : goal.drain-requires-clause-stopped
drain-requires-clause-stopped g c =
    let (start, talks) = c.requires.begun in
    (start, (g.L.Link.counts c.args.link.now, g.L.Link.state c.args.link.now), subst (λ (x : Spoken). SaidSo (g.S.Speaker.manner start) g.L.Link.tells (g.L.Link.counts c.args.link.now, g.L.Link.state c.args.link.now) x c.args.self.now c.open.new.self c.open.new.world (g.L.Link.counts c.put.new.link, g.L.Link.state c.put.new.link)) c.in-Halted.is (opening_said (g.S.Speaker.manner start) g.L.Link.tells (g.L.Link.counts c.args.link.now, g.L.Link.state c.args.link.now) c.args.self.now _ _ _ _ (g.L.Link.counts c.put.new.link, g.L.Link.state c.put.new.link) talks c.requires.fresh c.requires.new c.in-Ok.messages c.in-Ok-put.spoken (c.in-Ok.ensures.talks start talks) c.in-Ok.ensures.few (subst (λ (ms : List ClientMessage). Sends 0 c.in-Ok-put.spoken g.L.Link.tells ms (g.L.Link.counts c.args.link.now, g.L.Link.state c.args.link.now) (g.L.Link.counts c.put.new.link, g.L.Link.state c.put.new.link)) c.as_slice.ensures c.in-Ok-put.ensures.sends) (c.in-Ok.ensures.wants start) (c.in-Ok.ensures.opens start)))

pub drain-requires-clause-wants : goal.drain-requires-clause-wants
drain-requires-clause-wants g c = c.in-Ok.ensures.wants

pub returns-in_err-drain-in-Halted-clause-broke : goal.returns-in_err-drain-in-Halted-clause-broke
returns-in_err-drain-in-Halted-clause-broke g c = at_exit _ c.from_residual.result _ c.from_residual.ensures.1 (λ start talks. c.in_err-drain-in-Halted.ensures.broke start (g.L.Link.counts c.args.link.now, g.L.Link.state c.args.link.now) (subst (λ (x : Spoken). SaidSo (g.S.Speaker.manner start) g.L.Link.tells (g.L.Link.counts c.args.link.now, g.L.Link.state c.args.link.now) x c.args.self.now c.open.new.self c.open.new.world (g.L.Link.counts c.put.new.link, g.L.Link.state c.put.new.link)) c.in-Halted.is (opening_said (g.S.Speaker.manner start) g.L.Link.tells (g.L.Link.counts c.args.link.now, g.L.Link.state c.args.link.now) c.args.self.now _ _ _ _ (g.L.Link.counts c.put.new.link, g.L.Link.state c.put.new.link) talks c.requires.fresh c.requires.new c.in-Ok.messages c.in-Ok-put.spoken (c.in-Ok.ensures.talks start talks) c.in-Ok.ensures.few (subst (λ (ms : List ClientMessage). Sends 0 c.in-Ok-put.spoken g.L.Link.tells ms (g.L.Link.counts c.args.link.now, g.L.Link.state c.args.link.now) (g.L.Link.counts c.put.new.link, g.L.Link.state c.put.new.link)) c.as_slice.ensures c.in-Ok-put.ensures.sends) (c.in-Ok.ensures.wants start) (c.in-Ok.ensures.opens start))))

pub returns-in-Halted-clause-goes : goal.returns-in-Halted-clause-goes
returns-in-Halted-clause-goes g c = λ start talks. c.in_ok-drain-in-Halted.ensures.ended start (g.L.Link.counts c.args.link.now, g.L.Link.state c.args.link.now) (subst (λ (x : Spoken). SaidSo (g.S.Speaker.manner start) g.L.Link.tells (g.L.Link.counts c.args.link.now, g.L.Link.state c.args.link.now) x c.args.self.now c.open.new.self c.open.new.world (g.L.Link.counts c.put.new.link, g.L.Link.state c.put.new.link)) c.in-Halted.is (opening_said (g.S.Speaker.manner start) g.L.Link.tells (g.L.Link.counts c.args.link.now, g.L.Link.state c.args.link.now) c.args.self.now _ _ _ _ (g.L.Link.counts c.put.new.link, g.L.Link.state c.put.new.link) talks c.requires.fresh c.requires.new c.in-Ok.messages c.in-Ok-put.spoken (c.in-Ok.ensures.talks start talks) c.in-Ok.ensures.few (subst (λ (ms : List ClientMessage). Sends 0 c.in-Ok-put.spoken g.L.Link.tells ms (g.L.Link.counts c.args.link.now, g.L.Link.state c.args.link.now) (g.L.Link.counts c.put.new.link, g.L.Link.state c.put.new.link)) c.as_slice.ensures c.in-Ok-put.ensures.sends) (c.in-Ok.ensures.wants start) (c.in-Ok.ensures.opens start)))

pub go_on-requires-clause-speaks : goal.go_on-requires-clause-speaks
go_on-requires-clause-speaks g c =
    let (start, talks) = c.requires.begun in
    (start, (g.L.Link.counts c.args.link.now, g.L.Link.state c.args.link.now), (subst (λ (x : Spoken). SaidSo (g.S.Speaker.manner start) g.L.Link.tells (g.L.Link.counts c.args.link.now, g.L.Link.state c.args.link.now) x c.args.self.now c.open.new.self c.open.new.world (g.L.Link.counts c.put.new.link, g.L.Link.state c.put.new.link)) c.in-Said.is (opening_said (g.S.Speaker.manner start) g.L.Link.tells (g.L.Link.counts c.args.link.now, g.L.Link.state c.args.link.now) c.args.self.now _ _ _ _ (g.L.Link.counts c.put.new.link, g.L.Link.state c.put.new.link) talks c.requires.fresh c.requires.new c.in-Ok.messages c.in-Ok-put.spoken (c.in-Ok.ensures.talks start talks) c.in-Ok.ensures.few (subst (λ (ms : List ClientMessage). Sends 0 c.in-Ok-put.spoken g.L.Link.tells ms (g.L.Link.counts c.args.link.now, g.L.Link.state c.args.link.now) (g.L.Link.counts c.put.new.link, g.L.Link.state c.put.new.link)) c.as_slice.ensures c.in-Ok-put.ensures.sends) (c.in-Ok.ensures.wants start) (c.in-Ok.ensures.opens start))).0)

pub go_on-requires-clause-wants : goal.go_on-requires-clause-wants
go_on-requires-clause-wants g c = λ start. inl (c.in-Ok.ensures.wants start)

pub go_on-requires-clause-partial : goal.go_on-requires-clause-partial
go_on-requires-clause-partial g c = new_partial _ c.requires.new

pub go_on-requires-clause-few : goal.go_on-requires-clause-few
go_on-requires-clause-few g c =
    let few = c.in-Ok.ensures.few in
    let count = c.in-Ok-put.ensures.sends.count c.in-Said.put c.in-Said.is in
    let same = ap (λ (ms : List ClientMessage). length ms) c.as_slice.ensures in
    omega (arith, few, count, same)

pub go_on-requires-clause-more : goal.go_on-requires-clause-more
go_on-requires-clause-more g c = new_fewer _ c.requires.new

pub returns-in-Said-clause-goes : goal.returns-in-Said-clause-goes
returns-in-Said-clause-goes g c =
    IfOk-weaker c.go_on.result _ _
    (λ end h start talks. h start (g.L.Link.counts c.args.link.now, g.L.Link.state c.args.link.now) ((subst (λ (x : Spoken). SaidSo (g.S.Speaker.manner start) g.L.Link.tells (g.L.Link.counts c.args.link.now, g.L.Link.state c.args.link.now) x c.args.self.now c.open.new.self c.open.new.world (g.L.Link.counts c.put.new.link, g.L.Link.state c.put.new.link)) c.in-Said.is (opening_said (g.S.Speaker.manner start) g.L.Link.tells (g.L.Link.counts c.args.link.now, g.L.Link.state c.args.link.now) c.args.self.now _ _ _ _ (g.L.Link.counts c.put.new.link, g.L.Link.state c.put.new.link) talks c.requires.fresh c.requires.new c.in-Ok.messages c.in-Ok-put.spoken (c.in-Ok.ensures.talks start talks) c.in-Ok.ensures.few (subst (λ (ms : List ClientMessage). Sends 0 c.in-Ok-put.spoken g.L.Link.tells ms (g.L.Link.counts c.args.link.now, g.L.Link.state c.args.link.now) (g.L.Link.counts c.put.new.link, g.L.Link.state c.put.new.link)) c.as_slice.ensures c.in-Ok-put.ensures.sends) (c.in-Ok.ensures.wants start) (c.in-Ok.ensures.opens start))).0))
    c.go_on.ensures.goes

pub returns-in-Said-clause-broke : goal.returns-in-Said-clause-broke
returns-in-Said-clause-broke g c =
    IfErr-weaker c.go_on.result _ _
    (λ fault h start talks. h start (g.L.Link.counts c.args.link.now, g.L.Link.state c.args.link.now) ((subst (λ (x : Spoken). SaidSo (g.S.Speaker.manner start) g.L.Link.tells (g.L.Link.counts c.args.link.now, g.L.Link.state c.args.link.now) x c.args.self.now c.open.new.self c.open.new.world (g.L.Link.counts c.put.new.link, g.L.Link.state c.put.new.link)) c.in-Said.is (opening_said (g.S.Speaker.manner start) g.L.Link.tells (g.L.Link.counts c.args.link.now, g.L.Link.state c.args.link.now) c.args.self.now _ _ _ _ (g.L.Link.counts c.put.new.link, g.L.Link.state c.put.new.link) talks c.requires.fresh c.requires.new c.in-Ok.messages c.in-Ok-put.spoken (c.in-Ok.ensures.talks start talks) c.in-Ok.ensures.few (subst (λ (ms : List ClientMessage). Sends 0 c.in-Ok-put.spoken g.L.Link.tells ms (g.L.Link.counts c.args.link.now, g.L.Link.state c.args.link.now) (g.L.Link.counts c.put.new.link, g.L.Link.state c.put.new.link)) c.as_slice.ensures c.in-Ok-put.ensures.sends) (c.in-Ok.ensures.wants start) (c.in-Ok.ensures.opens start))).0))
    c.go_on.ensures.broke

pub unreachable-unreachable : goal.unreachable-unreachable
unreachable-unreachable g c = c.in-Ok-put.ensures.sends.loud c.in-Quiet.is
