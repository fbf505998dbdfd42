use Rattle.std.proofs.Common.{◌∙◌, refl, ap, subst, inl, List, ℕ, Option, Err}
use Rattle.lsv_args.specs.Reading.{Check, Load, Once, Relay, Serve, asked_in}
use Rattle.lsv_args.specs.declared.command.Command.{Command}
use Rattle.lsv_service.specs.Lanes.{AreFreshBays, bay_by}
use Rattle.lsv_serve.specs.Program.{Asks, lanes_by}
use Rattle.lsv_serve.specs.declared.status.Status.TheVariants as status
use Rattle.lsv_serve.specs.Relay.{RelayWorld, relay_of}
use Rattle.lsv_lane.specs.declared.bay.Bay.{Bay}
use Rattle.lsv_serve.specs.Serve.{ServerWorld, bays_of, server_of}
use Rattle.lsv_once.specs.World.{World, world_of}
use Rattle.lsv_serve.proofs.LoadLemmas.{loads_unread}
use Rattle.lsv_serve.proofs.OnceLemmas.{once_unread}
use Rattle.lsv_serve.proofs.RelayLemmas.{relays_unread}
use Rattle.lsv_serve.proofs.ServeLemmas.{first_fresh, serves_unread}
use Rattle.lsv_serve.proofs.program.logsrvd.Goals as goal

pub returns-in-Err-Usage-clause-usage : goal.returns-in-Err-Usage-clause-usage
returns-in-Err-Usage-clause-usage g c = λ e a asks. c.command_of.ensures.usage (c.in-Err-Usage.is ∙ ap Err c.in-Err-Usage.field-0-is) a asks

pub once-requires-clause-fresh : goal.once-requires-clause-fresh
once-requires-clause-fresh g c = λ told.
    first_fresh (bay_by g.D.Disk g.G.Tape) (bays_of c.args.out.disk c.args.out.clock c.args.out.tape c.args.out.others.items) (record { disk = c.args.out.disk; clock = c.args.out.clock; tape = c.args.out.tape }) refl
    (subst (λ (k : Command). AreFreshBays (bay_by g.D.Disk g.G.Tape) (lanes_by (asked_in k)) (bays_of c.args.out.disk c.args.out.clock c.args.out.tape c.args.out.others.items)) c.in-Once.is (c.requires.fresh told (asked_in c.in-Ok.command) c.in-Ok.ensures.ok))

pub load-requires-clause-fresh : goal.load-requires-clause-fresh
load-requires-clause-fresh g c = λ told.
    first_fresh (bay_by g.D.Disk g.G.Tape) (bays_of c.args.out.disk c.args.out.clock c.args.out.tape c.args.out.others.items) (record { disk = c.args.out.disk; clock = c.args.out.clock; tape = c.args.out.tape }) refl
    (subst (λ (k : Command). AreFreshBays (bay_by g.D.Disk g.G.Tape) (lanes_by (asked_in k)) (bays_of c.args.out.disk c.args.out.clock c.args.out.tape c.args.out.others.items)) c.in-Load.is (c.requires.fresh told (asked_in c.in-Ok.command) c.in-Ok.ensures.ok))

pub serve-requires-clause-bays : goal.serve-requires-clause-bays
serve-requires-clause-bays g c = λ lifetimes outlive. c.requires.bays _ (subst (λ (k : Command). Asks c.args.words.now (asked_in k)) c.in-Serve.is c.in-Ok.ensures.ok)

pub serve-requires-clause-fresh : goal.serve-requires-clause-fresh
serve-requires-clause-fresh g c = λ lifetimes outlive told.
    subst (λ (k : Command). AreFreshBays (bay_by g.D.Disk g.G.Tape) (lanes_by (asked_in k)) (bays_of c.args.out.disk c.args.out.clock c.args.out.tape c.args.out.others.items)) c.in-Serve.is (c.requires.fresh told (asked_in c.in-Ok.command) c.in-Ok.ensures.ok)

pub returns-in-Err-Usage-clause-once : goal.returns-in-Err-Usage-clause-once
returns-in-Err-Usage-clause-once g c = λ o asks. absurd (c.command_of.ensures.usage (c.in-Err-Usage.is ∙ ap Err c.in-Err-Usage.field-0-is) (Once o) asks)

pub returns-in-Err-Usage-clause-serves : goal.returns-in-Err-Usage-clause-serves
returns-in-Err-Usage-clause-serves g c = λ o asks. absurd (c.command_of.ensures.usage (c.in-Err-Usage.is ∙ ap Err c.in-Err-Usage.field-0-is) (Serve o) asks)

pub returns-in-Err-Usage-clause-loads : goal.returns-in-Err-Usage-clause-loads
returns-in-Err-Usage-clause-loads g c = λ o count asks. absurd (c.command_of.ensures.usage (c.in-Err-Usage.is ∙ ap Err c.in-Err-Usage.field-0-is) (Load o count) asks)

pub returns-in-Err-NoMem-clause-once : goal.returns-in-Err-NoMem-clause-once
returns-in-Err-NoMem-clause-once g c = λ o asks.
    let disk = g.met.D.Disk g.world.𝓛 g.world.𝓜 g.world.𝓡 ((λ s x. x), (λ x. x), (λ x. x), λ x. x) in
    let w : World = world_of g.S.Source g.K.Sink g.D.Disk g.G.Tape c.args.out.source c.args.out.sink c.args.out.disk c.args.out.tape in
    let found : Option (List ℕ) = g.T.Texts.texts c.args.out.texts o.conf in
    (found, λ told. refl, once_unread w (λ told image is. disk.only_now told c.args.out.disk image is) found (g.T.Texts.faults c.args.out.texts) (g.T.Texts.faults c.args.out.texts) status.NoMem (inl refl))

pub returns-in-Err-NoMem-clause-serves : goal.returns-in-Err-NoMem-clause-serves
returns-in-Err-NoMem-clause-serves g c = λ o asks.
    let disk = g.met.D.Disk g.world.𝓛 g.world.𝓜 g.world.𝓡 ((λ s x. x), (λ x. x), (λ x. x), λ x. x) in
    let w : ServerWorld (Bay g.row.D.Denot g.row.C.Denot g.row.G.Denot) = server_of g.P.Port g.D.Disk g.G.Tape c.args.out.ports.items (bays_of c.args.out.disk c.args.out.clock c.args.out.tape c.args.out.others.items) in
    let found : Option (List ℕ) = g.T.Texts.texts c.args.out.texts o.conf in
    (found, λ told. refl, serves_unread o.lanes o.stop_after found (g.T.Texts.faults c.args.out.texts) (g.T.Texts.faults c.args.out.texts) w status.NoMem (λ told bay image is. disk.only_now told bay.disk image is) (inl refl))

pub returns-in-Err-NoMem-clause-loads : goal.returns-in-Err-NoMem-clause-loads
returns-in-Err-NoMem-clause-loads g c = λ o count asks.
    let disk = g.met.D.Disk g.world.𝓛 g.world.𝓜 g.world.𝓡 ((λ s x. x), (λ x. x), (λ x. x), λ x. x) in
    let w : World = world_of g.S.Source g.K.Sink g.D.Disk g.G.Tape c.args.out.source c.args.out.sink c.args.out.disk c.args.out.tape in
    let found : Option (List ℕ) = g.T.Texts.texts c.args.out.texts o.conf in
    (found, λ told. refl, loads_unread g.G.Tape.tells g.D.Disk.view count w c.args.out.disk (g.G.Tape.turns c.args.out.tape) found (g.T.Texts.faults c.args.out.texts) (g.T.Texts.faults c.args.out.texts) status.NoMem (λ told image is. disk.only_now told c.args.out.disk image is) (inl refl))

pub returns-in-Once-clause-other_words : goal.returns-in-Once-clause-other_words
returns-in-Once-clause-other_words g c = λ none. absurd (none _ c.in-Ok.ensures.ok)

pub returns-in-Once-clause-unchanged : goal.returns-in-Once-clause-unchanged
returns-in-Once-clause-unchanged g c = λ none. absurd (none _ c.in-Ok.ensures.ok)

pub returns-in-Serve-clause-other_words : goal.returns-in-Serve-clause-other_words
returns-in-Serve-clause-other_words g c = λ none. absurd (none _ c.in-Ok.ensures.ok)

pub returns-in-Serve-clause-unchanged : goal.returns-in-Serve-clause-unchanged
returns-in-Serve-clause-unchanged g c = λ none. absurd (none _ c.in-Ok.ensures.ok)

pub returns-in-Load-clause-other_words : goal.returns-in-Load-clause-other_words
returns-in-Load-clause-other_words g c = λ none. absurd (none _ c.in-Ok.ensures.ok)

pub returns-in-Load-clause-unchanged : goal.returns-in-Load-clause-unchanged
returns-in-Load-clause-unchanged g c = λ none. absurd (none _ c.in-Ok.ensures.ok)

pub returns-in-Err-Usage-clause-relays : goal.returns-in-Err-Usage-clause-relays
returns-in-Err-Usage-clause-relays g c = λ o asks. absurd (c.command_of.ensures.usage (c.in-Err-Usage.is ∙ ap Err c.in-Err-Usage.field-0-is) (Relay o) asks)

pub returns-in-Err-NoMem-clause-relays : goal.returns-in-Err-NoMem-clause-relays
returns-in-Err-NoMem-clause-relays g c = λ o asks.
    let disk = g.met.D.Disk g.world.𝓛 g.world.𝓜 g.world.𝓡 ((λ s x. x), (λ x. x), (λ x. x), λ x. x) in
    let w : RelayWorld = relay_of g.D.Disk g.L.Link c.args.out.disk c.args.out.link in
    let found : Option (List ℕ) = g.T.Texts.texts c.args.out.texts o.conf in (
      found,
      λ told. refl,
      relays_unread g.D.Disk.view found (g.T.Texts.faults c.args.out.texts) (g.T.Texts.faults c.args.out.texts) w status.NoMem
          (λ told. record { reads_itself = disk.reads_itself told c.args.out.disk; is_now = disk.is_now told c.args.out.disk; only_now = disk.only_now told c.args.out.disk }) (inl refl),
    )

pub returns-in-Relay-clause-other_words : goal.returns-in-Relay-clause-other_words
returns-in-Relay-clause-other_words g c = λ none. absurd (none _ c.in-Ok.ensures.ok)

pub returns-in-Relay-clause-unchanged : goal.returns-in-Relay-clause-unchanged
returns-in-Relay-clause-unchanged g c = λ none. absurd (none _ c.in-Ok.ensures.ok)

pub returns-in-Err-Usage-clause-checks : goal.returns-in-Err-Usage-clause-checks
returns-in-Err-Usage-clause-checks g c = λ o asks. absurd (c.command_of.ensures.usage (c.in-Err-Usage.is ∙ ap Err c.in-Err-Usage.field-0-is) (Check o) asks)

pub returns-in-Err-NoMem-clause-checks : goal.returns-in-Err-NoMem-clause-checks
returns-in-Err-NoMem-clause-checks g c = λ o asks. (g.T.Texts.texts c.args.out.texts o.conf, λ told. refl, tt)

pub returns-in-Check-clause-other_words : goal.returns-in-Check-clause-other_words
returns-in-Check-clause-other_words g c = λ none. absurd (none _ c.in-Ok.ensures.ok)

pub returns-in-Check-clause-unchanged : goal.returns-in-Check-clause-unchanged
returns-in-Check-clause-unchanged g c = λ none. absurd (none _ c.in-Ok.ensures.ok)
