-- The disk is given its places, and then the logs are sent.
use Rattle.std.proofs.Common.{Some, List, ℕ, subst}
use Rattle.lsv_disk.specs.View.{DiskView}
use Rattle.lsv_serve.specs.Relay.{RelayWorld, RunsRelay, relay_of}
use Rattle.lsv_serve.proofs.RelayLemmas.{places_behind, places_kept, rests_nothing, rests_placed, runs_idle, runs_placed}
use Rattle.lsv_serve.proofs.relay.run_relay.Goals as goal

pub returns-in_default-clause-runs : goal.returns-in_default-clause-runs
returns-in_default-clause-runs g c = runs_idle g.D.Disk.view c.args.options.now.upstream (relay_of g.D.Disk g.L.Link c.args.out.now.disk c.args.out.now.link) c.in_default.is

pub returns-in_default-clause-rests : goal.returns-in_default-clause-rests
returns-in_default-clause-rests g c told =
    rests_nothing (g.D.Disk.view c.args.out.now.disk) (record { reads_itself = g.met.D.Disk.reads_itself told c.args.out.now.disk; is_now = g.met.D.Disk.is_now told c.args.out.now.disk; only_now = g.met.D.Disk.only_now told c.args.out.now.disk })

pub returns-clause-runs : goal.returns-clause-runs
returns-clause-runs g c =
    let old : RelayWorld = relay_of g.D.Disk g.L.Link c.args.out.now.disk c.args.out.now.link in
    let new : RelayWorld = relay_of g.D.Disk g.L.Link c.relay_to.new.disk c.relay_to.new.link in
    runs_placed g.D.Disk.view old (g.D.Disk.view c.give_places.new.disk) c.give_places.ensures.frame (λ told. g.met.D.Disk.only_now told c.args.out.now.disk) c.in-Some.host c.args.options.now.upstream new c.relay_to.result c.relay_to.ensures.touches c.in-Some.is
    (subst (λ (host : List ℕ). RunsRelay g.D.Disk.view (Some host) (relay_of g.D.Disk g.L.Link c.give_places.new.disk c.args.out.now.link) new c.relay_to.result) c.text_of.ensures c.relay_to.ensures.runs)

pub returns-clause-rests : goal.returns-clause-rests
returns-clause-rests g c told =
    let old : DiskView = g.D.Disk.view c.args.out.now.disk in
    let mid : DiskView = g.D.Disk.view c.give_places.new.disk in
    let new : DiskView = g.D.Disk.view c.relay_to.new.disk in
    rests_placed g.D.Disk.tells old mid new told c.give_places.ensures.frame
    (record { reads_itself = g.met.D.Disk.reads_itself told c.args.out.now.disk; is_now = g.met.D.Disk.is_now told c.args.out.now.disk; only_now = g.met.D.Disk.only_now told c.args.out.now.disk })
    (record { reads_itself = g.met.D.Disk.reads_itself told c.relay_to.new.disk; is_now = g.met.D.Disk.is_now told c.relay_to.new.disk; only_now = g.met.D.Disk.only_now told c.relay_to.new.disk })
    (c.relay_to.ensures.touches told)

pub returns-clause-places : goal.returns-clause-places
returns-clause-places g c told =
    places_behind g.D.Disk.view c.text_of.result.now (relay_of g.D.Disk g.L.Link c.give_places.new.disk c.args.out.now.link) (relay_of g.D.Disk g.L.Link c.relay_to.new.disk c.relay_to.new.link) c.args.options.now.logs c.args.options.now.events
    (g.D.Disk.view c.args.out.now.disk) c.relay_to.result c.relay_to.ensures.runs c.relay_to.ensures.read
    (places_kept c.args.options.now.logs c.args.options.now.events (g.D.Disk.view c.give_places.new.disk) (g.D.Disk.view c.relay_to.new.disk) (c.relay_to.ensures.touches told) (c.give_places.ensures.places told))
