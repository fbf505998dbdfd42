use Rattle.std.proofs.Common.{◌≡◌, ◌++◌, ◌∷◌, [], None, true, false, sym, subst, rules}
use Rattle.lsv_links.specs.Lanes.{is_hello}
use Rattle.lsv_worker.specs.Lanes.{Routed, Routing}
use Rattle.lsv_worker.specs.Incoming.{kept}
use Rattle.lsv_worker.proofs.Routes.{decided_now, held_hello, routed_more}
use Rattle.lsv_worker.proofs.Putting.{some_lane}
use Rattle.lsv_worker.proofs.incoming.Incoming.keep_job.Goals as goal

pub returns-then-is_decided-clause-routed : goal.returns-then-is_decided-clause-routed
returns-then-is_decided-clause-routed c =
    let lane = some_lane c.args.self.now.route.lane (c.is_decided.ensures.yes c.if-is_decided.true) in
    λ put said h. routed_more c.args.self.now.route put said (kept c.args.self.now.first) (c.args.body ∷ []) lane.0 lane.1 h

pub returns-in-Some-clause-routed : goal.returns-in-Some-clause-routed
returns-in-Some-clause-routed c =
    let none : c.args.self.now.route.lane ≡ None = c.is_decided.ensures.no c.if-is_decided.false in
    λ put said h. subst (λ (r : Routing). Routed r put said (kept c.args.self.now.first ++ c.args.body ∷ [])) (sym c.wait_deciding.ensures.route)
    (decided_now c.args.self.now.route c.args.self.now.first c.args.body put said none (λ (no : c.args.self.now.first ≡ None). absurd cc) h)

pub returns-then-is_hello-clause-routed : goal.returns-then-is_hello-clause-routed
returns-then-is_hello-clause-routed c =
    let none : c.args.self.now.route.lane ≡ None = c.is_decided.ensures.no c.if-is_decided.false in
    let first : c.args.self.now.first ≡ None = search rules in
    let hello : is_hello c.args.body ≡ true = search rules in
    λ put said h. held_hello c.args.self.now.route c.args.self.now.first c.args.body put said none first hello h

pub returns-clause-routed : goal.returns-clause-routed
returns-clause-routed c =
    let none : c.args.self.now.route.lane ≡ None = c.is_decided.ensures.no c.if-is_decided.false in
    let not : is_hello c.args.body ≡ false = search rules in
    λ put said h. subst (λ (r : Routing). Routed r put said (kept c.args.self.now.first ++ c.args.body ∷ [])) (sym c.wait_deciding-2.ensures.route)
    (decided_now c.args.self.now.route c.args.self.now.first c.args.body put said none (λ no. not) h)
