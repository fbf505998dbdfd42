use Rattle.std.proofs.Common.{◌≡◌, ℕ, List, ◌+◌, ◌<◌, length, Some, arith, subst, sym, ap, ◌∙◌}
use Rattle.lsv_cut.specs.Cuts.{unread}
use Rattle.lsv_worker.specs.Lanes.{Routing, lane_or_home}
use Rattle.lsv_worker.specs.declared.incoming.Incoming.{Incoming}
use Rattle.lsv_worker.specs.Incoming.{Puts, weight, with_piece}
use Rattle.lsv_worker.proofs.Putting.{puts_then}
use Rattle.lsv_worker.proofs.FrameLemmas.{inbox_then}
use Rattle.lsv_worker.proofs.Ports.{risen_late}
use Rattle.lsv_worker.proofs.Wanting.{keeps_stage, keeps_then}
use Rattle.lsv_worker.proofs.incoming.Incoming.next_job.Goals as goal

pub offer-requires : goal.offer-requires
offer-requires g c = record { lanes = c.offer_first.ensures.inbox.lanes_stay ∙ c.requires.lanes ∙ sym (ap (λ (i : Incoming). i.route.lanes) c.offer_first.ensures.only); first = c.offer_first.ensures.emptied c.in_default.not-Full }

pub returns-in-Full-clause-puts : goal.returns-in-Full-clause-puts
returns-in-Full-clause-puts g c =
    subst (λ (r : List ℕ). Puts c.args.conn (with_piece c.args.self.now c.args.piece.now c.args.at.now) (record c.offer_first.new.self { rest = unread r c.args.piece.now c.args.at.now }) (g.I.Inbox.jobs c.args.inbox.now) (g.I.Inbox.jobs c.offer_first.new.inbox)) (sym (ap (λ (i : Incoming). i.rest) c.offer_first.ensures.only))
    (c.offer_first.ensures.puts (unread c.args.self.now.rest c.args.piece.now c.args.at.now))

pub returns-in-Full-offer-clause-puts : goal.returns-in-Full-offer-clause-puts
returns-in-Full-offer-clause-puts g c =
    let all = unread c.args.self.now.rest c.args.piece.now c.args.at.now in
    subst (λ (r : List ℕ). Puts c.args.conn (with_piece c.args.self.now c.args.piece.now c.args.at.now) (record c.offer.new.self { rest = unread r c.args.piece.now c.args.at.now }) (g.I.Inbox.jobs c.args.inbox.now) (g.I.Inbox.jobs c.offer.new.inbox)) (sym (ap (λ (i : Incoming). i.rest) c.offer.ensures.only ∙ ap (λ (i : Incoming). i.rest) c.offer_first.ensures.only))
    (puts_then c.args.conn (record c.args.self.now { rest = all }) (record c.offer_first.new.self { rest = all }) (record c.offer.new.self { rest = all }) (g.I.Inbox.jobs c.args.inbox.now) (g.I.Inbox.jobs c.offer_first.new.inbox) (g.I.Inbox.jobs c.offer.new.inbox) (c.offer_first.ensures.puts all) (c.offer.ensures.puts all))

pub returns-in-Full-offer-clause-inbox : goal.returns-in-Full-offer-clause-inbox
returns-in-Full-offer-clause-inbox g c = inbox_then g.met.I.Inbox.same_through c.offer_first.ensures.inbox c.offer.ensures.inbox

pub returns-in-Full-offer-clause-full : goal.returns-in-Full-offer-clause-full
returns-in-Full-offer-clause-full g c = λ e.
    let at = lane_or_home c.offer.new.self.route in
    risen_late (g.I.Inbox.refused c.args.inbox.now at) (g.I.Inbox.refused c.offer_first.new.inbox at) (g.I.Inbox.refused c.offer.new.inbox at) (c.offer_first.ensures.inbox.counts at) (c.offer.ensures.full c.in-Full-offer.is)

pub cut_or_end-requires : goal.cut_or_end-requires
cut_or_end-requires g c = record {
  lanes = c.offer.ensures.inbox.lanes_stay ∙ c.offer_first.ensures.inbox.lanes_stay ∙ c.requires.lanes ∙ sym (ap (λ (i : Incoming). i.route.lanes) c.offer.ensures.only ∙ ap (λ (i : Incoming). i.route.lanes) c.offer_first.ensures.only);
  first = λ n e. ap (λ (i : Incoming). i.first) c.offer.ensures.only ∙ c.offer_first.ensures.emptied c.in_default.not-Full n (subst (λ (r : Routing). r.lane ≡ Some n) (ap (λ (i : Incoming). i.route) c.offer.ensures.only) e);
  empty = c.offer.ensures.emptied c.in_default-offer.not-Full;
  within = c.requires.within;
}

pub returns-clause-puts : goal.returns-clause-puts
returns-clause-puts g c =
    let all = unread c.args.self.now.rest c.args.piece.now c.args.at.now in
    let last = with_piece c.cut_or_end.new.self c.args.piece.now c.cut_or_end.new.at in
    puts_then c.args.conn (record c.args.self.now { rest = all }) (record c.offer.new.self { rest = all }) last (g.I.Inbox.jobs c.args.inbox.now) (g.I.Inbox.jobs c.offer.new.inbox) (g.I.Inbox.jobs c.cut_or_end.new.inbox)
    (puts_then c.args.conn (record c.args.self.now { rest = all }) (record c.offer_first.new.self { rest = all }) (record c.offer.new.self { rest = all }) (g.I.Inbox.jobs c.args.inbox.now) (g.I.Inbox.jobs c.offer_first.new.inbox) (g.I.Inbox.jobs c.offer.new.inbox) (c.offer_first.ensures.puts all) (c.offer.ensures.puts all))
    (subst (λ (r : List ℕ). Puts c.args.conn (record c.offer.new.self { rest = unread r c.args.piece.now c.args.at.now }) last (g.I.Inbox.jobs c.offer.new.inbox) (g.I.Inbox.jobs c.cut_or_end.new.inbox)) (ap (λ (i : Incoming). i.rest) c.offer.ensures.only ∙ ap (λ (i : Incoming). i.rest) c.offer_first.ensures.only) c.cut_or_end.ensures.puts)

pub returns-clause-inbox : goal.returns-clause-inbox
returns-clause-inbox g c = inbox_then g.met.I.Inbox.same_through (inbox_then g.met.I.Inbox.same_through c.offer_first.ensures.inbox c.offer.ensures.inbox) c.cut_or_end.ensures.inbox

pub returns-clause-less : goal.returns-clause-less
returns-clause-less g c = λ e.
    let down = c.cut_or_end.ensures.less e in
    subst (λ k. length (unread c.cut_or_end.new.self.rest c.args.piece.now c.cut_or_end.new.at) + weight c.cut_or_end.new.self.stage < k) (ap (λ (r : List ℕ). length (unread r c.args.piece.now c.args.at.now) + weight c.offer.new.self.stage) (ap (λ (i : Incoming). i.rest) c.offer.ensures.only ∙ ap (λ (i : Incoming). i.rest) c.offer_first.ensures.only) ∙ ap (λ s. length (unread c.args.self.now.rest c.args.piece.now c.args.at.now) + weight s) (ap (λ (i : Incoming). i.stage) c.offer.ensures.only ∙ ap (λ (i : Incoming). i.stage) c.offer_first.ensures.only)) down

pub returns-clause-full : goal.returns-clause-full
returns-clause-full g c = λ e.
    let at = lane_or_home c.cut_or_end.new.self.route in
    risen_late (g.I.Inbox.refused c.args.inbox.now at) (g.I.Inbox.refused c.offer.new.inbox at) (g.I.Inbox.refused c.cut_or_end.new.inbox at) (omega (arith, c.offer_first.ensures.inbox.counts at, c.offer.ensures.inbox.counts at)) (c.cut_or_end.ensures.full e)

pub returns-in-Full-clause-keeps : goal.returns-in-Full-clause-keeps
returns-in-Full-clause-keeps g c = keeps_stage c.args.self.now c.offer_first.new.self (ap (λ (i : Incoming). i.route.lanes) c.offer_first.ensures.only) (ap (λ (i : Incoming). i.stage) c.offer_first.ensures.only) (λ e. ap (λ (i : Incoming). i.waiting) c.offer_first.ensures.only ∙ e)

pub returns-in-Full-offer-clause-keeps : goal.returns-in-Full-offer-clause-keeps
returns-in-Full-offer-clause-keeps g c = keeps_stage c.args.self.now c.offer.new.self (ap (λ (i : Incoming). i.route.lanes) c.offer.ensures.only ∙ ap (λ (i : Incoming). i.route.lanes) c.offer_first.ensures.only) (ap (λ (i : Incoming). i.stage) c.offer.ensures.only ∙ ap (λ (i : Incoming). i.stage) c.offer_first.ensures.only) (λ e. c.offer.ensures.empty (ap (λ (i : Incoming). i.waiting) c.offer_first.ensures.only ∙ e))

pub returns-clause-keeps : goal.returns-clause-keeps
returns-clause-keeps g c =
    keeps_then c.args.self.now c.offer.new.self c.cut_or_end.new.self
    (keeps_stage c.args.self.now c.offer.new.self (ap (λ (i : Incoming). i.route.lanes) c.offer.ensures.only ∙ ap (λ (i : Incoming). i.route.lanes) c.offer_first.ensures.only) (ap (λ (i : Incoming). i.stage) c.offer.ensures.only ∙ ap (λ (i : Incoming). i.stage) c.offer_first.ensures.only) (λ e. c.offer.ensures.empty (ap (λ (i : Incoming). i.waiting) c.offer_first.ensures.only ∙ e))) c.cut_or_end.ensures.keeps
