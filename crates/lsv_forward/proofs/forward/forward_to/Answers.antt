-- Each log is handled after those before it; numbers without a complete log are passed over.
use Rattle.std.proofs.Common.{◌≡◌, ◌+◌, ◌-◌, ℕ, ap, arith, rules}
use Rattle.lsv_forward.specs.Logs.{is_left}
use Rattle.lsv_forward.specs.Run.{Stops}
use Rattle.lsv_forward.proofs.Handling.{any_err}
use Rattle.lsv_forward.proofs.Going.{at_most_one, continues_trans, going_at, going_ends, going_over, going_passes, going_starts, going_with, stops_with, touches_more, touches_relays}
use Rattle.lsv_forward.proofs.forward.forward_to.Goals as goal
use Rattle.lsv_forward.proofs.forward.forward_to.Goals.{then-reached, else-reached}

pub numbers-init : goal.numbers-init
numbers-init g c = record {
  within = omega arith;
  going = going_starts g.D.Disk.view c.args.host.now g.D.Disk.tells g.L.Link.tells (g.D.Disk.view c.args.disk.now) (g.L.Link.state c.args.link.now) (g.L.Link.counts c.args.link.now) (λ told. g.met.D.Disk.only_now told c.args.disk.now) c.requires.closed;
}

pub returns-in_default-clause-stops : goal.returns-in_default-clause-stops
returns-in_default-clause-stops g c =
    going_ends g.D.Disk.view c.args.host.now g.D.Disk.tells g.L.Link.tells c.numbers.before c.numbers.left c.numbers.reached (g.D.Disk.view c.args.disk.now) (g.D.Disk.view c.numbers.disk) (g.L.Link.state c.args.link.now) (g.L.Link.state c.numbers.link)
    (g.L.Link.counts c.args.link.now) (g.L.Link.counts c.numbers.link) (λ told. g.met.D.Disk.reads_itself told c.args.disk.now) c.numbers.invariant.going

pub returns-in_default-clause-touches : goal.returns-in_default-clause-touches
returns-in_default-clause-touches g c told = touches_relays c.numbers.before (g.D.Disk.view c.args.disk.now) (g.D.Disk.view c.numbers.disk) (c.numbers.invariant.going.files told)

pub returns-in_default-clause-monotone : goal.returns-in_default-clause-monotone
returns-in_default-clause-monotone g c = c.numbers.invariant.going.monotone

pub returns-in_default-clause-continues : goal.returns-in_default-clause-continues
returns-in_default-clause-continues g c = c.numbers.invariant.going.continues

pub returns-then-from-last-clause-forwards : goal.returns-then-from-last-clause-forwards
returns-then-from-last-clause-forwards g c last =
    going_over g.D.Disk.view c.args.host.now g.D.Disk.tells g.L.Link.tells c.args.last c.numbers.left c.numbers.reached (g.D.Disk.view c.args.disk.now) (g.D.Disk.view c.numbers.disk) (g.L.Link.state c.args.link.now) (g.L.Link.state c.numbers.link)
    (g.L.Link.counts c.args.link.now) (g.L.Link.counts c.numbers.link) (λ told. g.met.D.Disk.reads_itself told c.args.disk.now)
    (going_passes g.D.Disk.view c.args.host.now g.D.Disk.tells g.L.Link.tells c.numbers.before c.args.last c.numbers.left c.numbers.reached (g.D.Disk.view c.args.disk.now) (g.D.Disk.view c.numbers.disk)
    (g.L.Link.state c.args.link.now) (g.L.Link.state c.numbers.link) (g.L.Link.counts c.args.link.now) (g.L.Link.counts c.numbers.link) (λ told. g.met.D.Disk.reads_itself told c.args.disk.now)
    (λ told. record { reads_itself = g.met.D.Disk.reads_itself told c.numbers.disk; is_now = g.met.D.Disk.is_now told c.numbers.disk }) (λ told. g.met.D.Disk.only_now told c.numbers.disk) c.numbers.invariant.going c.numbers.invariant.within
    (λ k low high told. c.next-from.ensures.none told k (omega (arith, low)) (omega (arith, high, c.if-from-last.true)))) last

pub returns-then-from-last-clause-touches : goal.returns-then-from-last-clause-touches
returns-then-from-last-clause-touches g c told = touches_relays c.numbers.before (g.D.Disk.view c.args.disk.now) (g.D.Disk.view c.numbers.disk) (c.numbers.invariant.going.files told)

pub returns-then-from-last-clause-monotone : goal.returns-then-from-last-clause-monotone
returns-then-from-last-clause-monotone g c = c.numbers.invariant.going.monotone

pub returns-then-from-last-clause-continues : goal.returns-then-from-last-clause-continues
returns-then-from-last-clause-continues g c = c.numbers.invariant.going.continues

pub handle_log-requires : goal.handle_log-requires
handle_log-requires g c = record { closed = c.numbers.invariant.going.closed }

pub returns-in_err-outcome-clause-stops : goal.returns-in_err-outcome-clause-stops
returns-in_err-outcome-clause-stops g c =
    let next : c.in-Some.number ≡ c.next-from.result = search rules in
    let from = c.next-from.ensures.on in
    let number : c.in-Some.number ≡ (c.next-from.result - 1) + 1 = omega (arith, next, from) in
    any_err c.from_residual.result (Stops g.D.Disk.view c.args.host.now g.D.Disk.tells g.L.Link.tells (g.D.Disk.view c.args.disk.now) (g.D.Disk.view c.handle_log.new.disk) (g.L.Link.state c.args.link.now) (g.L.Link.state c.handle_log.new.link) (g.L.Link.counts c.args.link.now) (g.L.Link.counts c.handle_log.new.link))
    (stops_with g.D.Disk.view c.args.host.now g.D.Disk.tells g.L.Link.tells (c.next-from.result - 1) c.in-Some.number c.numbers.left c.numbers.reached (g.D.Disk.view c.args.disk.now) (g.D.Disk.view c.numbers.disk) (g.D.Disk.view c.handle_log.new.disk)
    (g.L.Link.state c.args.link.now) (g.L.Link.state c.numbers.link) (g.L.Link.state c.handle_log.new.link) (g.L.Link.counts c.args.link.now) (g.L.Link.counts c.numbers.link) (g.L.Link.counts c.handle_log.new.link) number
    (going_passes g.D.Disk.view c.args.host.now g.D.Disk.tells g.L.Link.tells c.numbers.before (c.next-from.result - 1) c.numbers.left c.numbers.reached (g.D.Disk.view c.args.disk.now) (g.D.Disk.view c.numbers.disk)
    (g.L.Link.state c.args.link.now) (g.L.Link.state c.numbers.link) (g.L.Link.counts c.args.link.now) (g.L.Link.counts c.numbers.link) (λ told. g.met.D.Disk.reads_itself told c.args.disk.now)
    (λ told. record { reads_itself = g.met.D.Disk.reads_itself told c.numbers.disk; is_now = g.met.D.Disk.is_now told c.numbers.disk }) (λ told. g.met.D.Disk.only_now told c.numbers.disk) c.numbers.invariant.going (omega (arith, from))
    (λ k low high told. c.next-from.ensures.none told k (omega (arith, low)) (omega (arith, high, from)))) (λ told. g.met.D.Disk.reads_itself told c.args.disk.now)
    (λ told. record { reads_itself = g.met.D.Disk.reads_itself told c.numbers.disk; is_now = g.met.D.Disk.is_now told c.numbers.disk }) c.handle_log.ensures.touches c.handle_log.ensures.monotone c.handle_log.ensures.continues
    c.in_err-outcome.ensures.part)

pub returns-in_err-outcome-clause-touches : goal.returns-in_err-outcome-clause-touches
returns-in_err-outcome-clause-touches g c told =
    let next : c.in-Some.number ≡ c.next-from.result = search rules in
    let from = c.next-from.ensures.on in
    let number : c.in-Some.number ≡ (c.next-from.result - 1) + 1 = omega (arith, next, from) in
    let mid = going_passes g.D.Disk.view c.args.host.now g.D.Disk.tells g.L.Link.tells c.numbers.before (c.next-from.result - 1) c.numbers.left c.numbers.reached (g.D.Disk.view c.args.disk.now) (g.D.Disk.view c.numbers.disk)
    (g.L.Link.state c.args.link.now) (g.L.Link.state c.numbers.link) (g.L.Link.counts c.args.link.now) (g.L.Link.counts c.numbers.link) (λ told. g.met.D.Disk.reads_itself told c.args.disk.now)
    (λ told. record { reads_itself = g.met.D.Disk.reads_itself told c.numbers.disk; is_now = g.met.D.Disk.is_now told c.numbers.disk }) (λ told. g.met.D.Disk.only_now told c.numbers.disk) c.numbers.invariant.going (omega (arith, from))
    (λ k low high told. c.next-from.ensures.none told k (omega (arith, low)) (omega (arith, high, from))) in
    touches_more (c.next-from.result - 1) c.in-Some.number (g.D.Disk.view c.args.disk.now) (g.D.Disk.view c.numbers.disk) (g.D.Disk.view c.handle_log.new.disk) number (mid.files told) (c.handle_log.ensures.touches told)

pub returns-in_err-outcome-clause-monotone : goal.returns-in_err-outcome-clause-monotone
returns-in_err-outcome-clause-monotone g c file = omega (arith, c.numbers.invariant.going.monotone file, c.handle_log.ensures.monotone file)

pub returns-in_err-outcome-clause-continues : goal.returns-in_err-outcome-clause-continues
returns-in_err-outcome-clause-continues g c = continues_trans (g.L.Link.counts c.args.link.now) (g.L.Link.counts c.numbers.link) (g.L.Link.counts c.handle_log.new.link) c.numbers.invariant.going.continues c.handle_log.ensures.continues

pub overflow_add-left : goal.overflow_add-left
overflow_add-left g c =
    let few = c.numbers.invariant.going.few in
    let below = c.numbers-test.true in
    let one = at_most_one (is_left c.in_ok-outcome.outcome) in
    let is = c.tell_outcome-made.ensures.left in
    let fits = c.ranges.last.fits in
    omega arith

pub numbers-preserved : goal.numbers-preserved
numbers-preserved g c =
    let next : c.in-Some.number ≡ c.next-from.result = search rules in
    let from = c.next-from.ensures.on in
    let number : c.in-Some.number ≡ (c.next-from.result - 1) + 1 = omega (arith, next, from) in
    let going = going_with g.D.Disk.view c.args.host.now g.D.Disk.tells g.L.Link.tells (c.next-from.result - 1) c.in-Some.number c.numbers.left c.numbers.reached (g.D.Disk.view c.args.disk.now) (g.D.Disk.view c.numbers.disk) (g.D.Disk.view c.handle_log.new.disk)
    (g.L.Link.state c.args.link.now) (g.L.Link.state c.numbers.link) (g.L.Link.state c.handle_log.new.link) (g.L.Link.counts c.args.link.now) (g.L.Link.counts c.numbers.link) (g.L.Link.counts c.handle_log.new.link) number
    (going_passes g.D.Disk.view c.args.host.now g.D.Disk.tells g.L.Link.tells c.numbers.before (c.next-from.result - 1) c.numbers.left c.numbers.reached (g.D.Disk.view c.args.disk.now) (g.D.Disk.view c.numbers.disk)
    (g.L.Link.state c.args.link.now) (g.L.Link.state c.numbers.link) (g.L.Link.counts c.args.link.now) (g.L.Link.counts c.numbers.link) (λ told. g.met.D.Disk.reads_itself told c.args.disk.now)
    (λ told. record { reads_itself = g.met.D.Disk.reads_itself told c.numbers.disk; is_now = g.met.D.Disk.is_now told c.numbers.disk }) (λ told. g.met.D.Disk.only_now told c.numbers.disk) c.numbers.invariant.going (omega (arith, from))
    (λ k low high told. c.next-from.ensures.none told k (omega (arith, low)) (omega (arith, high, from)))) (λ told. g.met.D.Disk.reads_itself told c.args.disk.now)
    (λ told. record { reads_itself = g.met.D.Disk.reads_itself told c.numbers.disk; is_now = g.met.D.Disk.is_now told c.numbers.disk }) c.handle_log.ensures.touches c.handle_log.ensures.monotone c.handle_log.ensures.continues
    (c.numbers.left + c.tell_outcome-made.result.1) c.if-reached.reached c.in_ok-outcome.outcome (elim c.if-reached.branch [ then-reached w ↦ search rules | else-reached w ↦ search rules ]) c.in_ok-outcome.ensures.handles.one c.in_ok-outcome.ensures.handles.tried c.in_ok-outcome.ensures.handles.untried c.in_ok-outcome.ensures.closed (ap (λ (k : ℕ). c.numbers.left + k) c.tell_outcome-made.ensures.left) in
    record {
      within = omega (arith, c.if-from-last.false);
      going = going_at g.D.Disk.view c.args.host.now g.D.Disk.tells g.L.Link.tells ((c.next-from.result - 1) + 1) c.next-from.result (c.numbers.left + c.tell_outcome-made.result.1) c.if-reached.reached (g.D.Disk.view c.args.disk.now) (g.D.Disk.view c.handle_log.new.disk) (g.L.Link.state c.args.link.now) (g.L.Link.state c.handle_log.new.link) (g.L.Link.counts c.args.link.now) (g.L.Link.counts c.handle_log.new.link) (omega (arith, from)) going;
    }

pub returns-clause-forwards : goal.returns-clause-forwards
returns-clause-forwards g c last =
    let all : c.numbers.before ≡ c.args.last = (let up = c.numbers-test.false in let down = c.numbers.invariant.within in omega arith) in
    going_over g.D.Disk.view c.args.host.now g.D.Disk.tells g.L.Link.tells c.args.last c.numbers.left c.numbers.reached (g.D.Disk.view c.args.disk.now) (g.D.Disk.view c.numbers.disk) (g.L.Link.state c.args.link.now) (g.L.Link.state c.numbers.link)
    (g.L.Link.counts c.args.link.now) (g.L.Link.counts c.numbers.link) (λ told. g.met.D.Disk.reads_itself told c.args.disk.now)
    (going_at g.D.Disk.view c.args.host.now g.D.Disk.tells g.L.Link.tells c.numbers.before c.args.last c.numbers.left c.numbers.reached (g.D.Disk.view c.args.disk.now) (g.D.Disk.view c.numbers.disk) (g.L.Link.state c.args.link.now) (g.L.Link.state c.numbers.link)
    (g.L.Link.counts c.args.link.now) (g.L.Link.counts c.numbers.link) all c.numbers.invariant.going) last

pub returns-clause-touches : goal.returns-clause-touches
returns-clause-touches g c told = touches_relays c.numbers.before (g.D.Disk.view c.args.disk.now) (g.D.Disk.view c.numbers.disk) (c.numbers.invariant.going.files told)

pub returns-clause-monotone : goal.returns-clause-monotone
returns-clause-monotone g c = c.numbers.invariant.going.monotone

pub returns-clause-continues : goal.returns-clause-continues
returns-clause-continues g c = c.numbers.invariant.going.continues
