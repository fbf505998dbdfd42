-- Each log is listed after those before it; numbers without a log are passed over.
use Rattle.std.proofs.Common.{◌≡◌, ◌≤◌, ◌+◌, ◌-◌, arith, rules}
use Rattle.std.specs.Option.{option_or}
use Rattle.lsv_replay.proofs.Cases.{err_as}
use Rattle.lsv_replay.proofs.Listed.{listing_done, listing_goes_on, listing_passes, listing_stops}
use Rattle.lsv_replay.proofs.listing.list_to.Goals as goal

pub numbers-preserved : goal.numbers-preserved
numbers-preserved g c =
    let next : c.in-Some.number ≡ c.next-next.result = search rules in
    let first : c.or-first.result ≡ option_or c.numbers.first c.in_ok-damage.damage = search rules in
    let from = c.next-next.ensures.on in
    let before = listing_passes g.D.Disk.tells g.S.Screen.tells c.args.e.now c.numbers.listed (c.next-next.result - 1) c.numbers.first (g.D.Disk.view c.args.disk.now) (g.D.Disk.view c.numbers.disk)
    (g.S.Screen.shown c.args.screen.now) (g.S.Screen.shown c.numbers.screen) (g.S.Screen.faults c.args.screen.now) (g.S.Screen.faults c.numbers.screen) c.numbers.invariant.so_far (omega (arith, from))
    (λ told k low high. c.next-next.ensures.absent told k low (omega (arith, high, from))) in
    let number : c.in-Some.number ≡ (c.next-next.result - 1) + 1 = omega (arith, next, from) in
    let more = listing_goes_on g.D.Disk.tells g.S.Screen.tells c.args.e.now (c.next-next.result - 1) c.in-Some.number c.numbers.first (g.D.Disk.view c.args.disk.now) (g.D.Disk.view c.numbers.disk)
    (g.S.Screen.shown c.args.screen.now) (g.S.Screen.shown c.numbers.screen) (g.S.Screen.faults c.args.screen.now) (g.S.Screen.faults c.numbers.screen) before number
    c.in_ok-damage.damage c.or-first.result (g.D.Disk.view c.list_log.new.disk) (g.S.Screen.shown c.list_log.new.screen) (g.S.Screen.faults c.list_log.new.screen)
    (λ told searched steps. c.in_ok-damage.ensures.listed told searched steps) first
    (λ told. c.list_log.ensures.reads told) c.list_log.ensures.disk.monotone c.list_log.ensures.screen.monotone in
    record { within = omega (arith, c.if-next-last.false); so_far = listing_done g.D.Disk.tells g.S.Screen.tells c.args.e.now ((c.next-next.result - 1) + 1) c.next-next.result _ _ _ _ _ _ _ more (omega (arith, from)) }

pub returns-then-next-last-clause-listed : goal.returns-then-next-last-clause-listed
returns-then-next-last-clause-listed g c told small searched steps =
    let is = listing_passes g.D.Disk.tells g.S.Screen.tells c.args.e.now c.numbers.listed c.args.last c.numbers.first (g.D.Disk.view c.args.disk.now) (g.D.Disk.view c.numbers.disk)
    (g.S.Screen.shown c.args.screen.now) (g.S.Screen.shown c.numbers.screen) (g.S.Screen.faults c.args.screen.now) (g.S.Screen.faults c.numbers.screen) c.numbers.invariant.so_far c.numbers.invariant.within
    (λ told_too k low high. c.next-next.ensures.absent told_too k low (omega (arith, high, c.if-next-last.true))) in
    is.listed told searched steps

pub returns-in_err-damage-clause-listed : goal.returns-in_err-damage-clause-listed
returns-in_err-damage-clause-listed g c told small =
    let next : c.in-Some.number ≡ c.next-next.result = search rules in
    let from = c.next-next.ensures.on in
    let before = listing_passes g.D.Disk.tells g.S.Screen.tells c.args.e.now c.numbers.listed (c.next-next.result - 1) c.numbers.first (g.D.Disk.view c.args.disk.now) (g.D.Disk.view c.numbers.disk)
    (g.S.Screen.shown c.args.screen.now) (g.S.Screen.shown c.numbers.screen) (g.S.Screen.faults c.args.screen.now) (g.S.Screen.faults c.numbers.screen) c.numbers.invariant.so_far (omega (arith, from))
    (λ told_too k low high. c.next-next.ensures.absent told_too k low (omega (arith, high, from))) in
    let number : c.in-Some.number ≡ (c.next-next.result - 1) + 1 = omega (arith, next, from) in
    let within : c.in-Some.number ≤ c.args.last = omega (arith, next, c.if-next-last.false) in
    listing_stops g.D.Disk.tells g.S.Screen.tells c.args.e.now (c.next-next.result - 1) c.in-Some.number c.numbers.first (g.D.Disk.view c.args.disk.now) (g.D.Disk.view c.numbers.disk)
    (g.S.Screen.shown c.args.screen.now) (g.S.Screen.shown c.numbers.screen) (g.S.Screen.faults c.args.screen.now) (g.S.Screen.faults c.numbers.screen) before number
    c.in_err-damage.field-0.0 c.from_residual.result c.args.last (g.S.Screen.shown c.list_log.new.screen)
    (λ told_too searched steps. c.in_err-damage.ensures.listed told_too searched steps) (err_as c.from_residual.result c.in_err-damage.field-0.0 c.from_residual.ensures.1) within told

pub returns-clause-listed : goal.returns-clause-listed
returns-clause-listed g c told small searched steps =
    (listing_done g.D.Disk.tells g.S.Screen.tells c.args.e.now c.numbers.listed c.args.last _ _ _ _ _ _ _ c.numbers.invariant.so_far (omega (arith, c.numbers.invariant.within, c.numbers-test.false))).listed told searched steps
