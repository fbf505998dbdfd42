use Rattle.lsv_keeper.specs.Views.{view_of}
use Rattle.lsv_keeper.proofs.Turning.{turn_given}
use Rattle.lsv_keeper.proofs.Syncing.{turn_once}
use Rattle.lsv_keeper.specs.Value.{AreWhole}
use Rattle.lsv_keeper.proofs.Causes.{Later, all_own, answer_first, any_is, does_any, does_then, later_on, rests_steady, rose_first, rose_second, still}
use Rattle.lsv_keeper.proofs.Saying.{says_as, says_then}
use Rattle.lsv_keeper.specs.Causes.{AnyBringsLine, AnyIsOf, Does, IsAmong, IsSteady, MayAnswerTo, StoreRose, is_of}
use Rattle.lsv_session.specs.declared.connection.ConnId.{ConnId}
use Rattle.lsv_keeper.proofs.SparingLemmas.{spares_none, spares_on, spares_these}
use Rattle.lsv_keeper.specs.Value.{settings_of}
use Rattle.lsv_keeper.proofs.DamagedLemmas.{acts_damaged, lines_damaged}
use Rattle.std.proofs.Common.{inl, map, ◌∙◌, ap, arith, length}
use Rattle.lsv_disk.specs.View.{DiskView}
use Rattle.lsv_keeper.proofs.keeper.Keeper.turn.Goals as goal

pub flush_lines-requires-clause-stands : goal.flush_lines-requires-clause-stands
flush_lines-requires-clause-stands g c told = let (m, at) = c.requires.stands told in let j = c.answer_jobs.ensures.done.answered told m at in (j.after, j.represents)

pub flush_lines-requires-clause-places : goal.flush_lines-requires-clause-places
flush_lines-requires-clause-places g c =
    let none = ap length c.requires.rests.none_waits in
    let nobody = ap length c.requires.rests.nobody_noted in
    omega (arith, c.answer_jobs.ensures.done.frame.owes, c.answer_jobs.ensures.done.frame.places, c.requires.room.places, none, nobody)

pub flush_lines-requires-clause-replies : goal.flush_lines-requires-clause-replies
flush_lines-requires-clause-replies g c =
    let none = ap length c.requires.rests.none_waits in
    let nobody = ap length c.requires.rests.nobody_noted in
    omega (arith, c.answer_jobs.ensures.done.frame.owes, c.answer_jobs.ensures.done.frame.replies, c.requires.room.replies, none, nobody)

pub flush_logs-requires-clause-places : goal.flush_logs-requires-clause-places
flush_logs-requires-clause-places g c =
    let none = ap length c.requires.rests.none_waits in
    let nobody = ap length c.requires.rests.nobody_noted in
    omega (arith, c.answer_jobs.ensures.done.frame.owes, c.answer_jobs.ensures.done.frame.places, c.flush_lines.ensures.frame.places, c.flush_lines.ensures.frame.fewer, c.requires.room.places, none, nobody)

pub flush_logs-requires-clause-replies : goal.flush_logs-requires-clause-replies
flush_logs-requires-clause-replies g c =
    let none = ap length c.requires.rests.none_waits in
    let nobody = ap length c.requires.rests.nobody_noted in
    omega (arith, c.answer_jobs.ensures.done.frame.owes, c.answer_jobs.ensures.done.frame.replies, c.flush_lines.ensures.frame.replies, c.flush_lines.ensures.frame.fewer, c.requires.room.replies, none, nobody)

pub flush_logs-requires-clause-stands : goal.flush_logs-requires-clause-stands
flush_logs-requires-clause-stands g c told =
    let (m, at) = c.requires.stands told in
    let j = c.answer_jobs.ensures.done.answered told m at in
    let l = c.flush_lines.ensures.lines told j.after j.represents in
    (l.after, l.represents)

pub returns-clause-set : goal.returns-clause-set
returns-clause-set g c =
    let a = c.answer_jobs.ensures.done.frame.set in
    let b = c.flush_lines.ensures.frame.set in
    let d = c.flush_logs.ensures.frame.set in
    record { lane = d.lane ∙ b.lane ∙ a.lane; lanes = d.lanes ∙ b.lanes ∙ a.lanes; log_exit = d.log_exit ∙ b.log_exit ∙ a.log_exit; kind = d.kind ∙ b.kind ∙ a.kind; texts = d.texts ∙ b.texts ∙ a.texts }

pub returns-clause-turned : goal.returns-clause-turned
returns-clause-turned g c told m at =
    let j = c.answer_jobs.ensures.done.answered told m at in
    let l = c.flush_lines.ensures.lines told j.after j.represents in
    turn_given (view_of c.args.self.now) (view_of c.answer_jobs.new.self) (view_of c.flush_lines.new.self) (view_of c.flush_logs.new.self) c.args.now c.args.jobs.items m
    c.args.out.now.items c.answer_jobs.new.out.items c.flush_lines.new.out.items c.flush_logs.new.out.items
    (g.D.Disk.view c.args.disk.now) (g.D.Disk.view c.answer_jobs.new.disk) (g.D.Disk.view c.flush_lines.new.disk) (g.D.Disk.view c.flush_logs.new.disk)
    at c.answer_jobs.ensures.done.frame.set c.flush_lines.ensures.frame.set j l (c.flush_logs.ensures.logs told l.after l.represents)

pub returns-clause-syncs : goal.returns-clause-syncs
returns-clause-syncs g c told m n k at own none =
    let j = c.answer_jobs.ensures.done.answered told m at in
    let l = c.flush_lines.ensures.lines told j.after j.represents in
    turn_once c.args.jobs.items n k (view_of c.args.self.now) (view_of c.answer_jobs.new.self) (view_of c.flush_lines.new.self) (g.D.Disk.view c.args.disk.now) (g.D.Disk.view c.answer_jobs.new.disk) (g.D.Disk.view c.flush_lines.new.disk) (g.D.Disk.view c.flush_logs.new.disk) m l.after
    at own none (c.answer_jobs.ensures.done.frame.syncs told m at) (c.flush_lines.ensures.frame.syncs told j.after j.represents) l.represents (c.flush_logs.ensures.frame.syncs told l.after l.represents)

pub returns-clause-spared : goal.returns-clause-spared
returns-clause-spared g c told m at n damaged =
    let old = g.D.Disk.view c.args.disk.now in
    let one = g.D.Disk.view c.answer_jobs.new.disk in
    let two = g.D.Disk.view c.flush_lines.new.disk in
    let new = g.D.Disk.view c.flush_logs.new.disk in
    let j = c.answer_jobs.ensures.done.answered told m at in
    let l = c.flush_lines.ensures.lines told j.after j.represents in
    let after_jobs = acts_damaged n (settings_of (view_of c.args.self.now)) j.going.acts m j.after at.sound j.going.run damaged in
    let after_lines = lines_damaged n (settings_of (view_of c.answer_jobs.new.self)) l.tail.failed l.tail.answers j.after l.after l.ended.ended.ends after_jobs in
    spares_on n old two new
    (spares_on n old one two (c.answer_jobs.ensures.done.frame.spared told m at n damaged)
    (spares_none (view_of c.answer_jobs.new.self) (view_of c.flush_lines.new.self) one two j.after j.represents (c.flush_lines.ensures.frame.syncs told j.after j.represents) n after_jobs))
    (spares_these (view_of c.flush_lines.new.self) two new l.after l.represents (c.flush_logs.ensures.frame.syncs told l.after l.represents) n after_lines)

-- ---- Over every disk

pub returns-clause-rests : goal.returns-clause-rests
returns-clause-rests g c =
    let jobs = c.args.jobs.items in
    let p = is_of jobs in
    let last : IsSteady p (view_of c.flush_logs.new.self) =
    c.flush_logs.ensures.frame.does.steady p tt (c.flush_lines.ensures.frame.does.steady p tt (c.answer_jobs.ensures.done.frame.does.steady p (all_own jobs) (rests_steady p (view_of c.args.self.now) c.requires.rests))) in
    record {
      none_waits = c.flush_logs.ensures.frame.none;
      nobody_noted = c.flush_logs.ensures.frame.noting ∙ c.flush_lines.ensures.frame.noting;
      linked = last.linked;
      whole = c.flush_logs.ensures.frame.does.whole (c.flush_lines.ensures.frame.does.whole (c.answer_jobs.ensures.done.frame.does.whole c.requires.rests.whole));
    }

pub returns-clause-says : goal.returns-clause-says
returns-clause-says g c =
    let v = view_of c.args.self.now in
    let jobs = c.args.jobs.items in
    let p = is_of jobs in
    let old = g.D.Disk.view c.args.disk.now in
    let one = g.D.Disk.view c.answer_jobs.new.disk in
    let two = g.D.Disk.view c.flush_lines.new.disk in
    let new = g.D.Disk.view c.flush_logs.new.disk in
    let said = c.args.out.now.items in
    let first = c.answer_jobs.new.out.items in
    let second = c.flush_lines.new.out.items in
    let last = c.flush_logs.new.out.items in
    let steady : IsSteady p (view_of c.answer_jobs.new.self) = c.answer_jobs.ensures.done.frame.does.steady p (all_own jobs) (rests_steady p v c.requires.rests) in
    let steady' : IsSteady p (view_of c.flush_lines.new.self) = c.flush_lines.ensures.frame.does.steady p tt steady in
    let whole : AreWhole (view_of c.answer_jobs.new.self).logs = c.answer_jobs.ensures.done.frame.does.whole c.requires.rests.whole in
    let rest : (a b : DiskView) → Later old a → Later b new → (k : ConnId) → IsAmong p k → StoreRose a b → MayAnswerTo v jobs old new k = (λ a b early late k is rose. inl (rose_first old b new (rose_second old a b early rose) late)) in
    says_then (AnyIsOf jobs) (MayAnswerTo v jobs old new) said second last
    (says_then (AnyIsOf jobs) (MayAnswerTo v jobs old new) said first second
    (says_as (AnyIsOf jobs) (AnyIsOf jobs) (MayAnswerTo v jobs old one) (MayAnswerTo v jobs old new) said first (λ k is. is)
    (λ k is may. answer_first (AnyBringsLine v.log_exit jobs k) v old one new may (later_on one two new c.flush_lines.ensures.frame.does.monotone c.flush_logs.ensures.frame.does.monotone)) (c.answer_jobs.ensures.says c.requires.rests.whole))
    (says_as (IsAmong p) (AnyIsOf jobs) (λ k. StoreRose one two) (MayAnswerTo v jobs old new) first second (any_is jobs)
    (rest one two c.answer_jobs.ensures.done.frame.does.monotone c.flush_logs.ensures.frame.does.monotone) (c.flush_lines.ensures.says p steady)))
    (says_as (IsAmong p) (AnyIsOf jobs) (λ k. StoreRose two new) (MayAnswerTo v jobs old new) second last (any_is jobs)
    (rest two new (later_on old one two c.answer_jobs.ensures.done.frame.does.monotone c.flush_lines.ensures.frame.does.monotone) (still new)) (c.flush_logs.ensures.says p steady' (c.flush_lines.ensures.frame.does.whole whole)))

pub returns-clause-failed : goal.returns-clause-failed
returns-clause-failed g c =
    let d : Does (map (λ job. job.conn) c.args.jobs.items) ⊥ ⊥ (view_of c.args.self.now) (view_of c.flush_logs.new.self) (g.D.Disk.view c.args.disk.now) (g.D.Disk.view c.flush_logs.new.disk) =
    does_then (λ none. absurd none) (does_then (λ none. absurd none) c.answer_jobs.ensures.done.frame.does (does_any c.flush_lines.ensures.frame.does)) (does_any c.flush_logs.ensures.frame.does) in
    d.failed

pub returns-clause-monotone : goal.returns-clause-monotone
returns-clause-monotone g c =
    let d : Does (map (λ job. job.conn) c.args.jobs.items) ⊥ ⊥ (view_of c.args.self.now) (view_of c.flush_logs.new.self) (g.D.Disk.view c.args.disk.now) (g.D.Disk.view c.flush_logs.new.disk) =
    does_then (λ none. absurd none) (does_then (λ none. absurd none) c.answer_jobs.ensures.done.frame.does (does_any c.flush_lines.ensures.frame.does)) (does_any c.flush_logs.ensures.frame.does) in
    d.monotone
