use Rattle.std.proofs.Common.{inl, refl, sym, ◌∙◌}
use Rattle.lsv_disk.proofs.Composition.{unchanged_trans, unchanged_reads}
use Rattle.lsv_journal.specs.Last.{old_file, IsAbsent}
use Rattle.lsv_journal.proofs.Leaving.{synced_leaves}
use Rattle.lsv_journal.proofs.Laws.{reads_absent_may_be_made}
use Rattle.lsv_journal.proofs.Words.{unchanged_crashes, unchanged_last, opening_run, opened_same, opened_no_old, opening_calls, opening_unwritten, syncing_calls, entry_stays, may_be_made}
use Rattle.lsv_journal.proofs.Lengths.{opening_unchanged, same_length, opening_length, opening_ends}
use Rattle.lsv_journal.proofs.journal.Journal.open.Goals as goal

pub returns-in_err-is_absent-clause-any_moment : goal.returns-in_err-is_absent-clause-any_moment
returns-in_err-is_absent-clause-any_moment g c told = unchanged_crashes g.row.N c.args.f (g.D.Disk.view c.args.disk.now) (g.D.Disk.view c.is_absent.new.disk) (c.is_absent.ensures.reads told).unchanged

pub returns-in_err-is_absent-clause-reads : goal.returns-in_err-is_absent-clause-reads
returns-in_err-is_absent-clause-reads g c told = unchanged_last g.row.N c.args.f (g.D.Disk.view c.args.disk.now) (g.D.Disk.view c.is_absent.new.disk) (c.is_absent.ensures.reads told).unchanged

pub returns-then-branch-clause-reads : goal.returns-then-branch-clause-reads
returns-then-branch-clause-reads g c told = unchanged_last g.row.N c.args.f (g.D.Disk.view c.args.disk.now) (g.D.Disk.view c.is_absent.new.disk) (c.is_absent.ensures.reads told).unchanged

pub returns-then-branch-clause-any_moment : goal.returns-then-branch-clause-any_moment
returns-then-branch-clause-any_moment g c told = unchanged_crashes g.row.N c.args.f (g.D.Disk.view c.args.disk.now) (g.D.Disk.view c.is_absent.new.disk) (c.is_absent.ensures.reads told).unchanged

pub returns-in_err-sync_both-clause-reads : goal.returns-in_err-sync_both-clause-reads
returns-in_err-sync_both-clause-reads g c told =
    let old = g.D.Disk.view c.args.disk.now in
    let mid = g.D.Disk.view c.sync_both.new.disk in
    unchanged_last g.row.N c.args.f old mid (unchanged_trans old (g.D.Disk.view c.is_absent.new.disk) mid (c.is_absent.ensures.reads told).unchanged (c.sync_both.ensures.unchanged told))

pub returns-in_err-sync_both-clause-any_moment : goal.returns-in_err-sync_both-clause-any_moment
returns-in_err-sync_both-clause-any_moment g c told =
    let old = g.D.Disk.view c.args.disk.now in
    let mid = g.D.Disk.view c.sync_both.new.disk in
    unchanged_crashes g.row.N c.args.f old mid (unchanged_trans old (g.D.Disk.view c.is_absent.new.disk) mid (c.is_absent.ensures.reads told).unchanged (c.sync_both.ensures.unchanged told))

pub returns-in_err-found-clause-reads : goal.returns-in_err-found-clause-reads
returns-in_err-found-clause-reads g c told =
    let old = g.D.Disk.view c.args.disk.now in
    let mid = g.D.Disk.view c.sync_both.new.disk in
    let new = g.D.Disk.view c.settle.new.disk in
    let unchanged = unchanged_trans old (g.D.Disk.view c.is_absent.new.disk) mid (c.is_absent.ensures.reads told).unchanged (c.sync_both.ensures.unchanged told) in
    opened_same g.row.N c.args.f old mid new unchanged (c.settle.ensures.any_moment told) (g.met.D.Disk.is_now told c.settle.new.disk) new.reads (g.met.D.Disk.reads_itself told c.settle.new.disk)

pub returns-in_err-found-clause-any_moment : goal.returns-in_err-found-clause-any_moment
returns-in_err-found-clause-any_moment g c told =
    let old = g.D.Disk.view c.args.disk.now in
    let mid = g.D.Disk.view c.sync_both.new.disk in
    let unchanged = unchanged_trans old (g.D.Disk.view c.is_absent.new.disk) mid (c.is_absent.ensures.reads told).unchanged (c.sync_both.ensures.unchanged told) in
    opening_run g.row.N c.args.f old mid (g.D.Disk.view c.settle.new.disk) unchanged (c.settle.ensures.any_moment told) (g.met.D.Disk.reads_itself told c.args.disk.now)

pub returns-in_err-found-clause-calls : goal.returns-in_err-found-clause-calls
returns-in_err-found-clause-calls g c told = record {
  at_most =
      opening_calls c.args.f (g.D.Disk.view c.args.disk.now) (g.D.Disk.view c.is_absent.new.disk) (g.D.Disk.view c.sync_both.new.disk) (g.D.Disk.view c.settle.new.disk)
      (c.is_absent.ensures.reads told).counts (c.sync_both.ensures.calls told c.requires.slots) c.requires.slots (c.settle.ensures.calls told);
  unwritten = λ has f.
      let old = g.D.Disk.view c.args.disk.now in
      let mid = g.D.Disk.view c.sync_both.new.disk in
      let unchanged = unchanged_trans old (g.D.Disk.view c.is_absent.new.disk) mid (c.is_absent.ensures.reads told).unchanged (c.sync_both.ensures.unchanged told) in
      opening_unwritten c.args.f (g.D.Disk.view c.args.disk.now) (g.D.Disk.view c.is_absent.new.disk) (g.D.Disk.view c.sync_both.new.disk) (g.D.Disk.view c.settle.new.disk)
      (c.is_absent.ensures.reads told).counts (c.sync_both.ensures.calls told c.requires.slots)
      f (c.settle.ensures.unwritten told (entry_stays g.row.N c.args.f old mid unchanged has) f);
}

pub returns-clause-last : goal.returns-clause-last
returns-clause-last g c told =
    let old = g.D.Disk.view c.args.disk.now in
    let mid = g.D.Disk.view c.sync_both.new.disk in
    let unchanged = unchanged_trans old (g.D.Disk.view c.is_absent.new.disk) mid (c.is_absent.ensures.reads told).unchanged (c.sync_both.ensures.unchanged told) in
    c.in_ok-found.ensures.last told ∙ unchanged_last g.row.N c.args.f old mid unchanged

pub returns-clause-durable : goal.returns-clause-durable
returns-clause-durable g c told image is =
    let old = g.D.Disk.view c.args.disk.now in
    let mid = g.D.Disk.view c.sync_both.new.disk in
    let new = g.D.Disk.view c.settle.new.disk in
    let unchanged = unchanged_trans old (g.D.Disk.view c.is_absent.new.disk) mid (c.is_absent.ensures.reads told).unchanged (c.sync_both.ensures.unchanged told) in
    opened_same g.row.N c.args.f old mid new unchanged (c.settle.ensures.any_moment told) (g.met.D.Disk.is_now told c.settle.new.disk) image is

pub returns-clause-reads : goal.returns-clause-reads
returns-clause-reads g c told =
    let old = g.D.Disk.view c.args.disk.now in
    let mid = g.D.Disk.view c.sync_both.new.disk in
    let new = g.D.Disk.view c.settle.new.disk in
    let unchanged = unchanged_trans old (g.D.Disk.view c.is_absent.new.disk) mid (c.is_absent.ensures.reads told).unchanged (c.sync_both.ensures.unchanged told) in
    opened_same g.row.N c.args.f old mid new unchanged (c.settle.ensures.any_moment told) (g.met.D.Disk.is_now told c.settle.new.disk) new.reads (g.met.D.Disk.reads_itself told c.settle.new.disk)

pub returns-clause-any_moment : goal.returns-clause-any_moment
returns-clause-any_moment g c told =
    let old = g.D.Disk.view c.args.disk.now in
    let mid = g.D.Disk.view c.sync_both.new.disk in
    let unchanged = unchanged_trans old (g.D.Disk.view c.is_absent.new.disk) mid (c.is_absent.ensures.reads told).unchanged (c.sync_both.ensures.unchanged told) in
    opening_run g.row.N c.args.f old mid (g.D.Disk.view c.settle.new.disk) unchanged (c.settle.ensures.any_moment told) (g.met.D.Disk.reads_itself told c.args.disk.now)

pub returns-clause-represents : goal.returns-clause-represents
returns-clause-represents g c told =
    let mid = g.D.Disk.view c.sync_both.new.disk in
    let new = g.D.Disk.view c.settle.new.disk in
    record {
      part = c.requires.slots;
      leaves = synced_leaves g.row.N c.in_ok-found.found.selected new c.args.f (c.in_ok-found.ensures.stands told) (c.in_ok-found.ensures.durable told);
      synced = λ _. c.in_ok-found.ensures.durable told;
      last_entry = c.in_ok-found.ensures.entry told;
      stands = c.in_ok-found.ensures.stands told;
      written = tt;
      prepared = tt;
      one = inl refl;
      no_old = λ none. opened_no_old g.row.N c.args.f mid new (c.settle.ensures.any_moment told) c.requires.slots (c.in_ok-sync_both.ensures.old told) (sym (c.in_ok-found.ensures.last told) ∙ none);
    }

pub returns-then-branch-clause-absent_may_be_made : goal.returns-then-branch-clause-absent_may_be_made
returns-then-branch-clause-absent_may_be_made g c told none =
    let old = g.D.Disk.view c.args.disk.now in
    let new = g.D.Disk.view c.is_absent.new.disk in
    let same = unchanged_reads old new (c.is_absent.ensures.reads told).unchanged in
    let absent : IsAbsent c.args.f old.reads = (c.in_ok-is_absent.ensures.absent told).0 c.if-branch.true in
    reads_absent_may_be_made g.row.N c.args.f new (g.met.D.Disk.absent_or_empty told c.is_absent.new.disk) (same c.args.f ∙ absent.0, same (old_file c.args.f) ∙ absent.1)

pub returns-clause-may_be_made : goal.returns-clause-may_be_made
returns-clause-may_be_made g c told none =
    let mid = g.D.Disk.view c.sync_both.new.disk in
    let new = g.D.Disk.view c.settle.new.disk in
    may_be_made g.row.N c.args.f new (c.in_ok-found.ensures.entry told ∙ none)
    (opened_no_old g.row.N c.args.f mid new (c.settle.ensures.any_moment told) c.requires.slots (c.in_ok-sync_both.ensures.old told) (sym (c.in_ok-found.ensures.last told) ∙ none))

pub returns-clause-calls : goal.returns-clause-calls
returns-clause-calls g c told = record {
  at_most =
      opening_calls c.args.f (g.D.Disk.view c.args.disk.now) (g.D.Disk.view c.is_absent.new.disk) (g.D.Disk.view c.sync_both.new.disk) (g.D.Disk.view c.settle.new.disk)
      (c.is_absent.ensures.reads told).counts (c.sync_both.ensures.calls told c.requires.slots) c.requires.slots (c.settle.ensures.calls told);
  unwritten = λ has f.
      let old = g.D.Disk.view c.args.disk.now in
      let mid = g.D.Disk.view c.sync_both.new.disk in
      let unchanged = unchanged_trans old (g.D.Disk.view c.is_absent.new.disk) mid (c.is_absent.ensures.reads told).unchanged (c.sync_both.ensures.unchanged told) in
      opening_unwritten c.args.f (g.D.Disk.view c.args.disk.now) (g.D.Disk.view c.is_absent.new.disk) (g.D.Disk.view c.sync_both.new.disk) (g.D.Disk.view c.settle.new.disk)
      (c.is_absent.ensures.reads told).counts (c.sync_both.ensures.calls told c.requires.slots)
      f (c.settle.ensures.unwritten told (entry_stays g.row.N c.args.f old mid unchanged has) f);
}

pub returns-in_err-sync_both-clause-calls : goal.returns-in_err-sync_both-clause-calls
returns-in_err-sync_both-clause-calls g c told = record {
  at_most =
      syncing_calls c.args.f (g.D.Disk.view c.args.disk.now) (g.D.Disk.view c.is_absent.new.disk) (g.D.Disk.view c.sync_both.new.disk)
      (c.is_absent.ensures.reads told).counts (c.sync_both.ensures.calls told c.requires.slots);
  unwritten = λ has f.
      let new = g.D.Disk.view c.sync_both.new.disk in
      opening_unwritten c.args.f (g.D.Disk.view c.args.disk.now) (g.D.Disk.view c.is_absent.new.disk) new new
      (c.is_absent.ensures.reads told).counts (c.sync_both.ensures.calls told c.requires.slots) f refl;
}

pub returns-in_err-is_absent-clause-length : goal.returns-in_err-is_absent-clause-length
returns-in_err-is_absent-clause-length g c told = opening_unchanged g.row.N c.args.f (g.D.Disk.view c.args.disk.now) (g.D.Disk.view c.is_absent.new.disk) (c.is_absent.ensures.reads told).unchanged

pub returns-in_err-is_absent-clause-ends : goal.returns-in_err-is_absent-clause-ends
returns-in_err-is_absent-clause-ends g c told =
    let old = g.D.Disk.view c.args.disk.now in
    let new = g.D.Disk.view c.is_absent.new.disk in
    same_length g.row.N c.args.f old new.reads (unchanged_reads old new (c.is_absent.ensures.reads told).unchanged c.args.f)

pub returns-then-branch-clause-length : goal.returns-then-branch-clause-length
returns-then-branch-clause-length g c told = opening_unchanged g.row.N c.args.f (g.D.Disk.view c.args.disk.now) (g.D.Disk.view c.is_absent.new.disk) (c.is_absent.ensures.reads told).unchanged

pub returns-then-branch-clause-ends : goal.returns-then-branch-clause-ends
returns-then-branch-clause-ends g c told =
    let old = g.D.Disk.view c.args.disk.now in
    let new = g.D.Disk.view c.is_absent.new.disk in
    same_length g.row.N c.args.f old new.reads (unchanged_reads old new (c.is_absent.ensures.reads told).unchanged c.args.f)

pub returns-in_err-sync_both-clause-length : goal.returns-in_err-sync_both-clause-length
returns-in_err-sync_both-clause-length g c told =
    let old = g.D.Disk.view c.args.disk.now in
    let mid = g.D.Disk.view c.sync_both.new.disk in
    let unchanged = unchanged_trans old (g.D.Disk.view c.is_absent.new.disk) mid (c.is_absent.ensures.reads told).unchanged (c.sync_both.ensures.unchanged told) in
    opening_unchanged g.row.N c.args.f old mid unchanged

pub returns-in_err-sync_both-clause-ends : goal.returns-in_err-sync_both-clause-ends
returns-in_err-sync_both-clause-ends g c told =
    let old = g.D.Disk.view c.args.disk.now in
    let mid = g.D.Disk.view c.sync_both.new.disk in
    let unchanged = unchanged_trans old (g.D.Disk.view c.is_absent.new.disk) mid (c.is_absent.ensures.reads told).unchanged (c.sync_both.ensures.unchanged told) in
    same_length g.row.N c.args.f old mid.reads (unchanged_reads old mid unchanged c.args.f)

pub returns-in_err-found-clause-length : goal.returns-in_err-found-clause-length
returns-in_err-found-clause-length g c told =
    let old = g.D.Disk.view c.args.disk.now in
    let mid = g.D.Disk.view c.sync_both.new.disk in
    let unchanged = unchanged_trans old (g.D.Disk.view c.is_absent.new.disk) mid (c.is_absent.ensures.reads told).unchanged (c.sync_both.ensures.unchanged told) in
    opening_length g.row.N c.args.f old mid (g.D.Disk.view c.settle.new.disk) unchanged (c.settle.ensures.length told) (g.met.D.Disk.reads_itself told c.args.disk.now)

pub returns-in_err-found-clause-ends : goal.returns-in_err-found-clause-ends
returns-in_err-found-clause-ends g c told =
    let old = g.D.Disk.view c.args.disk.now in
    let mid = g.D.Disk.view c.sync_both.new.disk in
    let unchanged = unchanged_trans old (g.D.Disk.view c.is_absent.new.disk) mid (c.is_absent.ensures.reads told).unchanged (c.sync_both.ensures.unchanged told) in
    opening_ends g.row.N c.args.f old mid (g.D.Disk.view c.settle.new.disk) unchanged (c.settle.ensures.length told) (g.met.D.Disk.reads_itself told c.settle.new.disk) (g.met.D.Disk.is_now told c.settle.new.disk)

pub returns-clause-length : goal.returns-clause-length
returns-clause-length g c told =
    let old = g.D.Disk.view c.args.disk.now in
    let mid = g.D.Disk.view c.sync_both.new.disk in
    let unchanged = unchanged_trans old (g.D.Disk.view c.is_absent.new.disk) mid (c.is_absent.ensures.reads told).unchanged (c.sync_both.ensures.unchanged told) in
    opening_length g.row.N c.args.f old mid (g.D.Disk.view c.settle.new.disk) unchanged (c.settle.ensures.length told) (g.met.D.Disk.reads_itself told c.args.disk.now)

pub returns-clause-ends : goal.returns-clause-ends
returns-clause-ends g c told =
    let old = g.D.Disk.view c.args.disk.now in
    let mid = g.D.Disk.view c.sync_both.new.disk in
    let unchanged = unchanged_trans old (g.D.Disk.view c.is_absent.new.disk) mid (c.is_absent.ensures.reads told).unchanged (c.sync_both.ensures.unchanged told) in
    opening_ends g.row.N c.args.f old mid (g.D.Disk.view c.settle.new.disk) unchanged (c.settle.ensures.length told) (g.met.D.Disk.reads_itself told c.settle.new.disk) (g.met.D.Disk.is_now told c.settle.new.disk)
