use Rattle.std.proofs.Common.{◌≡◌, rules, length, Some, ℕ, ◌∙◌, inr, refl, sym, subst}
use Rattle.lsv_disk.specs.Bytes.{bytes_of}
use Rattle.lsv_disk.specs.View.{IsSynced}
use Rattle.lsv_journal.specs.Represents.{IsPrepared, LeavesEntry}
use Rattle.lsv_journal.proofs.Words.{ok_of, kept_now, kept_holds, kept_selected, kept_length, kept_slot, own_cause, no_old_stays, old_other}
use Rattle.lsv_journal.proofs.journal.Journal.put_slot.Goals as goal

pub put_free-requires-clause-leaves : goal.put_free-requires-clause-leaves
put_free-requires-clause-leaves g c told =
    let long : length c.args.body ≡ g.row.N = search rules in
    subst (λ (m : ℕ). LeavesEntry m c.args.self.now.selected (g.D.Disk.view c.args.disk.now) c.args.self.now.file) (sym long) (c.requires.represents told c.if-self.false).leaves

pub returns-then-is_err-clause-any_moment : goal.returns-then-is_err-clause-any_moment
returns-then-is_err-clause-any_moment g c told whole =
    let long : length c.args.body ≡ g.row.N = search rules in
    let r = c.requires.represents told whole in
    kept_holds g.row.N (length c.args.body) c.args.self.now.file c.args.self.now.selected (g.D.Disk.view c.args.disk.now) (g.D.Disk.view c.put_free.new.disk) long (c.put_free.ensures.any_moment told) r.part c.args.self.now.last r.last_entry r.no_old

pub returns-then-is_err-clause-keeps : goal.returns-then-is_err-clause-keeps
returns-then-is_err-clause-keeps g c told whole =
    let long : length c.args.body ≡ g.row.N = search rules in
    kept_selected g.row.N (length c.args.body) c.args.self.now.file c.args.self.now.selected (g.D.Disk.view c.args.disk.now) (g.D.Disk.view c.put_free.new.disk) long (c.put_free.ensures.any_moment told)

pub returns-then-is_err-clause-length : goal.returns-then-is_err-clause-length
returns-then-is_err-clause-length g c told whole =
    let long : length c.args.body ≡ g.row.N = search rules in
    kept_length g.row.N (length c.args.body) c.args.self.now.file c.args.self.now.selected (g.D.Disk.view c.args.disk.now) (g.D.Disk.view c.put_free.new.disk) long (c.put_free.ensures.any_moment told)

pub returns-then-is_err-clause-slot : goal.returns-then-is_err-clause-slot
returns-then-is_err-clause-slot g c told whole =
    let long : length c.args.body ≡ g.row.N = search rules in
    kept_slot g.row.N (length c.args.body) c.args.self.now.file c.args.self.now.selected (g.D.Disk.view c.args.disk.now) (g.D.Disk.view c.put_free.new.disk) long (c.put_free.ensures.any_moment told) (g.met.D.Disk.reads_itself told c.put_free.new.disk) (g.met.D.Disk.is_now told c.put_free.new.disk)

pub returns-then-is_err-clause-cause : goal.returns-then-is_err-clause-cause
returns-then-is_err-clause-cause g c = own_cause c.args.self.now.file _ (g.D.Disk.view c.args.disk.now) (g.D.Disk.view c.put_free.new.disk) (record { monotone = c.put_free.ensures.cause.monotone; risen = λ _. c.put_free.ensures.cause.risen (search rules) })

pub returns-clause-any_moment : goal.returns-clause-any_moment
returns-clause-any_moment g c told whole =
    let long : length c.args.body ≡ g.row.N = search rules in
    let r = c.requires.represents told whole in
    kept_holds g.row.N (length c.args.body) c.args.self.now.file c.args.self.now.selected (g.D.Disk.view c.args.disk.now) (g.D.Disk.view c.put_free.new.disk) long (c.put_free.ensures.any_moment told) r.part c.args.self.now.last r.last_entry r.no_old

pub returns-clause-keeps : goal.returns-clause-keeps
returns-clause-keeps g c told whole =
    let long : length c.args.body ≡ g.row.N = search rules in
    kept_selected g.row.N (length c.args.body) c.args.self.now.file c.args.self.now.selected (g.D.Disk.view c.args.disk.now) (g.D.Disk.view c.put_free.new.disk) long (c.put_free.ensures.any_moment told)

pub returns-clause-length : goal.returns-clause-length
returns-clause-length g c told whole =
    let long : length c.args.body ≡ g.row.N = search rules in
    kept_length g.row.N (length c.args.body) c.args.self.now.file c.args.self.now.selected (g.D.Disk.view c.args.disk.now) (g.D.Disk.view c.put_free.new.disk) long (c.put_free.ensures.any_moment told)

pub returns-clause-slot : goal.returns-clause-slot
returns-clause-slot g c told whole =
    let long : length c.args.body ≡ g.row.N = search rules in
    kept_slot g.row.N (length c.args.body) c.args.self.now.file c.args.self.now.selected (g.D.Disk.view c.args.disk.now) (g.D.Disk.view c.put_free.new.disk) long (c.put_free.ensures.any_moment told) (g.met.D.Disk.reads_itself told c.put_free.new.disk) (g.met.D.Disk.is_now told c.put_free.new.disk)

pub returns-clause-cause : goal.returns-clause-cause
returns-clause-cause g c = own_cause c.args.self.now.file _ (g.D.Disk.view c.args.disk.now) (g.D.Disk.view c.put_free.new.disk) (record { monotone = c.put_free.ensures.cause.monotone; risen = λ none. absurd (let no : ⊥ = search rules in no) })

pub returns-clause-represents : goal.returns-clause-represents
returns-clause-represents g c told whole =
    let long : length c.args.body ≡ g.row.N = search rules in
    let r = c.requires.represents told whole in
    let f = c.args.self.now.file in
    let slot = c.args.self.now.selected in
    let old = g.D.Disk.view c.args.disk.now in
    let new = g.D.Disk.view c.put_free.new.disk in
    let no_error = sym c.is_err.ensures.value ∙ c.if-is_err.false in
    let keeps = kept_now g.row.N (length c.args.body) f slot old new long (c.put_free.ensures.any_moment told) (g.met.D.Disk.reads_itself told c.put_free.new.disk) (g.met.D.Disk.is_now told c.put_free.new.disk) in
    record {
      part = r.part;
      leaves = subst (λ (m : ℕ). LeavesEntry m slot new f) long (c.put_free.ensures.leaves told);
      synced = λ none. absurd {A = IsSynced new f} (let no : ⊥ = cc in no);
      last_entry = keeps.entry ∙ r.last_entry;
      stands = keeps.stands;
      written = subst (λ (m : ℕ). IsPrepared m (bytes_of (new.reads f)) slot (Some c.args.body)) long (ok_of c.put_free.result _ no_error (c.put_free.ensures.prepared told));
      prepared = tt;
      one = inr refl;
      no_old = λ none. no_old_stays g.row.N f (λ h. h ≡ f) old new (c.put_free.ensures.any_moment told).elsewhere (old_other f r.part) (r.no_old none);
    }

pub returns-then-is_err-clause-blame : goal.returns-then-is_err-clause-blame
returns-then-is_err-clause-blame g c = record { monotone = c.put_free.ensures.cause.monotone; risen = λ _. c.put_free.ensures.cause.risen (search rules) }
