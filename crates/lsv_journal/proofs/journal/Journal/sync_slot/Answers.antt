use Rattle.std.proofs.Common.{ℕ, rules, List, Option, inl, ◌∙◌, ap, refl, sym, subst}
use Rattle.lsv_disk.specs.Bytes.{bytes_of}
use Rattle.lsv_disk.proofs.Composition.{one_sync, sync_calls}
use Rattle.lsv_journal.specs.Slots.{entry_of}
use Rattle.lsv_journal.specs.Represents.{Stands, IsPrepared}
use Rattle.lsv_journal.proofs.Leaving.{leaves_still, unchanged_keeps}
use Rattle.lsv_journal.proofs.Words.{ok_of, kept_holds, kept_selected, kept_length, kept_slot, own_cause, no_old_stays}
use Rattle.lsv_journal.proofs.journal.Journal.sync_slot.Goals as goal

pub returns-then-is_err-clause-unchanged : goal.returns-then-is_err-clause-unchanged
returns-then-is_err-clause-unchanged g c told whole = one_sync c.args.self.now.file (g.D.Disk.view c.args.disk.now) (g.D.Disk.view c.sync.new.self) (c.sync.ensures.frame told) (g.met.D.Disk.only_now told c.args.disk.now) (g.met.D.Disk.only_now told c.sync.new.self)

pub returns-then-is_err-clause-any_moment : goal.returns-then-is_err-clause-any_moment
returns-then-is_err-clause-any_moment g c told whole =
    let r = c.requires.represents told whole in
    let f = c.args.self.now.file in
    let slot = c.args.self.now.selected in
    let old = g.D.Disk.view c.args.disk.now in
    let new = g.D.Disk.view c.sync.new.self in
    let unchanged = one_sync f old new (c.sync.ensures.frame told) (g.met.D.Disk.only_now told c.args.disk.now) (g.met.D.Disk.only_now told c.sync.new.self) in
    let run = unchanged_keeps g.row.N slot f old new r.leaves unchanged in
    kept_holds g.row.N g.row.N f slot old new refl run r.part c.args.self.now.last r.last_entry r.no_old

pub returns-then-is_err-clause-keeps : goal.returns-then-is_err-clause-keeps
returns-then-is_err-clause-keeps g c told whole =
    let r = c.requires.represents told whole in
    let f = c.args.self.now.file in
    let slot = c.args.self.now.selected in
    let old = g.D.Disk.view c.args.disk.now in
    let new = g.D.Disk.view c.sync.new.self in
    let unchanged = one_sync f old new (c.sync.ensures.frame told) (g.met.D.Disk.only_now told c.args.disk.now) (g.met.D.Disk.only_now told c.sync.new.self) in
    let run = unchanged_keeps g.row.N slot f old new r.leaves unchanged in
    kept_selected g.row.N g.row.N f slot old new refl run

pub returns-then-is_err-clause-length : goal.returns-then-is_err-clause-length
returns-then-is_err-clause-length g c told whole =
    let r = c.requires.represents told whole in
    let f = c.args.self.now.file in
    let slot = c.args.self.now.selected in
    let old = g.D.Disk.view c.args.disk.now in
    let new = g.D.Disk.view c.sync.new.self in
    let unchanged = one_sync f old new (c.sync.ensures.frame told) (g.met.D.Disk.only_now told c.args.disk.now) (g.met.D.Disk.only_now told c.sync.new.self) in
    let run = unchanged_keeps g.row.N slot f old new r.leaves unchanged in
    kept_length g.row.N g.row.N f slot old new refl run

pub returns-then-is_err-clause-slot : goal.returns-then-is_err-clause-slot
returns-then-is_err-clause-slot g c told whole =
    let r = c.requires.represents told whole in
    let f = c.args.self.now.file in
    let slot = c.args.self.now.selected in
    let old = g.D.Disk.view c.args.disk.now in
    let new = g.D.Disk.view c.sync.new.self in
    let unchanged = one_sync f old new (c.sync.ensures.frame told) (g.met.D.Disk.only_now told c.args.disk.now) (g.met.D.Disk.only_now told c.sync.new.self) in
    let run = unchanged_keeps g.row.N slot f old new r.leaves unchanged in
    kept_slot g.row.N g.row.N f slot old new refl run (g.met.D.Disk.reads_itself told c.sync.new.self) (g.met.D.Disk.is_now told c.sync.new.self)

pub returns-then-is_err-clause-calls : goal.returns-then-is_err-clause-calls
returns-then-is_err-clause-calls g c told = sync_calls c.args.self.now.file (g.D.Disk.view c.args.disk.now) (g.D.Disk.view c.sync.new.self) (c.sync.ensures.frame told)

pub returns-clause-unchanged : goal.returns-clause-unchanged
returns-clause-unchanged g c told whole = one_sync c.args.self.now.file (g.D.Disk.view c.args.disk.now) (g.D.Disk.view c.sync.new.self) (c.sync.ensures.frame told) (g.met.D.Disk.only_now told c.args.disk.now) (g.met.D.Disk.only_now told c.sync.new.self)

pub returns-clause-any_moment : goal.returns-clause-any_moment
returns-clause-any_moment g c told whole =
    let r = c.requires.represents told whole in
    let f = c.args.self.now.file in
    let slot = c.args.self.now.selected in
    let old = g.D.Disk.view c.args.disk.now in
    let new = g.D.Disk.view c.sync.new.self in
    let unchanged = one_sync f old new (c.sync.ensures.frame told) (g.met.D.Disk.only_now told c.args.disk.now) (g.met.D.Disk.only_now told c.sync.new.self) in
    let run = unchanged_keeps g.row.N slot f old new r.leaves unchanged in
    kept_holds g.row.N g.row.N f slot old new refl run r.part c.args.self.now.last r.last_entry r.no_old

pub returns-clause-keeps : goal.returns-clause-keeps
returns-clause-keeps g c told whole =
    let r = c.requires.represents told whole in
    let f = c.args.self.now.file in
    let slot = c.args.self.now.selected in
    let old = g.D.Disk.view c.args.disk.now in
    let new = g.D.Disk.view c.sync.new.self in
    let unchanged = one_sync f old new (c.sync.ensures.frame told) (g.met.D.Disk.only_now told c.args.disk.now) (g.met.D.Disk.only_now told c.sync.new.self) in
    let run = unchanged_keeps g.row.N slot f old new r.leaves unchanged in
    kept_selected g.row.N g.row.N f slot old new refl run

pub returns-clause-length : goal.returns-clause-length
returns-clause-length g c told whole =
    let r = c.requires.represents told whole in
    let f = c.args.self.now.file in
    let slot = c.args.self.now.selected in
    let old = g.D.Disk.view c.args.disk.now in
    let new = g.D.Disk.view c.sync.new.self in
    let unchanged = one_sync f old new (c.sync.ensures.frame told) (g.met.D.Disk.only_now told c.args.disk.now) (g.met.D.Disk.only_now told c.sync.new.self) in
    let run = unchanged_keeps g.row.N slot f old new r.leaves unchanged in
    kept_length g.row.N g.row.N f slot old new refl run

pub returns-clause-slot : goal.returns-clause-slot
returns-clause-slot g c told whole =
    let r = c.requires.represents told whole in
    let f = c.args.self.now.file in
    let slot = c.args.self.now.selected in
    let old = g.D.Disk.view c.args.disk.now in
    let new = g.D.Disk.view c.sync.new.self in
    let unchanged = one_sync f old new (c.sync.ensures.frame told) (g.met.D.Disk.only_now told c.args.disk.now) (g.met.D.Disk.only_now told c.sync.new.self) in
    let run = unchanged_keeps g.row.N slot f old new r.leaves unchanged in
    kept_slot g.row.N g.row.N f slot old new refl run (g.met.D.Disk.reads_itself told c.sync.new.self) (g.met.D.Disk.is_now told c.sync.new.self)

pub returns-clause-calls : goal.returns-clause-calls
returns-clause-calls g c told = sync_calls c.args.self.now.file (g.D.Disk.view c.args.disk.now) (g.D.Disk.view c.sync.new.self) (c.sync.ensures.frame told)

pub returns-clause-represents : goal.returns-clause-represents
returns-clause-represents g c told unbroken =
    let whole = c.if-self.false in
    let r = c.requires.represents told whole in
    let f = c.args.self.now.file in
    let slot = c.args.self.now.selected in
    let old = g.D.Disk.view c.args.disk.now in
    let new = g.D.Disk.view c.sync.new.self in
    let unchanged = one_sync f old new (c.sync.ensures.frame told) (g.met.D.Disk.only_now told c.args.disk.now) (g.met.D.Disk.only_now told c.sync.new.self) in
    let same = (c.sync.ensures.frame told).quiet.same f in
    record {
      part = r.part;
      leaves = leaves_still g.row.N slot f old new same ((c.sync.ensures.frame told).quiet.crash f) r.leaves;
      synced = λ _. ok_of c.sync.result _ (sym c.is_err.ensures.value ∙ c.if-is_err.false) (c.sync.ensures.durable told);
      last_entry = ap (λ (o : Option (List ℕ)). entry_of g.row.N (bytes_of o)) same ∙ r.last_entry;
      stands = subst (λ (o : Option (List ℕ)). Stands g.row.N (bytes_of o) slot) (sym same) r.stands;
      written = tt;
      prepared = subst (λ (o : Option (List ℕ)). IsPrepared g.row.N (bytes_of o) slot c.args.self.now.written) (sym same) r.written;
      one = inl refl;
      no_old = λ none. no_old_stays g.row.N f (λ _. ⊥) old new unchanged.elsewhere (λ no. no) (r.no_old none);
    }

pub returns-then-is_err-clause-cause : goal.returns-then-is_err-clause-cause
returns-then-is_err-clause-cause g c = own_cause c.args.self.now.file _ (g.D.Disk.view c.args.disk.now) (g.D.Disk.view c.sync.new.self) (record { monotone = c.sync.ensures.cause.monotone; risen = λ _. c.sync.ensures.cause.risen (search rules) })

pub returns-clause-cause : goal.returns-clause-cause
returns-clause-cause g c = own_cause c.args.self.now.file _ (g.D.Disk.view c.args.disk.now) (g.D.Disk.view c.sync.new.self) (record { monotone = c.sync.ensures.cause.monotone; risen = λ none. absurd (let no : ⊥ = search rules in no) })

pub returns-then-is_err-clause-blame : goal.returns-then-is_err-clause-blame
returns-then-is_err-clause-blame g c = record { monotone = c.sync.ensures.cause.monotone; risen = λ _. c.sync.ensures.cause.risen (search rules) }
