use Rattle.std.proofs.Common.{rules, ℕ, List, Option, Some, inr, ◌∙◌, refl, sym, subst}
use Rattle.lsv_disk.specs.Bytes.{bytes_of}
use Rattle.lsv_journal.specs.declared.slot.Slot.{Slot}
use Rattle.lsv_journal.specs.Represents.{Stands, IsPrepared}
use Rattle.lsv_journal.proofs.Leaving.{synced_leaves}
use Rattle.lsv_journal.proofs.Words.{ok_of, none_written, ready_of, ready_there, selects_holds, selects_selected, selects_length, own_cause}
use Rattle.lsv_journal.proofs.journal.Journal.select.Goals as goal

pub select_free-requires-clause-there : goal.select_free-requires-clause-there
select_free-requires-clause-there g c told =
    let whole = c.if-self.false in
    let bytes = bytes_of ((g.D.Disk.view c.args.disk.now).reads c.args.self.now.file) in
    let ready = ready_of g.row.N bytes c.args.self.now.selected c.args.self.now.prepared (c.requires.prepared whole) (c.requires.represents told whole).prepared in
    ready_there g.row.N bytes c.args.self.now.selected ready.0

pub select_free-requires-clause-synced_before : goal.select_free-requires-clause-synced_before
select_free-requires-clause-synced_before g c told =
    let r = c.requires.represents told c.if-self.false in
    r.synced (none_written c.args.self.now.written c.args.self.now.prepared r.one (c.requires.prepared c.if-self.false))

pub returns-then-is_err-clause-any_moment : goal.returns-then-is_err-clause-any_moment
returns-then-is_err-clause-any_moment g c told whole =
    let r = c.requires.represents told whole in
    let f = c.args.self.now.file in
    let slot = c.args.self.now.selected in
    let old = g.D.Disk.view c.args.disk.now in
    let ready = ready_of g.row.N (bytes_of (old.reads f)) slot c.args.self.now.prepared (c.requires.prepared whole) r.prepared in
    selects_holds g.row.N f slot old (g.D.Disk.view c.select_free.new.disk) (c.select_free.ensures.any_moment told g.row.N r.stands ready.0) r.part c.args.self.now.last r.last_entry r.no_old c.args.self.now.prepared ready.1

pub returns-then-is_err-clause-keeps : goal.returns-then-is_err-clause-keeps
returns-then-is_err-clause-keeps g c told whole =
    let r = c.requires.represents told whole in
    let f = c.args.self.now.file in
    let slot = c.args.self.now.selected in
    let old = g.D.Disk.view c.args.disk.now in
    let ready = ready_of g.row.N (bytes_of (old.reads f)) slot c.args.self.now.prepared (c.requires.prepared whole) r.prepared in
    selects_selected g.row.N f slot old (g.D.Disk.view c.select_free.new.disk) (c.select_free.ensures.any_moment told g.row.N r.stands ready.0)

pub returns-then-is_err-clause-length : goal.returns-then-is_err-clause-length
returns-then-is_err-clause-length g c told whole =
    let r = c.requires.represents told whole in
    let f = c.args.self.now.file in
    let slot = c.args.self.now.selected in
    let old = g.D.Disk.view c.args.disk.now in
    let ready = ready_of g.row.N (bytes_of (old.reads f)) slot c.args.self.now.prepared (c.requires.prepared whole) r.prepared in
    selects_length g.row.N f slot old (g.D.Disk.view c.select_free.new.disk) (c.select_free.ensures.any_moment told g.row.N r.stands ready.0)

pub returns-then-is_err-clause-cause : goal.returns-then-is_err-clause-cause
returns-then-is_err-clause-cause g c = own_cause c.args.self.now.file _ (g.D.Disk.view c.args.disk.now) (g.D.Disk.view c.select_free.new.disk) (record { monotone = c.select_free.ensures.cause.monotone; risen = λ _. c.select_free.ensures.cause.risen (search rules) })

pub returns-clause-any_moment : goal.returns-clause-any_moment
returns-clause-any_moment g c told whole =
    let r = c.requires.represents told whole in
    let f = c.args.self.now.file in
    let slot = c.args.self.now.selected in
    let old = g.D.Disk.view c.args.disk.now in
    let ready = ready_of g.row.N (bytes_of (old.reads f)) slot c.args.self.now.prepared (c.requires.prepared whole) r.prepared in
    selects_holds g.row.N f slot old (g.D.Disk.view c.select_free.new.disk) (c.select_free.ensures.any_moment told g.row.N r.stands ready.0) r.part c.args.self.now.last r.last_entry r.no_old c.args.self.now.prepared ready.1

pub returns-clause-keeps : goal.returns-clause-keeps
returns-clause-keeps g c told whole =
    let r = c.requires.represents told whole in
    let f = c.args.self.now.file in
    let slot = c.args.self.now.selected in
    let old = g.D.Disk.view c.args.disk.now in
    let ready = ready_of g.row.N (bytes_of (old.reads f)) slot c.args.self.now.prepared (c.requires.prepared whole) r.prepared in
    selects_selected g.row.N f slot old (g.D.Disk.view c.select_free.new.disk) (c.select_free.ensures.any_moment told g.row.N r.stands ready.0)

pub returns-clause-length : goal.returns-clause-length
returns-clause-length g c told whole =
    let r = c.requires.represents told whole in
    let f = c.args.self.now.file in
    let slot = c.args.self.now.selected in
    let old = g.D.Disk.view c.args.disk.now in
    let ready = ready_of g.row.N (bytes_of (old.reads f)) slot c.args.self.now.prepared (c.requires.prepared whole) r.prepared in
    selects_length g.row.N f slot old (g.D.Disk.view c.select_free.new.disk) (c.select_free.ensures.any_moment told g.row.N r.stands ready.0)

pub returns-clause-represents : goal.returns-clause-represents
returns-clause-represents g c told whole =
    let r = c.requires.represents told whole in
    let f = c.args.self.now.file in
    let slot = c.args.self.now.selected in
    let old = g.D.Disk.view c.args.disk.now in
    let new = g.D.Disk.view c.select_free.new.disk in
    let ready = ready_of g.row.N (bytes_of (old.reads f)) slot c.args.self.now.prepared (c.requires.prepared whole) r.prepared in
    let no_error = sym c.is_err.ensures.value ∙ c.if-is_err.false in
    let done = ok_of c.select_free.result _ no_error (c.select_free.ensures.selected told) g.row.N r.stands ready.0 in
    let durable = ok_of c.select_free.result _ no_error (c.select_free.ensures.durable told) in
    let stands : Stands g.row.N (bytes_of (new.reads f)) (Some c.free.result) = subst (λ (s : Slot). Stands g.row.N (bytes_of (new.reads f)) (Some s)) (sym c.free.ensures) done.0 in
    record {
      part = r.part;
      leaves = synced_leaves g.row.N (Some c.free.result) new f stands durable;
      synced = λ _. durable;
      last_entry = done.1 ∙ ready.1;
      stands = stands;
      written = subst (λ (o : Option (List ℕ)). IsPrepared g.row.N (bytes_of (new.reads f)) (Some c.free.result) o) (sym (none_written c.args.self.now.written c.args.self.now.prepared r.one (c.requires.prepared whole))) tt;
      prepared = tt;
      one = inr refl;
      no_old = λ none. absurd (c.requires.prepared whole none);
    }

pub returns-clause-cause : goal.returns-clause-cause
returns-clause-cause g c = own_cause c.args.self.now.file _ (g.D.Disk.view c.args.disk.now) (g.D.Disk.view c.select_free.new.disk) (record { monotone = c.select_free.ensures.cause.monotone; risen = λ none. absurd (let no : ⊥ = search rules in no) })

pub returns-then-is_err-clause-blame : goal.returns-then-is_err-clause-blame
returns-then-is_err-clause-blame g c = record { monotone = c.select_free.ensures.cause.monotone; risen = λ _. c.select_free.ensures.cause.risen (search rules) }

pub returns-clause-blame : goal.returns-clause-blame
returns-clause-blame g c = record { monotone = c.select_free.ensures.cause.monotone; risen = λ none. absurd (let no : ⊥ = search rules in no) }
