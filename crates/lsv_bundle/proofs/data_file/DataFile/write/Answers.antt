use Rattle.std.proofs.Common.{◌≡◌, ◌≢◌, ℕ, List, [], ap, sym, subst, ◌∙◌}
use Rattle.std.specs.Prelude.{◌==◌}
use Rattle.lsv_disk.specs.Bytes.{written}
use Rattle.lsv_bundle.specs.Value.{FileView}
use Rattle.lsv_bundle.specs.InnerFiles.{IsAppended}
use Rattle.lsv_bundle.proofs.Results.{on_ok_map}
use Rattle.lsv_bundle.proofs.DataFiles.{keeps_now, nothing_written, write_keeps, write_run, write_appended, same_crash, same_written, same_frame, write_calls, some_staged}
use Rattle.lsv_bundle.proofs.data_file.DataFile.write.Goals as goal

pub returns-then-is_empty-clause-any_moment : goal.returns-then-is_empty-clause-any_moment
returns-then-is_empty-clause-any_moment g c told =
    let old = g.D.Disk.view c.args.disk.now in
    nothing_written c.args.owner c.args.self.now old old (c.requires.durable told) (g.met.D.Disk.only_now told c.args.disk.now)

pub returns-then-is_empty-clause-crash : goal.returns-then-is_empty-clause-crash
returns-then-is_empty-clause-crash g c told =
    let old = g.D.Disk.view c.args.disk.now in
    keeps_now c.args.owner c.args.self.now old old (c.requires.durable told)

pub returns-clause-any_moment : goal.returns-clause-any_moment
returns-clause-any_moment g c told =
    let old = g.D.Disk.view c.args.disk.now in
    let new = g.D.Disk.view c.write_at.new.self in
    let at : c.self.inside.committed ≡ c.args.self.now.committed = ap (λ (v : FileView). v.committed) c.self.view_is in
    let bytes : c.deref.result.now ≡ c.args.self.now.staged = c.deref.ensures.value ∙ ap (λ (v : FileView). v.staged) c.self.view_is in
    write_run c.args.owner c.args.self.now old new (c.requires.durable told)
    (same_crash c.args.owner c.args.self.now c.file.result c.self.inside.committed c.deref.result.now old new c.file.ensures at bytes (c.write_at.ensures.crash told))
    (same_frame c.args.owner c.args.self.now c.file.result c.self.inside.committed c.deref.result.now old new c.file.ensures at bytes (c.write_at.ensures.frame told))
    (g.met.D.Disk.only_now told c.args.disk.now) (g.met.D.Disk.only_now told c.write_at.new.self)

pub returns-clause-crash : goal.returns-clause-crash
returns-clause-crash g c told =
    let old = g.D.Disk.view c.args.disk.now in
    let new = g.D.Disk.view c.write_at.new.self in
    let at : c.self.inside.committed ≡ c.args.self.now.committed = ap (λ (v : FileView). v.committed) c.self.view_is in
    let bytes : c.deref.result.now ≡ c.args.self.now.staged = c.deref.ensures.value ∙ ap (λ (v : FileView). v.staged) c.self.view_is in
    write_keeps c.args.owner c.args.self.now old new (c.requires.durable told)
    (same_crash c.args.owner c.args.self.now c.file.result c.self.inside.committed c.deref.result.now old new c.file.ensures at bytes (c.write_at.ensures.crash told))

pub returns-clause-appended : goal.returns-clause-appended
returns-clause-appended g c told =
    let old = g.D.Disk.view c.args.disk.now in
    let new = g.D.Disk.view c.write_at.new.self in
    let at : c.self.inside.committed ≡ c.args.self.now.committed = ap (λ (v : FileView). v.committed) c.self.view_is in
    let bytes : c.deref.result.now ≡ c.args.self.now.staged = c.deref.ensures.value ∙ ap (λ (v : FileView). v.staged) c.self.view_is in
    let some : c.args.self.now.staged ≢ [] = subst (λ (l : List ℕ). l ≢ []) bytes (some_staged c.deref.result.now (ap (λ (n : ℕ). n == 0) c.deref.ensures.len ∙ sym c.is_empty.ensures ∙ c.if-is_empty.false)) in
    on_ok_map c.write_at.result (new.reads c.file.result ≡ written c.self.inside.committed c.deref.result.now (old.reads c.file.result)) (IsAppended c.args.owner old new c.args.self.now)
    (λ now. write_appended c.args.owner c.args.self.now old new (c.requires.durable told) some
    (same_written c.args.owner c.args.self.now c.file.result c.self.inside.committed c.deref.result.now old new c.file.ensures at bytes now))
    (c.write_at.ensures.written told)

pub returns-clause-calls : goal.returns-clause-calls
returns-clause-calls g c told =
    let old = g.D.Disk.view c.args.disk.now in
    let new = g.D.Disk.view c.write_at.new.self in
    let at : c.self.inside.committed ≡ c.args.self.now.committed = ap (λ (v : FileView). v.committed) c.self.view_is in
    let bytes : c.deref.result.now ≡ c.args.self.now.staged = c.deref.ensures.value ∙ ap (λ (v : FileView). v.staged) c.self.view_is in
    let some : c.deref.result.now ≢ [] = some_staged c.deref.result.now (ap (λ (n : ℕ). n == 0) c.deref.ensures.len ∙ sym c.is_empty.ensures ∙ c.if-is_empty.false) in
    write_calls c.args.owner c.args.self.now c.file.result c.self.inside.committed c.deref.result.now old new c.file.ensures at bytes some (c.write_at.ensures.frame told)
