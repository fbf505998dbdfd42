use Rattle.std.proofs.Common.{◌≡◌, ◌⊎◌, inl, inr, [], Some}
use Rattle.lsv_disk.specs.declared.file.FileId.{FileId}
use Rattle.lsv_disk.specs.Files.{IsOneOf, IsNew}
use Rattle.lsv_disk.specs.Memory.Value.{view_of_disk}
use Rattle.lsv_disk.proofs.Composition.{on_ok_map, widened}
use Rattle.lsv_disk.proofs.MemoryLemmas.Each.{MadeOrBefore}
use Rattle.lsv_disk.proofs.memory.MemDiskDisk.create_all.Goals as goal

pub returns-clause-made : goal.returns-clause-made
returns-clause-made c told =
    let new = view_of_disk c.make_each.new.self in
    on_ok_map c.make_each.result ((f : FileId) → IsOneOf c.args.owner c.args.parts.now f → new.reads f ≡ Some []) ((f : FileId) → IsOneOf c.args.owner c.args.parts.now f → IsNew f (new.reads f))
    (λ made f one. inl (made f one)) c.make_each.ensures.made

pub returns-clause-made_or_not : goal.returns-clause-made_or_not
returns-clause-made_or_not c told f one = elim (c.make_each.ensures.made_or_not f one) [ inl absent ↦ inl absent | inr empty ↦ inr (inl empty) ]

pub returns-clause-any_moment : goal.returns-clause-any_moment
returns-clause-any_moment c told =
    let touched : FileId → Type 0 = IsOneOf c.args.owner c.args.parts.now in
    let old = view_of_disk c.args.self.now in
    let new = view_of_disk c.make_each.new.self in
    widened touched touched (MadeOrBefore c.args.owner c.args.parts.now old) (λ image. (f : FileId) → touched f → old.crash_states f (image f) ⊎ IsNew f (image f)) old new (λ f one. one)
    (λ image has beside f one. elim (has f one) [ inl was ↦ inl was | inr empty ↦ inr (inl empty) ])
    c.make_each.ensures.any_moment
