use Rattle.std.proofs.Common.{◌≡◌, ◌-◌, ◌⊎◌, ℕ, List, [], ◌∷◌, Option, Some, length, take, drop, get_or, sym, subst}
use Rattle.lsv_disk.specs.declared.file.FileId.{FileId}
use Rattle.lsv_disk.specs.declared.file.Part.{Part}
use Rattle.lsv_disk.specs.declared.file.Part.TheVariants.{Head}
use Rattle.lsv_disk.specs.Files.{IsOneOf, AreDistinct}
use Rattle.lsv_disk.specs.View.{IsSynced, OneMaking}
use Rattle.lsv_disk.specs.Throughout.{Throughout}
use Rattle.lsv_disk.specs.Memory.Laws.{view-only_now}
use Rattle.lsv_disk.specs.Memory.Stored.{places_of}
use Rattle.lsv_disk.specs.Memory.Value.{view_of_disk}
use Rattle.lsv_disk.specs.declared.memory.MemDisk.{MemDisk}
use Rattle.lsv_disk.proofs.Composition.{OnlyNow, on_ok_map}
use Rattle.lsv_disk.proofs.MemoryLemmas.Each.{split_list, MadeOrBefore, first_made, all_made, all_synced}
use Rattle.lsv_disk.proofs.memory.MemDisk.+make_each.Goals as goal

only_now : (d : MemDisk) → OnlyNow (view_of_disk d)
only_now d = view-only_now d.calls.items d.refused (places_of d.places)

pub returns-clause-durable : goal.returns-clause-durable
returns-clause-durable t c =
    let parts : List Part = c.args.parts.now in
    let first : Part = get_or parts 0 Head in
    let rest : List Part = take (length parts - 1) (drop 1 parts) in
    let old = view_of_disk c.args.self.now in
    let mid = view_of_disk c.make_file.new.self in
    let new = view_of_disk c.make_each.new.self in
    let split : parts ≡ first ∷ rest = split_list parts Head c.in-len1-up.len_at_least in
    let distinct : AreDistinct c.args.owner (first ∷ rest) = subst (AreDistinct c.args.owner) split c.requires.distinct in
    on_ok_map c.make_each.result ((f : FileId) → IsOneOf c.args.owner rest f → IsSynced new f) ((f : FileId) → IsOneOf c.args.owner parts f → IsSynced new f)
    (λ rests. subst (λ (ps : List Part). (f : FileId) → IsOneOf c.args.owner ps f → IsSynced new f) (sym split)
    (all_synced c.args.owner first rest old mid new distinct.0 (subst (λ (f : FileId). OneMaking f old mid) c.new.ensures c.make_file.ensures.frame) (only_now c.args.self.now) (only_now c.make_file.new.self)
    (subst (λ (f : FileId). (d : Option (List ℕ)) → mid.crash_states f d → old.crash_states f d ⊎ (d ≡ Some [])) c.new.ensures c.make_file.ensures.crash)
    c.make_each.ensures.any_moment (subst (λ (f : FileId). IsSynced mid f) c.new.ensures c.in_ok-make_file.ensures.durable) rests))
    c.make_each.ensures.durable

pub returns-in_err-make_file-clause-any_moment : goal.returns-in_err-make_file-clause-any_moment
returns-in_err-make_file-clause-any_moment t c =
    let parts : List Part = c.args.parts.now in
    let first : Part = get_or parts 0 Head in
    let rest : List Part = take (length parts - 1) (drop 1 parts) in
    let old = view_of_disk c.args.self.now in
    let mid = view_of_disk c.make_file.new.self in
    let split : parts ≡ first ∷ rest = split_list parts Head c.in-len1-up.len_at_least in
    let distinct : AreDistinct c.args.owner (first ∷ rest) = subst (AreDistinct c.args.owner) split c.requires.distinct in
    subst (λ (ps : List Part). Throughout (IsOneOf c.args.owner ps) (MadeOrBefore c.args.owner ps old) old mid) (sym split)
    (first_made c.args.owner first rest old mid mid distinct.0 (subst (λ (f : FileId). OneMaking f old mid) c.new.ensures c.make_file.ensures.frame) (only_now c.args.self.now) (only_now c.make_file.new.self)
    (subst (λ (f : FileId). (d : Option (List ℕ)) → mid.crash_states f d → old.crash_states f d ⊎ (d ≡ Some [])) c.new.ensures c.make_file.ensures.crash))

pub returns-clause-any_moment : goal.returns-clause-any_moment
returns-clause-any_moment t c =
    let parts : List Part = c.args.parts.now in
    let first : Part = get_or parts 0 Head in
    let rest : List Part = take (length parts - 1) (drop 1 parts) in
    let old = view_of_disk c.args.self.now in
    let mid = view_of_disk c.make_file.new.self in
    let new = view_of_disk c.make_each.new.self in
    let split : parts ≡ first ∷ rest = split_list parts Head c.in-len1-up.len_at_least in
    let distinct : AreDistinct c.args.owner (first ∷ rest) = subst (AreDistinct c.args.owner) split c.requires.distinct in
    subst (λ (ps : List Part). Throughout (IsOneOf c.args.owner ps) (MadeOrBefore c.args.owner ps old) old new) (sym split)
    (all_made c.args.owner first rest old mid new distinct.0 (subst (λ (f : FileId). OneMaking f old mid) c.new.ensures c.make_file.ensures.frame) (only_now c.args.self.now) (only_now c.make_file.new.self)
    (subst (λ (f : FileId). (d : Option (List ℕ)) → mid.crash_states f d → old.crash_states f d ⊎ (d ≡ Some [])) c.new.ensures c.make_file.ensures.crash)
    c.make_each.ensures.any_moment)
