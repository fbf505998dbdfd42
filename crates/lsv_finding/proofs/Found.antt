-- What one look finds.
use Rattle.std.proofs.Common.{◌≡◌, ◌∙◌, inl, inr, ℕ, List, [], ◌∷◌, Bool, false, cond, Option, Some, None, Result, Ok, Err, IfOk, refl, sym, ap, subst}
use Rattle.lsv_disk.specs.declared.disk.DiskFault.{DiskFault}
use Rattle.lsv_disk.specs.declared.file.Part.{Part}
use Rattle.lsv_disk.specs.declared.file.Part.TheVariants.{Exit as ExitPart}
use Rattle.lsv_disk.specs.View.{Image}
use Rattle.lsv_bundle.specs.declared.body.Body.{Body}
use Rattle.lsv_info.specs.declared.times.Exit.{Exit}
use Rattle.lsv_info.specs.declared.times.Head.{Head}
use Rattle.lsv_iolog.specs.Reading.{IsSoundBehind}
use Rattle.lsv_iolog.specs.Damage.{IsViewDamage}
use Rattle.lsv_iolog.specs.Recovered.{HasExit, Replays}
use Rattle.lsv_play.specs.Playing.{AreAll, AreBeforeFault, IsOpened, laid_at, text_at}
use Rattle.lsv_record.specs.declared.records.Record.{Record}
use Rattle.lsv_finding.specs.Checked.{EndsAt, IsFoundAs, RunsTo}
use Rattle.lsv_finding.specs.Findings.{Nowhere, Unlisted, Closed, Broken, Sound, HasExitLength, ReadsExit, content_parts, first_with_bytes, has_bytes}
use Rattle.lsv_finding.specs.declared.checked.Checked.{Checked}
use Rattle.lsv_finding.specs.declared.checked.Checked.TheVariants as kept
use Rattle.lsv_finding.specs.declared.checked.CheckFault.{CheckFault}
use Rattle.lsv_finding.specs.declared.records.Run.{Run}
use Rattle.lsv_finding.proofs.Stored.{exit_in, log_in, whole_is_stored}

same_sound : (a h : Head) (b c : Body) (exit : Option Exit) → a ≡ h → b ≡ c → kept.Sound a b exit ≡ kept.Sound h c exit
same_sound a h b c exit head body = cc

-- a log whose records were all read, and whose exit reads so
pub all_found : (n : ℕ) (image : Image) (body : Body) (head : Head) (exit : Option Exit) (records : List Record) (a : Head) (b : Body) → a ≡ head → b ≡ body → IsOpened n body head image → HasExitLength body
    → AreAll (laid_at n body image) body records → IsSoundBehind (laid_at n body image) body records
    → ((text : Option (List ℕ)) → HasExit body.kind (text_at n body image ExitPart) text → ReadsExit text exit) → IsFoundAs image n (kept.Sound a b exit)
all_found n image body head exit records a b same_head same_body opened fits all sound reads =
    let text = exit_in n image body head opened fits in
    record {
      finding = Sound head body (log_in n image body head opened records text.0) exit;
      is = (opened, whole_is_stored n image body head opened records text.0 all sound text.1, reads text.0 text.1);
      kept_is = same_sound a head b body exit same_head same_body;
    }

-- ---- a log that is opened

same_broken : (a h : Head) (b c : Body) (count time n t : ℕ) (part : Part) → a ≡ h → b ≡ c → count ≡ n → time ≡ t → kept.Broken a b count time part ≡ kept.Broken h c n t part
same_broken a h b c count time n t part head body counts times = cc

-- its exit doesn't fit its entry
pub unfit_found : (n : ℕ) (image : Image) (body : Body) (head a : Head) (b : Body) → a ≡ head → b ≡ body → IsOpened n body head image → (HasExitLength body → ⊥) → IsFoundAs image n (kept.Broken a b 0 0 ExitPart)
unfit_found n image body head a b same_head same_body opened unfit = record {
  finding = Broken head body [] ExitPart;
  is = (opened, inl (record { part_is = refl; none = refl; unfit = unfit }));
  kept_is = same_broken a head b body 0 0 0 0 ExitPart same_head same_body refl refl;
}

-- its records end at a fault
pub break_found : (n : ℕ) (image : Image) (body : Body) (head a : Head) (b : Body) (run : Run) (part : Part) → a ≡ head → b ≡ body → IsOpened n body head image → HasExitLength body → run.part ≡ Some part
    → RunsTo (laid_at n body image) body run → IsFoundAs image n (kept.Broken a b run.count run.elapsed part)
break_found n image body head a b run part same_head same_body opened fits is runs = record {
  finding = Broken head body runs.records part;
  is = (opened, inr (fits, at run.part is runs.ends));
  kept_is = same_broken a head b body run.count run.elapsed _ _ part same_head same_body runs.count runs.time;
} where
  at : (o : Option Part) → o ≡ Some part → EndsAt (laid_at n body image) body o runs.records → AreBeforeFault (laid_at n body image) body part runs.records
  at None e ends = absurd (cc)
  at (Some found) e ends = let same : found ≡ part = cc in subst (λ (p : Part). AreBeforeFault (laid_at n body image) body p runs.records) same ends

-- its records are read to the end
pub ends_whole : (n : ℕ) (image : Image) (body : Body) (run : Run) → run.part ≡ None → (runs : RunsTo (laid_at n body image) body run) → AreAll (laid_at n body image) body runs.records × IsSoundBehind (laid_at n body image) body runs.records
ends_whole n image body run is runs = at run.part is runs.ends where
  at : (o : Option Part) → o ≡ None → EndsAt (laid_at n body image) body o runs.records → AreAll (laid_at n body image) body runs.records × IsSoundBehind (laid_at n body image) body runs.records
  at None e ends = ends
  at (Some found) e ends = absurd (cc)

pub opened_same : (n m : ℕ) (image other : Image) (body b : Body) (head h : Head) → m ≡ n → b ≡ body → h ≡ head → other ≡ image → IsOpened n body head image → IsOpened m b h other
opened_same n m image other body b head h number same_body same_head same opened =
    subst (λ (k : ℕ). IsOpened k b h other) (sym number) (subst (λ (x : Body). IsOpened n x h other) (sym same_body) (subst (λ (x : Head). IsOpened n body x other) (sym same_head) (subst (λ (i : Image). IsOpened n body head i) (sym same) opened)))

-- ---- a log without an entry

pub none_found : (n : ℕ) (image : Image) → Replays image n None → None ≡ first_with_bytes image n content_parts → IsFoundAs image n kept.Nowhere
none_found n image none first = record { finding = Nowhere; is = (none, sym first); kept_is = refl }

pub unlisted_found : (n : ℕ) (image : Image) (part : Part) → Replays image n None → Some part ≡ first_with_bytes image n content_parts → IsFoundAs image n (kept.Unlisted part)
unlisted_found n image part none first = record { finding = Unlisted part; is = (none, sym first); kept_is = refl }

pub closed_found : (n : ℕ) (image : Image) (part : Part) → IsViewDamage n part image → IsFoundAs image n (kept.Closed part)
closed_found n image part damage = record { finding = Closed part; is = damage; kept_is = refl }

-- the first file has no bytes, so that the others are looked at
pub first_passed : (n : ℕ) (image other : Image) (parts : List Part) (first : Part) (rest : List Part) (b : Bool) (r : Result (Option Part) DiskFault) → parts ≡ first ∷ rest → other ≡ image → b ≡ has_bytes image n first → b ≡ false
    → IfOk r (λ o. o ≡ first_with_bytes other n rest) → IfOk r (λ o. o ≡ first_with_bytes image n parts)
first_passed n image other parts first rest b (Err e) list same is no_ found = tt
first_passed n image other parts first rest b (Ok o) list same is no_ found =
    let none : has_bytes image n first ≡ false = sym is ∙ no_ in
    found ∙ ap (λ (i : Image). first_with_bytes i n rest) same ∙ ap (λ (t : Bool). cond t (Some first) (first_with_bytes image n rest)) (sym none) ∙ ap (first_with_bytes image n) (sym list)

-- what is found of the image that a disk read as before
pub found_before : (n : ℕ) (image other : Image) (r : Result Checked CheckFault) → other ≡ image → IfOk r (IsFoundAs other n) → IfOk r (IsFoundAs image n)
found_before n image other r same found = subst (λ (i : Image). IfOk r (IsFoundAs i n)) same found

pub found_number : (n m : ℕ) (image : Image) (r : Result Checked CheckFault) → m ≡ n → IfOk r (IsFoundAs image m) → IfOk r (IsFoundAs image n)
found_number n m image r same found = subst (λ (k : ℕ). IfOk r (IsFoundAs image k)) same found

-- the same of what a disk reads as after it was only read
pub replays_moved : (n : ℕ) (image other : Image) → other ≡ image → Replays image n None → Replays other n None
replays_moved n image other same none = subst (λ (i : Image). Replays i n None) (sym same) none

pub whole_moved : (n m : ℕ) (image other : Image) (body b : Body) (records : List Record) → m ≡ n → b ≡ body → other ≡ image → AreAll (laid_at n body image) body records × IsSoundBehind (laid_at n body image) body records
    → AreAll (laid_at m b other) b records × IsSoundBehind (laid_at m b other) b records
whole_moved n m image other body b records number same_body same whole =
    subst (λ (k : ℕ). AreAll (laid_at k b other) b records × IsSoundBehind (laid_at k b other) b records) (sym number)
    (subst (λ (x : Body). AreAll (laid_at n x other) x records × IsSoundBehind (laid_at n x other) x records) (sym same_body)
    (subst (λ (i : Image). AreAll (laid_at n body i) body records × IsSoundBehind (laid_at n body i) body records) (sym same) whole))

pub as_before : (n : ℕ) (image other : Image) (found : Checked) → other ≡ image → IsFoundAs other n found → IsFoundAs image n found
as_before n image other found same is = subst (λ (i : Image). IsFoundAs i n found) same is
