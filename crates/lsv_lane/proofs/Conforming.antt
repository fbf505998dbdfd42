-- What a lane did with its store.
use Rattle.std.proofs.Common.{◌≡◌, ◌≢◌, [], List, ℕ, Option, Some, None, refl, sym, ap, ◌∙◌, subst, arith, ◌≤◌}
use Rattle.lsv_disk.specs.View.{DiskView, Image, IsCrashImage}
use Rattle.lsv_seq.specs.Drawn.{entry_at, judged}
use Rattle.lsv_seq.specs.declared.entry.Entry.{Entry}
use Rattle.lsv_session.specs.declared.connection.ConnId.{ConnId}
use Rattle.lsv_machine.specs.Disks.{NumbersFit}
use Rattle.lsv_machine.specs.Durable.{Reading}
use Rattle.lsv_machine.specs.Keeping.{OpensStore}
use Rattle.lsv_machine.specs.Machine.{Machine, Settings}
use Rattle.lsv_machine.specs.Recovery.{Outside, Recovers, Story}
use Rattle.lsv_machine.specs.Turns.{Happened, Run}
use Rattle.lsv_machine.proofs.Recovering.{only_opened}
use Rattle.lsv_machine.proofs.RunLaws.{one_writer}
use Rattle.lsv_keeper.specs.Reading.{reading_of}
use Rattle.lsv_keeper.specs.Represents.{Free, LogIs}
use Rattle.lsv_keeper.specs.Syncing.{NoLogUsed}
use Rattle.lsv_keeper.specs.Value.{KeeperView}
use Rattle.lsv_turn.specs.Turns.{LaneTurn}
use Rattle.lsv_lane.specs.InnerLane.{Standing}
use Rattle.lsv_lane.specs.Store.{Conforms, IsFresh, KeepsStore}

-- a log that nobody writes reads as the machine says
free_reads : (v : KeeperView) (disk : DiskView) (m : Machine) (n : ℕ) → m.owner n ≡ None → LogIs v disk m n (m.owner n) → Free v disk m n
free_reads v disk m n e is = subst (λ (o : Option ConnId). LogIs v disk m n o) e is

conforms : (set : Settings) (texts : List (List ℕ)) (found now : DiskView) (v : KeeperView) (turns : List LaneTurn) → (s : Standing set texts found now v turns) → Conforms set texts (record { found = found; left = now }) s.story
conforms set texts found now v turns s = record {
  end = s.machine;
  ran = s.so_far.ran;
  one_writer = λ n before run rest e. one_writer set n before run rest texts s.so_far.ran.start s.machine s.so_far.ran.starts (subst (λ (h : List Happened). Run set s.so_far.ran.start h s.machine) e s.so_far.ran.run);
  logs = λ n e. (free_reads v now s.machine n e (s.represents.logs n)).reads;
  lines = s.so_far.lines;
}

-- what a run did with the store
pub keeps : (opened : Type 0) (set : Settings) (texts : List (List ℕ)) (found now : DiskView) (v : KeeperView) (turns : List LaneTurn) → Standing set texts found now v turns → KeepsStore opened set texts (record { found = found; left = now }) turns
keeps opened set texts found now v turns s = record {
  story = s.story;
  are = s.same;
  conforms = λ up. conforms set texts found now v turns s;
  recovers = s.so_far.recovers;
  spared = s.spared;
}

-- and where the store wasn't opened
pub keeps_none : (set : Settings) (texts : List (List ℕ)) (found now : DiskView) → OpensStore (reading_of set.lane set.lanes) set.lane set.lanes found now → NoLogUsed found now → KeepsStore ⊥ set texts (record { found = found; left = now }) []
keeps_none set texts found now opens unused = record {
  story = record { opened = now.moment; turns = [] };
  are = tt;
  conforms = λ up. absurd up;
  recovers = only_opened (reading_of set.lane set.lanes) set.lane set.lanes texts found now opens;
  spared = λ n nothing file own other. (unused n).writes file own;
}

-- what is so of a store that was opened, is so under a narrower condition
pub keeps_less : (opened less : Type 0) (set : Settings) (texts : List (List ℕ)) (o : Outside) (turns : List LaneTurn) → (less → opened) → KeepsStore opened set texts o turns → KeepsStore less set texts o turns
keeps_less opened less set texts o turns f k = record { story = k.story; are = k.are; conforms = λ x. k.conforms (f x); recovers = k.recovers; spared = k.spared }

-- the numbers fit at the end of a run
pub fit_now : (r : Reading) (lane lanes : ℕ) (texts : List (List ℕ)) (found left : DiskView) (s : Story) → ((image : Image) → IsCrashImage left image → left.crash_images_at left.moment image)
    → Recovers r lane lanes texts (record { found = found; left = left }) s → NumbersFit r lane lanes (IsCrashImage found) → NumbersFit r lane lanes (IsCrashImage left)
fit_now r lane lanes texts found left s is_now rec fit =
    let spans = rec.spans in
    let later : found.moment ≤ left.moment = let a = spans.first in let b = spans.within [] s.turns refl in omega arith in
    let at = rec.numbers fit left.moment later (omega arith) in
    record { told = λ image is. at.told image (is_now image is); none_above = λ a b last n is it. at.none_above a b last n (is_now a is) (is_now b it) }

-- a disk is still one that this server's runs leave, if an entry of the numbers stays and the numbers fit as before
pub fresh_still : (lane lanes : ℕ) (found left : DiskView) → IsFresh lane lanes found → (entry_at lane found.reads ≢ None → entry_at lane left.reads ≡ entry_at lane found.reads)
    → (NumbersFit (reading_of lane lanes) lane lanes (IsCrashImage found) → NumbersFit (reading_of lane lanes) lane lanes (IsCrashImage left)) → IsFresh lane lanes left
fresh_still lane lanes found left fresh same fits last well = go (entry_at lane found.reads) refl
  where
    go : (o : Option Entry) → entry_at lane found.reads ≡ o → NumbersFit (reading_of lane lanes) lane lanes (IsCrashImage left)
    go None none = fits (fresh 0 (ap (judged lane lanes) none))
    go (Some e) some = fits (fresh last (ap (judged lane lanes) (sym (same (λ none. let x : Some e ≡ None = sym some ∙ none in cc))) ∙ well))
