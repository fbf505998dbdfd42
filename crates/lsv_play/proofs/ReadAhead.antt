-- Records that are read ahead of a log, and what they are once it was looked at again.
use Rattle.std.proofs.Common.{◌≡◌, ◌≢◌, ◌∙◌, ◌++◌, ℕ, ◌≤◌, List, [], ◌∷◌, Option, Some, None, refl, sym, ap, subst, append-nil, append_assoc, arith}
use Rattle.std.specs.Prelude.{false, Result, Ok, Err, OnOk}
use Rattle.std.specs.Result.{is_err}
use Rattle.lsv_disk.specs.declared.file.FileId.{FileId}
use Rattle.lsv_disk.specs.declared.file.Part.{Part}
use Rattle.lsv_disk.specs.declared.file.Part.TheVariants.{Timing}
use Rattle.lsv_disk.specs.Throughout.{OnlyReads}
use Rattle.lsv_disk.specs.View.{DiskView, Image}
use Rattle.lsv_disk.proofs.Composition.{OnlyNow, reads_trans}
use Rattle.lsv_bundle.specs.declared.body.Body.{Body}
use Rattle.lsv_bundle.specs.Body.{encoded}
use Rattle.lsv_bundle.proofs.Laws.{one_body}
use Rattle.lsv_iolog.specs.Faults.{IsNextFault}
use Rattle.lsv_iolog.specs.Reading.{AreThere, HasCuts, IsBehind, IsFaultBehind, IsSoundBehind, IsWhole, IsWindowOf, ViewState, committed_laid}
use Rattle.lsv_iolog.specs.Recovered.{Replays, owner_of}
use Rattle.lsv_iolog.specs.declared.fault.ViewFault.{ViewFault}
use Rattle.lsv_iolog.specs.declared.fault.ViewFault.TheVariants as views
use Rattle.lsv_iolog.proofs.Scans.{reads_nothing}
use Rattle.lsv_record.specs.Layout.{Begins}
use Rattle.lsv_record.specs.declared.laid.Laid.{Laid}
use Rattle.lsv_record.specs.declared.records.Record.{Record}
use Rattle.lsv_play.specs.Ahead.{ComesNext, IsPiece, IsReached, WasCut}
use Rattle.lsv_play.specs.Playing.{AreAll, IsSoundSoFar, laid_at, text_at}
use Rattle.lsv_play.specs.declared.ahead.Next.{Next}
use Rattle.lsv_play.specs.declared.ahead.Next.TheVariants.{More, End, Fault}
use Rattle.lsv_play.proofs.Played.{same_image, sound_push}

-- what is said of a log and of an image, after calls that only read
pub at_log : (P : ℕ → Body → Image → Type 0) (old new : ViewState) (was now : DiskView) → new.number ≡ old.number → new.body ≡ old.body → OnlyReads was now → P old.number old.body was.reads → P new.number new.body now.reads
at_log P old new was now number body reads p =
    subst (λ (i : Image). P new.number new.body i) (sym (same_image was now reads)) (subst (λ (b : Body). P new.number b was.reads) (sym body) (subst (λ (n : ℕ). P n old.body was.reads) (sym number) p))

-- and before them
pub back_log : (P : ℕ → Body → Image → Type 0) (old new : ViewState) (was now : DiskView) → new.number ≡ old.number → new.body ≡ old.body → OnlyReads was now → P new.number new.body now.reads → P old.number old.body was.reads
back_log P old new was now number body reads p =
    subst (λ (n : ℕ). P n old.body was.reads) number (subst (λ (b : Body). P new.number b was.reads) body (subst (λ (i : Image). P new.number new.body i) (same_image was now reads) p))

-- a view stands where it stood, if the disk was only read
pub behind_stays : (view : ViewState) (rs : List Record) (was now : DiskView) → OnlyReads was now → IsBehind view rs was → IsBehind view rs now
behind_stays view rs was now reads behind = record {
  begins = at_log (λ n b i. Begins (laid_at n b i) rs) view view was now refl refl reads behind.begins;
  given = behind.given;
  there = at_log (λ n b i. AreThere (owner_of n) b i) view view was now refl refl reads behind.there;
  window = at_log (λ n b i. IsWindowOf (text_at n b i Timing) view.start view.window view.given.timing) view view was now refl refl reads behind.window;
}

-- the same records are reached where the view stands after them still
pub reached_same : (old new : ViewState) (rs : List Record) (was now : DiskView) → new.number ≡ old.number → new.body ≡ old.body → OnlyReads was now → IsBehind new rs now → IsReached old rs was → IsReached new rs now
reached_same old new rs was now number body reads behind is = record {
  behind = behind;
  sound = at_log (λ n b i. IsSoundSoFar (laid_at n b i) b rs) old new was now number body reads is.sound;
  cuts = at_log (λ n b i. HasCuts n b.extra i) old new was now number body reads is.cuts;
}

-- nor does it change what is reached, if the disk is only read
pub reached_stays : (view : ViewState) (rs : List Record) (was now : DiskView) → OnlyReads was now → IsReached view rs was → IsReached view rs now
reached_stays view rs was now reads is = reached_same view view rs was now refl refl reads (behind_stays view rs was now reads is.behind) is

-- with one record more
reached_push : (old new : ViewState) (rs : List Record) (r : Record) (was now : DiskView) → new.number ≡ old.number → new.body ≡ old.body → OnlyReads was now → IsBehind new (rs ++ r ∷ []) now
    → IsSoundBehind (committed_laid old.number old.body was) old.body rs → IsReached old rs was → IsReached new (rs ++ r ∷ []) now
reached_push old new rs r was now number body reads behind sound is = record {
  behind = behind;
  sound = at_log (λ n b i. IsSoundSoFar (laid_at n b i) b (rs ++ r ∷ [])) old new was now number body reads (sound_push (laid_at old.number old.body was.reads) old.body rs r is.sound sound);
  cuts = at_log (λ n b i. HasCuts n b.extra i) old new was now number body reads is.cuts;
}

-- ---- a loop that reads ahead

-- it only read so far, and the log was read on through these records
pub record IsAhead (tells : Type 0) (start log : ViewState) (old now : DiskView) (records : List Record) : Type 0 where
  pub number : log.number ≡ start.number
  pub body : log.body ≡ start.body
  pub disk : (f : FileId) → old.faults f ≤ now.faults f
  pub reads : tells → OnlyReads old now
  pub reached : tells → (before : List Record) → IsReached start before old → IsReached log (before ++ records) now

-- at first
pub ahead_starts : (tells : Type 0) (log : ViewState) (disk : DiskView) → (tells → OnlyNow disk) → IsAhead tells log log disk disk []
ahead_starts tells log disk now = record {
  number = refl;
  body = refl;
  disk = λ f. omega arith;
  reads = λ told. reads_nothing disk (now told);
  reached = λ told before is. subst (λ (rs : List Record). IsReached log rs disk) (sym (append-nil before)) is;
}

-- with one record more
pub ahead_goes_on : (tells : Type 0) (start log next : ViewState) (old now later : DiskView) (records more : List Record) (r : Record) → IsAhead tells start log old now records → next.number ≡ log.number → next.body ≡ log.body
    → (tells → OnlyReads now later) → ((f : FileId) → now.faults f ≤ later.faults f)
    → (tells → (rs : List Record) → IsBehind log rs now → IsBehind next (rs ++ r ∷ []) later) → (tells → (rs : List Record) → IsBehind log rs now → IsSoundBehind (committed_laid log.number log.body now) log.body rs)
    → more ≡ records ++ r ∷ [] → IsAhead tells start next old later more
ahead_goes_on tells start log next old now later records more r is number body reads disk given sound pushed = record {
  number = number ∙ is.number;
  body = body ∙ is.body;
  disk = λ f. omega (arith, is.disk f, disk f);
  reads = λ told. reads_trans old now later (is.reads told) (reads told);
  reached = λ told before first. let at = is.reached told before first in
      subst (λ (rs : List Record). IsReached next rs later) (append_assoc before records (r ∷ []) ∙ ap (λ (rs : List Record). before ++ rs) (sym pushed))
      (reached_push log next (before ++ records) r now later number body (reads told) (given told (before ++ records) at.behind) (sound told (before ++ records) at.behind) at);
}

-- the log ends
pub ahead_ends : (old new : ViewState) (was now : DiskView) (rs : List Record) → new.number ≡ old.number → new.body ≡ old.body → OnlyReads was now → IsBehind old rs was → IsWhole old rs was → AreAll (laid_at new.number new.body now.reads) new.body rs
ahead_ends old new was now rs number body reads behind whole =
    at_log (λ n b i. AreAll (laid_at n b i) b rs) old new was now number body reads (record { begins = behind.begins; layout = whole.layout; count = whole.count; time = whole.time })

-- the log isn't read on
pub ahead_fails : (old new : ViewState) (was now : DiskView) (rs : List Record) (e : ViewFault) → new.number ≡ old.number → new.body ≡ old.body → OnlyReads was now → IsNextFault e
    → ((part : Part) → e ≡ views.Damaged part → IsFaultBehind (committed_laid old.number old.body was) old.body rs part) → ComesNext (laid_at new.number new.body now.reads) new.body rs (Fault e)
ahead_fails old new was now rs e number body reads is fault =
    (is, λ part damaged. at_log (λ n b i. IsFaultBehind (laid_at n b i) b rs part) old new was now number body reads (fault part damaged))

-- ---- a look

some_same : (o : Option (List ℕ)) (a b : List ℕ) → o ≡ Some a → o ≡ Some b → a ≡ b
some_same o a b one two = cc

none_not : (o : Option (List ℕ)) (a : List ℕ) → o ≡ None → o ≡ Some a → ⊥
none_not o a one two = cc

-- a log has one count of cuts
pub one_count : (n a b : ℕ) (image : Image) → HasCuts n a image → HasCuts n b image → a ≡ b
one_count n a b image (x, at, is) (y, there, was) =
    is ∙ ap (λ (w : Body). w.extra) (one_body x y at.is_body there.is_body (some_same _ (encoded x) (encoded y) at.last there.last)) ∙ sym was

-- so it wasn't cut
pub not_cut : (view : ViewState) (image : Image) → HasCuts view.number view.body.extra image → WasCut view image → ⊥
not_cut view image has (cuts, now, differ) = differ (one_count view.number cuts view.body.extra image now has)

-- and isn't absent
pub not_gone : (n cuts : ℕ) (image : Image) → HasCuts n cuts image → Replays image n None → ⊥
not_gone n cuts image (body, entry, is) gone = none_not _ (encoded body) gone entry.last

-- ---- what comes next

pub more_no_fault : More ≡ Fault views.Disk → ⊥
more_no_fault e = cc

pub end_no_fault : End ≡ Fault views.Disk → ⊥
end_no_fault e = cc

pub fault_disk : (e : ViewFault) → Fault e ≡ Fault views.Disk → e ≡ views.Disk
fault_disk e is = cc

-- what holds if a call went well
pub went_well : {X E : Type 0} (r : Result X E) (P : Type 0) → false ≡ is_err r → OnOk r P → P
went_well (Ok x) P is holds = holds
went_well (Err e) P is holds = absurd (let no_ : ⊥ = cc in no_)
