-- The records of a log are added one by one.
use Rattle.std.proofs.Common.{◌≡◌, ◌∙◌, ◌++◌, ◌≤◌, ◌⊎◌, inl, inr, ℕ, List, [], ◌∷◌, length, refl, sym, ap, subst, arith, None, Result, Ok, Err, IsErrAnd}
use Rattle.std.specs.Prelude.{IfErr, true}
use Rattle.std.proofs.Math.Path.{fun_ext}
use Rattle.lsv_disk.specs.declared.file.FileId.{FileId}
use Rattle.lsv_disk.specs.declared.file.Part.{Part}
use Rattle.lsv_disk.specs.Throughout.{OnlyReads}
use Rattle.lsv_disk.specs.View.{DiskView, Image}
use Rattle.lsv_disk.proofs.Composition.{OnlyNow, reads_trans, unchanged_reads}
use Rattle.lsv_bundle.specs.declared.body.Body.{Body}
use Rattle.lsv_gen.specs.Summary.{totals_of, totals_with}
use Rattle.lsv_gen.specs.declared.totals.Totals.{Totals}
use Rattle.lsv_iolog.specs.declared.fault.ViewFault.{ViewFault}
use Rattle.lsv_iolog.specs.declared.fault.ViewFault.TheVariants as views
use Rattle.lsv_iolog.specs.Faults.{IsNextFault}
use Rattle.lsv_iolog.specs.Reading.{IsBehind, IsFaultBehind, IsSoundBehind, IsWhole, ViewState, committed_laid}
use Rattle.lsv_iolog.proofs.Scans.{reads_nothing}
use Rattle.lsv_play.specs.declared.options.Options.{Options}
use Rattle.lsv_play.specs.Schedule.{play}
use Rattle.lsv_play.specs.Playing.{AreBeforeFault, IsOpened, IsSoundSoFar, laid_at}
use Rattle.lsv_play.proofs.Played.{begins_same}
use Rattle.lsv_play.proofs.Undamaged.{stored_undamaged}
use Rattle.lsv_record.specs.declared.laid.Laid.{Laid}
use Rattle.lsv_record.specs.declared.records.Record.{Record}
use Rattle.lsv_record.specs.Layout.{IsLayout}
use Rattle.lsv_record.specs.Points.{Stored}
use Rattle.lsv_record.specs.Records.{elapsed}
use Rattle.lsv_load.specs.Faults.{IsFitting}
use Rattle.lsv_load.specs.InnerSums.{AddsAll, IsAdding, IsUnread}

-- a disk that was only read reads as before
pub same_image : (old new : DiskView) → OnlyReads old new → new.reads ≡ old.reads
same_image old new reads = fun_ext (λ f. unchanged_reads old new reads.unchanged f)

-- what holds of the error that it is
pub err_holds : {T : Type 0} (r : Result T ViewFault) (e : ViewFault) (P : ViewFault → Type 0) → IsErrAnd r (λ x. x ≡ e) → P e → IfErr r P
err_holds (Ok x) e P is holds = absurd is
err_holds (Err x) e P is holds = subst P (sym is) holds

-- ---- After no shorter part of the records a part is at fault

none_split : (front : List Record) (r : Record) (more : List Record) → [] ≡ front ++ r ∷ more → ⊥
none_split [] r more e = cc
none_split (x ∷ front) r more e = cc

-- a shorter part of records with one more is all of the others, or a shorter part of them
last_or : (rs front : List Record) (r x : Record) (more : List Record) → rs ++ r ∷ [] ≡ front ++ x ∷ more → (front ≡ rs) ⊎ ((rest : List Record) × (rs ≡ front ++ x ∷ rest))
last_or [] [] r x more e = inl refl
last_or [] (y ∷ front) r x more e = absurd (let a : [] ≡ front ++ x ∷ more = cc in none_split front x more a)
last_or (z ∷ rs) [] r x more e = inr (rs, let a : z ≡ x = cc in ap (λ (w : Record). w ∷ rs) a)
last_or (z ∷ rs) (y ∷ front) r x more e =
    let h : z ≡ y = cc in
    let rest : rs ++ r ∷ [] ≡ front ++ x ∷ more = cc in
    elim (last_or rs front r x more rest) [
      | inl p ↦ inl (ap (λ (w : Record). w ∷ front) (sym h) ∙ ap (λ (ws : List Record). z ∷ ws) p)
      | inr p ↦ inr (p.0, ap (λ (w : Record). w ∷ rs) h ∙ ap (λ (ws : List Record). y ∷ ws) p.1)
    ]

-- where after these nothing is at fault, one more may be given
sound_push : (l : Laid) (body : Body) (rs : List Record) (r : Record) → IsSoundSoFar l body rs → IsSoundBehind l body rs → IsSoundSoFar l body (rs ++ r ∷ [])
sound_push l body rs r so_far here front x more e = elim (last_or rs front r x more e) [ inl p ↦ subst (IsSoundBehind l body) (sym p) here | inr p ↦ so_far front x p.0 p.1 ]

-- the committed bytes are those of the image at the start
laid_same : (start log : ViewState) (old now : DiskView) → log.number ≡ start.number → log.body ≡ start.body → now.reads ≡ old.reads → committed_laid log.number log.body now ≡ laid_at start.number start.body old.reads
laid_same start log old now number body reads =
    ap (λ (image : Image). laid_at log.number log.body image) reads ∙ ap (λ (n : ℕ). laid_at n log.body old.reads) number ∙ ap (λ (b : Body). laid_at start.number b old.reads) body

sound_same : (start log : ViewState) (old now : DiskView) (rs : List Record) → log.number ≡ start.number → log.body ≡ start.body → OnlyReads old now → IsSoundBehind (committed_laid log.number log.body now) log.body rs
    → IsSoundBehind (laid_at start.number start.body old.reads) start.body rs
sound_same start log old now rs number body reads sound =
    subst (λ (b : Body). IsSoundBehind (laid_at start.number start.body old.reads) b rs) body
    (subst (λ (l : Laid). IsSoundBehind l log.body rs) (laid_same start log old now number body (same_image old now reads)) sound)

-- ---- The records that were added

-- at first
pub adding_starts : (tells : Type 0) (log : ViewState) (disk : DiskView) (sums : Totals) → (tells → OnlyNow disk) → IsAdding tells log log disk disk sums sums
adding_starts tells log disk sums now = record {
  number = refl;
  body = refl;
  disk = λ f. omega arith;
  reads = λ told. reads_nothing disk (now told);
  behind = λ told behind. ([], behind, (λ logs e. e), λ front r more e. absurd (none_split front r more e));
}

-- with one record more
pub adding_goes_on : (tells : Type 0) (start log next : ViewState) (old now later : DiskView) (before sums more : Totals) (r : Record) → IsAdding tells start log old now before sums → next.number ≡ log.number → next.body ≡ log.body
    → (tells → OnlyReads now later) → ((f : FileId) → now.faults f ≤ later.faults f) → (tells → (rs : List Record) → IsBehind log rs now → IsBehind next (rs ++ r ∷ []) later)
    → (tells → (rs : List Record) → IsBehind log rs now → IsSoundBehind (committed_laid log.number log.body now) log.body rs)
    → ((logs : List Stored) (rs : List Record) → sums ≡ totals_with logs rs → more ≡ totals_with logs (rs ++ r ∷ [])) → IsAdding tells start next old later before more
adding_goes_on tells start log next old now later before sums more r is number body reads disk given sound added = record {
  number = number ∙ is.number;
  body = body ∙ is.body;
  disk = λ f. omega (arith, is.disk f, disk f);
  reads = λ told. reads_trans old now later (is.reads told) (reads told);
  behind = λ told behind. let so_far = is.behind told behind in (
    so_far.0 ++ r ∷ [],
    given told so_far.0 so_far.1,
    (λ logs e. added logs so_far.0 (so_far.2 logs e)),
    sound_push (laid_at start.number start.body old.reads) start.body so_far.0 r so_far.3 (sound_same start log old now so_far.0 is.number is.body (is.reads told) (sound told so_far.0 so_far.1)),
  );
}

-- a way in which a log may be played
any_way : Options
any_way = record { streams = true ∷ true ∷ true ∷ true ∷ true ∷ []; longest = None; speed = 1000000000; suspended = true; runs = omega arith }

module _ (tells : Type 0) (start log : ViewState) (old now : DiskView) (before sums : Totals) (is : IsAdding tells start log old now before sums) (told : tells) (fresh : IsBehind start [] old) where
  so_far : (rs : List Record) × IsBehind log rs now × ((logs : List Stored) → before ≡ totals_of logs → sums ≡ totals_with logs rs) × IsSoundSoFar (laid_at start.number start.body old.reads) start.body rs
  so_far = is.behind told fresh

  laid_is : committed_laid log.number log.body now ≡ laid_at start.number start.body old.reads
  laid_is = laid_same start log old now is.number is.body (same_image old now (is.reads told))

  -- where a part is at fault after the records so far, they are those before the first fault
  before_fault : (part : Part) → IsFaultBehind (committed_laid log.number log.body now) log.body so_far.0 part → AreBeforeFault (laid_at start.number start.body old.reads) start.body part so_far.0
  before_fault part fault = record {
    begins = begins_same start log old now so_far.0 is.number is.body (is.reads told) so_far.1;
    sound = so_far.3;
    fault = subst (λ (b : Body). IsFaultBehind (laid_at start.number start.body old.reads) b so_far.0 part) is.body
        (subst (λ (l : Laid). IsFaultBehind l log.body so_far.0 part) laid_is fault);
  }

  -- and there is no log
  no_log : (part : Part) → IsFitting start.body → IsOpened start.number start.body start.head old.reads → IsFaultBehind (committed_laid log.number log.body now) log.body so_far.0 part → IsUnread old.reads start.number (views.Damaged part)
  no_log part fits opened fault = record {
    none = λ stored holds.
        stored_undamaged (Unit {0}) any_way start.number old.reads (play any_way so_far.0) stored part holds
        (inr (record { body = start.body; head = start.head; opened = opened; records = (so_far.0, before_fault part fault, refl) }));
    fault = inr (inr (record { body = start.body; head = start.head; opened = opened; fault = inr (fits, (so_far.0, before_fault part fault)) }));
  }

  -- the log gives no further record for this fault
  pub next_fails : (e : ViewFault) → IsNextFault e → ((part : Part) → e ≡ views.Damaged part → (rs : List Record) → IsBehind log rs now → IsFaultBehind (committed_laid log.number log.body now) log.body rs part)
      → IsFitting start.body → IsOpened start.number start.body start.head old.reads → IsUnread old.reads start.number e
  next_fails views.Absent is_fault fault fits opened = absurd is_fault
  next_fails (views.Damaged part) is_fault fault fits opened = no_log part fits opened (fault part refl so_far.0 so_far.1)
  next_fails views.Disk is_fault fault fits opened = tt
  next_fails views.NoMem is_fault fault fits opened = tt

  -- the log has no further record
  pub next_ends : ((rs : List Record) → IsBehind log rs now → IsWhole log rs now) → AddsAll start.number start.body old.reads before sums
  next_ends whole = let all = whole so_far.0 so_far.1 in record {
    records = so_far.0;
    all = record {
      begins = begins_same start log old now so_far.0 is.number is.body (is.reads told) so_far.1;
      layout = subst (λ (l : Laid). IsLayout l so_far.0) laid_is all.layout;
      count = subst (λ (b : Body). b.count ≡ length so_far.0) is.body all.count;
      time = subst (λ (b : Body). b.elapsed ≡ elapsed so_far.0) is.body all.time;
    };
    sums = so_far.2;
  }
