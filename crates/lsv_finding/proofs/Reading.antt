-- Records that are read one by one, and what they come to.
use Rattle.std.proofs.Common.{◌≡◌, ◌∙◌, ◌++◌, ◌⊎◌, inl, inr, ℕ, ◌+◌, ◌≤◌, ◌<◌, ◌^◌, List, [], ◌∷◌, Some, None, Result, Ok, length, length-append, refl, sym, ap, subst, arith}
use Rattle.lsv_disk.specs.declared.file.FileId.{FileId}
use Rattle.lsv_disk.specs.declared.file.Part.{Part}
use Rattle.lsv_disk.specs.Throughout.{OnlyReads}
use Rattle.lsv_disk.specs.View.{Image, DiskView}
use Rattle.lsv_disk.proofs.Composition.{OnlyNow, reads_trans}
use Rattle.lsv_bundle.specs.declared.body.Body.{Body}
use Rattle.lsv_iolog.specs.declared.fault.ViewFault.{ViewFault}
use Rattle.lsv_iolog.specs.declared.fault.ViewFault.TheVariants as views
use Rattle.lsv_iolog.specs.Reading.{ViewState, IsBehind, IsFaultBehind, IsSoundBehind, IsWhole, committed_laid}
use Rattle.lsv_iolog.proofs.Scans.{reads_nothing}
use Rattle.lsv_record.specs.declared.laid.Laid.{Laid}
use Rattle.lsv_record.specs.declared.records.Record.{Record}
use Rattle.lsv_record.specs.Layout.{Begins, IsLayout}
use Rattle.lsv_record.specs.Records.{delay_of, elapsed}
use Rattle.lsv_record.proofs.Layouts.{elapsed-push}
use Rattle.lsv_play.specs.Playing.{IsSoundSoFar, laid_at}
use Rattle.lsv_play.proofs.Played.{begins_same, same_image}
use Rattle.lsv_finding.specs.Checked.{RunsTo, stopped}
use Rattle.lsv_finding.specs.declared.checked.CheckFault.{CheckFault}
use Rattle.lsv_finding.specs.declared.records.Run.{Run}

-- a loop over the records of a log: it only read, and these are the count and the time of the records so far
pub record IsRunning (tells : Type 0) (start log : ViewState) (old now : DiskView) (count time : ℕ) : Type 0 where
  pub number : log.number ≡ start.number
  pub head : log.head ≡ start.head
  pub body : log.body ≡ start.body
  pub disk : (f : FileId) → old.faults f ≤ now.faults f
  pub reads : tells → OnlyReads old now
  pub behind : tells → IsBehind start [] old → (rs : List Record) × IsBehind log rs now × (count ≡ length rs) × (time ≡ elapsed rs) × IsSoundSoFar (laid_at start.number start.body old.reads) start.body rs

none_split : (front : List Record) (r : Record) (more : List Record) → [] ≡ front ++ r ∷ more → ⊥
none_split [] r more e = cc
none_split (x ∷ front) r more e = cc

-- a shorter part of records with one more is all of the others, or a shorter part of them
last_or : (rs front : List Record) (r x : Record) (more : List Record) → rs ++ r ∷ [] ≡ front ++ x ∷ more → (front ≡ rs) ⊎ ((rest : List Record) × (rs ≡ front ++ x ∷ rest))
last_or [] [] r x more e = inl refl
last_or [] (y ∷ front) r x more e = absurd (let a : [] ≡ front ++ x ∷ more = cc in none_split front x more a)
last_or (z ∷ rs) [] r x more e = inr (rs, let a : z ≡ x = cc in ap (λ (w : Record). w ∷ rs) a)
last_or (z ∷ rs) (y ∷ front) r x more e =
    let h : z ≡ y = cc in
    let rest : rs ++ r ∷ [] ≡ front ++ x ∷ more = cc in
    elim (last_or rs front r x more rest) [
      | inl p ↦ inl (ap (λ (w : Record). w ∷ front) (sym h) ∙ ap (λ (ws : List Record). z ∷ ws) p)
      | inr p ↦ inr (p.0, ap (λ (w : Record). w ∷ rs) h ∙ ap (λ (ws : List Record). y ∷ ws) p.1)
    ]

-- if after these nothing is at fault, one more may be read
sound_push : (l : Laid) (body : Body) (rs : List Record) (r : Record) → IsSoundSoFar l body rs → IsSoundBehind l body rs → IsSoundSoFar l body (rs ++ r ∷ [])
sound_push l body rs r so_far here front x more e = elim (last_or rs front r x more e) [ inl p ↦ subst (IsSoundBehind l body) (sym p) here | inr p ↦ so_far front x p.0 p.1 ]

-- at first
pub running_starts : (tells : Type 0) (log : ViewState) (disk : DiskView) → (tells → OnlyNow disk) → IsRunning tells log log disk disk 0 0
running_starts tells log disk now = record {
  number = refl;
  head = refl;
  body = refl;
  disk = λ f. omega arith;
  reads = λ told. reads_nothing disk (now told);
  behind = λ told behind. ([], behind, refl, refl, λ front r more e. absurd (none_split front r more e));
}

-- the committed bytes are those of the image at the start
laid_same : (start log : ViewState) (old now : DiskView) → log.number ≡ start.number → log.body ≡ start.body → now.reads ≡ old.reads → committed_laid log.number log.body now ≡ laid_at start.number start.body old.reads
laid_same start log old now number body reads =
    ap (λ (image : Image). laid_at log.number log.body image) reads ∙ ap (λ (n : ℕ). laid_at n log.body old.reads) number ∙ ap (λ (b : Body). laid_at start.number b old.reads) body

-- what a log says of its next record is said of the image at the start
sound_same : (start log : ViewState) (old now : DiskView) (rs : List Record) → log.number ≡ start.number → log.body ≡ start.body → OnlyReads old now → IsSoundBehind (committed_laid log.number log.body now) log.body rs
    → IsSoundBehind (laid_at start.number start.body old.reads) start.body rs
sound_same start log old now rs number body reads sound =
    subst (λ (b : Body). IsSoundBehind (laid_at start.number start.body old.reads) b rs) body
    (subst (λ (l : Laid). IsSoundBehind l log.body rs) (laid_same start log old now number body (same_image old now reads)) sound)

length_push : (rs : List Record) (r : Record) → length (rs ++ r ∷ []) ≡ length rs + 1
length_push rs r = omega (arith, length-append rs (r ∷ []))

-- the time stays exact, since that of records which begin a log's bytes is below 2 ^ 63
time_push : (rs : List Record) (r : Record) (time more : ℕ) → time ≡ elapsed rs → elapsed (rs ++ r ∷ []) < 2 ^ 63 → (time + delay_of r < 2 ^ 64 → more ≡ time + delay_of r) → more ≡ elapsed (rs ++ r ∷ [])
time_push rs r time more is small more_is =
    let push = elapsed-push rs r in
    let fits : time + delay_of r < 2 ^ 64 = omega (arith, push, is, small) in
    omega (arith, push, is, more_is fits)

-- with one record more
pub running_goes_on : (tells : Type 0) (start log next : ViewState) (old now later : DiskView) (count time more : ℕ) (r : Record) → IsRunning tells start log old now count time
    → (next.number ≡ log.number) × (next.head ≡ log.head) × (next.body ≡ log.body) → (tells → OnlyReads now later) → ((f : FileId) → now.faults f ≤ later.faults f)
    → (tells → (rs : List Record) → IsBehind log rs now → IsBehind next (rs ++ r ∷ []) later) → (tells → (rs : List Record) → IsBehind log rs now → IsSoundBehind (committed_laid log.number log.body now) log.body rs)
    → (time + delay_of r < 2 ^ 64 → more ≡ time + delay_of r) → IsRunning tells start next old later (count + 1) more
running_goes_on tells start log next old now later count time more r is same reads disk given sound more_is = record {
  number = same.0 ∙ is.number;
  head = same.1 ∙ is.head;
  body = same.2 ∙ is.body;
  disk = λ f. omega (arith, is.disk f, disk f);
  reads = λ told. reads_trans old now later (is.reads told) (reads told);
  behind = λ told behind.
      let so_far = is.behind told behind in
      let after = given told so_far.0 so_far.1 in (
        so_far.0 ++ r ∷ [],
        after,
        (let push = length_push so_far.0 r in omega (arith, push, so_far.2)),
        time_push so_far.0 r time more so_far.3 after.begins.time more_is,
        sound_push (laid_at start.number start.body old.reads) start.body so_far.0 r so_far.4 (sound_same start log old now so_far.0 is.number is.body (is.reads told) (sound told so_far.0 so_far.1)),
      );
}

module _ (tells : Type 0) (start log : ViewState) (old now : DiskView) (count time : ℕ) (is : IsRunning tells start log old now count time) (told : tells) (fresh : IsBehind start [] old) where
  so_far : (rs : List Record) × IsBehind log rs now × (count ≡ length rs) × (time ≡ elapsed rs) × IsSoundSoFar (laid_at start.number start.body old.reads) start.body rs
  so_far = is.behind told fresh

  begun : Begins (laid_at start.number start.body old.reads) so_far.0
  begun = begins_same start log old now so_far.0 is.number is.body (is.reads told) so_far.1

  -- the log has no further record
  pub run_ends : ((rs : List Record) → IsBehind log rs now → IsWhole log rs now) → ((rs : List Record) → IsBehind log rs now → IsSoundBehind (committed_laid log.number log.body now) log.body rs)
      → RunsTo (laid_at start.number start.body old.reads) start.body (record { count = count; elapsed = time; part = None })
  run_ends whole sound = let all = whole so_far.0 so_far.1 in record {
    records = so_far.0;
    count = so_far.2;
    time = so_far.3;
    ends = (
      record {
        begins = begun;
        layout = subst (λ (l : Laid). IsLayout l so_far.0) (laid_same start log old now is.number is.body (same_image old now (is.reads told))) all.layout;
        count = subst (λ (b : Body). b.count ≡ length so_far.0) is.body all.count;
        time = subst (λ (b : Body). b.elapsed ≡ elapsed so_far.0) is.body all.time;
      },
      sound_same start log old now so_far.0 is.number is.body (is.reads told) (sound so_far.0 so_far.1),
    );
  }

  run_breaks : (part : Part) → ((rs : List Record) → IsBehind log rs now → IsFaultBehind (committed_laid log.number log.body now) log.body rs part)
      → RunsTo (laid_at start.number start.body old.reads) start.body (record { count = count; elapsed = time; part = Some part })
  run_breaks part fault = record {
    records = so_far.0;
    count = so_far.2;
    time = so_far.3;
    ends = record {
      begins = begun;
      sound = so_far.4;
      fault = subst (λ (b : Body). IsFaultBehind (laid_at start.number start.body old.reads) b so_far.0 part) is.body
          (subst (λ (l : Laid). IsFaultBehind l log.body so_far.0 part) (laid_same start log old now is.number is.body (same_image old now (is.reads told))) (fault so_far.0 so_far.1));
    };
  }

  -- the log gives no record, for this reason
  pub run_stops : (e : ViewFault) (r : Result Run CheckFault) → r ≡ stopped count time e → ((part : Part) → e ≡ views.Damaged part → (rs : List Record) → IsBehind log rs now → IsFaultBehind (committed_laid log.number log.body now) log.body rs part)
      → (run : Run) → r ≡ Ok run → RunsTo (laid_at start.number start.body old.reads) start.body run
  run_stops (views.Damaged part) r is_r fault run ok =
      let one : record { count = count; elapsed = time; part = Some part } ≡ run = cc in
      subst (λ (x : Run). RunsTo (laid_at start.number start.body old.reads) start.body x) one (run_breaks part (fault part refl))
  run_stops views.Disk r is_r fault run ok = absurd (cc)
  run_stops views.NoMem r is_r fault run ok = absurd (cc)
  run_stops views.Absent r is_r fault run ok = absurd (cc)
