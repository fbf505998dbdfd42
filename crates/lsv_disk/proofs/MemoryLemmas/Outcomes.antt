-- What a call on the disk in memory ensures, by whether it was kept as good, as failed, or not at all.
use Rattle.std.proofs.Common.{◌≡◌, ◌⊎◌, inl, inr, ℕ, ◌+◌, ◌-◌, ◌^◌, ◌≤◌, ◌<◌, Bool, true, false, List, [], ◌∷◌, ◌++◌, length, take, drop, count_by, Option, Some, None, Result, Ok, Err, OnOk, OnErr, arith, refl, sym, ◌∙◌, ap, subst, length-append, length-take, length-drop}
use Rattle.std.proofs.lemmas.List.{take_at, drop_at, append_assoc}
use Rattle.std.specs.declared.alloc.Global.{Global}
use Rattle.std.specs.declared.vec.Vec.{Vec}
use Rattle.lsv_defs.specs.Causes.{HasRisen}
use Rattle.lsv_disk.specs.declared.file.FileId.{FileId}
use Rattle.lsv_disk.specs.declared.memory.call.Call.{Call}
use Rattle.lsv_disk.specs.declared.memory.call.Effect.{Effect}
use Rattle.lsv_disk.specs.declared.memory.call.Effect.TheVariants.{Made, NotMade, NotRead, Written, NotWritten, Synced, NotSynced}
use Rattle.lsv_disk.specs.Bytes.{written, Torn, TornBytes, Reaches, overwritten}
use Rattle.lsv_disk.specs.View.{Only, Follows, Elsewhere, Quiet, RoseByOne}
use Rattle.lsv_disk.specs.Memory.Calls.{past_of, reads_after, MayLeave, reads_of, state_of, is_fault, is_write, is_sync, faults_of, writes_of, syncs_of, Noted, NotedWrite, Failed}
use Rattle.lsv_disk.specs.TornLemmas.{torn_same}
use Rattle.lsv_disk.specs.Memory.Laws.{MayLeave-reads}
use Rattle.lsv_disk.proofs.MemoryLemmas.Noting.{here, other, elsewhere, elsewhere_none, quiet, quiet_none, counts, counts_stay, count_most, count_rose}

-- the bytes of a good write are torn at no other place
torn_bytes : (at : ℕ) (bytes old : List ℕ) → at ≤ length old → TornBytes at (length bytes) old (overwritten at bytes old)
torn_bytes at bytes old place =
    let front : length (take at old) ≡ at = omega (arith, length-take at old) in
    let both : length (take at old ++ bytes) ≡ at + length bytes = omega (arith, length-append (take at old) bytes) in
    let whole : length (overwritten at bytes old) ≡ (at + length bytes) + (length old - (at + length bytes)) =
    length-append (take at old ++ bytes) (drop (at + length bytes) old) ∙ ap (λ (n : ℕ). n + length (drop (at + length bytes) old)) both ∙ ap (λ (n : ℕ). (at + length bytes) + n) (length-drop (at + length bytes) old) in
    record {
      before = ap (λ (l : List ℕ). take at l) (append_assoc (take at old) bytes (drop (at + length bytes) old)) ∙ take_at (take at old) (bytes ++ drop (at + length bytes) old) at front;
      after = drop_at (take at old ++ bytes) (drop (at + length bytes) old) (at + length bytes) both;
      no_shorter = omega (arith, whole);
      no_longer = omega (arith, whole);
    }

pub torn_written : (at : ℕ) (bytes : List ℕ) (old : Option (List ℕ)) → Reaches old at → Torn at (length bytes) old (written at bytes old)
torn_written at bytes None place = absurd place
torn_written at bytes (Some old) place = torn_bytes at bytes old place

-- one call on the file was kept at most, of which this holds
abbrev pub Kept : (Effect → Type 0) → List Call → List Call → FileId → Type 0
Kept P old new file = ((effect : Effect) × P effect × Noted old new file effect) ⊎ (new ≡ old)

-- it isn't counted
abbrev pub Not : (Effect → Bool) → Effect → Type 0
Not counted effect = counted effect ≡ false

-- it is no write and no sync
abbrev pub NoCount : Effect → Type 0
NoCount effect = Not is_write effect × Not is_sync effect

pub kept_elsewhere : (P : Effect → Type 0) (old new : List Call) (file : FileId) → Kept P old new file → Elsewhere (λ g. g ≡ file) (state_of old) (state_of new)
kept_elsewhere P old new file (inl k) = elsewhere old new file k.0 k.2
kept_elsewhere P old new file (inr same) = elsewhere_none old new file same

-- what isn't counted changes no count
pub kept_same : (p : Effect → Bool) (old new : List Call) (file : FileId) → Kept (Not p) old new file → (g : FileId) → count_by p (past_of new g) ≡ count_by p (past_of old g)
kept_same p old new file (inl k) g = counts_stay p old new file k.0 k.2 k.1 g
kept_same p old new file (inr same) g = ap (λ (cs : List Call). count_by p (past_of cs g)) same

-- and each count rises by one at most, for this file alone
pub kept_rose : (P : Effect → Type 0) (p : Effect → Bool) (old new : List Call) (file : FileId) → Kept P old new file → RoseByOne file (λ g. count_by p (past_of old g)) (λ g. count_by p (past_of new g))
kept_rose P p old new file (inl k) = record {
  never_fell = counts p old new file k.0 k.2;
  at_most = count_most p old new file k.0 k.2;
  others = λ g differs. ap (count_by p) (other old new file k.0 k.2 g differs);
}
kept_rose P p old new file (inr same) =
    let e = ap (λ (cs : List Call). count_by p (past_of cs file)) same in
    record { never_fell = λ g. let s = ap (λ (cs : List Call). count_by p (past_of cs g)) same in omega (arith, s); at_most = omega (arith, e); others = λ g differs. ap (λ (cs : List Call). count_by p (past_of cs g)) same }

-- what holds of a call less is known of
pub kept_weaker : (P Q : Effect → Type 0) (old new : List Call) (file : FileId) → ((effect : Effect) → P effect → Q effect) → Kept P old new file → Kept Q old new file
kept_weaker P Q old new file weaker (inl k) = inl (k.0, weaker k.0 k.1, k.2)
kept_weaker P Q old new file weaker (inr same) = inr same

pub kept_counts : (P : Effect → Type 0) (old new : List Call) (file : FileId) (refused refused_now : ℕ) → Kept P old new file → refused ≤ refused_now → (g : FileId) → faults_of old g + refused ≤ faults_of new g + refused_now
kept_counts P old new file refused refused_now (inl k) risen g = let c = counts is_fault old new file k.0 k.2 g in omega (arith, c)
kept_counts P old new file refused refused_now (inr same) risen g = let e = ap (λ (cs : List Call). faults_of cs g) same in omega (arith, e)

-- what a failed call on the file comes to
module _ (old new : List Call) (file : FileId) (bad : Effect) (refused refused_now : ℕ) where
  pub failed_kept : (P : Effect → Type 0) → P bad → Failed old new file bad refused refused_now → Kept P old new file
  failed_kept P is (inl f) = inl (bad, is, f.0)
  failed_kept P is (inr f) = inr f.0

  pub failed_risen : Failed old new file bad refused refused_now → refused ≤ refused_now
  failed_risen (inl f) = let e = f.1 in omega (arith, e)
  failed_risen (inr f) = f.1

  pub failed_rose : is_fault bad ≡ true → Failed old new file bad refused refused_now → HasRisen (faults_of old file + refused) (faults_of new file + refused_now)
  failed_rose is (inl f) below = let e = count_rose is_fault old new file bad f.0 is in let r = f.1 in omega (arith, e, r)
  failed_rose is (inr f) below =
      let e = ap (λ (cs : List Call). faults_of cs file) f.0 in
      let rose : refused_now < 2 ^ 64 - 1 → refused < refused_now = f.2 in
      let lt : refused < refused_now = rose (omega arith) in
      omega (arith, e, lt)

  pub failed_reads : reads_after (bad ∷ past_of old file) ≡ reads_after (past_of old file) → Failed old new file bad refused refused_now → reads_of new file ≡ reads_of old file
  failed_reads same (inl f) = ap reads_after (here old new file bad f.0) ∙ same
  failed_reads same (inr f) = ap (λ (cs : List Call). reads_of cs file) f.0

  pub failed_quiet : reads_after (bad ∷ past_of old file) ≡ reads_after (past_of old file) → ((c : Option (List ℕ)) → MayLeave (bad ∷ past_of old file) c → MayLeave (past_of old file) c)
      → Failed old new file bad refused refused_now → Quiet (state_of old) (state_of new)
  failed_quiet reads leaves (inl f) = quiet old new file bad f.0 reads leaves
  failed_quiet reads leaves (inr f) = quiet_none old new f.0

  -- what may be left of it then, by what the call left
  pub failed_leaves : (c : Option (List ℕ)) → Failed old new file bad refused refused_now → MayLeave (past_of new file) c → MayLeave (bad ∷ past_of old file) c ⊎ MayLeave (past_of old file) c
  failed_leaves c (inl f) left = inl (subst (λ (past : List Effect). MayLeave past c) (here old new file bad f.0) left)
  failed_leaves c (inr f) left = inr (subst (λ (cs : List Call). MayLeave (past_of cs file) c) f.0 left)

  -- a fault, as the trait tells it
  pub fault_rose : {T E : Type 0} (r : Result T E) → is_fault bad ≡ true → OnErr r (Failed old new file bad refused refused_now) → OnErr r (HasRisen (faults_of old file + refused) (faults_of new file + refused_now))
  fault_rose (Ok x) is err = tt
  fault_rose (Err x) is err = failed_rose is err

  -- either the good call was kept, or the failed one or none
  module _ {T E : Type 0} (good : Effect) where
    pub either_kept : (P : Effect → Type 0) (r : Result T E) → P good → P bad → OnOk r (Noted old new file good × (refused_now ≡ refused)) → OnErr r (Failed old new file bad refused refused_now) → Kept P old new file
    either_kept P (Ok x) is_good is_bad ok err = inl (good, is_good, ok.0)
    either_kept P (Err x) is_good is_bad ok err = failed_kept P is_bad err

    pub either_risen : (r : Result T E) → OnOk r (Noted old new file good × (refused_now ≡ refused)) → OnErr r (Failed old new file bad refused refused_now) → refused ≤ refused_now
    either_risen (Ok x) ok err = let e = ok.1 in omega (arith, e)
    either_risen (Err x) ok err = failed_risen err

module _ {T E : Type 0} (old new : List Call) (file : FileId) (refused refused_now : ℕ) where
  -- create
  pub create_made : (r : Result T E) → OnOk r (Noted old new file Made × (refused_now ≡ refused)) → OnOk r (reads_of new file ≡ Some [])
  create_made (Ok x) ok = ap reads_after (here old new file Made ok.0)
  create_made (Err x) ok = tt

  pub create_durable : (r : Result T E) → OnOk r (Noted old new file Made × (refused_now ≡ refused)) → OnOk r (Only (reads_of new file) (MayLeave (past_of new file)))
  create_durable (Ok x) ok = λ c left.
      let is : c ≡ Some [] = subst (λ (past : List Effect). MayLeave past c) (here old new file Made ok.0) left in is ∙ sym (create_made (Ok x) ok)
  create_durable (Err x) ok = tt

  pub create_failed : (r : Result T E) → reads_of old file ≡ None → OnErr r (Failed old new file NotMade refused refused_now) → OnErr r ((reads_of new file ≡ None) ⊎ (reads_of new file ≡ Some []))
  create_failed (Ok x) absent err = tt
  create_failed (Err x) absent err = inl (failed_reads old new file NotMade refused refused_now refl err ∙ absent)

  pub create_crash : (r : Result T E) → OnOk r (Noted old new file Made × (refused_now ≡ refused)) → OnErr r (Failed old new file NotMade refused refused_now)
      → (c : Option (List ℕ)) → MayLeave (past_of new file) c → MayLeave (past_of old file) c ⊎ (c ≡ Some [])
  create_crash (Ok x) ok err c left = inr (subst (λ (past : List Effect). MayLeave past c) (here old new file Made ok.0) left)
  create_crash (Err x) ok err c left = elim (failed_leaves old new file NotMade refused refused_now c err left) [ inl now ↦ now | inr was ↦ inl was ]

  -- write_at
  module _ (at : ℕ) (bytes : List ℕ) where
    pub write_written : (r : Result T E) → OnOk r (NotedWrite old new file at bytes × (refused_now ≡ refused)) → OnOk r (reads_of new file ≡ written at bytes (reads_of old file))
    write_written (Ok x) ok = ap reads_after (here old new file (Written at ok.0.0) ok.0.2) ∙ ap (λ (l : List ℕ). written at l (reads_of old file)) ok.0.1
    write_written (Err x) ok = tt

    pub write_failed : (r : Result T E) → Reaches (reads_of old file) at → OnOk r (NotedWrite old new file at bytes × (refused_now ≡ refused)) → OnErr r (Failed old new file (NotWritten at (length bytes)) refused refused_now)
        → Torn at (length bytes) (reads_of old file) (reads_of new file)
    write_failed (Ok x) place ok err =
        subst (λ (o : Option (List ℕ)). Torn at (length bytes) (reads_of old file) o) (sym (write_written (Ok x) ok)) (torn_written at bytes (reads_of old file) place)
    write_failed (Err x) place ok err =
        subst (λ (o : Option (List ℕ)). Torn at (length bytes) (reads_of old file) o) (sym (failed_reads old new file (NotWritten at (length bytes)) refused refused_now refl err)) (torn_same at (length bytes) (reads_of old file))

    pub write_crash : (r : Result T E) → Reaches (reads_of old file) at → OnOk r (NotedWrite old new file at bytes × (refused_now ≡ refused)) → OnErr r (Failed old new file (NotWritten at (length bytes)) refused refused_now)
        → Follows (Torn at (length bytes)) (MayLeave (past_of old file)) (MayLeave (past_of new file))
    write_crash (Ok x) place ok err c left =
        let now : MayLeave (Written at ok.0.0 ∷ past_of old file) c = subst (λ (past : List Effect). MayLeave past c) (here old new file (Written at ok.0.0) ok.0.2) left in
        elim now [
          | inl e ↦
              let is : c ≡ written at bytes (reads_of old file) = e ∙ ap (λ (l : List ℕ). written at l (reads_of old file)) ok.0.1 in
              (reads_of old file, MayLeave-reads (past_of old file), subst (λ (o : Option (List ℕ)). Torn at (length bytes) (reads_of old file) o) (sym is) (torn_written at bytes (reads_of old file) place))
          | inr d ↦ (d.0, d.1, subst (λ (l : List ℕ). Torn at (length l) d.0 c) ok.0.1 d.2)
        ]
    write_crash (Err x) place ok err c left =
        elim (failed_leaves old new file (NotWritten at (length bytes)) refused refused_now c err left) [ inl d ↦ d | inr was ↦ (c, was, torn_same at (length bytes) c) ]

    -- at Ok the file was written once more
    pub write_exact : (r : Result T E) → OnOk r (NotedWrite old new file at bytes × (refused_now ≡ refused)) → OnOk r (writes_of new file ≡ writes_of old file + 1)
    write_exact (Ok x) ok = let e = count_rose is_write old new file (Written at ok.0.0) ok.0.2 refl in omega (arith, e)
    write_exact (Err x) ok = tt

    pub write_kept : (P : Effect → Type 0) (r : Result T E) → ((copy : Vec ℕ Global) → P (Written at copy)) → P (NotWritten at (length bytes))
        → OnOk r (NotedWrite old new file at bytes × (refused_now ≡ refused)) → OnErr r (Failed old new file (NotWritten at (length bytes)) refused refused_now) → Kept P old new file
    write_kept P (Ok x) is_good is_bad ok err = inl (Written at ok.0.0, is_good ok.0.0, ok.0.2)
    write_kept P (Err x) is_good is_bad ok err = failed_kept old new file (NotWritten at (length bytes)) refused refused_now P is_bad err

    pub write_risen : (r : Result T E) → OnOk r (NotedWrite old new file at bytes × (refused_now ≡ refused)) → OnErr r (Failed old new file (NotWritten at (length bytes)) refused refused_now) → refused ≤ refused_now
    write_risen (Ok x) ok err = let e = ok.1 in omega (arith, e)
    write_risen (Err x) ok err = failed_risen old new file (NotWritten at (length bytes)) refused refused_now err

  -- sync
  pub sync_durable : (r : Result T E) → OnOk r (Noted old new file Synced × (refused_now ≡ refused)) → OnOk r (Only (reads_of new file) (MayLeave (past_of new file)))
  sync_durable (Ok x) ok = λ c left.
      let is : c ≡ reads_of old file = subst (λ (past : List Effect). MayLeave past c) (here old new file Synced ok.0) left in
      let same : reads_of new file ≡ reads_of old file = ap reads_after (here old new file Synced ok.0) in
      is ∙ sym same
  sync_durable (Err x) ok = tt

  pub sync_quiet : (r : Result T E) → OnOk r (Noted old new file Synced × (refused_now ≡ refused)) → OnErr r (Failed old new file NotSynced refused refused_now) → Quiet (state_of old) (state_of new)
  sync_quiet (Ok x) ok err = quiet old new file Synced ok.0 refl (λ c is. subst (λ (o : Option (List ℕ)). MayLeave (past_of old file) o) (sym is) (MayLeave-reads (past_of old file)))
  sync_quiet (Err x) ok err = failed_quiet old new file NotSynced refused refused_now refl (λ c left. left) err

  -- at Ok the file was synced once more
  pub sync_exact : (r : Result T E) → OnOk r (Noted old new file Synced × (refused_now ≡ refused)) → OnOk r (syncs_of new file ≡ syncs_of old file + 1)
  sync_exact (Ok x) ok = let e = count_rose is_sync old new file Synced ok.0 refl in omega (arith, e)
  sync_exact (Err x) ok = tt

  -- read_at
  pub read_quiet : (r : Result T E) → OnOk r ((new ≡ old) × (refused_now ≡ refused)) → OnErr r (Failed old new file NotRead refused refused_now) → Quiet (state_of old) (state_of new)
  read_quiet (Ok x) ok err = quiet_none old new ok.0
  read_quiet (Err x) ok err = failed_quiet old new file NotRead refused refused_now refl (λ c left. left) err

  pub read_kept : (P : Effect → Type 0) (r : Result T E) → P NotRead → OnOk r ((new ≡ old) × (refused_now ≡ refused)) → OnErr r (Failed old new file NotRead refused refused_now) → Kept P old new file
  read_kept P (Ok x) is ok err = inr ok.0
  read_kept P (Err x) is ok err = failed_kept old new file NotRead refused refused_now P is err

  pub read_risen : (r : Result T E) → OnOk r ((new ≡ old) × (refused_now ≡ refused)) → OnErr r (Failed old new file NotRead refused refused_now) → refused ≤ refused_now
  read_risen (Ok x) ok err = let e = ok.1 in omega (arith, e)
  read_risen (Err x) ok err = failed_risen old new file NotRead refused refused_now err
