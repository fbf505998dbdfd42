-- What one more call changes of the disk.
use Rattle.std.proofs.Common.{◌≡◌, ◌≢◌, inl, inr, ℕ, ◌+◌, ◌≤◌, ◌<◌, Bool, true, false, cond, List, [], ◌∷◌, ◌++◌, length, take, get_or, ◌&&◌, add_comm, add-zero, count_by, Option, Some, None, Result, Ok, Err, OnOk, OnErr, is_ok, arith, refl, sym, ◌∙◌, ap, subst}
use Rattle.std.proofs.lemmas.Bool.{le-leb, leb-true, and_from, false≢true}
use Rattle.std.proofs.lemmas.List.{take-append-le, length_push, take_more}
use Rattle.std.proofs.lemmas.List.Sums.{sum_by-cons}
use Rattle.lsv_disk.specs.declared.file.FileId.{FileId}
use Rattle.lsv_disk.specs.declared.memory.call.Call.{Call}
use Rattle.lsv_disk.specs.declared.memory.call.Effect.{Effect}
use Rattle.lsv_disk.specs.View.{Image, Elapses, Elsewhere, Quiet}
use Rattle.lsv_disk.specs.Files.{same_file}
use Rattle.lsv_disk.specs.Memory.Calls.{past_of, reads_after, MayLeave, reads_of, state_of, is_fault, faults_of, reaches, is_legal, AreLegal, Noted, NotedWrite}
use Rattle.lsv_disk.specs.declared.memory.call.Effect.TheVariants.{Made, Written}
use Rattle.lsv_disk.specs.Bytes.{Reaches}
use Rattle.lsv_disk.specs.Memory.Stored.{ReadsAs}
use Rattle.lsv_disk.proofs.MemoryLemmas.Past.{past_here, past_other}
use Rattle.lsv_disk.proofs.Same.{same_or_other, same_itself, other_not_same}

-- the moments before stay as they were
take_old : (k : ℕ) (old : List Call) (call : Call) → k ≤ length old → take k (old ++ call ∷ []) ≡ take k old
take_old k old call le = take-append-le k old (call ∷ []) le

pub elapses : (old new : List Call) (file : FileId) (effect : Effect) → Noted old new file effect → Elapses (state_of old) (state_of new)
elapses old new file effect noted = subst (λ (cs : List Call). Elapses (state_of old) (state_of cs)) (sym noted) one_more where
  one_more : Elapses (state_of old) (state_of (old ++ record { file = file; effect = effect } ∷ []))
  one_more = record {
    later = omega (arith, length_push old (record { file = file; effect = effect }));
    one = omega (arith, length_push old (record { file = file; effect = effect }));
    past = λ k image le left g. subst (λ (cs : List Call). MayLeave (past_of cs g) (image g)) (take_old k old (record { file = file; effect = effect }) le) (left g);
    keeps = λ k image le left g. subst (λ (cs : List Call). MayLeave (past_of cs g) (image g)) (sym (take_old k old (record { file = file; effect = effect }) le)) (left g);
  }

pub elapses_none : (old new : List Call) → new ≡ old → Elapses (state_of old) (state_of new)
elapses_none old new same = subst (λ (cs : List Call). Elapses (state_of old) (state_of cs)) (sym same) (record { later = omega arith; one = omega arith; past = λ k image le left. left; keeps = λ k image le left. left })

-- the past of the file, and of the others
pub here : (old new : List Call) (file : FileId) (effect : Effect) → Noted old new file effect → past_of new file ≡ effect ∷ past_of old file
here old new file effect noted = ap (λ (cs : List Call). past_of cs file) noted ∙ past_here old file effect

pub other : (old new : List Call) (file : FileId) (effect : Effect) → Noted old new file effect → (g : FileId) → g ≢ file → past_of new g ≡ past_of old g
other old new file effect noted g differs = ap (λ (cs : List Call). past_of cs g) noted ∙ past_other old file effect g differs

pub elsewhere : (old new : List Call) (file : FileId) (effect : Effect) → Noted old new file effect → Elsewhere (λ g. g ≡ file) (state_of old) (state_of new)
elsewhere old new file effect noted = record {
  same = λ g differs. ap reads_after (other old new file effect noted g differs);
  crash = λ g differs c left. subst (λ (past : List Effect). MayLeave past c) (other old new file effect noted g differs) left;
}

pub elsewhere_none : (old new : List Call) (file : FileId) → new ≡ old → Elsewhere (λ g. g ≡ file) (state_of old) (state_of new)
elsewhere_none old new file same = record {
  same = λ g differs. ap (λ (cs : List Call). reads_of cs g) same;
  crash = λ g differs c left. subst (λ (cs : List Call). MayLeave (past_of cs g) c) same left;
}

-- a call that changes no outcome of its file, as one that failed and changed nothing, or a sync
pub quiet : (old new : List Call) (file : FileId) (effect : Effect) → Noted old new file effect
    → reads_after (effect ∷ past_of old file) ≡ reads_after (past_of old file)
    → ((c : Option (List ℕ)) → MayLeave (effect ∷ past_of old file) c → MayLeave (past_of old file) c) → Quiet (state_of old) (state_of new)
quiet old new file effect noted reads leaves = record {
  same = λ g. elim (same_or_other g file) [
    | inl is ↦ subst (λ (h : FileId). reads_of new h ≡ reads_of old h) (sym is) (ap reads_after (here old new file effect noted) ∙ reads)
    | inr differs ↦ ap reads_after (other old new file effect noted g differs)
  ];
  crash = λ g c left. elim (same_or_other g file) [
    | inl is ↦
        let of_file : MayLeave (past_of new file) c = subst (λ (h : FileId). MayLeave (past_of new h) c) is left in
        subst (λ (h : FileId). MayLeave (past_of old h) c) (sym is) (leaves c (subst (λ (past : List Effect). MayLeave past c) (here old new file effect noted) of_file))
    | inr differs ↦ subst (λ (past : List Effect). MayLeave past c) (other old new file effect noted g differs) left
  ];
}

pub quiet_none : (old new : List Call) → new ≡ old → Quiet (state_of old) (state_of new)
quiet_none old new same = record {
  same = λ g. ap (λ (cs : List Call). reads_of cs g) same;
  crash = λ g c left. subst (λ (cs : List Call). MayLeave (past_of cs g) c) same left;
}

-- what a count over the past of a file comes to
count_cons : (p : Effect → Bool) (effect : Effect) (past : List Effect) → count_by p (effect ∷ past) ≡ cond (p effect) 1 0 + count_by p past
count_cons p effect past = sum_by-cons (λ (x : Effect). cond (p x) 1 0) effect past

count_here : (p : Effect → Bool) (effect : Effect) (past : List Effect) → count_by p past ≤ count_by p (effect ∷ past)
count_here p effect past = let e = count_cons p effect past in omega (arith, e)

pub count_rises : (p : Effect → Bool) (effect : Effect) (past : List Effect) → p effect ≡ true → count_by p (effect ∷ past) ≡ count_by p past + 1
count_rises p effect past is = let e = count_cons p effect past ∙ ap (λ (b : Bool). cond b 1 0 + count_by p past) is in omega (arith, e)

pub count_stays : (p : Effect → Bool) (effect : Effect) (past : List Effect) → p effect ≡ false → count_by p (effect ∷ past) ≡ count_by p past
count_stays p effect past differs = let e = count_cons p effect past ∙ ap (λ (b : Bool). cond b 1 0 + count_by p past) differs in omega (arith, e)

-- it rises by one at most
count_within : (p : Effect → Bool) (effect : Effect) (past : List Effect) → count_by p (effect ∷ past) ≤ count_by p past + 1
count_within p effect past = by (p effect) refl where
  by : (b : Bool) → p effect ≡ b → count_by p (effect ∷ past) ≤ count_by p past + 1
  by true is = let e = count_rises p effect past is in omega (arith, e)
  by false differs = let e = count_stays p effect past differs in omega (arith, e)

pub count_most : (p : Effect → Bool) (old new : List Call) (file : FileId) (effect : Effect) → Noted old new file effect → count_by p (past_of new file) ≤ count_by p (past_of old file) + 1
count_most p old new file effect noted = subst (λ (past : List Effect). count_by p past ≤ count_by p (past_of old file) + 1) (sym (here old new file effect noted)) (count_within p effect (past_of old file))

-- no count falls
pub counts : (p : Effect → Bool) (old new : List Call) (file : FileId) (effect : Effect) → Noted old new file effect → (g : FileId) → count_by p (past_of old g) ≤ count_by p (past_of new g)
counts p old new file effect noted g = elim (same_or_other g file) [
  | inl is ↦ subst (λ (h : FileId). count_by p (past_of old h) ≤ count_by p (past_of new h)) (sym is)
      (subst (λ (past : List Effect). count_by p (past_of old file) ≤ count_by p past) (sym (here old new file effect noted)) (count_here p effect (past_of old file)))
  | inr differs ↦ subst (λ (past : List Effect). count_by p (past_of old g) ≤ count_by p past) (sym (other old new file effect noted g differs)) (omega arith)
]

-- and one that doesn't count such calls stays
pub counts_stay : (p : Effect → Bool) (old new : List Call) (file : FileId) (effect : Effect) → Noted old new file effect → p effect ≡ false → (g : FileId) → count_by p (past_of new g) ≡ count_by p (past_of old g)
counts_stay p old new file effect noted uncounted g = elim (same_or_other g file) [
  | inl is ↦ subst (λ (h : FileId). count_by p (past_of new h) ≡ count_by p (past_of old h)) (sym is) (ap (count_by p) (here old new file effect noted) ∙ count_stays p effect (past_of old file) uncounted)
  | inr differs ↦ ap (count_by p) (other old new file effect noted g differs)
]

-- the count of the file itself rises by one
pub count_rose : (p : Effect → Bool) (old new : List Call) (file : FileId) (effect : Effect) → Noted old new file effect → p effect ≡ true → count_by p (past_of new file) ≡ count_by p (past_of old file) + 1
count_rose p old new file effect noted is = ap (count_by p) (here old new file effect noted) ∙ count_rises p effect (past_of old file) is

-- what is read of the files stays what the calls made of them
pub result_kept : (content : Image) (old new : List Call) (file : FileId) (effect : Effect) → Noted old new file effect
    → reads_after (effect ∷ past_of old file) ≡ reads_after (past_of old file) → ReadsAs content old → ReadsAs content new
result_kept content old new file effect noted reads tied g = tied g ∙ elim (same_or_other g file) [
  | inl is ↦ subst (λ (h : FileId). reads_of old h ≡ reads_of new h) (sym is) (sym (ap reads_after (here old new file effect noted) ∙ reads))
  | inr differs ↦ sym (ap reads_after (other old new file effect noted g differs))
]

-- or becomes it
pub result_changed : (content content_now : Image) (old new : List Call) (file : FileId) (effect : Effect) → Noted old new file effect
    → content_now file ≡ reads_after (effect ∷ past_of old file) → ((g : FileId) → g ≢ file → content_now g ≡ content g) → ReadsAs content old → ReadsAs content_now new
result_changed content content_now old new file effect noted now others tied g = elim (same_or_other g file) [
  | inl is ↦ subst (λ (h : FileId). content_now h ≡ reads_of new h) (sym is) (now ∙ sym (ap reads_after (here old new file effect noted)))
  | inr differs ↦ others g differs ∙ tied g ∙ sym (ap reads_after (other old new file effect noted g differs))
]

-- where a call that changes nothing of what a read gives is kept or not, it stays what the calls made of them
pub note_tied : {T E : Type 0} (r : Result T E) (content : Image) (old new : List Call) (file : FileId) (effect : Effect) → new ≡ cond (is_ok r) (old ++ record { file = file; effect = effect } ∷ []) old
    → ((past : List Effect) → reads_after (effect ∷ past) ≡ reads_after past) → ReadsAs content old → ReadsAs content new
note_tied (Ok x) content old new file effect noted unread tied g = result_kept content old new file effect noted (unread (past_of old file)) tied g
note_tied (Err x) content old new file effect same unread tied g = tied g ∙ ap (λ (cs : List Call). reads_of cs g) (sym same)

-- the count of the faults of a file over one call more
pub fault_next : (calls : List Call) (i : ℕ) (d : Call) (file : FileId) → i < length calls
    → faults_of (take (i + 1) calls) file ≡ faults_of (take i calls) file + cond (same_file (get_or calls i d).file file && is_fault (get_or calls i d).effect) 1 0
fault_next calls i d file lt =
    let call = get_or calls i d in
    let one : faults_of (take (i + 1) calls) file ≡ faults_of (take i calls ++ call ∷ []) file = ap (λ (cs : List Call). faults_of cs file) (take_more calls i d lt) in
    elim (same_or_other file call.file) [
      | inl is ↦
          let whole : same_file call.file file && is_fault call.effect ≡ is_fault call.effect = ap (λ (f : FileId). same_file call.file f && is_fault call.effect) is ∙ ap (λ (b : Bool). b && is_fault call.effect) (same_itself call.file) in
          let more : faults_of (take i calls ++ call ∷ []) call.file ≡ cond (is_fault call.effect) 1 0 + faults_of (take i calls) call.file =
          ap (count_by is_fault) (past_here (take i calls) call.file call.effect) ∙ count_cons is_fault call.effect (past_of (take i calls) call.file) in
          let here_more : faults_of (take i calls ++ call ∷ []) file ≡ cond (is_fault call.effect) 1 0 + faults_of (take i calls) file =
          subst (λ (f : FileId). faults_of (take i calls ++ call ∷ []) f ≡ cond (is_fault call.effect) 1 0 + faults_of (take i calls) f) (sym is) more in
          one ∙ here_more ∙ add_comm (cond (is_fault call.effect) 1 0) (faults_of (take i calls) file) ∙ ap (λ (b : Bool). faults_of (take i calls) file + cond b 1 0) (sym whole)
      | inr differs ↦
          let none : same_file call.file file && is_fault call.effect ≡ false = ap (λ (b : Bool). b && is_fault call.effect) (other_not_same call.file file (λ e. differs (sym e))) in
          one ∙ ap (count_by is_fault) (past_other (take i calls) call.file call.effect file differs) ∙ sym (add-zero (faults_of (take i calls) file)) ∙ ap (λ (b : Bool). faults_of (take i calls) file + cond b 1 0) (sym none)
    ]

-- the past of each file stays one that calls can have
pub legal_noted : (old new : List Call) (file : FileId) (effect : Effect) → Noted old new file effect → is_legal (effect ∷ past_of old file) ≡ true → AreLegal old → AreLegal new
legal_noted old new file effect noted is legal g = elim (same_or_other g file) [
  | inl e ↦ subst (λ (h : FileId). is_legal (past_of new h) ≡ true) (sym e) (ap is_legal (here old new file effect noted) ∙ is)
  | inr differs ↦ ap is_legal (other old new file effect noted g differs) ∙ legal g
]

pub legal_same : (old new : List Call) → new ≡ old → AreLegal old → AreLegal new
legal_same old new same legal g = ap (λ (cs : List Call). is_legal (past_of cs g)) same ∙ legal g

-- where a call is kept or not
pub note_legal : {T E : Type 0} (r : Result T E) (old new : List Call) (file : FileId) (effect : Effect) → new ≡ cond (is_ok r) (old ++ record { file = file; effect = effect } ∷ []) old
    → is_legal (effect ∷ past_of old file) ≡ is_legal (past_of old file) → AreLegal old → AreLegal new
note_legal (Ok x) old new file effect noted is legal = legal_noted old new file effect noted (is ∙ legal file) legal
note_legal (Err x) old new file effect same is legal = legal_same old new same legal

-- a write that leaves no gap
pub reaches_true : (file : Option (List ℕ)) (at : ℕ) → Reaches file at → reaches file at ≡ true
reaches_true None at place = absurd place
reaches_true (Some bytes) at place = le-leb at (length bytes) place

pub reaches_by_true : (file : Option (List ℕ)) (at : ℕ) → reaches file at ≡ true → Reaches file at
reaches_by_true None at e = false≢true e
reaches_by_true (Some bytes) at e = leb-true at (length bytes) e

-- a good write
pub write_legal : {T E : Type 0} (r : Result T E) (old new : List Call) (file : FileId) (at : ℕ) (bytes : List ℕ) → Reaches (reads_of old file) at → OnOk r (NotedWrite old new file at bytes) → OnErr r (new ≡ old) → AreLegal old → AreLegal new
write_legal (Ok x) old new file at bytes place noted same legal = legal_noted old new file (Written at noted.0) noted.2 (and_from (reaches (reads_of old file) at) (is_legal (past_of old file)) (reaches_true (reads_of old file) at place) (legal file)) legal
write_legal (Err x) old new file at bytes place noted same legal = legal_same old new same legal

-- and a create
pub make_legal : {T E : Type 0} (r : Result T E) (old new : List Call) (file : FileId) → OnOk r (Noted old new file Made) → OnErr r (new ≡ old) → AreLegal old → AreLegal new
make_legal (Ok x) old new file noted same legal = legal_noted old new file Made noted (legal file) legal
make_legal (Err x) old new file noted same legal = legal_same old new same legal
