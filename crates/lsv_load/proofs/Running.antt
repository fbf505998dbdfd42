-- How a load ends, by what its parts came to.
use Rattle.std.proofs.Common.{◌≡◌, ◌≢◌, ◌∙◌, inl, inr, ℕ, zero, suc, List, [], ◌∷◌, Some, None, Result, Ok, Err, OnErr, length, refl, sym, ap, subst, append-nil, arith}
use Rattle.std.specs.Prelude.{IfOk, slice_get, slice_index_or}
use Rattle.std.proofs.Math.Path.{fun_ext}
use Rattle.lsv_disk.specs.Throughout.{OnlyReads}
use Rattle.lsv_disk.specs.View.{DiskView, Image, IsCrashImage}
use Rattle.lsv_disk.specs.declared.file.Owner.{Owner}
use Rattle.lsv_disk.proofs.Composition.{OnlyNow}
use Rattle.lsv_iolog.proofs.Scans.{reads_nothing}
use Rattle.lsv_keeper.specs.Opening.{IsStoreFault, KeepsEntry}
use Rattle.lsv_keeper.specs.declared.fault.StoreFault.{StoreFault}
use Rattle.lsv_keeper.specs.declared.fault.StoreFault.TheVariants as faults
use Rattle.lsv_lane.specs.Store.{IsFresh, KeepsStore, OwnerFailed, end_of_fault}
use Rattle.lsv_lane.proofs.Conforming.{keeps_less}
use Rattle.lsv_machine.specs.Machine.{Settings}
use Rattle.lsv_reactor.specs.Served.{KeepPorts}
use Rattle.lsv_reactor.specs.declared.rounds.PortsEnd.TheVariants.{Stopped}
use Rattle.lsv_seq.specs.Drawn.{entry_at, judged}
use Rattle.lsv_service.specs.Runs.{HasTurns, IsUp}
use Rattle.lsv_service.specs.declared.run.End.TheVariants as ends
use Rattle.lsv_turn.specs.Turns.{LaneTurn, TapeTurn, jobs_in, replies_in}
use Rattle.lsv_links.proofs.PrefixLemmas.{served_prefixes}
use Rattle.lsv_links.specs.Lanes.{one_lane}
use Rattle.lsv_links.specs.Views.{PortView}
use Rattle.lsv_load.specs.Faults.{HasReplayCause}
use Rattle.lsv_load.specs.Numbers.{numbers_told}
use Rattle.lsv_port.specs.Memory.Value.{PortValue, TellsScript, port_state}
use Rattle.lsv_load.specs.Load.{load_script}
use Rattle.lsv_load.specs.Runs.{EndsLoad, IsNew, IsSumOf, LeavesLoad, PutsOne, RunsLoad, ServesLoad, ServesOne, view_of}
use Rattle.lsv_load.specs.declared.run.LoadEnd.{LoadEnd}
use Rattle.lsv_load.specs.declared.run.LoadEnd.TheVariants.{NoMem, Served, Store}

-- a load whose store isn't opened
pub not_opened : (tells : Type 0) (count : ℕ) (found served left : DiskView) (fault : StoreFault) → (tells → IsStoreFault 0 1 found.reads fault) → ((o : Owner) → fault ≡ faults.Device o → OwnerFailed o found served)
    → EndsLoad tells count [] found served left (end_of_fault ends.Store ends.NoMem fault) (end_of_fault Store NoMem fault)
not_opened tells count found served left faults.NoMem is failed = inl refl
not_opened tells count found served left (faults.Device o) is failed = inl (record { is = refl; cause = record { memory = λ none. let no_ : ⊥ = cc in no_; is = is; failed = failed } })
not_opened tells count found served left (faults.Damaged file) is failed = inl (record { is = refl; cause = record { memory = λ none. let no_ : ⊥ = cc in no_; is = is; failed = failed } })
not_opened tells count found served left (faults.LanesDiffer kept asked) is failed = inl (record { is = refl; cause = record { memory = λ none. let no_ : ⊥ = cc in no_; is = is; failed = failed } })

-- a load whose logs aren't replayed
pub not_replayed : (tells : Type 0) (numbers : List ℕ) (served left : DiskView) (fault : StoreFault) → HasReplayCause tells numbers served left fault → IsSumOf tells numbers served left (end_of_fault Store NoMem fault)
not_replayed tells numbers served left faults.NoMem cause = tt
not_replayed tells numbers served left (faults.Device o) cause = cause
not_replayed tells numbers served left (faults.Damaged file) cause = cause
not_replayed tells numbers served left (faults.LanesDiffer kept asked) cause = absurd cause

-- a port that was served to its end was served up to some point
pub puts_one : (lane_tells : Type 0) (turns : List LaneTurn) (old new : PortView) → ServesOne lane_tells turns old new → PutsOne turns old new
puts_one lane_tells turns old new s = record {
  put = served_prefixes (λ lane. lane_tells) 1 0 (λ lane. jobs_in (one_lane lane turns)) (λ lane. replies_in (one_lane lane turns)) old new s.served;
  only = s.only;
}

-- a load that was served is one that was served up to some point
pub loads_leave : (tells : Type 0) (count : ℕ) (turns : List LaneTurn) → ServesLoad tells count turns → LeavesLoad count turns
loads_leave tells count turns load = inr (record { old = load.old; new = load.new; begun = load.begun; served = puts_one tells turns (view_of load.old) (view_of load.new) load.served; script = load.script })

-- a port that followed the script, and was served to its end
pub breaks_off : (tells : Type 0) (count : ℕ) (old new : PortValue) (turns : List LaneTurn) → IsNew count old → TellsScript (load_script count) (port_state new) → ServesOne tells turns (view_of old) (view_of new) → LeavesLoad count turns
breaks_off tells count old new turns begun script one = inr (record { old = old; new = new; begun = begun; served = puts_one tells turns (view_of old) (view_of new) one; script = script })

-- a load that was served
pub served_ends : (tells : Type 0) (count : ℕ) (turns : List LaneTurn) (found served left : DiskView) (numbers : List ℕ) (end : LoadEnd) → ServesLoad tells count turns → numbers ≡ numbers_told (replies_in turns) → IsSumOf tells numbers served left end
    → EndsLoad tells count turns found served left (ends.Over Stopped) end
served_ends tells count turns found served left numbers (Served text) load same sum = record { is = refl; load = load; sum = subst (λ (ns : List ℕ). IsSumOf tells ns served left (Served text)) same sum }
served_ends tells count turns found served left numbers (Store fault) load same sum = inr (record { is = refl; load = load; sum = subst (λ (ns : List ℕ). IsSumOf tells ns served left (Store fault)) same sum })
served_ends tells count turns found served left numbers NoMem load same sum = loads_leave tells count turns load

some_first : {A : Type 0} (x y : A) → Some x ≡ Some y → x ≡ y
some_first x y e = cc

-- what holds of the one element of a list, at its place
pub only_place : {A : Type 0} (P : A → ℕ → Type 0) (xs : List A) (x : A) → xs ≡ x ∷ [] → P x 0 → (i : ℕ) (y : A) → slice_get xs i ≡ Some y → P y i
only_place {A} P xs x is holds i y at = at_place i (subst (λ (ys : List A). slice_get ys i ≡ Some y) is at) where
  at_place : (j : ℕ) → slice_get (x ∷ []) j ≡ Some y → P y j
  at_place zero e = subst (λ (z : A). P z 0) (some_first x y e) holds
  at_place (suc j) e = absurd (let no_ : ⊥ = cc in no_)

pub only_one : {A : Type 0} (P : A → Type 0) (xs : List A) (x : A) → xs ≡ x ∷ [] → P x → (i : ℕ) (y : A) → slice_get xs i ≡ Some y → P y
only_one {A} P xs x is holds i y at = only_place (λ (z : A) (j : ℕ). P z) xs x is holds i y at

-- the first of one
pub first_there : {A : Type 0} (xs : List A) (d : A) → length xs ≡ 1 → slice_get xs 0 ≡ Some (slice_index_or xs 0 d)
first_there [] d e = absurd (let no_ : ⊥ = omega (arith, e) in no_)
first_there (x ∷ xs) d e = refl

-- what follows of an answer, where there is one
pub ok_all : {A E : Type 0} (r : Result A E) (P Q : A → Type 0) → IfOk r P → ((a : A) → P a → Q a) → IfOk r Q
ok_all (Ok a) P Q is f = f a is
ok_all (Err e) P Q is f = tt

-- what holds anyway, holds where there is an error
pub err_any : {A E : Type 0} (r : Result A E) (P : Type 0) → P → OnErr r P
err_any (Ok a) P is = tt
err_any (Err e) P is = is

pub at_ok : {A E : Type 0} (r : Result A E) (a : A) (P : A → Type 0) → r ≡ Ok a → IfOk r P → P a
at_ok {A} {E} r a P e is = let h : IfOk {E = E} (Ok a) P = subst (λ (x : Result A E). IfOk x P) e is in h

pub at_err : {A E : Type 0} (r : Result A E) (x : E) (P : Type 0) → r ≡ Err x → OnErr r P → P
at_err {A} {E} r x P e is = let h : OnErr {T = A} (Err x) P = subst (λ (y : Result A E). OnErr y P) e is in h

-- ---- A store that isn't opened

no_turns : (fault : StoreFault) → HasTurns (end_of_fault ends.Store ends.NoMem fault) []
no_turns faults.NoMem = tt
no_turns (faults.Device o) = refl
no_turns (faults.Damaged file) = refl
no_turns (faults.LanesDiffer kept asked) = refl

not_up : (fault : StoreFault) → IsUp (end_of_fault ends.Store ends.NoMem fault) [] → ⊥
not_up faults.NoMem up = up refl
not_up (faults.Device o) up = up
not_up (faults.Damaged file) up = up
not_up (faults.LanesDiffer kept asked) up = up

-- a load whose store isn't opened runs no turn
pub runs_unopened : {D : Type 0} (tells taping : Type 0) (view : D → DiskView) (set : Settings) (texts : List (List ℕ)) (count : ℕ) (found left : D) (tape tape' : List TapeTurn) (fault : StoreFault) (end : LoadEnd) → end ≡ end_of_fault Store NoMem fault → tape' ≡ tape
    → (tells → KeepsStore ⊥ set texts (record { found = view found; left = view left }) []) → (tells → OnlyNow (view left))
    → (tells → IsStoreFault 0 1 (view found).reads fault) → ((o : Owner) → fault ≡ faults.Device o → OwnerFailed o (view found) (view left)) → (tells → entry_at set.lane (view found).reads ≢ None → KeepsEntry set.lane (view found) (view left)) → RunsLoad tells taping view set texts count found left tape tape' end
runs_unopened tells taping view set texts count found left tape tape' fault end ended same keeps now is failed entry = record {
  turns = [];
  served = left;
  up = end_of_fault ends.Store ends.NoMem fault;
  sized = tt;
  store = record {
    some = no_turns fault;
    timed = tt;
    answered = λ some. absurd (some refl);
    entry = λ other by told some. entry told some;
    taped = λ told. same ∙ sym (append-nil tape);
    keeps = λ told. keeps_less ⊥ (IsUp (end_of_fault ends.Store ends.NoMem fault) []) set texts (record { found = view found; left = view left }) [] (not_up fault) (keeps told);
  };
  read = λ told. reads_nothing (view left) (now told);
  ends = subst (EndsLoad tells count [] (view found) (view left) (view left) (end_of_fault ends.Store ends.NoMem fault)) (sym ended) (not_opened tells count (view found) (view left) (view left) fault is failed);
}

-- a disk that was only read is one with which the next run may begin, if it was before
pub fresh_read : (lane lanes : ℕ) (old new : DiskView) → OnlyReads old new → IsFresh lane lanes old → IsFresh lane lanes new
fresh_read lane lanes old new r fresh last well =
    let same : new.reads ≡ old.reads = fun_ext (λ file. r.unchanged.elsewhere.same file (λ x. x)) in
    let fits = fresh last (subst (λ (i : Image). judged lane lanes (entry_at lane i) ≡ Ok last) same well) in
    let before : (image : Image) → IsCrashImage new image → IsCrashImage old image = λ image is file. r.unchanged.elsewhere.crash file (λ x. x) (image file) (is file) in
    record { told = λ image is. fits.told image (before image is); none_above = λ a b l n here there. fits.none_above a b l n (before a here) (before b there) }

-- the script of the port of the one post stays
pub same_script : {T : Type 0} (view : T → PortView) (olds news : List T) (old : T) → olds ≡ old ∷ [] → length news ≡ 1 → KeepPorts view olds news → (view (slice_index_or news 0 old)).ledger.script ≡ (view old).ledger.script
same_script {T} view olds news old is one keep = (keep 0 old (slice_index_or news 0 old) (ap (λ (xs : List T). slice_get xs 0) is) (first_there news old one)).script
