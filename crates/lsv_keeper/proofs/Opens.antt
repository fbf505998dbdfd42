-- Open logs, number by number.
use Rattle.std.proofs.Common.{◌≡◌, ℕ, Bool, ◌==◌, cond, nat_eq, Option, Some, refl, sym, ap, ◌∙◌, subst, inl, inr, ◌⊎◌}
use Rattle.std.specs.Prelude.{◌≤◌, ◌+◌, ◌^◌, ◌<◌, true, false, is_err, Result, Ok, Err, IfErr, IsErrOf, IsOk, OnOk}
use Rattle.std.proofs.lemmas.Cmp.{nat_eq_equiv}
use Rattle.lsv_disk.specs.declared.file.Part.{Part}
use Rattle.lsv_iolog.specs.Room.{IsFullOf}
use Rattle.lsv_iolog.specs.Value.{IoLogView}
use Rattle.lsv_iolog.specs.declared.fault.LogFault.{LogFault}
use Rattle.lsv_iolog.specs.declared.fault.LogFault.TheVariants as faults
use Rattle.lsv_record.specs.Records.{delay_of}
use Rattle.lsv_record.specs.declared.records.Record.{Record}
use Rattle.lsv_keeper.specs.Logs.{IsAppendFault, with_open}
use Rattle.lsv_keeper.specs.declared.logs.OpenLog.{OpenLog}

-- the logs where one number has another one or none
pub put_at : (f g : ℕ → Option OpenLog) (key log : ℕ) (o : Option OpenLog) → key ≡ log → ((q : ℕ) → g q ≡ cond (nat_eq key q) o (f q)) → g ≡ with_open log o f
put_at f g key log o is e i n = (e n ∙ ap (λ b. cond b o (f n)) (nat_eq_equiv.symm key n) ∙ ap (λ k. cond (nat_eq n k) o (f n)) is) i

-- the same number twice: the later one counts
pub put_twice : (f : ℕ → Option OpenLog) (log : ℕ) (a b : Option OpenLog) → with_open log b (with_open log a f) ≡ with_open log b f
put_twice f log a b i n = go (n == log) i
  where
    go : (t : Bool) → cond t b (cond t a (f n)) ≡ cond t b (f n)
    go true = refl
    go false = refl

-- the one that was put
pub put_its : (f : ℕ → Option OpenLog) (log : ℕ) (o : Option OpenLog) → with_open log o f log ≡ o
put_its f log o = ap (λ (t : Bool). cond t o (f log)) (nat_eq_equiv.refl log)

some_open : (a b : OpenLog) → Some a ≡ Some b → a ≡ b
some_open a b e = cc

pub one_open : (logs : ℕ → Option OpenLog) (n : ℕ) (a b : OpenLog) → logs n ≡ Some a → logs n ≡ Some b → a ≡ b
one_open logs n a b e f = some_open a b (sym e ∙ f)

-- why a log refuses a record
pub append_fault : (log : IoLogView) (r : Record) (fault : LogFault)
    → ((fault ≡ faults.TooLong log.elapsed) ⊎ (fault ≡ faults.Broken) ⊎ ((part : Part) × (fault ≡ faults.Full part)) ⊎ (fault ≡ faults.NoMem))
    → ((fault ≡ faults.TooLong log.elapsed) → 2 ^ 63 ≤ log.elapsed + delay_of r)
    → ((fault ≡ faults.TooLong log.elapsed) ⊎ (log.elapsed + delay_of r < 2 ^ 63))
    → (fault ≡ faults.Broken → log.is_broken ≡ true) → ((part : Part) → fault ≡ faults.Full part → IsFullOf log.bundle r part) → IsAppendFault log r fault
append_fault log r fault (inl e) long time broken full = subst (IsAppendFault log r) (sym e) (long e)
append_fault log r fault (inr (inl e)) long time broken full = subst (IsAppendFault log r) (sym e) (broken e)
append_fault log r fault (inr (inr (inl (part, e)))) long time broken full = subst (IsAppendFault log r) (sym e) (elim time [
  | inl long_is ↦ absurd (let f : faults.Full part ≡ faults.TooLong log.elapsed = sym e ∙ long_is in cc)
  | inr short ↦ (short, full part e)
])
append_fault log r fault (inr (inr (inr e))) long time broken full = subst (IsAppendFault log r) (sym e) tt

-- ---- What calls gave

-- what holds at Ok, where a call succeeded
pub given_ok : {A E : Type 0} (r : Result A E) (P : Type 0) → IsOk r → OnOk r P → P
given_ok (Ok a) P ok p = p
given_ok (Err e) P ok p = absurd (cc)

-- why a flush failed
pub flush_cause : {A : Type 0} (r : Result A LogFault) (P : Type 0) → IfErr r (λ e. (e ≡ faults.Disk) ⊎ (e ≡ faults.Broken)) → (IsErrOf r faults.Disk → P) → (IsErrOf r faults.Broken → ⊥) → is_err r ≡ true → P
flush_cause (Ok a) P fault disk broken err = absurd (cc)
flush_cause (Err e) P (inl is) disk broken err = disk (ap Err is)
flush_cause (Err e) P (inr is) disk broken err = absurd (broken (ap Err is))
