-- The small cases, each by computing what its history says.
use Rattle.std.proofs.Common.{◌≡◌, ◌≤◌, ℕ, List, [], ◌∷◌, ◌++◌, refl, sym, ap, subst, inl, inr, arith, zero, suc, ◌⊎◌, take}
use Rattle.lsv_record.specs.declared.records.Record.{Record}
use Rattle.lsv_record.specs.declared.records.Record.TheVariants.{Io}
use Rattle.lsv_machine.specs.Durable.{GoodLog}
use Rattle.lsv_machine.specs.Examples.{FoundWithin, cut_goes_on, cut_stopped, dropped_restart, one_byte, resumed_longer, resumed_then, uncut, was_cut}
use Rattle.lsv_machine.specs.History.{ledger}
use Rattle.lsv_machine.specs.Recovery.{GoesOn}
use Rattle.lsv_machine.specs.Tails.{no_answer}
use Rattle.lsv_machine.specs.Turns.{Happened, Happened.Begins, all_acted, turn_of}

pub uncut_within : FoundWithin cut_stopped.history cut_stopped.acts uncut
uncut_within = record { done = 0; some = omega arith; good = record { head = refl; prefix = record { rest = []; is = refl }; enough = omega arith; exit = refl } }

pub cut_within : FoundWithin cut_stopped.history cut_stopped.acts was_cut
cut_within = record { done = 2; some = omega arith; good = record { head = refl; prefix = record { rest = []; is = refl }; enough = omega arith; exit = refl } }

pub goes_on : GoesOn [] cut_stopped cut_goes_on
goes_on = record { done = 2; some = omega arith; is = refl }

pub cut_reads : GoodLog (ledger cut_goes_on 1) was_cut
cut_reads = record { head = refl; prefix = record { rest = []; is = refl }; enough = omega arith; exit = refl }

not_one : (a b c : Record) (rest : List Record) → (a ∷ b ∷ []) ++ rest ≡ c ∷ [] → ⊥
not_one a b c rest e = let p : b ∷ rest ≡ [] = cc in cc

pub uncut_lost : GoodLog (ledger (cut_goes_on ++ turn_of dropped_restart no_answer) 1) uncut → ⊥
uncut_lost good = not_one (one_byte 5) (one_byte 5) (one_byte 5) good.prefix.rest good.prefix.is

up_to_two : (k : ℕ) → k ≤ 2 → (k ≡ 0) ⊎ (k ≡ 1) ⊎ (k ≡ 2)
up_to_two zero le = inl refl
up_to_two (suc zero) le = inr (inl refl)
up_to_two (suc (suc zero)) le = inr (inr refl)
up_to_two (suc (suc (suc k))) le = absurd (omega arith)

-- the record that no history of these has second
not_second : (a b c d : Record) (rest ys : List Record) → (a ∷ b ∷ []) ++ rest ≡ c ∷ d ∷ ys → b ≡ d
not_second a b c d rest ys e = cc

byte_of : Record → ℕ
byte_of (Io delay stream (byte ∷ bytes)) = byte
byte_of r = 0

five_nine : (x y : ℕ) → x ≡ 5 → y ≡ 9 → x ≡ y → ⊥
five_nine x y p q e = omega arith

nine_is : one_byte 5 ≡ one_byte 9 → ⊥
unfolding byte_of
nine_is e = five_nine (byte_of (one_byte 5)) (byte_of (one_byte 9)) refl refl (ap byte_of e)

pub uncut_not_since : FoundWithin cut_goes_on resumed_then uncut → ⊥
uncut_not_since w = go w.done w.good (up_to_two w.done w.some)
  where
    go : (k : ℕ) → GoodLog (ledger (cut_goes_on ++ all_acted (take k resumed_then)) 1) uncut → (k ≡ 0) ⊎ (k ≡ 1) ⊎ (k ≡ 2) → ⊥
    go k good (inl e) = let good' : GoodLog (ledger (cut_goes_on ++ all_acted (take 0 resumed_then)) 1) uncut = subst (λ (x : ℕ). GoodLog (ledger (cut_goes_on ++ all_acted (take x resumed_then)) 1) uncut) e good in
        not_one (one_byte 5) (one_byte 5) (one_byte 5) good'.prefix.rest good'.prefix.is
    go k good (inr (inl e)) = let good' : GoodLog (ledger (cut_goes_on ++ all_acted (take 1 resumed_then)) 1) uncut = subst (λ (x : ℕ). GoodLog (ledger (cut_goes_on ++ all_acted (take x resumed_then)) 1) uncut) e good in
        not_one (one_byte 5) (one_byte 5) (one_byte 5) good'.prefix.rest good'.prefix.is
    go k good (inr (inr e)) = let good' : GoodLog (ledger (cut_goes_on ++ all_acted (take 2 resumed_then)) 1) uncut = subst (λ (x : ℕ). GoodLog (ledger (cut_goes_on ++ all_acted (take x resumed_then)) 1) uncut) e good in
        nine_is (not_second (one_byte 5) (one_byte 5) (one_byte 5) (one_byte 9) good'.prefix.rest [] good'.prefix.is)

pub longer_not_before : FoundWithin cut_stopped.history cut_stopped.acts resumed_longer → ⊥
longer_not_before w = go w.done w.good (up_to_two w.done w.some)
  where
    go : (k : ℕ) → GoodLog (ledger (cut_stopped.history ++ all_acted (take k cut_stopped.acts)) 1) resumed_longer → (k ≡ 0) ⊎ (k ≡ 1) ⊎ (k ≡ 2) → ⊥
    go k good (inl e) = let good' : GoodLog (ledger (cut_stopped.history ++ all_acted (take 0 cut_stopped.acts)) 1) resumed_longer = subst (λ (x : ℕ). GoodLog (ledger (cut_stopped.history ++ all_acted (take x cut_stopped.acts)) 1) resumed_longer) e good in
        nine_is (sym (not_second (one_byte 5) (one_byte 9) (one_byte 5) (one_byte 5) good'.prefix.rest [] good'.prefix.is))
    go k good (inr (inl e)) = let good' : GoodLog (ledger (cut_stopped.history ++ all_acted (take 1 cut_stopped.acts)) 1) resumed_longer = subst (λ (x : ℕ). GoodLog (ledger (cut_stopped.history ++ all_acted (take x cut_stopped.acts)) 1) resumed_longer) e good in
        nine_is (sym (not_second (one_byte 5) (one_byte 9) (one_byte 5) (one_byte 5) good'.prefix.rest [] good'.prefix.is))
    go k good (inr (inr e)) = let good' : GoodLog (ledger (cut_stopped.history ++ all_acted (take 2 cut_stopped.acts)) 1) resumed_longer = subst (λ (x : ℕ). GoodLog (ledger (cut_stopped.history ++ all_acted (take x cut_stopped.acts)) 1) resumed_longer) e good in
        not_one (one_byte 5) (one_byte 9) (one_byte 5) good'.prefix.rest good'.prefix.is

pub longer_since : FoundWithin cut_goes_on resumed_then resumed_longer
longer_since = record { done = 2; some = omega arith; good = record { head = refl; prefix = record { rest = []; is = refl }; enough = omega arith; exit = refl } }

-- whichever history the next run starts from, the uncut log is not good for it with that run
pub none_for_both : (g : List Happened) → GoesOn [] cut_stopped g → GoodLog (ledger g 1) was_cut → GoodLog (ledger (g ++ turn_of dropped_restart no_answer) 1) uncut → ⊥
none_for_both g on reads good = go on.done on.is (up_to_two on.done on.some)
  where
    at : ℕ → List Happened
    at k = (cut_stopped.history ++ all_acted (take k cut_stopped.acts)) ++ Begins [] ∷ []

    first_two : (k : ℕ) → (k ≡ 0) ⊎ (k ≡ 1) → GoodLog (ledger ((cut_stopped.history ++ all_acted (take k cut_stopped.acts)) ++ Begins [] ∷ []) 1) was_cut → ⊥
    first_two k (inl z) r = let r' : GoodLog (ledger ((cut_stopped.history ++ all_acted (take 0 cut_stopped.acts)) ++ Begins [] ∷ []) 1) was_cut =
        subst (λ (x : ℕ). GoodLog (ledger ((cut_stopped.history ++ all_acted (take x cut_stopped.acts)) ++ Begins [] ∷ []) 1) was_cut) z r in let a : 2 ≤ 1 = r'.enough in omega arith
    first_two k (inr z) r = let r' : GoodLog (ledger ((cut_stopped.history ++ all_acted (take 1 cut_stopped.acts)) ++ Begins [] ∷ []) 1) was_cut =
        subst (λ (x : ℕ). GoodLog (ledger ((cut_stopped.history ++ all_acted (take x cut_stopped.acts)) ++ Begins [] ∷ []) 1) was_cut) z r in let a : 2 ≤ 1 = r'.enough in omega arith

    go : (k : ℕ) → g ≡ (cut_stopped.history ++ all_acted (take k cut_stopped.acts)) ++ Begins [] ∷ [] → (k ≡ 0) ⊎ (k ≡ 1) ⊎ (k ≡ 2) → ⊥
    go k e (inl z) = first_two k (inl z) (subst (λ (h : List Happened). GoodLog (ledger h 1) was_cut) e reads)
    go k e (inr (inl z)) = first_two k (inr z) (subst (λ (h : List Happened). GoodLog (ledger h 1) was_cut) e reads)
    go k e (inr (inr z)) =
        let e' : g ≡ (cut_stopped.history ++ all_acted (take 2 cut_stopped.acts)) ++ Begins [] ∷ [] = subst (λ (x : ℕ). g ≡ (cut_stopped.history ++ all_acted (take x cut_stopped.acts)) ++ Begins [] ∷ []) z e in
        uncut_lost (subst (λ (h : List Happened). GoodLog (ledger (h ++ turn_of dropped_restart no_answer) 1) uncut) e' good)
