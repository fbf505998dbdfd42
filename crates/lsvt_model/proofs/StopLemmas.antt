-- What a stop leaves.
use Rattle.std.proofs.Common.{◌≡◌, ◌<◌, ◌≤◌, ℕ, zero, suc, List, [], ◌∷◌, length, map, take, drop, get_or, set, refl, ap, ◌∙◌, arith, None}
use Rattle.std.specs.Prelude.{◌==◌, Bool, true, false, if◌then◌else◌}
use Rattle.lsvt_model.specs.Starting.{all_promised}
use Rattle.lsvt_model.specs.Views.{logs_in, owner_in, there}
use Rattle.lsvt_model.specs.declared.logs.Log.{Log}
use Rattle.lsvt_model.proofs.TableLemmas.{ext}

-- a log that nobody writes, with all its records promised
abbrev pub stopped : Log → Log
stopped log = record log { promised = length log.records; owner = None }

logs_at : (xs : List Log) (n : ℕ) → logs_in (map stopped xs) n ≡ all_promised (logs_in xs n)
logs_at [] n = refl
logs_at (x ∷ xs) n = go (n == x.number) (logs_at xs n)
  where
    go : (t : Bool) → logs_in (map stopped xs) n ≡ all_promised (logs_in xs n)
        → (if t then there (stopped x) else logs_in (map stopped xs) n) ≡ all_promised (if t then there x else logs_in xs n)
    go true ih = refl
    go false ih = ih

owner_at : (xs : List Log) (n : ℕ) → owner_in (map stopped xs) n ≡ None
owner_at [] n = refl
owner_at (x ∷ xs) n = go (n == x.number) (owner_at xs n)
  where
    go : (t : Bool) → owner_in (map stopped xs) n ≡ None → (if t then (stopped x).owner else owner_in (map stopped xs) n) ≡ None
    go true ih = refl
    go false ih = ih

pub logs_stopped : (xs : List Log) → logs_in (map stopped xs) ≡ (λ n. all_promised (logs_in xs n))
logs_stopped xs = ext (logs_at xs)

pub owners_stopped : (xs : List Log) → owner_in (map stopped xs) ≡ (λ n. None)
owners_stopped xs = ext (owner_at xs)

-- ---- The loop over the logs

-- this many logs are stopped, and the others as they were
pub record StoppedTo (xs ys : List Log) (i : ℕ) : Type 0 where
  pub passed : take i xs ≡ map stopped (take i ys)
  pub rest : drop i xs ≡ drop i ys

pub stop_more : (xs ys : List Log) (i : ℕ) (d e : Log) → i < length xs → take i xs ≡ map stopped (take i ys) → drop i xs ≡ drop i ys → e ≡ stopped (get_or xs i d) → StoppedTo (set xs i e) ys (suc i)
stop_more [] ys i d e h p q r = absurd (omega arith)
stop_more (x ∷ xs) [] zero d e h p q r = cc
stop_more (x ∷ xs) (y ∷ ys) zero d e h p q r =
    let same : x ≡ y = cc in
    let rest : xs ≡ ys = cc in
    record { passed = ap (λ (l : Log). l ∷ []) (r ∙ ap stopped same); rest = rest }
stop_more (x ∷ xs) [] (suc i) d e h p q r = cc
stop_more (x ∷ xs) (y ∷ ys) (suc i) d e h p q r =
    let first : x ≡ stopped y = cc in
    let others : take i xs ≡ map stopped (take i ys) = cc in
    let below : i < length xs = omega arith in
    let more = stop_more xs ys i d e below others q r in
    let put : Log → List Log = λ l. l ∷ take (suc i) (set xs i e) in
    record { passed = ap put first ∙ ap (λ (ls : List Log). stopped y ∷ ls) more.passed; rest = more.rest }

pub all_stopped : (xs ys : List Log) (i : ℕ) → length xs ≤ i → take i xs ≡ map stopped (take i ys) → drop i xs ≡ drop i ys → xs ≡ map stopped ys
all_stopped [] ys zero h p q = let e : [] ≡ ys = q in ap (map stopped) e
all_stopped (x ∷ xs) ys zero h p q = absurd (omega arith)
all_stopped [] [] (suc i) h p q = refl
all_stopped [] (y ∷ ys) (suc i) h p q = cc
all_stopped (x ∷ xs) [] (suc i) h p q = cc
all_stopped (x ∷ xs) (y ∷ ys) (suc i) h p q =
    let first : x ≡ stopped y = cc in
    let others : take i xs ≡ map stopped (take i ys) = cc in
    let put : Log → List Log = λ l. l ∷ xs in
    ap put first ∙ ap (λ (ls : List Log). stopped y ∷ ls) (all_stopped xs ys i (omega arith) others q)
