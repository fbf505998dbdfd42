-- What of a list is one worker's own.
use Rattle.std.proofs.Common.{◌≡◌, ◌≢◌, ◌++◌, ◌∷◌, [], List, ℕ, Bool, true, false, length, ◌≤◌, refl, sym, ap, subst, ◌∙◌, append-nil, inl, inr, arith}
use Rattle.std.specs.Prelude.{◌==◌, ◌<◌, zero, suc, if◌then◌else◌, slice_index_or}
use Rattle.std.specs.List.{AllByRecursion, Contains}
use Rattle.std.proofs.lemmas.Grind.{flat_map-append}
use Rattle.std.proofs.lemmas.List.Elements.{Contains-append_cases, Contains-append_right}
use Rattle.std.proofs.lemmas.Bool.Decides.{nat_tests}
use Rattle.lsv_session.specs.declared.job.Job.{Job}
use Rattle.lsv_session.specs.declared.reply.Reply.{Reply}
use Rattle.lsv_links.specs.Turns.{AreOf, jobs_of, replies_to}
use Rattle.lsv_turn.specs.Turns.{LaneTurn, jobs_in}
use Rattle.lsv_reactor.specs.Calls.{IsOfOne, call_of, calls_in, calls_of, is_by, jobs_by}

-- two numbers, and the value of their test
pub data EqOr (a b : ℕ) : Type 0 where
  equal : a ≡ b → (a == b) ≡ true → EqOr a b
  unequal : a ≢ b → (a == b) ≡ false → EqOr a b

pub eq_or : (a b : ℕ) → EqOr a b
eq_or a b = go (a == b) refl
  where
    go : (t : Bool) → (a == b) ≡ t → EqOr a b
    go true e = equal (grind (arith, nat_tests)) e
    go false e = unequal (grind (arith, nat_tests)) e

if_more : {A : Type 0} (b : Bool) (x : A) (xs ys : List A) → (if b then x ∷ (xs ++ ys) else (xs ++ ys)) ≡ (if b then x ∷ xs else xs) ++ ys
if_more true x xs ys = refl
if_more false x xs ys = refl

pub jobs_append : (w : ℕ) (xs ys : List Job) → jobs_of w (xs ++ ys) ≡ jobs_of w xs ++ jobs_of w ys
jobs_append w [] ys = refl
jobs_append w (x ∷ xs) ys = ap (λ (l : List Job). if x.conn.worker == w then x ∷ l else l) (jobs_append w xs ys) ∙ if_more (x.conn.worker == w) x (jobs_of w xs) (jobs_of w ys)

pub replies_append : (w : ℕ) (xs ys : List Reply) → replies_to w (xs ++ ys) ≡ replies_to w xs ++ replies_to w ys
replies_append w [] ys = refl
replies_append w (x ∷ xs) ys = ap (λ (l : List Reply). if x.conn.worker == w then x ∷ l else l) (replies_append w xs ys) ∙ if_more (x.conn.worker == w) x (replies_to w xs) (replies_to w ys)

-- jobs of a worker are its own
pub own_jobs : (w : ℕ) (xs : List Job) → AreOf w xs → jobs_of w xs ≡ xs
own_jobs w [] all = refl
own_jobs w (x ∷ xs) all = elim (eq_or x.conn.worker w) [
  | equal e t ↦ rw t (ap (λ (l : List Job). x ∷ l) (own_jobs w xs all.1))
  | unequal ne t ↦ absurd (ne all.0)
]

-- and none of another's
pub other_jobs : (v w : ℕ) (xs : List Job) → v ≢ w → AreOf v xs → jobs_of w xs ≡ []
other_jobs v w [] ne all = refl
other_jobs v w (x ∷ xs) ne all = elim (eq_or x.conn.worker w) [
  | equal e t ↦ absurd (ne (sym all.0 ∙ e))
  | unequal differs t ↦ rw t (other_jobs v w xs ne all.1)
]

-- ---- Calls

pub calls_append : (w : ℕ) (xs ys : List (List Job)) → calls_of w (xs ++ ys) ≡ calls_of w xs ++ calls_of w ys
calls_append w [] ys = refl
calls_append w (x ∷ xs) ys = ap (λ (l : List (List Job)). if is_by w x then x ∷ l else l) (calls_append w xs ys) ∙ if_more (is_by w x) x (calls_of w xs) (calls_of w ys)

-- a call of a worker's own
pub own_call : (w : ℕ) (jobs : List Job) → AreOf w jobs → calls_of w (call_of jobs) ≡ call_of jobs
own_call w [] own = refl
own_call w (x ∷ jobs) own = elim (eq_or x.conn.worker w) [ equal e t ↦ rw t refl | unequal ne t ↦ absurd (ne own.0) ]

-- and another's
pub other_call : (v w : ℕ) (jobs : List Job) → v ≢ w → AreOf v jobs → calls_of w (call_of jobs) ≡ []
other_call v w [] ne own = refl
other_call v w (x ∷ jobs) ne own = elim (eq_or x.conn.worker w) [ equal e t ↦ absurd (ne (sym own.0 ∙ e)) | unequal differs t ↦ rw t refl ]

-- what one call more gave
jobs_call : (jobs : List Job) → jobs_by (call_of jobs) ≡ jobs
jobs_call [] = refl
jobs_call (x ∷ jobs) = append-nil (x ∷ jobs)

pub jobs_join : (gave : List (List Job)) (jobs : List Job) → jobs_by (gave ++ call_of jobs) ≡ jobs_by gave ++ jobs
jobs_join gave jobs = flat_map-append (λ (l : List Job). l) gave (call_of jobs) ∙ ap (λ (l : List Job). jobs_by gave ++ l) (jobs_call jobs)

-- what a worker's calls gave are its jobs
jobs_more : (n w : ℕ) (jobs : List Job) (calls : List (List Job)) → IsOfOne n jobs → jobs_by (calls_of w calls) ≡ jobs_of w (jobs_by calls) → jobs_by (calls_of w (jobs ∷ calls)) ≡ jobs_of w (jobs ++ jobs_by calls)
jobs_more n w [] calls is e = e
jobs_more n w (x ∷ jobs) calls is e = elim (eq_or x.conn.worker w) [
  | equal p t ↦
      let all : AreOf w (x ∷ jobs) = subst (λ (v : ℕ). AreOf v (x ∷ jobs)) (sym is.own.0 ∙ p) is.own in
      let mine : jobs_of w (x ∷ jobs) ≡ x ∷ jobs = own_jobs w (x ∷ jobs) all in
      let calls_are : calls_of w ((x ∷ jobs) ∷ calls) ≡ (x ∷ jobs) ∷ calls_of w calls = rw t refl in
      ap jobs_by calls_are ∙ ap (λ (l : List Job). (x ∷ jobs) ++ l) e ∙ ap (λ (l : List Job). l ++ jobs_of w (jobs_by calls)) (sym mine) ∙ sym (jobs_append w (x ∷ jobs) (jobs_by calls))
  | unequal ne t ↦
      let none : jobs_of w (x ∷ jobs) ≡ [] = other_jobs is.worker w (x ∷ jobs) (λ p. ne (is.own.0 ∙ p)) is.own in
      let calls_are : calls_of w ((x ∷ jobs) ∷ calls) ≡ calls_of w calls = rw t refl in
      ap jobs_by calls_are ∙ e ∙ ap (λ (l : List Job). l ++ jobs_of w (jobs_by calls)) (sym none) ∙ sym (jobs_append w (x ∷ jobs) (jobs_by calls))
]

pub jobs_by_own : (n w : ℕ) (calls : List (List Job)) → AllByRecursion (IsOfOne n) calls → jobs_by (calls_of w calls) ≡ jobs_of w (jobs_by calls)
jobs_by_own n w [] all = refl
jobs_by_own n w (jobs ∷ calls) all = jobs_more n w jobs calls all.0 (jobs_by_own n w calls all.1)

-- the turns of calls have their jobs
pub jobs_by_turns : (turns : List LaneTurn) → jobs_by (calls_in turns) ≡ jobs_in turns
jobs_by_turns [] = refl
jobs_by_turns (t ∷ turns) = ap (λ (l : List Job). t.jobs ++ l) (jobs_by_turns turns)

-- a reply is of the one worker's own
pub own_reply : (w : ℕ) (r : Reply) → r.conn.worker ≡ w → replies_to w (r ∷ []) ≡ r ∷ []
own_reply w r e = elim (eq_or r.conn.worker w) [ equal p t ↦ rw t refl | unequal ne t ↦ absurd (ne e) ]

pub other_reply : (w : ℕ) (r : Reply) → r.conn.worker ≢ w → replies_to w (r ∷ []) ≡ []
other_reply w r ne = elim (eq_or r.conn.worker w) [ equal p t ↦ absurd (ne p) | unequal differs t ↦ rw t refl ]

-- ---- One of a list

pub only_one : {A : Type 0} (x y : A) → Contains (x ∷ []) y → x ≡ y
only_one {A} x y (k, less, is) = go k less is
  where
    go : (k : ℕ) → k < 1 → slice_index_or (x ∷ []) k y ≡ y → x ≡ y
    go zero less is = is
    go (suc k) less is = absurd (omega arith)

contains_cons : {A : Type 0} (x : A) (xs : List A) → Contains (x ∷ xs) x
contains_cons x xs = (0, omega arith, refl)

pub contains_own : (w : ℕ) (jobs : List Job) (job : Job) → Contains jobs job → job.conn.worker ≡ w → Contains (jobs_of w jobs) job
contains_own w [] job c e = absurd (let less = c.1 in omega arith)
contains_own w (x ∷ jobs) job c e = elim (eq_or x.conn.worker w) [
  | equal p t ↦ rw t (elim (Contains-append_cases (x ∷ []) jobs job c) [
    | inl first ↦ subst (λ (y : Job). Contains (x ∷ jobs_of w jobs) y) (only_one x job first) (contains_cons x (jobs_of w jobs))
    | inr later ↦ Contains-append_right (x ∷ []) (jobs_of w jobs) job (contains_own w jobs job later e)
  ])
  | unequal ne t ↦ rw t (elim (Contains-append_cases (x ∷ []) jobs job c) [
    | inl first ↦ absurd (ne (ap (λ (y : Job). y.conn.worker) (only_one x job first) ∙ e))
    | inr later ↦ contains_own w jobs job later e
  ])
]

-- a job of a worker's own is of that worker
pub of_worker : (w : ℕ) (jobs : List Job) (job : Job) → AreOf w jobs → Contains jobs job → job.conn.worker ≡ w
of_worker w [] job all c = absurd (let less = c.1 in omega arith)
of_worker w (x ∷ jobs) job all c = elim (Contains-append_cases (x ∷ []) jobs job c) [
  | inl first ↦ ap (λ (j : Job). j.conn.worker) (sym (only_one x job first)) ∙ all.0
  | inr later ↦ of_worker w jobs job all.1 later
]

-- a job that came of these calls is of a worker with a place
pub within_calls : (n : ℕ) (calls : List (List Job)) (job : Job) → AllByRecursion (IsOfOne n) calls → Contains (jobs_by calls) job → job.conn.worker < n
within_calls n [] job all c = absurd (let less = c.1 in omega arith)
within_calls n (jobs ∷ calls) job all c = elim (Contains-append_cases jobs (jobs_by calls) job c) [
  | inl here ↦ let is = all.0 in let e = of_worker is.worker jobs job is.own here in let less : is.worker < n = is.place in omega (arith, e, less)
  | inr later ↦ within_calls n calls job all.1 later
]

-- ---- Whether there are jobs

-- a call that gave some
pub some_call : (jobs : List Job) → 1 ≤ length jobs → call_of jobs ≡ jobs ∷ []
some_call [] some = absurd (omega (arith, some))
some_call (x ∷ jobs) some = refl

pub some_jobs : (n : ℕ) (jobs : List Job) → n ≡ length jobs → false ≡ (n == 0) → 1 ≤ length jobs
some_jobs n jobs is e = elim (eq_or n 0) [
  | equal p t ↦ absurd (cc)
  | unequal ne t ↦ omega arith
]

pub no_jobs : (n : ℕ) (jobs : List Job) → n ≡ length jobs → true ≡ (n == 0) → jobs ≡ []
no_jobs n [] is e = refl
no_jobs n (x ∷ jobs) is e = elim (eq_or n 0) [
  | equal p t ↦ absurd (omega arith)
  | unequal ne t ↦ absurd (cc)
]
