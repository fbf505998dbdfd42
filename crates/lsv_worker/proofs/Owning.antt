-- Jobs of one worker's connections, and tables of these.
use Rattle.std.proofs.Common.{◌≡◌, ◌≢◌, ℕ, zero, suc, ◌<◌, ◌==◌, Bool, true, false, List, [], ◌∷◌, ◌++◌, length, take, drop, map, get_or, refl, sym, ap, subst, ◌∙◌, append_assoc, ⊎_elim, arith}
use Rattle.std.specs.Prelude.{if◌then◌else◌, not}
use Rattle.std.proofs.lemmas.List.{append-nil}
use Rattle.std.proofs.lemmas.Bool.Decides.{nat_tests}
use Rattle.std.proofs.Math.ListN.{take-append-drop}
use Rattle.lsv_session.specs.declared.connection.ConnId.{ConnId}
use Rattle.lsv_session.specs.declared.job.Body.{Body}
use Rattle.lsv_session.specs.declared.job.Job.{Job}
use Rattle.lsv_links.specs.Turns.{AreOf}
use Rattle.lsv_worker.specs.Frames.{PutsOwn}
use Rattle.lsv_worker.specs.Incoming.{Puts}
use Rattle.lsv_worker.specs.Lanes.{job_of}
use Rattle.lsv_worker.specs.Links.{is_done}
use Rattle.lsv_worker.specs.Worker.{AllRemain, AreOfWorker, marked, owed_if, undone}
use Rattle.lsv_worker.specs.declared.incoming.Incoming.{Incoming}
use Rattle.lsv_worker.specs.declared.link.Link.{Link}
use Rattle.lsv_worker.proofs.Order.{rotated}
use Rattle.lsv_worker.proofs.Putting.{same_or_not}

-- ---- what is put

are_of_both : (worker : ℕ) (xs ys : List Job) → AreOf worker xs → AreOf worker ys → AreOf worker (xs ++ ys)
are_of_both worker [] ys first last = last
are_of_both worker (x ∷ xs) ys first last = (first.0, are_of_both worker xs ys first.1 last)

are_of_conn : (c : ConnId) (said : List Body) → AreOf c.worker (map (job_of c) said)
are_of_conn c [] = tt
are_of_conn c (x ∷ said) = (refl, are_of_conn c said)

-- nothing is put
pub own_none : (worker : ℕ) (jobs : ℕ → List Job) → PutsOwn worker jobs jobs
own_none worker jobs = record { more = λ lane. []; put = λ lane. sym (append-nil (jobs lane)); are_own = λ lane. tt }

-- one call after another
pub own_then : {worker : ℕ} {p q r : ℕ → List Job} → PutsOwn worker p q → PutsOwn worker q r → PutsOwn worker p r
own_then {worker} {p} {q} {r} x y = record {
  more = λ lane. x.more lane ++ y.more lane;
  put = λ lane. y.put lane ∙ ap (λ (l : List Job). l ++ y.more lane) (x.put lane) ∙ append_assoc (p lane) (x.more lane) (y.more lane);
  are_own = λ lane. are_of_both worker (x.more lane) (y.more lane) (x.are_own lane) (y.are_own lane);
}

-- the same for an equal number
pub own_by : {p q : ℕ → List Job} (old new : ℕ) → new ≡ old → PutsOwn new p q → PutsOwn old p q
own_by {p} {q} old new same h = subst (λ (n : ℕ). PutsOwn n p q) same h

-- one call after another, of the same connection
pub own_next : {p q r : ℕ → List Job} (old new : ConnId) → new ≡ old → PutsOwn old.worker p q → PutsOwn new.worker q r → PutsOwn old.worker p r
own_next old new same x y = own_then x (own_by old.worker new.worker (ap (λ (c : ConnId). c.worker) same) y)

-- what a connection's way in puts
pub own_puts : {c : ConnId} {old new : Incoming} {p q : ℕ → List Job} → Puts c old new p q → PutsOwn c.worker p q
own_puts {c} puts = record { more = λ lane. map (job_of c) (puts.added lane); put = puts.put; are_own = λ lane. are_of_conn c (puts.added lane) }

-- one job, where it was put
abbrev one_if : Bool → Job → List Job
one_if true job = job ∷ []
one_if false job = []

are_of_one : (b : Bool) (worker : ℕ) (job : Job) → job.conn.worker ≡ worker → AreOf worker (one_if b job)
are_of_one true worker job is = (is, tt)
are_of_one false worker job is = tt

this_lane : (m lane : ℕ) → m ≡ lane → (m == lane) ≡ true
this_lane m lane e = grind (arith, nat_tests)

other_lane : (m lane : ℕ) → m ≢ lane → (m == lane) ≡ false
other_lane m lane ne = grind (arith, nat_tests)

-- one job is put to one lane
pub own_put : {p q : ℕ → List Job} (worker lane : ℕ) (job : Job) → job.conn.worker ≡ worker → q lane ≡ p lane ++ job ∷ [] → ((m : ℕ) → m ≢ lane → q m ≡ p m) → PutsOwn worker p q
own_put {p} {q} worker lane job is put others = record {
  more = λ m. one_if (m == lane) job;
  put = λ m.
      ⊎_elim (λ e. ap q e ∙ put ∙ ap (λ (l : List Job). l ++ job ∷ []) (ap p (sym e)) ∙ ap (λ (b : Bool). p m ++ one_if b job) (sym (this_lane m lane e)))
      (λ ne. others m ne ∙ sym (append-nil (p m)) ∙ ap (λ (b : Bool). p m ++ one_if b job) (sym (other_lane m lane ne))) (same_or_not m lane);
  are_own = λ m. are_of_one (m == lane) worker job is;
}

-- a job was refused
pub own_refused : {p q : ℕ → List Job} (worker lane : ℕ) → q lane ≡ p lane → ((m : ℕ) → m ≢ lane → q m ≡ p m) → PutsOwn worker p q
own_refused {p} {q} worker lane same others = record {
  more = λ m. [];
  put = λ m. ⊎_elim (λ e. ap q e ∙ same ∙ ap p (sym e)) (λ ne. others m ne) (same_or_not m lane) ∙ sym (append-nil (p m));
  are_own = λ m. tt;
}

-- ---- a table of one worker's connections

workers_first : (n : ℕ) (xs ys : List Link) → AreOfWorker n (xs ++ ys) → AreOfWorker n xs
workers_first n [] ys h = tt
workers_first n (x ∷ xs) ys h = (h.0, workers_first n xs ys h.1)

workers_last : (n : ℕ) (xs ys : List Link) → AreOfWorker n (xs ++ ys) → AreOfWorker n ys
workers_last n [] ys h = h
workers_last n (x ∷ xs) ys h = workers_last n xs ys h.1

workers_both : (n : ℕ) (xs ys : List Link) → AreOfWorker n xs → AreOfWorker n ys → AreOfWorker n (xs ++ ys)
workers_both n [] ys first last = last
workers_both n (x ∷ xs) ys first last = (first.0, workers_both n xs ys first.1 last)

pub workers_push : (n : ℕ) (links : List Link) (new : Link) → new.conn.worker ≡ n → AreOfWorker n links → AreOfWorker n (links ++ new ∷ [])
workers_push n links new is h = workers_both n links (new ∷ []) h (is, tt)

pub workers_rotated : (count n : ℕ) (links : List Link) → AreOfWorker n links → AreOfWorker n (rotated count links)
workers_rotated count n links h =
    let split : AreOfWorker n (take count links ++ drop count links) = subst (AreOfWorker n) (sym (take-append-drop count links)) h in
    workers_both n (drop count links) (take count links) (workers_last n (take count links) (drop count links) split) (workers_first n (take count links) (drop count links) split)

workers_if : (b : Bool) (n : ℕ) (x : Link) (links : List Link) → x.conn.worker ≡ n → AreOfWorker n links → AreOfWorker n (if b then x ∷ links else links)
workers_if true n x links is h = (is, h)
workers_if false n x links is h = h

pub workers_swept : (n : ℕ) (links : List Link) → AreOfWorker n links → AreOfWorker n (undone links)
workers_swept n [] h = tt
workers_swept n (x ∷ links) h = workers_if (not (is_done x)) n x (undone links) h.0 (workers_swept n links h.1)

pub workers_remain : (n : ℕ) (olds links : List Link) → AllRemain olds links → AreOfWorker n olds → AreOfWorker n links
workers_remain n [] [] all h = tt
workers_remain n [] (x ∷ links) all h = absurd (let size = all.size in omega arith)
workers_remain n (y ∷ olds) [] all h = tt
workers_remain n (y ∷ olds) (x ∷ links) all h = (
  ap (λ (c : ConnId). c.worker) (all.each 0 x (omega arith)).conn ∙ h.0,
  workers_remain n olds links (record { size = (let size = all.size in omega (arith, size)); each = λ i d within. all.each (suc i) d (omega arith) }) h.1,
)

flag_worker : (b : Bool) (x : Link) → (owed_if b x).conn.worker ≡ x.conn.worker
flag_worker true x = refl
flag_worker false x = refl

pub workers_marked : (n l : ℕ) (links : List Link) → AreOfWorker n links → AreOfWorker n (marked l links)
workers_marked n l [] h = tt
workers_marked n l (x ∷ links) h = (flag_worker (x.number == l) x ∙ h.0, workers_marked n l links h.1)

pub worker_at : (n : ℕ) (links : List Link) (i : ℕ) (old : Link) → i < length links → old ≡ get_or links i old → AreOfWorker n links → old.conn.worker ≡ n
worker_at n [] i old within is h = absurd (omega arith)
worker_at n (x ∷ links) zero old within is h = ap (λ (l : Link). l.conn.worker) is ∙ h.0
worker_at n (x ∷ links) (suc i) old within is h = worker_at n links i old (omega arith) is h.1
