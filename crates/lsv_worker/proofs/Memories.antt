-- An inbox of one lane.
use Rattle.std.proofs.Common.{◌≡◌, ◌≢◌, ℕ, zero, suc, ◌+◌, ◌<◌, ◌≤◌, List, [], ◌∷◌, ◌++◌, length, refl, sym, ap, add-zero, subst, ◌∙◌, arith}
use Rattle.std.proofs.lemmas.List.Sums.{sum_by_push}
use Rattle.std.specs.List.{AllByRecursion}
use Rattle.std.proofs.lemmas.List.{length-append}
use Rattle.lsv_defs.specs.Causes.{HasRisen}
use Rattle.lsv_session.specs.declared.job.Job.{Job}
use Rattle.lsv_links.specs.Lanes.{one_lane}
use Rattle.lsv_worker.specs.Memory.{Admits, HasRoom, IsOrderly, KeepsOrder, bytes_behind_first, count_in, waiting}
use Rattle.lsv_worker.specs.Sizes.{counted, job_bytes}
use Rattle.lsv_worker.specs.declared.memory.MemInbox.{MemInbox}

pub lane_put : (lane : ℕ) (old new : List Job) (job : Job) → lane < 1 → new ≡ old ++ job ∷ [] → one_lane lane new ≡ one_lane lane old ++ job ∷ []
lane_put zero old new job low e = e
lane_put (suc lane) old new job low e = absurd (omega arith)

pub lane_others : (lane m : ℕ) (old new : List Job) → lane < 1 → m ≢ lane → one_lane m new ≡ one_lane m old
lane_others lane zero old new low ne = absurd (ne (omega arith))
lane_others lane (suc m) old new low ne = refl

pub lane_same : (m : ℕ) (old new : List Job) → new ≡ old → one_lane m new ≡ one_lane m old
lane_same m old new e = ap (one_lane m) e

pub lane_counts : (m a b : ℕ) → a ≤ b → count_in m a ≤ count_in m b
lane_counts zero a b le = le
lane_counts (suc m) a b le = omega arith

pub lane_risen : (lane a b : ℕ) → lane < 1 → HasRisen a b → HasRisen (count_in lane a) (count_in lane b)
lane_risen zero a b low h = h
lane_risen (suc lane) a b low h = absurd (omega arith)

-- ---- the order of an inbox

own_put : (worker : ℕ) (jobs : List Job) (job : Job) → AllByRecursion (λ j. j.conn.worker ≡ worker) jobs → job.conn.worker ≡ worker → AllByRecursion (λ j. j.conn.worker ≡ worker) (jobs ++ job ∷ [])
own_put worker [] job h is = (is, tt)
own_put worker (x ∷ jobs) job h is = (h.0, own_put worker jobs job h.1 is)

-- if none waited, no job is after the first
behind_first : (jobs : List Job) (job : Job) → length jobs ≡ 0 → bytes_behind_first (jobs ++ job ∷ []) ≡ bytes_behind_first jobs
behind_first [] job none = refl
behind_first (x ∷ jobs) job none = absurd (omega arith)

behind_put : (jobs : List Job) (job : Job) → 0 < length jobs → bytes_behind_first (jobs ++ job ∷ []) ≡ bytes_behind_first jobs + job_bytes job
behind_put [] job some = absurd (omega arith)
behind_put (x ∷ jobs) job some = sum_by_push job_bytes jobs job

-- a size that has room is counted in full
uncapped : (a b size : ℕ) → size ≡ counted b → a + size ≤ 67108864 → size ≡ b
uncapped a b size e light = omega arith

pub admitted : (inbox : MemInbox) (job : Job) (size : ℕ) → job.conn.worker ≡ inbox.worker → size ≡ counted (job_bytes job) → HasRoom inbox size → Admits inbox job
admitted inbox job size own e room = record {
  own = own;
  room = record { few = room.few; light = λ some. let light = room.light some in subst (λ (n : ℕ). inbox.bytes + n ≤ 67108864) (uncapped inbox.bytes (job_bytes job) size e light) light };
}

pub admits : (inbox : MemInbox) (job : Job) (size : ℕ) → size ≡ counted (job_bytes job) → Admits inbox job → HasRoom inbox size
admits inbox job size e a = record { few = a.room.few; light = λ some. let light = a.room.light some in omega (arith, e, light) }

pub order_same : (old new : MemInbox) → new.worker ≡ old.worker → waiting new ≡ waiting old → new.bytes ≡ old.bytes → KeepsOrder old new
order_same old new worker same bytes = record {
  worker = worker;
  orderly = λ o. record {
    own = subst (λ (w : ℕ). AllByRecursion (λ j. j.conn.worker ≡ w) (waiting new)) (sym worker) (subst (AllByRecursion (λ j. j.conn.worker ≡ old.worker)) (sym same) o.own);
    few = subst (λ (l : List Job). length l ≤ 256) (sym same) o.few;
    counted = bytes ∙ o.counted ∙ ap bytes_behind_first (sym same);
    light = subst (λ (l : List Job). bytes_behind_first l ≤ 67108864) (sym same) o.light;
  };
}

-- one job more, which adds this many bytes to those after the first
order_more : (old new : MemInbox) (job : Job) (n : ℕ) → new.worker ≡ old.worker → job.conn.worker ≡ old.worker → length (waiting old) < 256 → waiting new ≡ waiting old ++ job ∷ []
    → bytes_behind_first (waiting old ++ job ∷ []) ≡ bytes_behind_first (waiting old) + n → new.bytes ≡ old.bytes + n → (IsOrderly old → old.bytes + n ≤ 67108864) → KeepsOrder old new
order_more old new job n worker is room put adds bytes light = record {
  worker = worker;
  orderly = λ o.
      let behind : bytes_behind_first (waiting new) ≡ bytes_behind_first (waiting old) + n = ap bytes_behind_first put ∙ adds in
      let was : old.bytes ≡ bytes_behind_first (waiting old) = o.counted in
      let low : old.bytes + n ≤ 67108864 = light o in
      record {
        own = subst (λ (w : ℕ). AllByRecursion (λ j. j.conn.worker ≡ w) (waiting new)) (sym worker) (subst (AllByRecursion (λ j. j.conn.worker ≡ old.worker)) (sym put) (own_put old.worker (waiting old) job o.own is));
        few = let e : length (waiting new) ≡ length (waiting old) + 1 = ap (λ (l : List Job). length l) put ∙ length-append (waiting old) (job ∷ []) in omega (arith, e, room);
        counted = bytes ∙ ap (λ (m : ℕ). m + n) was ∙ sym behind;
        light = subst (λ (m : ℕ). m ≤ 67108864) (ap (λ (m : ℕ). m + n) was ∙ sym behind) low;
      };
}

-- the first job that waits
pub order_first : (old new : MemInbox) (job : Job) (size : ℕ) → new.worker ≡ old.worker → job.conn.worker ≡ old.worker → HasRoom old size → length (waiting old) ≡ 0 → waiting new ≡ waiting old ++ job ∷ [] → new.bytes ≡ old.bytes → KeepsOrder old new
order_first old new job size worker is room none put bytes =
    let adds : bytes_behind_first (waiting old ++ job ∷ []) ≡ bytes_behind_first (waiting old) + 0 = behind_first (waiting old) job none ∙ sym (add-zero (bytes_behind_first (waiting old))) in
    order_more old new job 0 worker is room.few put adds (bytes ∙ sym (add-zero old.bytes)) (λ o. let c : old.bytes ≡ bytes_behind_first (waiting old) = o.counted in let l : bytes_behind_first (waiting old) ≤ 67108864 = o.light in omega (arith, c, l))

-- a job after others
pub order_behind : (old new : MemInbox) (job : Job) (size : ℕ) → new.worker ≡ old.worker → job.conn.worker ≡ old.worker → HasRoom old size → 0 < length (waiting old) → waiting new ≡ waiting old ++ job ∷ [] → size ≡ counted (job_bytes job) → new.bytes ≡ old.bytes + size → KeepsOrder old new
order_behind old new job size worker is room some put e bytes =
    let light : old.bytes + size ≤ 67108864 = room.light some in
    let whole : size ≡ job_bytes job = uncapped old.bytes (job_bytes job) size e light in
    order_more old new job size worker is room.few put (behind_put (waiting old) job some ∙ ap (λ (n : ℕ). bytes_behind_first (waiting old) + n) (sym whole)) bytes (λ o. light)

-- an inbox in which no job waits
pub order_none : (inbox : MemInbox) → waiting inbox ≡ [] → inbox.bytes ≡ 0 → IsOrderly inbox
order_none inbox none bytes = record {
  own = rw none tt;
  few = rw none (omega arith);
  counted = bytes ∙ sym (ap bytes_behind_first none);
  light = subst (λ (l : List Job). bytes_behind_first l ≤ 67108864) (sym none) (omega arith);
}
