-- Sums with one more.
use Rattle.std.proofs.Common.{◌≡◌, ◌∙◌, ◌+◌, ◌-◌, ◌*◌, ◌/◌, ◌%◌, ◌^◌, ◌<◌, ◌≤◌, ℕ, zero, suc, List, [], ◌∷◌, ◌++◌, length, min, sum_by, ap, refl, sym, arith, length-append, add-one, sub-one}
use Rattle.std.proofs.lemmas.List.Sums.{sum_by-append}
use Rattle.std.proofs.lemmas.List.Concat.{flat_map-append}
use Rattle.lsv_gen.specs.Load.{accept, conversation, duration, exit, frames, hello, output, outputs}
use Rattle.lsv_msg.specs.Messages.{client_bytes}
use Rattle.lsv_wire.specs.Frame.{frame_of}
use Rattle.lsv_gen.specs.Summary.{told, data_length, totals_with}
use Rattle.lsv_gen.specs.declared.totals.Totals.{Totals}
use Rattle.lsv_record.specs.Points.{Stored}
use Rattle.lsv_record.specs.Records.{delay_of, elapsed, last_digits}
use Rattle.lsv_record.specs.declared.records.Record.{Record}

-- one more output
no_more : {A : Type 0} (xs : List A) → xs ++ [] ≡ xs
no_more [] = refl
no_more (x ∷ xs) = ap (λ rest. x ∷ rest) (no_more xs)

pub duration_more : (n : ℕ) → duration (n + 1) ≡ duration n + (n + 1)
duration_more n = rw (add-one n) refl

-- twice the time of n outputs
duration_twice : (n : ℕ) → duration n + duration n ≡ n * n + n
duration_twice zero = refl
duration_twice (suc n) = omega (arith, duration_twice n)

square_short : (n : ℕ) → n ≤ 50 → n * n ≤ 50 * n
square_short n h = grind arith

-- fifty outputs take 1,275 milliseconds
pub duration_short : (n : ℕ) → n ≤ 50 → duration n ≤ 1275
duration_short n h = omega (arith, duration_twice n, square_short n h)

outputs_more : (n : ℕ) → outputs n ++ output (n + 1) ∷ [] ≡ outputs (n + 1)
outputs_more n = rw (add-one n) refl

-- the frames of the messages so far and one output more
pub frames_more : (i n : ℕ) (out new : List ℕ) → out ≡ frames (hello ∷ accept i ∷ outputs n) → new ≡ out ++ frame_of (client_bytes (output (n + 1))) → new ≡ frames (hello ∷ accept i ∷ outputs (n + 1))
frames_more i n out new so_far more =
    more ∙ ap (λ o. o ++ frame_of (client_bytes (output (n + 1)))) so_far
    ∙ sym (flat_map-append (λ m. frame_of (client_bytes m)) (hello ∷ accept i ∷ outputs n) (output (n + 1) ∷ []) ∙ ap (λ last. frames (hello ∷ accept i ∷ outputs n) ++ last) (no_more (frame_of (client_bytes (output (n + 1))))))
    ∙ ap (λ os. frames (hello ∷ accept i ∷ os)) (outputs_more n)

-- the frames of all messages
pub frames_end : (i : ℕ) (out new : List ℕ) → out ≡ frames (hello ∷ accept i ∷ outputs (i % 50 + 1)) → new ≡ out ++ frame_of (client_bytes (exit i)) → new ≡ conversation i
frames_end i out new so_far more =
    more ∙ ap (λ o. o ++ frame_of (client_bytes (exit i))) so_far
    ∙ sym (flat_map-append (λ m. frame_of (client_bytes m)) (hello ∷ accept i ∷ outputs (i % 50 + 1)) (exit i ∷ []) ∙ ap (λ last. frames (hello ∷ accept i ∷ outputs (i % 50 + 1)) ++ last) (no_more (frame_of (client_bytes (exit i)))))

pub elapsed-push : (records : List Record) (r : Record) → elapsed (records ++ r ∷ []) ≡ elapsed records + delay_of r
elapsed-push [] r = omega arith
elapsed-push (x ∷ records) r = let more = elapsed-push records r in omega arith

pub told_more : (a b : ℕ) → min (told a + b) (2 ^ 64 - 1) ≡ told (a + b)
told_more a b = omega arith

data_push : (f : Record → ℕ) (records : List Record) (r : Record) → sum_by f (records ++ r ∷ []) ≡ sum_by f records + f r
data_push f records r = omega (arith, sum_by-append f records (r ∷ []))

saturated : (n a b k : ℕ) → n ≡ told a → k ≡ a + b → min (n + b) (2 ^ 64 - 1) ≡ told k
saturated n a b k e f = rw (e, f) (told_more a b)

abbrev after : Totals → ℕ → ℕ → Totals
after old d t = record { logs = old.logs; records = min (old.records + 1) (2 ^ 64 - 1); bytes = min (old.bytes + d) (2 ^ 64 - 1); elapsed = min (old.elapsed + t) (2 ^ 64 - 1); complete = old.complete }

abbrev sums : ℕ → ℕ → ℕ → ℕ → ℕ → Totals
sums l r b e c = record { logs = l; records = r; bytes = b; elapsed = e; complete = c }

same_totals : (l c : ℕ) (r s b d e f : ℕ) → r ≡ s → b ≡ d → e ≡ f → sums l r b e c ≡ sums l s d f c
same_totals l c r s b d e f p q u = rw (p, q, u) refl

-- one digit more
pub digits_more : (k n : ℕ) → 0 < k → last_digits (k - 1) (n / 10) ++ (48 + n % 10) ∷ [] ≡ last_digits k n
unfolding last_digits
digits_more zero n some = absurd (omega arith)
digits_more (suc k) n some = ap (λ j. last_digits j (n / 10) ++ (48 + n % 10) ∷ []) (sub-one (suc k))

pub digits_none : (k n : ℕ) (out : List ℕ) → k ≡ 0 → out ≡ out ++ last_digits k n
unfolding last_digits
digits_none zero n out e = sym (no_more out)
digits_none (suc k) n out e = absurd (omega arith)

-- the sums with one record more
pub record_added : (logs : List Stored) (records : List Record) (r : Record) (old new : Totals) → old ≡ totals_with logs records
    → new ≡ record { logs = old.logs; records = min (old.records + 1) (2 ^ 64 - 1); bytes = min (old.bytes + data_length r) (2 ^ 64 - 1); elapsed = min (old.elapsed + delay_of r) (2 ^ 64 - 1); complete = old.complete }
    → new ≡ totals_with logs (records ++ r ∷ [])
record_added logs records r old new e f =
    let n = sum_by (λ (log : Stored). length log.records) logs in
    let b = sum_by (λ (log : Stored). sum_by data_length log.records) logs in
    let t = sum_by (λ (log : Stored). elapsed log.records) logs in
    f ∙ ap (λ (o : Totals). after o (data_length r) (delay_of r)) e ∙ same_totals _ _ _ _ _ _ _ _
    (told_more (n + length records) 1 ∙ ap told (omega (arith, length-append records (r ∷ []))))
    (told_more (b + sum_by data_length records) (data_length r) ∙ ap told (omega (arith, data_push data_length records r)))
    (told_more (t + elapsed records) (delay_of r) ∙ ap told (omega (arith, elapsed-push records r)))
