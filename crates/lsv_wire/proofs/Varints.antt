-- A varint's bytes one at a time: what has been read of it, and where it stops.
use Rattle.std.proofs.Common.{◌≡◌, ℕ, zero, suc, ◌+◌, ◌*◌, ◌%◌, ◌^◌, ◌<◌, ◌≤◌, true, false, cond, ltb, leb, List, [], ◌∷◌, length, get_or, take, drop, Ok, Err, refl, sym, ap, ◌∙◌, arith, bit_and, bit_or, inl, inr, subst, ◌-◌, length-take, length-drop, add-one, add-zero, get_or-drop}
use Rattle.std.proofs.lemmas.Bool.{cases_lt, le-ltb, lt-ltb, le-leb, lt-leb, leb-false}
use Rattle.std.proofs.lemmas.Nat.{pow_pos, pow-add, mod-pow-add, shr_high, mod_low, or_comm, or_shifted, and_mask, mod_below}
use Rattle.std.proofs.Math.Nat.{mul_comm, mul_assoc, mul-add, pow-le-pow_right, mod-eq_of_lt}
use Rattle.lsv_wire.specs.declared.field.WireFault.TheVariants.{Truncated, LongVarint}
use Rattle.lsv_wire.proofs.Outcomes.{guarded, ok_is}
use Rattle.lsv_wire.specs.Varint.{continued, grouped}
use Rattle.lsv_wire.specs.Fields.{varint_at}

pub continued-le : (text : List ℕ) → continued text ≤ length text
continued-le [] = omega arith
continued-le (b ∷ bs) = elim (ltb b 128) as (λ v. cond v 0 (suc (continued bs)) ≤ suc (length bs)) [ true ↦ omega arith | false ↦ omega (arith, continued-le bs) ]

-- a byte that says that another follows
pub goes_on : (text : List ℕ) (i : ℕ) → i ≤ continued text → i < length text → 128 ≤ get_or text i 0 → suc i ≤ continued text
goes_on [] i le lt high = absurd (omega arith)
goes_on (b ∷ bs) zero le lt high = rw (le-ltb b 128 high) (omega arith)
goes_on (b ∷ bs) (suc i) le lt high =
    elim (cases_lt b 128) [
      | inl low ↦ absurd (let none : suc i ≤ 0 = rw (lt-ltb b 128 low) at le in omega arith)
      | inr up ↦ rw (le-ltb b 128 up) (let more : suc i ≤ suc (continued bs) = rw (le-ltb b 128 up) at le in omega (arith, goes_on bs i (omega arith) (omega arith) high))
    ]

-- a byte that is the last
pub stops : (text : List ℕ) (i : ℕ) → i ≤ continued text → i < length text → get_or text i 0 < 128 → continued text ≡ i
stops [] i le lt low = absurd (omega arith)
stops (b ∷ bs) zero le lt low = rw (lt-ltb b 128 low) refl
stops (b ∷ bs) (suc i) le lt low =
    elim (cases_lt b 128) [
      | inl small ↦ absurd (let none : suc i ≤ 0 = rw (lt-ltb b 128 small) at le in omega arith)
      | inr up ↦ rw (le-ltb b 128 up) (let more : suc i ≤ suc (continued bs) = rw (le-ltb b 128 up) at le in ap suc (stops bs i (omega arith) (omega arith) low))
    ]

shifted : (i : ℕ) → 2 ^ (7 * suc i) ≡ 128 * 2 ^ (7 * i)
shifted i = let e : 7 * suc i ≡ 7 + 7 * i = omega arith in rw (e, pow-add 2 7 (7 * i)) refl

regroup : (g x p : ℕ) → 128 * (g + x * p) ≡ 128 * g + x * (128 * p)
regroup g x p = mul-add 128 g (x * p) ∙ ap (λ t. 128 * g + t) (sym (mul_assoc 128 x p) ∙ ap (λ t. t * p) (mul_comm 128 x) ∙ mul_assoc x 128 p)

-- one group more, above those that were read
pub grouped-take : (text : List ℕ) (i : ℕ) → i < length text → grouped (take (suc i) text) ≡ grouped (take i text) + get_or text i 0 % 128 * 2 ^ (7 * i)
grouped-take [] i lt = absurd (omega arith)
grouped-take (b ∷ bs) zero lt = omega arith
grouped-take (b ∷ bs) (suc i) lt =
    let x : ℕ = get_or bs i 0 % 128 in
    let g : ℕ = grouped (take i bs) in
    let below : grouped (take (suc i) bs) ≡ g + x * 2 ^ (7 * i) = grouped-take bs i (omega arith) in
    let turned : 128 * grouped (take (suc i) bs) ≡ 128 * g + x * 2 ^ (7 * suc i) = rw (below, shifted i) (regroup g x (2 ^ (7 * i))) in
    omega (arith, turned)

pub grouped-lt : (text : List ℕ) → grouped text < 2 ^ (7 * length text)
grouped-lt [] = omega arith
grouped-lt (b ∷ bs) = rw (shifted (length bs)) (omega (arith, grouped-lt bs, mod_below b 128 (omega arith)))

-- a group put in above the lower bits
or-above : (g x j k : ℕ) → g < 2 ^ k → bit_or g ((x * 2 ^ k) % 2 ^ (j + k)) ≡ (g + x * 2 ^ k) % 2 ^ (j + k)
or-above g x j k lt =
    let high : (x * 2 ^ k) % 2 ^ (j + k) ≡ x % 2 ^ j * 2 ^ k = above x j k 0 (pow_pos k) in
    let all : (x * 2 ^ k + g) % 2 ^ (j + k) ≡ x % 2 ^ j * 2 ^ k + g = above-with x j k g lt in
    ap (bit_or g) high ∙ or_comm g (x % 2 ^ j * 2 ^ k) ∙ or_shifted (x % 2 ^ j) k g lt ∙ sym all ∙ ap (λ n. n % 2 ^ (j + k)) (omega arith)
  where
    above-with : (x j k g : ℕ) → g < 2 ^ k → (x * 2 ^ k + g) % 2 ^ (j + k) ≡ x % 2 ^ j * 2 ^ k + g
    above-with x j k g lt = mod-pow-add (x * 2 ^ k + g) j k ∙ rw (shr_high x k g lt, mod_low x k g lt) refl

    above : (x j k z : ℕ) → 0 < 2 ^ k → (x * 2 ^ k) % 2 ^ (j + k) ≡ x % 2 ^ j * 2 ^ k
    above x j k z pos =
        let e : x * 2 ^ k ≡ x * 2 ^ k + 0 = omega arith in
        let t : x % 2 ^ j * 2 ^ k + 0 ≡ x % 2 ^ j * 2 ^ k = omega arith in
        ap (λ n. n % 2 ^ (j + k)) e ∙ above-with x j k 0 pos ∙ t

put_in : (g x k w : ℕ) → g < 2 ^ k → k ≤ w → bit_or g ((x * 2 ^ k) % 2 ^ w) ≡ (g + x * 2 ^ k) % 2 ^ w
put_in g x k w lt le =
    let e : w - k + k ≡ w = omega arith in
    subst (λ (n : ℕ). bit_or g ((x * 2 ^ k) % 2 ^ n) ≡ (g + x * 2 ^ k) % 2 ^ n) e (or-above g x (w - k) k lt)

small_mod : (g k w : ℕ) → g < 2 ^ k → k ≤ w → g % 2 ^ w ≡ g
small_mod g k w lt le = mod-eq_of_lt (let wide : 2 ^ k ≤ 2 ^ w = pow-le-pow_right {n = 2} (omega arith) le in omega arith)

-- what has been read of a varint: this many bytes that say that another follows, and their groups
pub record IsReadTo (text : List ℕ) (i value : ℕ) : Type 0 where
  pub continues : i ≤ continued text
  pub so_far : value ≡ grouped (take i text) % 2 ^ 64

-- the value with the group of one byte more
pub value-more : (text : List ℕ) (i value byte : ℕ) → IsReadTo text i value → i < 10 → i < length text → byte ≡ get_or text i 0
    → bit_or value ((bit_and byte 127 * 2 ^ (7 * i)) % 2 ^ 64) ≡ grouped (take (suc i) text) % 2 ^ 64
value-more text i value byte read lt within is =
    let g : ℕ = grouped (take i text) in
    let len : length (take i text) ≡ i = omega (arith, length-take i text) in
    let below : g < 2 ^ (7 * i) = subst (λ (n : ℕ). g < 2 ^ (7 * n)) len (grouped-lt (take i text)) in
    let whole : value ≡ g = read.so_far ∙ small_mod g (7 * i) 64 below (omega arith) in
    let mask : bit_and byte 127 ≡ get_or text i 0 % 128 = and_mask byte 7 ∙ ap (λ (n : ℕ). n % 128) is in
    ap (λ (n : ℕ). bit_or n ((bit_and byte 127 * 2 ^ (7 * i)) % 2 ^ 64)) whole
    ∙ ap (λ (n : ℕ). bit_or g ((n * 2 ^ (7 * i)) % 2 ^ 64)) mask
    ∙ put_in g (get_or text i 0 % 128) (7 * i) 64 below (omega arith)
    ∙ ap (λ (n : ℕ). n % 2 ^ 64) (sym (grouped-take text i within))

-- where a varint is, for each way that its reading ends
pub varint_at-long : (bytes : List ℕ) (key at : ℕ) → 10 ≤ continued (drop at bytes) → varint_at bytes key at ≡ Err (LongVarint key)
unfolding varint_at
varint_at-long bytes key at le = rw (lt-ltb 9 (continued (drop at bytes)) le) refl

pub varint_at-cut : (bytes : List ℕ) (key at : ℕ) → continued (drop at bytes) < 10 → length (drop at bytes) ≤ continued (drop at bytes) → varint_at bytes key at ≡ Err (Truncated key)
unfolding varint_at
varint_at-cut bytes key at lt le = rw (le-ltb 9 (continued (drop at bytes)) (omega arith), le-leb (length (drop at bytes)) (continued (drop at bytes)) le) refl

pub varint_at-whole : (bytes : List ℕ) (key at i value : ℕ) → i < 10 → i < length (drop at bytes) → continued (drop at bytes) ≡ i → value ≡ grouped (take (suc i) (drop at bytes)) % 2 ^ 64
    → Ok (value, at + i + 1) ≡ varint_at bytes key at
unfolding varint_at
varint_at-whole bytes key at i value lt within ends is =
    let short : ltb 9 (continued (drop at bytes)) ≡ false = le-ltb 9 (continued (drop at bytes)) (omega arith) in
    let there : leb (length (drop at bytes)) (continued (drop at bytes)) ≡ false = lt-leb (length (drop at bytes)) (continued (drop at bytes)) (omega arith) in
    let place : at + i + 1 ≡ at + (i + 1) = omega arith in
    rw (short, there, ends, is, place, add-one i) refl

-- what a varint that was read says of its place
pub varint_at-forward : (bytes : List ℕ) (key at : ℕ) (n : ℕ × ℕ) → varint_at bytes key at ≡ Ok n → (at < n.1) × (n.1 ≤ length bytes)
unfolding varint_at
varint_at-forward bytes key at n e =
    let c : ℕ = continued (drop at bytes) in
    let found : ℕ × ℕ = (grouped (take (c + 1) (drop at bytes)) % 2 ^ 64, at + (c + 1)) in
    let first = guarded (ltb 9 c) (LongVarint key) (cond (leb (length (drop at bytes)) c) (Err (Truncated key)) (Ok found)) n e in
    let second = guarded (leb (length (drop at bytes)) c) (Truncated key) (Ok found) n first.1 in
    let there : c < length (drop at bytes) = leb-false _ _ second.0 in
    let is : found ≡ n = ok_is found n second.1 in
    subst (λ (m : ℕ × ℕ). (at < m.1) × (m.1 ≤ length bytes)) is (omega arith, omega (arith, length-drop at bytes))

-- the ends of the loop, where the text from the place on is held
pub ends_cut : (bytes text : List ℕ) (key at i value : ℕ) → text ≡ drop at bytes → IsReadTo text i value → i < 10 → length text ≤ i → Err (Truncated key) ≡ varint_at bytes key at
ends_cut bytes text key at i value is read lt le =
    let same : continued text ≡ continued (drop at bytes) = ap continued is in
    let long : length text ≡ length (drop at bytes) = ap length is in
    let bound = continued-le text in
    sym (varint_at-cut bytes key at (omega (arith, read.continues)) (omega (arith, read.continues)))

pub ends_long : (bytes text : List ℕ) (key at i value : ℕ) → text ≡ drop at bytes → IsReadTo text i value → 10 ≤ i → Err (LongVarint key) ≡ varint_at bytes key at
ends_long bytes text key at i value is read le =
    let same : continued text ≡ continued (drop at bytes) = ap continued is in
    sym (varint_at-long bytes key at (omega (arith, read.continues)))

pub ends_whole : (bytes text : List ℕ) (key at i value byte : ℕ) → text ≡ drop at bytes → IsReadTo text i value → i < 10 → i < length text → byte ≡ bit_and (get_or text i 0) 127 → get_or text i 0 < 128
    → Ok (bit_or value ((byte * 2 ^ (7 * i)) % 2 ^ 64), at + i + 1) ≡ varint_at bytes key at
ends_whole bytes text key at i value byte is read lt within low small =
    let ends : continued (drop at bytes) ≡ i = ap continued (sym is) ∙ stops text i read.continues within small in
    let there : i < length (drop at bytes) = subst (λ (t : List ℕ). i < length t) is within in
    let group : bit_or value ((byte * 2 ^ (7 * i)) % 2 ^ 64) ≡ grouped (take (suc i) (drop at bytes)) % 2 ^ 64 =
    ap (λ (n : ℕ). bit_or value ((n * 2 ^ (7 * i)) % 2 ^ 64)) low ∙ value-more text i value (get_or text i 0) read lt within refl ∙ ap (λ (t : List ℕ). grouped (take (suc i) t) % 2 ^ 64) is in
    varint_at-whole bytes key at i (bit_or value ((byte * 2 ^ (7 * i)) % 2 ^ 64)) lt there ends group

pub IsReadTo-more : (text : List ℕ) (i value byte : ℕ) → IsReadTo text i value → i < 10 → i < length text → byte ≡ bit_and (get_or text i 0) 127 → 128 ≤ get_or text i 0
    → IsReadTo text (i + 1) (bit_or value ((byte * 2 ^ (7 * i)) % 2 ^ 64))
IsReadTo-more text i value byte read lt within low high =
    rw (add-one i) (record { continues = goes_on text i read.continues within high; so_far = ap (λ (n : ℕ). bit_or value ((n * 2 ^ (7 * i)) % 2 ^ 64)) low ∙ value-more text i value (get_or text i 0) read lt within refl })

-- a varint of one byte
pub one_byte : (bytes : List ℕ) (key at : ℕ) → at < length bytes → get_or bytes at 0 < 128 → Ok (get_or bytes at 0, at + 1) ≡ varint_at bytes key at
one_byte bytes key at lt small =
    let text : List ℕ = drop at bytes in
    let byte : get_or text 0 0 ≡ get_or bytes at 0 = get_or-drop at bytes 0 0 ∙ ap (λ (n : ℕ). get_or bytes n 0) (add-zero at) in
    let there : 0 < length text = omega (arith, length-drop at bytes) in
    let ends : continued text ≡ 0 = stops text 0 (omega arith) there (omega arith) in
    let group : get_or bytes at 0 ≡ grouped (take 1 text) % 2 ^ 64 = omega (arith, grouped-take text 0 there) in
    let place : at + 0 + 1 ≡ at + 1 = omega arith in
    subst (λ (p : ℕ). Ok (get_or bytes at 0, p) ≡ varint_at bytes key at) place (varint_at-whole bytes key at 0 (get_or bytes at 0) (omega arith) there ends group)
