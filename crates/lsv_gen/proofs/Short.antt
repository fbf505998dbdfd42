-- Each message of a conversation is shorter than a frame holds.
use Rattle.std.proofs.Common.{◌≡◌, refl, pos, false, ◌+◌, ◌*◌, ◌/◌, ◌%◌, ◌≤◌, ℕ, zero, suc, List, [], ◌∷◌, ◌++◌, Bool, true, cond, Some, codes, length, nat_lt, ◌==◌, arith, length-append}
use Rattle.std.specs.Prelude.{replicate}
use Rattle.std.specs.List.{flat_map}
use Rattle.std.specs.Fmt.{decimal, digits, digits_onto, digit_glyph}
use Rattle.std.specs.Int.{w64, cast_unsigned}
use Rattle.lsv_base.specs.declared.time.TimeSpec.{TimeSpec}
use Rattle.lsv_info.specs.declared.info.Entry.{Entry}
use Rattle.lsv_info.specs.declared.info.Value.TheVariants.{Text}
use Rattle.lsv_gen.specs.Load.{accept, duration, exit, hello, info, millis, output}
use Rattle.lsv_msg.specs.Format.{canon, is_zero}
use Rattle.lsv_msg.specs.Messages.{client_bytes, info_message, time_spec}
use Rattle.lsv_wire.specs.Fields.{bytes_field, number_field}
use Rattle.lsv_wire.specs.Varint.{spelled_within, varint}

-- ---- numbers

spelled_by : (t : Bool) (k n : ℕ) (more : List ℕ) → length more ≤ k + 1 → length (cond t (n ∷ []) ((n % 128 + 128) ∷ more)) ≤ k + 2
spelled_by true k n more h = omega arith
spelled_by false k n more h = omega arith

spelled_short : (k n : ℕ) → length (spelled_within k n) ≤ k + 1
spelled_short zero n = omega arith
spelled_short (suc k) n = let h = spelled_by (nat_lt n 128) k n (spelled_within k (n / 128)) (spelled_short k (n / 128)) in omega arith

varint_short : (n : ℕ) → length (varint n) ≤ 10
unfolding varint
varint_short n = spelled_short 9 n

digits_by : (t : Bool) (k : ℕ) (one more : List ℕ) (acc : ℕ) → length one ≤ acc + 1 → length more ≤ k + acc + 1 → length (cond t one more) ≤ suc k + acc
digits_by true k one more acc p q = omega arith
digits_by false k one more acc p q = omega arith

digits_short : (k n : ℕ) (acc : List ℕ) → length (digits_onto k 10 false n acc) ≤ k + length acc
digits_short zero n acc = omega arith
digits_short (suc k) n acc =
    let more = digits_short k (n / 10) (digit_glyph false (n % 10) ∷ acc) in
    digits_by (n / 10 == 0) k (digit_glyph false (n % 10) ∷ acc) (digits_onto k 10 false (n / 10) (digit_glyph false (n % 10) ∷ acc)) (length acc) (omega arith) (omega arith)

decimal_short : (n : ℕ) → length (decimal n) ≤ 64
unfolding digits
decimal_short n = let h = digits_short 64 n [] in omega arith

-- ---- fields

unless_short : (t : Bool) (k : ℕ) (field : List ℕ) → length field ≤ k → length (cond t [] field) ≤ k
unless_short true k field h = omega arith
unless_short false k field h = h

joined_short : (a b : List ℕ) (m n : ℕ) → length a ≤ m → length b ≤ n → length (a ++ b) ≤ m + n
joined_short a b m n p q = omega (arith, length-append a b)

number_short : (number n : ℕ) → length (number_field number n) ≤ 20
number_short number n = joined_short (varint (number * 8)) (varint n) 10 10 (varint_short (number * 8)) (varint_short n)

bytes_short : (number : ℕ) (bytes : List ℕ) (k : ℕ) → length bytes ≤ k → length (bytes_field number bytes) ≤ 20 + k
bytes_short number bytes k h =
    joined_short (varint (number * 8 + 2) ++ varint (length bytes)) bytes 20 k
    (joined_short (varint (number * 8 + 2)) (varint (length bytes)) 10 10 (varint_short (number * 8 + 2)) (varint_short (length bytes))) h

time_short : (t : TimeSpec) → length (canon time_spec t) ≤ 40
unfolding canon
time_short t =
    let sec = number_field 1 (cast_unsigned w64 t.sec) in
    let nsec = number_field 2 (cast_unsigned w64 t.nsec) in
    joined_short (cond (is_zero t.sec) [] sec) (cond (is_zero t.nsec) [] nsec) 20 20
    (unless_short (is_zero t.sec) 20 sec (number_short 1 (cast_unsigned w64 t.sec)))
    (unless_short (is_zero t.nsec) 20 nsec (number_short 2 (cast_unsigned w64 t.nsec)))

-- a field with a time
timed_short : (number : ℕ) (t : TimeSpec) → length (bytes_field number (canon time_spec t)) ≤ 60
timed_short number t = bytes_short number (canon time_spec t) 40 (time_short t)

text_entry : List ℕ → List ℕ → Entry
text_entry key bytes = record { key = key; value = Text bytes }

entry_short : (key bytes : List ℕ) (k : ℕ) → length key ≤ 10 → length bytes ≤ k → length (canon info_message (Some (text_entry key bytes))) ≤ 50 + k
unfolding canon text_entry
entry_short key bytes k p q =
    let h = joined_short (cond (length key == 0) [] (bytes_field 1 key)) (bytes_field 3 bytes) 30 (20 + k)
    (unless_short (length key == 0) 30 (bytes_field 1 key) (bytes_short 1 key 10 p)) (bytes_short 3 bytes k q) in
    omega arith

-- ---- messages

pub hello_short : length (client_bytes hello) ≤ 2097152
unfolding canon
hello_short =
    let id = codes "load" in
    let h = bytes_short 13 (bytes_field 1 id) 24 (bytes_short 1 id 4 (omega arith)) in
    omega arith

replicate_length : (n x : ℕ) → length (replicate n x) ≡ n
replicate_length zero x = refl
replicate_length (suc n) x = omega (arith, replicate_length n x)

pub output_short : (j : ℕ) → length (client_bytes (output j)) ≤ 2097152
unfolding canon
output_short j =
    let bytes = replicate (j % 80 + 1) (97 + j % 26) in
    let short : length bytes ≤ 80 = omega (arith, replicate_length (j % 80 + 1) (97 + j % 26)) in
    let inner = joined_short (bytes_field 1 (canon time_spec (millis j))) (cond (length bytes == 0) [] (bytes_field 2 bytes)) 60 100
    (timed_short 1 (millis j)) (unless_short (length bytes == 0) 100 (bytes_field 2 bytes) (bytes_short 2 bytes 80 short)) in
    let h = bytes_short 7 (bytes_field 1 (canon time_spec (millis j)) ++ cond (length bytes == 0) [] (bytes_field 2 bytes)) 160 inner in
    omega arith

pub exit_short : (i : ℕ) → length (client_bytes (exit i)) ≤ 2097152
unfolding canon
exit_short i =
    let time = bytes_field 1 (canon time_spec (millis (duration (i % 50 + 1)))) in
    let value = number_field 2 (cast_unsigned w64 (pos (i % 256))) in
    let shown = cond (is_zero (pos (i % 256))) [] value in
    let rest : length (shown ++ []) ≤ 20 = joined_short shown [] 20 0 (unless_short (is_zero (pos (i % 256))) 20 value (number_short 2 (cast_unsigned w64 (pos (i % 256))))) (omega arith) in
    let h = bytes_short 3 (time ++ (shown ++ [])) 80 (joined_short time (shown ++ []) 60 20 (timed_short 1 (millis (duration (i % 50 + 1)))) rest) in
    omega arith

-- the field of an entry
field_short : (key bytes : List ℕ) (k : ℕ) → length key ≤ 10 → length bytes ≤ k → length (bytes_field 2 (canon info_message (Some (text_entry key bytes)))) ≤ 70 + k
field_short key bytes k p q = let h = bytes_short 2 (canon info_message (Some (text_entry key bytes))) (50 + k) (entry_short key bytes k p q) in omega arith

-- the fields of the entries
entries_short : (i : ℕ) → length (flat_map (λ e. bytes_field 2 (canon info_message (Some e))) (info i).entries) ≤ 500
unfolding text_entry
entries_short i =
    let command = codes "/bin/job" ++ decimal i in
    let user = codes "user" ++ decimal (i % 10) in
    let one = field_short (codes "command") command 72 (omega arith) (joined_short (codes "/bin/job") (decimal i) 8 64 (omega arith) (decimal_short i)) in
    let two = field_short (codes "runuser") (codes "root") 4 (omega arith) (omega arith) in
    let three = field_short (codes "submituser") user 68 (omega arith) (joined_short (codes "user") (decimal (i % 10)) 4 64 (omega arith) (decimal_short (i % 10))) in
    let four = field_short (codes "submithost") (codes "gen") 3 (omega arith) (omega arith) in
    let f : List ℕ → List ℕ → List ℕ = λ key bytes. bytes_field 2 (canon info_message (Some (text_entry key bytes))) in
    joined_short (f (codes "command") command) _ 142 358 one
    (joined_short (f (codes "runuser") (codes "root")) _ 74 284 two
    (joined_short (f (codes "submituser") user) _ 138 146 three
    (joined_short (f (codes "submithost") (codes "gen")) [] 73 73 four (omega arith))))

pub accept_short : (i : ℕ) → length (client_bytes (accept i)) ≤ 2097152
unfolding canon
accept_short i =
    let submit : TimeSpec = record { sec = pos (1700000000 + i); nsec = pos 0 } in
    let time = bytes_field 1 (canon time_spec submit) in
    let entries = flat_map (λ e. bytes_field 2 (canon info_message (Some e))) (info i).entries in
    let rest = joined_short entries (number_field 3 1) 500 20 (entries_short i) (number_short 3 1) in
    let h = bytes_short 1 (time ++ (entries ++ number_field 3 1)) 580 (joined_short time (entries ++ number_field 3 1) 60 520 (timed_short 1 submit) rest) in
    omega arith
