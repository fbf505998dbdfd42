-- The JSON of a head and of an exit is good: its numbers fit, its strings are UTF-8, its keys are in order.
use Rattle.std.proofs.Common.{◌≡◌, ℕ, ◌+◌, ◌*◌, ◌^◌, ◌<◌, ◌≤◌, ℤ, pos, negsuc, List, [], ◌∷◌, map, fold, codes, Bool, true, false, cond, ◌&&◌, nat_lt, IsUtf8, Ordering, Less, Equal, Greater, Some, None, IsSome, refl, arith, ltb-true}
use Rattle.std.specs.Prelude.{FitsSigned}
use Rattle.std.specs.Cmp.Lexicographic.{slice_cmp}
use Rattle.std.specs.Int.{w32, w64}
use Rattle.std.specs.List.{AllByRecursion}
use Rattle.std.specs.Ordering.{nat_cmp, match_ordering}
use Rattle.std.specs.Str.Lossy.{utf8_lossy}
use Rattle.std.proofs.lemmas.Bool.{and_parts}
use Rattle.json.proofs.Printed.Utf8.{IsUtf8-are_ascii}
use Rattle.lsv_base.specs.Time.{nanos_of_parts, nanos_of}
use Rattle.lsv_base.specs.declared.time.TimeSpec.{TimeSpec}
use Rattle.serde_json.specs.Data.{Data, boolean, Members, no_members, member, put, depth, items_depth, members_depth}
use Rattle.serde_json.specs.Find.{of_integer}
use Rattle.serde_json.specs.Read.{max_depth}
use Rattle.serde_json.specs.View.{items_of}
use Rattle.lsv_info.specs.declared.info.Entry.{Entry}
use Rattle.lsv_info.specs.declared.info.Value.{Value}
use Rattle.lsv_info.specs.declared.info.Value.TheVariants.{Num, Text, Texts, Nums}
use Rattle.lsv_info.specs.declared.times.Head.{Head}
use Rattle.lsv_info.specs.declared.times.Exit.{Exit}
use Rattle.lsv_info.specs.Layout.{shown_text, shown_number, shown_value, with_entry, info_members, time_value, head_value, unless_empty, exit_value}
use Rattle.lsv_info.specs.Fitting.{FitsValue, FitsEntry}
use Rattle.lsv_info.specs.Shown.{IsTimedHead, IsTimedExit}
use Rattle.lsv_info.proofs.Sorted.{IsSorted, sorted_put}
use Rattle.lsv_info.proofs.Texts.{IsInteger, IsGood, AreGood, HaveGood}
use Rattle.lsv_info.proofs.Utf.{lossy_text}

-- ---- numbers and times

pub integer_fits : (n : ℤ) → FitsSigned w64 n → IsInteger (of_integer n)
integer_fits (pos n) fits = let h = fits.sfits in omega arith
integer_fits (negsuc n) fits = let h = fits.sfits in omega arith

pub small_fits : (n : ℤ) → FitsSigned w32 n → IsInteger (of_integer n)
small_fits (pos n) fits = let h = fits.sfits in omega arith
small_fits (negsuc n) fits = let h = fits.sfits in omega arith

-- the seconds and nanoseconds of a valid time
pub record IsWhole (sec nsec : ℤ) : Type 0 where
  pub seconds : ℕ
  pub nanos : ℕ
  pub sec_is : sec ≡ pos seconds
  pub nsec_is : nsec ≡ pos nanos
  pub below : nanos < 1000000000
  pub small : seconds * 1000000000 + nanos < 2 ^ 63

never : false ≡ true → ⊥
never h = cc

whole_at : (sec nsec : ℕ) (b : Bool) → (nat_lt nsec 1000000000 && nat_lt (sec * 1000000000 + nsec) (2 ^ 63)) ≡ b → IsSome (cond b (Some (sec * 1000000000 + nsec)) None) → IsWhole (pos sec) (pos nsec)
whole_at sec nsec true is some =
    let parts = and_parts _ _ is in
    record { seconds = sec; nanos = nsec; sec_is = refl; nsec_is = refl; below = ltb-true _ _ parts.0; small = ltb-true _ _ parts.1 }
whole_at sec nsec false is some = absurd (never some)

pub whole : (sec nsec : ℤ) → IsSome (nanos_of_parts sec nsec) → IsWhole sec nsec
whole (pos sec) (pos nsec) some = whole_at sec nsec _ refl some
whole (pos sec) (negsuc nsec) some = absurd (never some)
whole (negsuc sec) (pos nsec) some = absurd (never some)
whole (negsuc sec) (negsuc nsec) some = absurd (never some)

pub time_good : (t : TimeSpec) → IsSome (nanos_of t) → IsGood (time_value t)
time_good t some =
    let w = whole t.sec t.nsec some in
    let small = w.small in
    let below = w.below in
    let sec : IsInteger (of_integer t.sec) = rw w.sec_is (omega arith) in
    let nsec : IsInteger (of_integer t.nsec) = rw w.nsec_is (omega arith) in
    (((refl, tt), (tt, tt)), (IsUtf8-are_ascii _ refl, nsec, (IsUtf8-are_ascii _ refl, sec, tt)))

-- ---- values

texts_good : (texts : List (List ℕ)) → AreGood (items_of (map shown_text texts))
texts_good [] = tt
texts_good (t ∷ ts) = (lossy_text t, texts_good ts)

numbers_good : (numbers : List ℤ) → AllByRecursion (FitsSigned w64) numbers → AreGood (items_of (map shown_number numbers))
numbers_good [] fits = tt
numbers_good (n ∷ ns) fits = (integer_fits n fits.0, numbers_good ns fits.1)

value_good : (v : Value) → FitsValue v → IsGood (shown_value v)
value_good (Num n) fits = integer_fits n fits
value_good (Text bytes) fits = lossy_text bytes
value_good (Texts texts) fits = texts_good texts
value_good (Nums numbers) fits = numbers_good numbers fits

texts_flat : (texts : List (List ℕ)) → items_depth (items_of (map shown_text texts)) ≤ 0
texts_flat [] = omega arith
texts_flat (t ∷ ts) = omega (arith, texts_flat ts)

numbers_flat : (numbers : List ℤ) → items_depth (items_of (map shown_number numbers)) ≤ 0
numbers_flat [] = omega arith
numbers_flat (n ∷ ns) = omega (arith, numbers_flat ns)

value_shallow : (v : Value) → depth (shown_value v) ≤ 1
value_shallow (Num n) = omega arith
value_shallow (Text bytes) = omega arith
value_shallow (Texts texts) = omega (arith, texts_flat texts)
value_shallow (Nums numbers) = omega (arith, numbers_flat numbers)

-- ---- the members of `info`

record IsInfo (ms : Members) : Type 0 where
  sorted : IsSorted ms
  good : HaveGood ms
  shallow : members_depth ms ≤ 1

put_good_at : (o : Ordering) (k l : List ℕ) (d e : Data) (ms : Members) → IsUtf8 k → IsGood d → HaveGood (member l e ms) → HaveGood (put k d ms)
    → HaveGood (match_ordering o (member k d (member l e ms)) (member l d ms) (member l e (put k d ms)))
put_good_at Less k l d e ms key good rest r = (key, good, rest)
put_good_at Equal k l d e ms key good rest r = (rest.0, good, rest.2)
put_good_at Greater k l d e ms key good rest r = (rest.0, rest.1, r)

put_good : (k : List ℕ) (d : Data) (ms : Members) → IsUtf8 k → IsGood d → HaveGood ms → HaveGood (put k d ms)
put_good k d no_members key good rest = (key, good, tt)
put_good k d (member l e ms) key good rest = put_good_at (slice_cmp nat_cmp k l) k l d e ms key good rest (put_good k d ms key good rest.2)

put_shallow_at : (o : Ordering) (k l : List ℕ) (d e : Data) (ms : Members) (n : ℕ) → depth d ≤ n → depth e ≤ n → members_depth ms ≤ n → members_depth (put k d ms) ≤ n
    → members_depth (match_ordering o (member k d (member l e ms)) (member l d ms) (member l e (put k d ms))) ≤ n
put_shallow_at Less k l d e ms n p q r s = omega arith
put_shallow_at Equal k l d e ms n p q r s = omega arith
put_shallow_at Greater k l d e ms n p q r s = omega arith

put_shallow : (k : List ℕ) (d : Data) (ms : Members) (n : ℕ) → depth d ≤ n → members_depth ms ≤ n → members_depth (put k d ms) ≤ n
put_shallow k d no_members n p q = omega arith
put_shallow k d (member l e ms) n p q = put_shallow_at (slice_cmp nat_cmp k l) k l d e ms n p (omega arith) (omega arith) (put_shallow k d ms n p (omega arith))

info_from : (entries : List Entry) (ms : Members) → AllByRecursion FitsEntry entries → IsInfo ms → IsInfo (fold with_entry ms entries)
info_from [] ms fits is = is
info_from (e ∷ es) ms fits is =
    let k = utf8_lossy e.key in
    let d = shown_value e.value in
    info_from es (put k d ms) fits.1 (record {
      sorted = sorted_put k d ms is.sorted;
      good = put_good k d ms (lossy_text e.key) (value_good e.value fits.0) is.good;
      shallow = put_shallow k d ms 1 (value_shallow e.value) is.shallow;
    })

info_is : (entries : List Entry) → AllByRecursion FitsEntry entries → IsInfo (info_members entries)
info_is entries fits = info_from entries no_members fits (record { sorted = tt; good = tt; shallow = omega arith })

-- ---- the head

pub head_good : (head : Head) → IsTimedHead head → IsGood (head_value head)
head_good head timed =
    let info = info_is head.info.entries timed.1 in
    (((refl, tt), (tt, tt)), (IsUtf8-are_ascii _ refl, (info.sorted, info.good), (IsUtf8-are_ascii _ refl, time_good head.submit timed.0, tt)))

pub head_shallow : (head : Head) → IsTimedHead head → depth (head_value head) ≤ max_depth
head_shallow head timed = let info = info_is head.info.entries timed.1 in let shallow = info.shallow in omega arith

-- ---- the exit

unless_good : (key bytes : List ℕ) (later : Members) → IsUtf8 key → HaveGood later → HaveGood (unless_empty key bytes later)
unless_good key [] later utf8 good = good
unless_good key (b ∷ bytes) later utf8 good = (utf8, lossy_text (b ∷ bytes), good)

unless_shallow : (key bytes : List ℕ) (later : Members) (n : ℕ) → members_depth later ≤ n → members_depth (unless_empty key bytes later) ≤ n
unless_shallow key [] later n h = h
unless_shallow key (b ∷ bytes) later n h = omega arith

exit_sorted : (error signal : List ℕ) (a b c : Data)
    → IsSorted (member (codes "dumped_core") a (unless_empty (codes "error") error (member (codes "exit_value") b (member (codes "run_time") c (unless_empty (codes "signal") signal no_members)))))
exit_sorted [] [] a b c = ((refl, (refl, tt)), ((refl, tt), (tt, tt)))
exit_sorted [] (s ∷ signal) a b c = ((refl, (refl, (refl, tt))), ((refl, (refl, tt)), ((refl, tt), (tt, tt))))
exit_sorted (e ∷ error) [] a b c = ((refl, (refl, (refl, tt))), ((refl, (refl, tt)), ((refl, tt), (tt, tt))))
exit_sorted (e ∷ error) (s ∷ signal) a b c = ((refl, (refl, (refl, (refl, tt)))), ((refl, (refl, (refl, tt))), ((refl, (refl, tt)), ((refl, tt), (tt, tt)))))

pub exit_good : (exit : Exit) → IsTimedExit exit → IsGood (exit_value exit)
exit_good exit timed =
    let signal = unless_good (codes "signal") exit.signal no_members (IsUtf8-are_ascii _ refl) tt in
    let value = small_fits exit.value timed.1 in
    let rest : HaveGood (member (codes "exit_value") (shown_number exit.value) (member (codes "run_time") (time_value exit.run) (unless_empty (codes "signal") exit.signal no_members))) =
    (IsUtf8-are_ascii _ refl, value, (IsUtf8-are_ascii _ refl, time_good exit.run timed.0, signal)) in (
      exit_sorted exit.error exit.signal (boolean exit.dumped) (shown_number exit.value) (time_value exit.run),
      (IsUtf8-are_ascii _ refl, tt, unless_good (codes "error") exit.error _ (IsUtf8-are_ascii _ refl) rest),
    )

pub exit_shallow : (exit : Exit) → depth (exit_value exit) ≤ max_depth
exit_shallow exit =
    let signal = unless_shallow (codes "signal") exit.signal no_members 1 (omega arith) in
    let rest = member (codes "exit_value") (shown_number exit.value) (member (codes "run_time") (time_value exit.run) (unless_empty (codes "signal") exit.signal no_members)) in
    let all = unless_shallow (codes "error") exit.error rest 1 (omega arith) in
    omega arith
