-- What is read of the JSON of a head and of an exit.
use Rattle.std.proofs.Common.{◌≡◌, ℕ, ◌^◌, ℤ, pos, negsuc, List, [], ◌∷◌, map, fold, Bool, Ordering, Less, Equal, Greater, Some, option_map, Ok, IsSome, refl, sym, ap, ◌∙◌, arith, lt-ltb, is_eq}
use Rattle.std.specs.Prelude.{⊤, FitsSigned}
use Rattle.std.specs.Cmp.Lexicographic.{slice_cmp}
use Rattle.std.specs.Int.{w32, w64}
use Rattle.std.specs.List.{AllByRecursion}
use Rattle.std.specs.Ordering.{nat_cmp, match_ordering}
use Rattle.std.specs.Str.Lossy.{utf8_lossy}
use Rattle.std.proofs.lemmas.Map.Text.{is_eq-slice_cmp}
use Rattle.std.proofs.lemmas.Slice.Eq.{bytes_eq-Decides}
use Rattle.std.proofs.lemmas.Str.{utf8_lossy_empty}
use Rattle.lsv_base.specs.Time.{nanos_of}
use Rattle.lsv_base.specs.declared.time.TimeSpec.{TimeSpec}
use Rattle.serde_json.specs.Data.{Data, Members, no_members, member, put}
use Rattle.serde_json.specs.View.{items_of}
use Rattle.lsv_info.specs.declared.info.Entry.{Entry}
use Rattle.lsv_info.specs.declared.info.Value.{Value}
use Rattle.lsv_info.specs.declared.info.Value.TheVariants.{Num, Text, Texts, Nums}
use Rattle.lsv_info.specs.declared.times.Head.{Head}
use Rattle.lsv_info.specs.declared.times.Exit.{Exit}
use Rattle.lsv_info.specs.Layout.{shown_text, shown_number, shown_value, with_entry, info_members, time_value, head_value, head_text, exit_value, exit_text}
use Rattle.lsv_info.specs.Reading.{number_in, small_in, texts_in, numbers_in, value_in, entries_in, time_in, head_in, exit_in, if_json, head_of, exit_of}
use Rattle.lsv_info.specs.Fitting.{FitsValue, FitsEntry}
use Rattle.lsv_info.specs.Shown.{seen_value, seen_entry, and_entry, seen_entries, seen_head, seen_exit, IsTimedHead, IsTimedExit}
use Rattle.lsv_info.proofs.Good.{IsWhole, whole, head_good, head_shallow, exit_good, exit_shallow}
use Rattle.lsv_info.proofs.Texts.{read_again}

-- ---- numbers and times

number_back : (n : ℤ) → FitsSigned w64 n → number_in (shown_number n) ≡ Some n
number_back (pos n) fits = let h = fits.sfits in rw (lt-ltb n (2 ^ 63) (omega arith)) refl
number_back (negsuc n) fits = refl

small_back : (n : ℤ) → FitsSigned w32 n → small_in (shown_number n) ≡ Some n
small_back (pos n) fits = let h = fits.sfits in rw (lt-ltb n (2 ^ 63) (omega arith), lt-ltb n (2 ^ 31) (omega arith)) refl
small_back (negsuc n) fits = let h = fits.sfits in rw (lt-ltb n (2 ^ 31) (omega arith)) refl

time_back_at : (sec nsec : ℤ) → IsWhole sec nsec → IsSome (nanos_of (record { sec = sec; nsec = nsec })) → time_in (time_value (record { sec = sec; nsec = nsec })) ≡ Some (record { sec = sec; nsec = nsec })
time_back_at sec nsec w some =
    let small = w.small in
    let below = w.below in
    let seconds : number_in (shown_number sec) ≡ Some sec = rw (w.sec_is, lt-ltb w.seconds (2 ^ 63) (omega arith)) refl in
    let nanos : small_in (shown_number nsec) ≡ Some nsec = rw (w.nsec_is, lt-ltb w.nanos (2 ^ 63) (omega arith), lt-ltb w.nanos (2 ^ 31) (omega arith)) refl in
    rw (seconds, nanos, some) refl

time_back : (t : TimeSpec) → IsSome (nanos_of t) → time_in (time_value t) ≡ Some t
time_back t some = time_back_at t.sec t.nsec (whole t.sec t.nsec some) some

-- ---- values

texts_back : (texts : List (List ℕ)) → texts_in (items_of (map shown_text texts)) ≡ Some (map utf8_lossy texts)
texts_back [] = refl
texts_back (t ∷ ts) = rw (texts_back ts) refl

numbers_back : (numbers : List ℤ) → AllByRecursion (FitsSigned w64) numbers → numbers_in (items_of (map shown_number numbers)) ≡ Some numbers
numbers_back [] fits = refl
numbers_back (n ∷ ns) fits = rw (number_back n fits.0, numbers_back ns fits.1) refl

value_back : (v : Value) → FitsValue v → value_in (shown_value v) ≡ Some (seen_value v)
value_back (Num n) fits = ap (option_map Num) (number_back n fits)
value_back (Text bytes) fits = refl
value_back (Texts texts) fits = rw (texts_back texts) refl
value_back (Nums []) fits = refl
value_back (Nums (n ∷ ns)) fits = rw (numbers_back (n ∷ ns) fits) refl

-- ---- entries

-- the members are read as these entries
abbrev Reads : Members → List Entry → Type 0
Reads no_members [] = ⊤
Reads no_members (e ∷ es) = ⊥
Reads (member k d ms) [] = ⊥
Reads (member k d ms) (e ∷ es) = (e.key ≡ k) × (value_in d ≡ Some e.value) × Reads ms es

entries_are : (ms : Members) (es : List Entry) → Reads ms es → entries_in ms ≡ Ok es
entries_are no_members [] h = refl
entries_are no_members (e ∷ es) h = absurd h
entries_are (member k d ms) [] h = absurd h
entries_are (member k d ms) (e ∷ es) h = rw (h.1, entries_are ms es h.2, h.0) refl

pub same_key : (k l : List ℕ) → slice_cmp nat_cmp k l ≡ Equal → k ≡ l
same_key k l is = (bytes_eq-Decides k l).0 (sym (is_eq-slice_cmp k l) ∙ ap is_eq is)

put_reads_at : (o : Ordering) (entry first : Entry) (d f : Data) (l : List ℕ) (ms : Members) (es : List Entry) → slice_cmp nat_cmp entry.key l ≡ o → value_in d ≡ Some entry.value
    → Reads (member l f ms) (first ∷ es) → Reads (put entry.key d ms) (and_entry es entry)
    → Reads (match_ordering o (member entry.key d (member l f ms)) (member l d ms) (member l f (put entry.key d ms))) (match_ordering o (entry ∷ first ∷ es) (entry ∷ es) (first ∷ and_entry es entry))
put_reads_at Less entry first d f l ms es o is h r = (refl, is, h)
put_reads_at Equal entry first d f l ms es o is h r = (same_key entry.key l o, is, h.2)
put_reads_at Greater entry first d f l ms es o is h r = (h.0, h.1, r)

put_reads : (entry : Entry) (d : Data) (ms : Members) (es : List Entry) → value_in d ≡ Some entry.value → Reads ms es → Reads (put entry.key d ms) (and_entry es entry)
put_reads entry d no_members [] is h = (refl, is, tt)
put_reads entry d no_members (first ∷ es) is h = absurd h
put_reads entry d (member l f ms) [] is h = absurd h
put_reads entry d (member l f ms) (first ∷ es) is h =
    let same : slice_cmp nat_cmp entry.key first.key ≡ slice_cmp nat_cmp entry.key l = ap (slice_cmp nat_cmp entry.key) h.0 in
    rw same (put_reads_at (slice_cmp nat_cmp entry.key l) entry first d f l ms es refl is h (put_reads entry d ms es is h.2))

info_reads : (entries : List Entry) (ms : Members) (es : List Entry) → AllByRecursion FitsEntry entries → Reads ms es → Reads (fold with_entry ms entries) (fold and_entry es (map seen_entry entries))
info_reads [] ms es fits h = h
info_reads (e ∷ entries) ms es fits h =
    info_reads entries (with_entry ms e) (and_entry es (seen_entry e)) fits.1 (put_reads (seen_entry e) (shown_value e.value) ms es (value_back e.value fits.0) h)

info_back : (entries : List Entry) → AllByRecursion FitsEntry entries → entries_in (info_members entries) ≡ Ok (seen_entries entries)
info_back entries fits = entries_are (info_members entries) (seen_entries entries) (info_reads entries no_members [] fits tt)

-- ---- the head

head_back : (head : Head) → IsTimedHead head → head_in (head_value head) ≡ Ok (seen_head head)
head_back head timed = rw (info_back head.info.entries timed.1, time_back head.submit timed.0) refl

pub head_again : (head : Head) → IsTimedHead head → head_of (head_text head) ≡ Ok (seen_head head)
unfolding head_text head_of
head_again head timed = ap (if_json head_in) (read_again (head_value head) (head_good head timed) (head_shallow head timed)) ∙ head_back head timed

-- ---- the exit

exit_back_at : (run : TimeSpec) (value : ℤ) (dumped : Bool) (signal error : List ℕ) → IsSome (nanos_of run) → FitsSigned w32 value
    → let exit : Exit = record { run = run; value = value; dumped = dumped; signal = signal; error = error } in exit_in (exit_value exit) ≡ Ok (seen_exit exit)
exit_back_at run value dumped [] [] some fits = rw (small_back value fits, time_back run some, utf8_lossy_empty [] refl) refl
exit_back_at run value dumped [] (e ∷ error) some fits = rw (small_back value fits, time_back run some, utf8_lossy_empty [] refl) refl
exit_back_at run value dumped (s ∷ signal) [] some fits = rw (small_back value fits, time_back run some, utf8_lossy_empty [] refl) refl
exit_back_at run value dumped (s ∷ signal) (e ∷ error) some fits = rw (small_back value fits, time_back run some) refl

pub exit_again : (exit : Exit) → IsTimedExit exit → exit_of (exit_text exit) ≡ Ok (seen_exit exit)
unfolding exit_text exit_of
exit_again exit timed =
    ap (if_json exit_in) (read_again (exit_value exit) (exit_good exit timed) (exit_shallow exit)) ∙ exit_back_at exit.run exit.value exit.dumped exit.signal exit.error timed.0 timed.1
