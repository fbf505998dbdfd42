-- Members in byte order of their keys, each key once.
use Rattle.std.proofs.Common.{◌≡◌, ℕ, List, Ordering, Less, Equal, Greater, refl, ap, ◌∙◌}
use Rattle.std.specs.Prelude.{⊤}
use Rattle.std.specs.Cmp.Lexicographic.{slice_cmp}
use Rattle.std.specs.Ordering.{nat_cmp, match_ordering, ordering_reverse}
use Rattle.std.proofs.lemmas.Cmp.{nat_list_cmp_total}
use Rattle.serde_json.specs.Data.{Data, Members, no_members, member, put}

abbrev pub before : List ℕ → List ℕ → Type 0
before k l = slice_cmp nat_cmp k l ≡ Less

-- the key goes before each of these
abbrev pub IsBefore : List ℕ → Members → Type 0
IsBefore k no_members = ⊤
IsBefore k (member l e ms) = before k l × IsBefore k ms

abbrev pub IsSorted : Members → Type 0
IsSorted no_members = ⊤
IsSorted (member k d ms) = IsBefore k ms × IsSorted ms

-- the members and then others
abbrev pub and_then_members : Members → Members → Members
and_then_members no_members later = later
and_then_members (member k d ms) later = member k d (and_then_members ms later)

pub none_later : (ms : Members) → and_then_members ms no_members ≡ ms
none_later no_members = refl
none_later (member k d ms) = ap (member k d) (none_later ms)

after : (k l : List ℕ) → before l k → slice_cmp nat_cmp k l ≡ Greater
after k l less = nat_list_cmp_total.antisymm k l ∙ ap ordering_reverse less

-- each of the keys goes before those
abbrev pub AreBefore : Members → Members → Type 0
AreBefore no_members later = ⊤
AreBefore (member k d ms) later = IsBefore k later × AreBefore ms later

pub put_last : (k : List ℕ) (d : Data) (ms later : Members) → AreBefore ms (member k d later) → put k d ms ≡ and_then_members ms (member k d no_members)
put_last k d no_members later h = refl
put_last k d (member l e ms) later h = rw (after k l h.0.0) (ap (member l e) (put_last k d ms later h.1))

pub joined : (ms : Members) (k : List ℕ) (d : Data) (later : Members) → and_then_members (and_then_members ms (member k d no_members)) later ≡ and_then_members ms (member k d later)
joined no_members k d later = refl
joined (member l e ms) k d later = ap (member l e) (joined ms k d later)

pub all_before : (ms : Members) (k : List ℕ) (d : Data) (later : Members) → AreBefore ms (member k d later) → IsBefore k later → AreBefore (and_then_members ms (member k d no_members)) later
all_before no_members k d later h first = (first, tt)
all_before (member l e ms) k d later h first = (h.0.1, all_before ms k d later h.1 first)

-- ---- putting in keeps the order

pub before_all : (k l : List ℕ) (ms : Members) → before k l → IsBefore l ms → IsBefore k ms
before_all k l no_members less h = tt
before_all k l (member m e ms) less h = (nat_list_cmp_total.trans k l m less h.0, before_all k l ms less h.1)

before_put_at : (o : Ordering) (q k l : List ℕ) (d e : Data) (ms : Members) → before q k → before q l → IsBefore q ms → IsBefore q (put k d ms)
    → IsBefore q (match_ordering o (member k d (member l e ms)) (member l d ms) (member l e (put k d ms)))
before_put_at Less q k l d e ms a b c r = (a, (b, c))
before_put_at Equal q k l d e ms a b c r = (b, c)
before_put_at Greater q k l d e ms a b c r = (b, r)

before_put : (q k : List ℕ) (d : Data) (ms : Members) → before q k → IsBefore q ms → IsBefore q (put k d ms)
before_put q k d no_members less h = (less, tt)
before_put q k d (member l e ms) less h = before_put_at (slice_cmp nat_cmp k l) q k l d e ms less h.0 h.1 (before_put q k d ms less h.1)

sorted_put_at : (o : Ordering) (k l : List ℕ) (d e : Data) (ms : Members) → slice_cmp nat_cmp k l ≡ o → IsBefore l ms → IsSorted ms → IsSorted (put k d ms)
    → IsSorted (match_ordering o (member k d (member l e ms)) (member l d ms) (member l e (put k d ms)))
sorted_put_at Less k l d e ms is first rest r = ((is, before_all k l ms is first), (first, rest))
sorted_put_at Equal k l d e ms is first rest r = (first, rest)
sorted_put_at Greater k l d e ms is first rest r = (before_put l k d ms (nat_list_cmp_total.antisymm l k ∙ ap ordering_reverse is) first, r)

pub sorted_put : (k : List ℕ) (d : Data) (ms : Members) → IsSorted ms → IsSorted (put k d ms)
sorted_put k d no_members h = (tt, tt)
sorted_put k d (member l e ms) h = sorted_put_at (slice_cmp nat_cmp k l) k l d e ms refl h.0 h.1 (sorted_put k d ms h.1)
