-- Of several entries with one key the last counts, and keys stand in order.
use Rattle.std.proofs.Common.{◌≡◌, ℕ, List, [], ◌∷◌, map, fold, Bool, true, false, cond, Ordering, Less, Equal, Greater, Option, Some, None, option_map, bytes_eq, refl, sym, ap, ap₂, ◌∙◌, subst}
use mathlib.Core.List.{reverse_aux}
use Rattle.std.specs.Prelude.{find, reverse}
use Rattle.std.specs.Option.{option_or}
use Rattle.std.specs.Cmp.Lexicographic.{slice_cmp}
use Rattle.std.specs.List.{AllByRecursion}
use Rattle.std.specs.List.Sorted.{IsStrictlySortedBy}
use Rattle.std.specs.Ordering.{nat_cmp, match_ordering}
use Rattle.std.specs.Str.Lossy.{utf8_lossy}
use Rattle.std.proofs.lemmas.Cmp.{nat_list_cmp_total, tied_itself}
use Rattle.std.proofs.lemmas.Slice.Eq.{bytes_eq-Decides}
use Rattle.serde_json.specs.Data.{Data, null, Members, no_members, member, put}
use Rattle.serde_json.specs.Find.{get_member}
use Rattle.serde_json.proofs.Views.{get_member-put, get_member-put_other}
use Rattle.lsv_info.specs.declared.info.Entry.{Entry}
use Rattle.lsv_info.specs.Info.{counting}
use Rattle.lsv_info.specs.Layout.{shown_value, with_entry, info_members}
use Rattle.lsv_info.specs.Shown.{seen_entry, and_entry, seen_entries, keyed_as_shown, InByteOrder, keys_in}
use Rattle.lsv_info.proofs.Back.{same_key}
use Rattle.lsv_info.proofs.Sorted.{before, IsBefore, IsSorted, before_all, sorted_put}
use Rattle.lsv_info.proofs.Writing.{fold_keeps}

-- ---- order

keys_before : (k : List ℕ) (ms : Members) → IsBefore k ms → AllByRecursion (λ l. slice_cmp nat_cmp k l ≡ Less) (keys_in ms)
keys_before k no_members h = tt
keys_before k (member l d ms) h = (h.0, keys_before k ms h.1)

keys_sorted : (ms : Members) → IsSorted ms → InByteOrder (keys_in ms)
unfolding IsStrictlySortedBy
keys_sorted no_members h = tt
keys_sorted (member k d ms) h = (keys_before k ms h.0, keys_sorted ms h.1)

pub info_order : (entries : List Entry) → InByteOrder (keys_in (info_members entries))
info_order entries = keys_sorted _ (fold_keeps IsSorted with_entry (λ ms e h. sorted_put (utf8_lossy e.key) (shown_value e.value) ms h) no_members entries tt)

-- entries as members, their keys alone
abbrev keyed : List Entry → Members
keyed [] = no_members
keyed (e ∷ es) = member e.key null (keyed es)

keyed_keys : (es : List Entry) → keys_in (keyed es) ≡ map (λ e. e.key) es
keyed_keys [] = refl
keyed_keys (e ∷ es) = ap (λ ks. e.key ∷ ks) (keyed_keys es)

keyed_put_at : (o : Ordering) (entry first : Entry) (es : List Entry) → slice_cmp nat_cmp entry.key first.key ≡ o → keyed (and_entry es entry) ≡ put entry.key null (keyed es)
    → keyed (match_ordering o (entry ∷ first ∷ es) (entry ∷ es) (first ∷ and_entry es entry))
    ≡ match_ordering o (member entry.key null (keyed (first ∷ es))) (member first.key null (keyed es)) (member first.key null (put entry.key null (keyed es)))
keyed_put_at Less entry first es is r = refl
keyed_put_at Equal entry first es is r = ap (λ k. member k null (keyed es)) (same_key entry.key first.key is)
keyed_put_at Greater entry first es is r = ap (member first.key null) r

keyed_put : (entry : Entry) (es : List Entry) → keyed (and_entry es entry) ≡ put entry.key null (keyed es)
keyed_put entry [] = refl
keyed_put entry (first ∷ es) = keyed_put_at (slice_cmp nat_cmp entry.key first.key) entry first es refl (keyed_put entry es)

abbrev AreInOrder : List Entry → Type 0
AreInOrder es = IsSorted (keyed es)

order_kept : (es : List Entry) (entry : Entry) → AreInOrder es → AreInOrder (and_entry es entry)
order_kept es entry h = rw (keyed_put entry es) (sorted_put entry.key null (keyed es) h)

seen_in_order : (entries : List Entry) → AreInOrder (seen_entries entries)
seen_in_order entries = fold_keeps AreInOrder and_entry order_kept [] (map seen_entry entries) tt

pub seen_order : (entries : List Entry) → InByteOrder (map (λ e. e.key) (seen_entries entries))
seen_order entries = rw (← keyed_keys (seen_entries entries)) (keys_sorted _ (seen_in_order entries))

-- ---- the last one counts

abbrev only : Bool → Entry → Option Entry
only here entry = cond here (Some entry) None

or_none : {A : Type 0} (o : Option A) → option_or o None ≡ o
or_none None = refl
or_none (Some a) = refl

or_or : (o : Option Entry) (here : Bool) (entry : Entry) (old : Option Entry) → option_or o (cond here (Some entry) old) ≡ option_or (option_or o (only here entry)) old
or_or None true entry old = refl
or_or None false entry old = refl
or_or (Some e) true entry old = refl
or_or (Some e) false entry old = refl

found_more : (p : Entry → Bool) (es later : List Entry) → find p (reverse_aux es later) ≡ option_or (find p (reverse es)) (find p later)
found_more p [] later = refl
found_more p (e ∷ es) later =
    found_more p es (e ∷ later) ∙ or_or (find p (reverse es)) (p e) e (find p later) ∙ ap (λ o. option_or o (find p later)) (sym (found_more p es (e ∷ [])))

counting_more : (e : Entry) (es : List Entry) (key : List ℕ) → counting (e ∷ es) key ≡ option_or (counting es key) (only (bytes_eq e.key key) e)
counting_more e es key = found_more (λ entry. bytes_eq entry.key key) es (e ∷ [])

-- the member of a key, after one more entry
member_put : (k key : List ℕ) (d : Data) (ms : Members) (b : Bool) → bytes_eq k key ≡ b → get_member key (put k d ms) ≡ cond b (Some d) (get_member key ms)
member_put k key d ms true is = let same : key ≡ k = sym ((bytes_eq-Decides k key).0 is) in rw same (get_member-put k d ms)
member_put k key d ms false is = get_member-put_other key k d ms (λ e. let h = (bytes_eq-Decides k key).1 (sym e) in cc)

member_step : (o : Option Entry) (here : Bool) (entry : Entry) (old : Option Data)
    → option_or (option_map (λ e. shown_value e.value) o) (cond here (Some (shown_value entry.value)) old) ≡ option_or (option_map (λ e. shown_value e.value) (option_or o (only here entry))) old
member_step None true entry old = refl
member_step None false entry old = refl
member_step (Some e) true entry old = refl
member_step (Some e) false entry old = refl

members_from : (entries : List Entry) (ms : Members) (key : List ℕ)
    → get_member key (fold with_entry ms entries) ≡ option_or (option_map (λ e. shown_value e.value) (counting (map keyed_as_shown entries) key)) (get_member key ms)
members_from [] ms key = refl
members_from (e ∷ es) ms key =
    let k = utf8_lossy e.key in
    let later = counting (map keyed_as_shown es) key in
    members_from es (with_entry ms e) key ∙ ap (option_or (option_map (λ x. shown_value x.value) later)) (member_put k key (shown_value e.value) ms (bytes_eq k key) refl)
    ∙ member_step later (bytes_eq k key) (keyed_as_shown e) (get_member key ms)
    ∙ ap (λ o. option_or (option_map (λ x. shown_value x.value) o) (get_member key ms)) (sym (counting_more (keyed_as_shown e) (map keyed_as_shown es) key))

pub info_last : (entries : List Entry) (key : List ℕ) → get_member key (info_members entries) ≡ option_map (λ e. shown_value e.value) (counting (map keyed_as_shown entries) key)
info_last entries key = members_from entries no_members key ∙ or_none _

not_before_itself : (k : List ℕ) → before k k → ⊥
not_before_itself k less = let same = tied_itself nat_list_cmp_total k in cc

apart : (k l key : List ℕ) (b : Bool) → bytes_eq l key ≡ b → k ≡ key → before k l → bytes_eq l key ≡ false
apart k l key true is same less = absurd (not_before_itself k (subst (before k) ((bytes_eq-Decides l key).0 is ∙ sym same) less))
apart k l key false is same less = is

none_later : (k : List ℕ) (es : List Entry) (key : List ℕ) → k ≡ key → IsBefore k (keyed es) → counting es key ≡ None
none_later k [] key same h = refl
none_later k (e ∷ es) key same h =
    counting_more e es key ∙ ap (λ o. option_or o (only (bytes_eq e.key key) e)) (none_later k es key same h.1) ∙ ap (λ b. only b e) (apart k e.key key _ refl same h.0)

-- the entry that counts, after one more entry
entry_put_at : (o : Ordering) (b : Bool) (entry first : Entry) (es : List Entry) (key : List ℕ) → slice_cmp nat_cmp entry.key first.key ≡ o → bytes_eq entry.key key ≡ b → AreInOrder (first ∷ es)
    → counting (and_entry es entry) key ≡ cond b (Some entry) (counting es key)
    → counting (match_ordering o (entry ∷ first ∷ es) (entry ∷ es) (first ∷ and_entry es entry)) key ≡ cond b (Some entry) (counting (first ∷ es) key)
entry_put_at Less true entry first es key is at h r =
    let none = none_later entry.key (first ∷ es) key ((bytes_eq-Decides entry.key key).0 at) (is, before_all entry.key first.key (keyed es) is h.0) in
    counting_more entry (first ∷ es) key ∙ ap₂ (λ o b. option_or o (only b entry)) none at
entry_put_at Less false entry first es key is at h r = counting_more entry (first ∷ es) key ∙ ap (λ b. option_or (counting (first ∷ es) key) (only b entry)) at ∙ or_none _
entry_put_at Equal true entry first es key is at h r =
    let none = none_later first.key es key (sym (same_key entry.key first.key is) ∙ (bytes_eq-Decides entry.key key).0 at) h.0 in
    counting_more entry es key ∙ ap₂ (λ o b. option_or o (only b entry)) none at
entry_put_at Equal false entry first es key is at h r =
    let other : bytes_eq first.key key ≡ false = ap (λ k. bytes_eq k key) (sym (same_key entry.key first.key is)) ∙ at in
    counting_more entry es key ∙ ap (λ b. option_or (counting es key) (only b entry)) at ∙ sym (counting_more first es key ∙ ap (λ b. option_or (counting es key) (only b first)) other)
entry_put_at Greater true entry first es key is at h r = counting_more first (and_entry es entry) key ∙ ap (λ o. option_or o (only (bytes_eq first.key key) first)) r
entry_put_at Greater false entry first es key is at h r =
    counting_more first (and_entry es entry) key ∙ ap (λ o. option_or o (only (bytes_eq first.key key) first)) r ∙ sym (counting_more first es key)

entry_put : (entry : Entry) (es : List Entry) (key : List ℕ) → AreInOrder es → counting (and_entry es entry) key ≡ cond (bytes_eq entry.key key) (Some entry) (counting es key)
entry_put entry [] key h = refl
entry_put entry (first ∷ es) key h = entry_put_at (slice_cmp nat_cmp entry.key first.key) _ entry first es key refl refl h (entry_put entry es key h.1)

entries_from : (entries done : List Entry) (key : List ℕ) → AreInOrder done → counting (fold and_entry done entries) key ≡ option_or (counting entries key) (counting done key)
entries_from [] done key h = refl
entries_from (e ∷ es) done key h =
    entries_from es (and_entry done e) key (order_kept done e h) ∙ ap (option_or (counting es key)) (entry_put e done key h)
    ∙ or_or (counting es key) (bytes_eq e.key key) e (counting done key) ∙ ap (λ o. option_or o (counting done key)) (sym (counting_more e es key))

pub seen_last : (entries : List Entry) (key : List ℕ) → counting (seen_entries entries) key ≡ counting (map seen_entry entries) key
seen_last entries key = entries_from (map seen_entry entries) [] key tt ∙ or_none _
