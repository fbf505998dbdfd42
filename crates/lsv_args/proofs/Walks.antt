-- A command that takes its words has only values that its arguments take.
use Rattle.std.proofs.Common.{◌≡◌, ◌∙◌, ◌&&◌, ◌||◌, ◌==◌, ℕ, Bool, true, false, zero, suc, cond, List, [], ◌∷◌, ◌++◌, Option, Some, None, length, drop, find, is_some, refl, sym, ap, subst, arith, eqb-true}
use Rattle.std.specs.List.{AllByRecursion}
use Rattle.std.specs.Option.{option_map_or, option_or}
use Rattle.std.specs.Prelude.{encode_utf8, slice_get}
use Rattle.std.specs.Str.{bytes_eq, chars}
use Rattle.clap.specs.Facts.{unwrap_or_range}
use Rattle.clap.specs.Faults.{action_fault, bundle_fault, bundle_step_fault, flag_word_fault, flags_fault, long_fault, option_fault, other_fault, positional_fault, react_fault, repeat_fault, set_fault, settle_fault, short_fault, step_fault, stray_fault, use_fault, values_fault, word_fault}
use Rattle.clap.specs.Kinds.{Kinds, or_else, range_kinds}
use Rattle.clap.specs.Lexer.{long_of, short_of}
use Rattle.clap.specs.Simple.{Shape}
use Rattle.clap.specs.Takes.{value_passes}
use Rattle.clap.specs.Walk.{Held, more_values, Outcome, Row, Rule, Step, Text, Waiting, Walk, action_of, after_flag, after_step, arg_by_id, arg_by_index, arg_by_long, arg_by_short, at_row, attached_value, bundle, bundle_met, bundle_step, done, flag_met, has_row, idle, is_pending, long_met, long_or_other, next, option, option_met, option_word, plain, plain_word, positional, reacted, refused, settled, settled_rows, short_met, short_or_plain, subcommand, subcommand_met, subcommand_or_other, takes_several, takes_values, to_positional, trailing, used, used_as, used_by_id, value, values_or_missing, waits, with_values, without, word_met, reading_by}
use Rattle.clap.specs.declared.builder.action.ArgAction.{ArgAction}
use Rattle.clap.specs.declared.builder.action.ArgAction.TheVariants.{Set}
use Rattle.clap.specs.declared.builder.range.ValueRange.{ValueRange}
use Rattle.clap.specs.declared.error.kind.ErrorKind.{ErrorKind}
use Rattle.clap.specs.declared.error.kind.ErrorKind.TheVariants as kinds
use Rattle.clap.specs.declared.parser.matches.ValueSource.TheVariants.{CommandLine}

-- ---- faults that are none

pub both_none : (a b : Kinds) → or_else a b ≡ [] → (a ≡ []) × (b ≡ [])
both_none [] b e = (refl, e)
both_none (k ∷ ks) b e = absurd (cc)

found_step : {X : Type 0} (P : X → Type 0) (t : Bool) (y x : X) (o : Option X) → P y → (o ≡ Some x → P x) → cond t (Some y) o ≡ Some x → P x
found_step P true y x o here more e = let same : y ≡ x = cc in subst P same here
found_step P false y x o here more e = more e

-- what is found passes
find_passes : {X : Type 0} (P : X → Type 0) (p : X → Bool) (xs : List X) (x : X) → AllByRecursion P xs → find p xs ≡ Some x → P x
find_passes P p [] x all e = absurd (cc)
find_passes P p (y ∷ xs) x all e = found_step P (p y) y x (find p xs) all.0 (find_passes P p xs x all.1) e

-- ---- rows

-- the first value of this id, where there is a row of it, passes
abbrev pub HasValue : Text → (Text → Bool) → List Row → Type 0
HasValue id acc rows = (r : Row) → find (λ x. bytes_eq x.id id) rows ≡ Some r → (v : Text) × (slice_get r.values 0 ≡ Some v) × (acc v ≡ true)

-- an argument that takes one value, which passes where it is of this id
pub record IsPlainRule (id : Text) (acc : Text → Bool) (a : Rule) : Type 0 where
  pub sets : action_of a ≡ Set
  pub one : unwrap_or_range a.range ≡ record { start_inclusive = 1; end_inclusive = 1 }
  pub passes : bytes_eq a.id id ≡ true → (v : Text) → value_passes a v ≡ acc v
  pub defaults : a.defaults ≡ []

no_row_step : (t b : Bool) (change : List Row) (r : Row) (rows rest more : List Row) → (t || b) ≡ false → (b ≡ false → rest ≡ more) → cond t (change ++ rows) (r ∷ rest) ≡ r ∷ more
no_row_step true b change r rows rest more e h = absurd (cc)
no_row_step false b change r rows rest more e h = ap (λ xs. r ∷ xs) (h e)

pub no_row : (id : Text) (change : Row → List Row) (missing : List Row) (rows : List Row) → has_row id rows ≡ false → at_row id change missing rows ≡ rows ++ missing
no_row id change missing [] e = refl
no_row id change missing (r ∷ rows) e = no_row_step (bytes_eq r.id id) (has_row id rows) (change r) r rows (at_row id change missing rows) (rows ++ missing) e (no_row id change missing rows)

cond_or : {X : Type 0} (t : Bool) (x : X) (o q : Option X) → cond t (Some x) (option_or o q) ≡ option_or (cond t (Some x) o) q
cond_or true x o q = refl
cond_or false x o q = refl

find_push : {X : Type 0} (p : X → Bool) (xs : List X) (y : X) → find p (xs ++ y ∷ []) ≡ option_or (find p xs) (cond (p y) (Some y) None)
find_push p [] y = refl
find_push p (x ∷ xs) y = ap (λ o. cond (p x) (Some x) o) (find_push p xs y) ∙ cond_or (p x) x (find p xs) (cond (p y) (Some y) None)

one_found : (acc : Text → Bool) (t : Bool) (y r : Row) → (t ≡ true → (v : Text) × (slice_get y.values 0 ≡ Some v) × (acc v ≡ true)) → cond t (Some y) None ≡ Some r → (v : Text) × (slice_get r.values 0 ≡ Some v) × (acc v ≡ true)
one_found acc true y r here e = let same : y ≡ r = cc in subst (λ (x : Row). (v : Text) × (slice_get x.values 0 ≡ Some v) × (acc v ≡ true)) same (here refl)
one_found acc false y r here e = absurd (cc)

push_step : (acc : Text → Bool) (o : Option Row) (t : Bool) (y r : Row) → (o ≡ Some r → (v : Text) × (slice_get r.values 0 ≡ Some v) × (acc v ≡ true))
    → (t ≡ true → (v : Text) × (slice_get y.values 0 ≡ Some v) × (acc v ≡ true)) → option_or o (cond t (Some y) None) ≡ Some r → (v : Text) × (slice_get r.values 0 ≡ Some v) × (acc v ≡ true)
push_step acc None t y r good here e = one_found acc t y r here e
push_step acc (Some x) t y r good here e = good e

value_push : (id : Text) (acc : Text → Bool) (rows : List Row) (y : Row) → HasValue id acc rows
    → (bytes_eq y.id id ≡ true → (v : Text) × (slice_get y.values 0 ≡ Some v) × (acc v ≡ true)) → HasValue id acc (rows ++ y ∷ [])
value_push id acc rows y good here = λ r e.
    push_step acc (find (λ x. bytes_eq x.id id) rows) (bytes_eq y.id id) y r (good r) here (sym (find_push (λ x. bytes_eq x.id id) rows y) ∙ e)

-- ---- one use of an argument

one_by : (t u : Bool) (k l : ErrorKind) → cond t (k ∷ []) (cond u [] (l ∷ [])) ≡ [] → u ≡ true
one_by true u k l e = absurd (cc)
one_by false true k l e = refl
one_by false false k l e = absurd (cc)

one_value : (n : ℕ) → range_kinds 1 1 n ≡ [] → 1 ≡ n
one_value n e = eqb-true 1 n (one_by (n == 0) (1 == n) _ _ e)

value_none : (t : Bool) (k : ErrorKind) → or_else (cond t [] (k ∷ [])) [] ≡ [] → t ≡ true
value_none true k e = refl
value_none false k e = absurd (cc)

repeat_none : (t : Bool) (k : ErrorKind) → cond (t && true) (k ∷ []) [] ≡ [] → t ≡ false
repeat_none true k e = absurd (cc)
repeat_none false k e = refl

pub no_more : {A : Type 0} (xs : List A) → xs ++ [] ≡ xs
no_more [] = refl
no_more (x ∷ xs) = ap (λ rest. x ∷ rest) (no_more xs)

-- the rows with one row more
used_push : (a : Rule) (v : Text) (rows : List Row) → action_of a ≡ Set → has_row a.id rows ≡ false → (y : Row) × (used a (v ∷ []) rows ≡ rows ++ y ∷ []) × (y.id ≡ a.id) × (slice_get y.values 0 ≡ Some v)
used_push a v rows sets fresh =
    let kept : without a.id rows ≡ rows = no_row a.id (λ _. []) [] rows fresh ∙ no_more rows in
    let row : Row = record { id = a.id; values = v ∷ []; count = None; source = Some CommandLine; reading = reading_by a } in (
      row,
      ap (λ (s : ArgAction). used_as s a.id (reading_by a) (v ∷ []) rows) sets
          ∙ ap (with_values a.id (reading_by a) CommandLine (v ∷ [])) kept
          ∙ no_row a.id (more_values CommandLine (v ∷ [])) (row ∷ []) rows fresh,
      refl,
      refl,
    )

used_one : (id : Text) (acc : Text → Bool) (a : Rule) (v : Text) (rows : List Row) → IsPlainRule id acc a → action_fault (action_of a) false a (v ∷ []) rows ≡ [] → HasValue id acc rows → HasValue id acc (used a (v ∷ []) rows)
used_one id acc a v rows is none good =
    let set : set_fault false a (v ∷ []) rows ≡ [] = ap (λ (s : ArgAction). action_fault s false a (v ∷ []) rows) (sym is.sets) ∙ none in
    let parts = both_none (repeat_fault false a.id rows) (values_fault a (v ∷ [])) set in
    let fresh : has_row a.id rows ≡ false = repeat_none (has_row a.id rows) _ parts.0 in
    let passes : value_passes a v ≡ true = value_none (value_passes a v) _ parts.1 in
    let push = used_push a v rows is.sets fresh in
    subst (HasValue id acc) (sym push.1) (value_push id acc rows push.0 good (λ same. (v, push.3, sym (is.passes (ap (λ x. bytes_eq x id) (sym push.2) ∙ same) v) ∙ passes)))

-- the rows after a use that is taken
pub used_passes : (id : Text) (acc : Text → Bool) (a : Rule) (values : List Text) (rows : List Row) → IsPlainRule id acc a → use_fault false a values rows ≡ [] → HasValue id acc rows → HasValue id acc (used a values rows)
used_passes id acc a values rows is none good =
    let parts = both_none _ _ none in
    by_values values (one_value (length values) (ap (λ (r : ValueRange). range_kinds r.start_inclusive r.end_inclusive (length values)) (sym is.one) ∙ parts.0)) parts.1
  where
    by_values : (vs : List Text) → 1 ≡ length vs → action_fault (action_of a) false a (values_or_missing a vs) rows ≡ [] → HasValue id acc (used a vs rows)
    by_values [] e f = absurd (omega arith)
    by_values (v ∷ []) e f = used_one id acc a v rows is f good
    by_values (v ∷ w ∷ more) e f = absurd (omega arith)

-- ---- what is held

abbrev pub AllPlain : Text → (Text → Bool) → List Rule → Type 0
AllPlain id acc c = AllByRecursion (IsPlainRule id acc) c

by_id : (id : Text) (acc : Text → Bool) (c : List Rule) (values : List Text) (rows : List Row) (o : Option Rule) → ((a : Rule) → o ≡ Some a → IsPlainRule id acc a) → option_map_or (λ a. use_fault false a values rows) o [] ≡ [] → HasValue id acc rows → HasValue id acc (used_by_id o values rows)
by_id id acc c values rows None is none good = good
by_id id acc c values rows (Some a) is none good = used_passes id acc a values rows (is a refl) none good

settled_by : (id : Text) (acc : Text → Bool) (c : List Rule) (pending : Option (Text × List Text)) (rows : List Row) → AllPlain id acc c
    → option_map_or (λ p. option_map_or (λ a. use_fault false a p.1 rows) (arg_by_id c p.0) []) pending [] ≡ [] → HasValue id acc rows → HasValue id acc (settled_rows c pending rows)
settled_by id acc c None rows all none good = good
settled_by id acc c (Some p) rows all none good = by_id id acc c p.1 rows (arg_by_id c p.0) (λ a e. find_passes (IsPlainRule id acc) (λ a. bytes_eq a.id p.0) c a all e) none good

pub settled_passes : (id : Text) (acc : Text → Bool) (c : List Rule) (h : Held) → AllPlain id acc c → settle_fault c false h ≡ [] → HasValue id acc h.rows → HasValue id acc (settled c h).rows
settled_passes id acc c h all none good = settled_by id acc c h.pending h.rows all none good

reacted_passes : (id : Text) (acc : Text → Bool) (c : List Rule) (a : Rule) (values : List Text) (h : Held) → AllPlain id acc c → IsPlainRule id acc a → react_fault c false a values h ≡ [] → HasValue id acc h.rows → HasValue id acc (reacted c a values h).rows
reacted_passes id acc c a values h all is none good =
    let parts = both_none (settle_fault c false h) (use_fault false a values (settled c h).rows) none in
    used_passes id acc a values (settled c h).rows is parts.1 (settled_passes id acc c h all parts.0 good)

option_passes : (id : Text) (acc : Text → Bool) (c : List Rule) (a : Rule) (v : Option Text) (h : Held) → AllPlain id acc c → IsPlainRule id acc a → option_fault c false a v h ≡ [] → HasValue id acc h.rows → HasValue id acc (option_met c a v h).0.rows
option_passes id acc c a (Some v) h all is none good = reacted_passes id acc c a (v ∷ []) h all is none good
option_passes id acc c a None h all is none good = settled_passes id acc c h all none good

long_by : (id : Text) (acc : Text → Bool) (c : List Rule) (a : Rule) (v : Option Text) (h : Held) (t : Bool) → AllPlain id acc c → IsPlainRule id acc a
    → cond t (option_fault c false a v h) (cond (is_some v) (kinds.TooManyValues ∷ []) (react_fault c false a [] h)) ≡ []
    → HasValue id acc h.rows → HasValue id acc (cond t (option_met c a v h) (flag_met c a v h)).0.rows
long_by id acc c a v h true all is none good = option_passes id acc c a v h all is none good
long_by id acc c a (Some v) h false all is none good = absurd (cc)
long_by id acc c a None h false all is none good = reacted_passes id acc c a [] h all is none good

long_passes : (id : Text) (acc : Text → Bool) (c : List Rule) (o : Option Rule) (v : Option Text) (h : Held) → AllPlain id acc c → ((a : Rule) → o ≡ Some a → IsPlainRule id acc a) → long_fault c false o v h ≡ [] → HasValue id acc h.rows → HasValue id acc (long_met c o v h).0.rows
long_passes id acc c None v h all is none good = absurd (cc)
long_passes id acc c (Some a) v h all is none good = long_by id acc c a v h (takes_values a) all (is a refl) none good

-- ---- a bundle of short options

short_by : (id : Text) (acc : Text → Bool) (c : List Rule) (a : Rule) (rest : Text) (h : Held) (t : Bool) (next_fault : Held → Kinds) (next_met : Held → Held × Outcome) → AllPlain id acc c → IsPlainRule id acc a
    → ((g : Held) → next_fault g ≡ [] → HasValue id acc g.rows → HasValue id acc (next_met g).0.rows)
    → cond t (option_fault c false a (attached_value rest) h) (or_else (react_fault c false a [] h) (next_fault (reacted c a [] h))) ≡ []
    → HasValue id acc h.rows → HasValue id acc (cond t (option_met c a (attached_value rest) h) (next_met (reacted c a [] h))).0.rows
short_by id acc c a rest h true next_fault next_met all is more none good = option_passes id acc c a (attached_value rest) h all is none good
short_by id acc c a rest h false next_fault next_met all is more none good =
    let parts = both_none (react_fault c false a [] h) (next_fault (reacted c a [] h)) none in
    more (reacted c a [] h) parts.1 (reacted_passes id acc c a [] h all is parts.0 good)

short_passes : (id : Text) (acc : Text → Bool) (c : List Rule) (o : Option Rule) (rest : Text) (h : Held) (next_fault : Held → Kinds) (next_met : Held → Held × Outcome) → AllPlain id acc c → ((a : Rule) → o ≡ Some a → IsPlainRule id acc a)
    → ((g : Held) → next_fault g ≡ [] → HasValue id acc g.rows → HasValue id acc (next_met g).0.rows)
    → short_fault c false o rest h next_fault ≡ [] → HasValue id acc h.rows → HasValue id acc (short_met c o rest h next_met).0.rows
short_passes id acc c None rest h next_fault next_met all is more none good = absurd (cc)
short_passes id acc c (Some a) rest h next_fault next_met all is more none good = short_by id acc c a rest h (takes_values a) next_fault next_met all (is a refl) more none good

bundle_by : (id : Text) (acc : Text → Bool) (c : List Rule) (k : ℕ) (o : Option ℕ) (flags : Text) (skip : ℕ) (so_far : Outcome) (h : Held) → AllPlain id acc c
    → ((flags : Text) (skip : ℕ) (so_far : Outcome) (g : Held) → flags_fault c false k flags skip g ≡ [] → HasValue id acc g.rows → HasValue id acc (bundle_met c k flags skip so_far g).0.rows)
    → bundle_step_fault c false o flags skip h (flags_fault c false k) ≡ [] → HasValue id acc h.rows → HasValue id acc (bundle_step c o flags skip so_far h (bundle_met c k)).0.rows
bundle_by id acc c k None flags skip so_far h all more none good = good
bundle_by id acc c k (Some x) flags zero so_far h all more none good =
    let rest = drop (length (encode_utf8 x)) flags in
    short_passes id acc c (arg_by_short c x) rest h (flags_fault c false k rest 0) (bundle_met c k rest 0 done) all (λ a e. find_passes (IsPlainRule id acc) _ c a all e) (λ g. more rest 0 done g) none good
bundle_by id acc c k (Some x) flags (suc skip) so_far h all more none good = more (drop (length (encode_utf8 x)) flags) skip so_far h none good

bundle_passes : (id : Text) (acc : Text → Bool) (c : List Rule) (k : ℕ) (flags : Text) (skip : ℕ) (so_far : Outcome) (h : Held) → AllPlain id acc c → flags_fault c false k flags skip h ≡ [] → HasValue id acc h.rows → HasValue id acc (bundle_met c k flags skip so_far h).0.rows
unfolding flags_fault bundle_met
bundle_passes id acc c zero flags skip so_far h all none good = good
bundle_passes id acc c (suc k) flags skip so_far h all none good =
    bundle_by id acc c k (slice_get (chars flags) 0) flags skip so_far h all (λ f s o g. bundle_passes id acc c k f s o g all) none good

-- ---- a word

-- the rows of a word that waits for nothing new
plain_rows : (id : Text) (acc : Text → Bool) (c : List Rule) (waiting : Waiting) (word : Text) (h : Held) → HasValue id acc h.rows → HasValue id acc (plain_word c waiting word h).0.rows
plain_rows id acc c idle word h good = good
plain_rows id acc c (option o) word h good = option_rows (arg_by_id c o)
  where
    option_rows : (r : Option Rule) → HasValue id acc (option_word r o word h).0.rows
    option_rows None = good
    option_rows (Some a) = good
plain_rows id acc c positional word h good = good

flag_rows : (id : Text) (acc : Text → Bool) (c : List Rule) (waiting : Waiting) (word : Text) (h : Held) (o : Outcome) → HasValue id acc h.rows → HasValue id acc (after_flag c waiting word h o).0.rows
flag_rows id acc c waiting word h done good = good
flag_rows id acc c waiting word h (waits i) good = good
flag_rows id acc c waiting word h plain good = plain_rows id acc c waiting word h good
flag_rows id acc c waiting word h refused good = plain_rows id acc c waiting word h good

short_word_passes : (id : Text) (acc : Text → Bool) (c : List Rule) (waiting : Waiting) (word : Text) (o : Option Text) (h : Held) → AllPlain id acc c
    → option_map_or (λ flags. bundle_fault c false flags h) o [] ≡ [] → HasValue id acc h.rows → HasValue id acc (short_or_plain c waiting word o h).0.rows
short_word_passes id acc c waiting word None h all none good = plain_rows id acc c waiting word h good
short_word_passes id acc c waiting word (Some flags) h all none good =
    flag_rows id acc c waiting word (bundle c flags h).0 (bundle c flags h).1 (bundle_passes id acc c (length flags) flags h.skip plain (record h { skip = 0 }) all none good)

flag_word_passes : (id : Text) (acc : Text → Bool) (c : List Rule) (waiting : Waiting) (word : Text) (o : Option (Text × Option Text)) (h : Held) → AllPlain id acc c
    → flag_word_fault c false o word h ≡ [] → HasValue id acc h.rows → HasValue id acc (long_or_other c waiting word o h).0.rows
flag_word_passes id acc c waiting word (Some p) h all none good =
    flag_rows id acc c waiting word _ _ (long_passes id acc c (arg_by_long c p.0) p.1 h all (λ a e. find_passes (IsPlainRule id acc) _ c a all e) none good)
flag_word_passes id acc c waiting word None h all none good = short_word_passes id acc c waiting word (short_of word) h all none good

other_by : (id : Text) (acc : Text → Bool) (c : List Rule) (waiting : Waiting) (position : ℕ) (word : Text) (h : Held) (t : Bool) → AllPlain id acc c
    → cond t [] (flag_word_fault c false (long_of word) word h) ≡ [] → HasValue id acc h.rows → HasValue id acc (cond t (h, trailing position) (long_or_other c waiting word (long_of word) h)).0.rows
other_by id acc c waiting position word h true all none good = good
other_by id acc c waiting position word h false all none good = flag_word_passes id acc c waiting word (long_of word) h all none good

no_subcommand : (waiting : Waiting) (word : Text) → subcommand_met [] waiting word ≡ None
no_subcommand idle word = refl
no_subcommand (option o) word = refl
no_subcommand positional word = refl

-- one word more

abbrev IsOpen : Walk → Type 0
IsOpen w = w.stopped ≡ None

pub word_passes : (id : Text) (acc : Text → Bool) (s : Shape) (is_trailing : Bool) (waiting : Waiting) (position : ℕ) (word : Text) (h : Held) → s.args_override_self ≡ false → AllPlain id acc s.rules
    → word_fault s [] is_trailing waiting word h ≡ [] → HasValue id acc h.rows → HasValue id acc (word_met s.rules [] is_trailing waiting position word h).0.rows
word_passes id acc s true waiting position word h single all none good = good
word_passes id acc s false waiting position word h single all none good =
    let met : other_fault s None word h ≡ [] = ap (λ n. other_fault s n word h) (sym (no_subcommand waiting word)) ∙ none in
    let same : cond (bytes_eq word (45 ∷ 45 ∷ [])) [] (flag_word_fault s.rules false (long_of word) word h) ≡ [] =
    ap (λ b. cond (bytes_eq word (45 ∷ 45 ∷ [])) [] (flag_word_fault s.rules b (long_of word) word h)) (sym single) ∙ met in
    subst (λ n. HasValue id acc (subcommand_or_other s.rules n waiting position word h).0.rows) (sym (no_subcommand waiting word))
    (other_by id acc s.rules waiting position word h (bytes_eq word (45 ∷ 45 ∷ [])) all same good)

positional_by : (id : Text) (acc : Text → Bool) (c : List Rule) (h : Held) (t : Bool) → AllPlain id acc c → cond t [] (settle_fault c false h) ≡ [] → HasValue id acc h.rows → HasValue id acc (cond t h (settled c h)).rows
positional_by id acc c h true all none good = good
positional_by id acc c h false all none good = settled_passes id acc c h all none good

stray_some : (s : Shape) (t : Bool) (k l : ErrorKind) → cond t (k ∷ []) (k ∷ l ∷ []) ≡ [] → ⊥
stray_some s true k l e = cc
stray_some s false k l e = cc

to_positional_passes : (id : Text) (acc : Text → Bool) (s : Shape) (o : Option Rule) (word : Text) (w : Walk) (h : Held) → s.args_override_self ≡ false → AllPlain id acc s.rules
    → option_map_or (λ a. positional_fault s.rules s.args_override_self a h) o (stray_fault s) ≡ [] → HasValue id acc h.rows → HasValue id acc (to_positional s.rules o word w h).held.rows
to_positional_passes id acc s None word w h single all none good = absurd (stray_some s s.is_leaf _ _ none)
to_positional_passes id acc s (Some a) word w h single all none good =
    positional_by id acc s.rules h (is_pending a h.pending && takes_several a) all (ap (λ b. positional_fault s.rules b a h) (sym single) ∙ none) good

pub step_passes : (id : Text) (acc : Text → Bool) (s : Shape) (word : Text) (w : Walk) (h : Held) (o : Step) → s.args_override_self ≡ false → AllPlain id acc s.rules
    → step_fault s w.position h o ≡ [] → HasValue id acc h.rows → HasValue id acc (after_step s.rules word w h o).held.rows
step_passes id acc s word w h (next waiting) single all none good = good
step_passes id acc s word w h (trailing p) single all none good = good
step_passes id acc s word w h (subcommand n) single all none good = good
step_passes id acc s word w h value single all none good = to_positional_passes id acc s (arg_by_index s.rules w.position) word w h single all none good
