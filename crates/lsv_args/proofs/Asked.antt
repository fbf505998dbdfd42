-- Words that clap doesn't refuse ask for something.
use Rattle.std.proofs.Common.{◌≡◌, ◌∙◌, ◌<◌, ◌≤◌, ◌^◌, IfSome, unwrap_or, ◌&&◌, ◌||◌, ℕ, Bool, true, false, not, cond, List, [], ◌∷◌, Option, Some, None, find, fold, is_some, codes, option_map, refl, sym, ap, ap₂, subst, arith}
use Rattle.std.specs.Option.{option_and_then, option_map_or}
use Rattle.std.specs.Prelude.{slice_get}
use Rattle.std.specs.Str.{bytes_eq}
use Rattle.std.specs.Prelude.{Box}
use Rattle.std.specs.Box.{box_value}
use Rattle.clap.specs.Matches.{found_of}
use Rattle.clap.specs.declared.parser.matches.SubCommand.{SubCommand}
use Rattle.clap.specs.declared.parser.matches.ArgMatches.TheViews.{out-SubCommand}
use Rattle.clap.specs.Walk.{rows_of}
use Rattle.clap.specs.Faults.{check_fault, defaults_fault, entered_fault, fault_of, level_fault, settle_fault, step_fault, turn_fault, walk_fault, word_fault}
use Rattle.clap.specs.Facts.{explicit_source}
use Rattle.clap.specs.Kinds.{check_kinds, or_else}
use Rattle.clap.specs.Simple.{App, Shape, built, built_leaf, entered, inherited, label_of, marked_built, names_of, on_top, with_leaf_noted, rows_at, subcommand_rows}
use Rattle.clap.specs.Takes.{is_given}
use Rattle.clap.specs.ValueTests.{accepts}
use Rattle.clap.specs.Walk.{answers_to, Row, Rule, Text, Walk, default_rows, finished, first_of, has_row, nothing_held, rows_after, reading_by, settled, walk, walk_from, walked, walked_from, with_default, word_met}
use Rattle.lsv_args.specs.Commands.{check, commands, from_to, load, most_lanes, most_workers, once, relay, serve}
use Rattle.lsv_args.proofs.Numbers.{number_accepted}
use Rattle.lsv_args.specs.Reading.{Asked, HasRanges, IsInRange, number_of, asked, asked_by, number, number_in, options_of, Once, Serve, Load, Relay, Check}
use Rattle.lsv_args.proofs.Walks.{AllPlain, HasValue, IsPlainRule, both_none, settled_passes, step_passes, word_passes}

turn_by : (id : Text) (acc : Text → Bool) (s : Shape) (w : Walk) (word : Text) (o : Option (Text × List Text)) → s.args_override_self ≡ false → AllPlain id acc s.rules
    → cond (is_some o) [] (or_else (word_fault s [] w.is_trailing w.waiting word w.held) (step_fault s w.position (word_met s.rules [] w.is_trailing w.waiting w.position word w.held).0 (word_met s.rules [] w.is_trailing w.waiting w.position word w.held).1)) ≡ []
    → HasValue id acc w.held.rows → HasValue id acc (walked_from s.rules [] o w word).held.rows
turn_by id acc s w word (Some p) single all none good = good
turn_by id acc s w word None single all none good =
    let parts = both_none _ _ none in
    step_passes id acc s word w _ _ single all parts.1 (word_passes id acc s w.is_trailing w.waiting w.position word w.held single all parts.0 good)

walk_passes : (id : Text) (acc : Text → Bool) (s : Shape) (words : List Text) (w : Walk) → s.args_override_self ≡ false → AllPlain id acc s.rules → walk_fault s [] w words ≡ [] → HasValue id acc w.held.rows → HasValue id acc (fold (walked s.rules []) w words).held.rows
unfolding walk_fault walked
walk_passes id acc s [] w single all none good = good
walk_passes id acc s (word ∷ words) w single all none good =
    let parts = both_none (turn_fault s [] w word) (walk_fault s [] (walked s.rules [] w word) words) none in
    walk_passes id acc s words (walked s.rules [] w word) single all parts.1 (turn_by id acc s w word w.stopped single all parts.0 good)

default_none : (id : Text) (acc : Text → Bool) (rows : List Row) (a : Rule) (t : Bool) → IsPlainRule id acc a → cond t rows (default_rows a.id (reading_by a) a.defaults rows) ≡ rows
default_none id acc rows a true is = refl
default_none id acc rows a false is = ap (λ ds. default_rows a.id (reading_by a) ds rows) is.defaults

pub defaults_none : (id : Text) (acc : Text → Bool) (rows : List Row) (c : List Rule) → AllPlain id acc c → fold with_default rows c ≡ rows
defaults_none id acc rows [] all = refl
defaults_none id acc rows (a ∷ c) all = ap (λ rs. fold with_default rs c) (default_none id acc rows a (has_row a.id rows) all.0) ∙ defaults_none id acc rows c all.1

-- a level that is taken has values that pass
level_passes : (id : Text) (acc : Text → Bool) (s : Shape) (words : List Text) → s.args_override_self ≡ false → AllPlain id acc s.rules → level_fault s [] nothing_held words false [] ≡ []
    → HasValue id acc (finished s.rules (walk s.rules [] nothing_held words).held) × (check_fault s (finished s.rules (walk s.rules [] nothing_held words).held) false ≡ [])
level_passes id acc s words single all none =
    let end = (walk s.rules [] nothing_held words).held in
    let first = both_none (walk_fault s [] (walk_from nothing_held) words) _ none in
    let settle = both_none (settle_fault s.rules s.args_override_self end) _ first.1 in
    let rest = both_none (defaults_fault (settled s.rules end).rows s.rules) _ settle.1 in
    let walked_good : HasValue id acc end.rows = walk_passes id acc s words (walk_from nothing_held) single all first.0 (λ r e. absurd (cc)) in
    let settled_good = settled_passes id acc s.rules end all (ap (λ b. settle_fault s.rules b end) (sym single) ∙ settle.0) walked_good in
    (subst (HasValue id acc) (sym (defaults_none id acc (settled s.rules end).rows s.rules all)) settled_good, rest.1)

-- ---- the commands of the program

-- a command of this shape asks for something where its words are taken
abbrev Asks : Shape → List Text → Type 0
Asks s words = level_fault s [] nothing_held words false [] ≡ [] → (x : Asked) × (asked_by s.name (rows_after s.rules [] words) ≡ Some x) × IsInRange x

abbrev sub_of : Bool → Bool → Bool → Bool → Bool → Shape → Shape → Shape → Shape → Shape → Option Shape
sub_of t u v w x a b c d e = cond t (Some a) (cond u (Some b) (cond v (Some c) (cond w (Some d) (cond x (Some e) None))))

by_sub : (t u v w x : Bool) (a b c d e : Shape) (words : List Text) → Asks a words → Asks b words → Asks c words → Asks d words → Asks e words
    → is_some (option_map (λ s. rows_at s words) (sub_of t u v w x a b c d e)) ≡ true → option_map_or (λ s. level_fault s [] nothing_held words false []) (sub_of t u v w x a b c d e) [] ≡ []
    → (y : Asked) × (option_and_then (λ (s : Text × List Row). asked_by s.0 s.1) (option_map (λ s. rows_at s words) (sub_of t u v w x a b c d e)) ≡ Some y) × IsInRange y
by_sub true u v w x a b c d e words f g h i j some none = f none
by_sub false true v w x a b c d e words f g h i j some none = g none
by_sub false false true w x a b c d e words f g h i j some none = h none
by_sub false false false true x a b c d e words f g h i j some none = i none
by_sub false false false false true a b c d e words f g h i j some none = j none
by_sub false false false false false a b c d e words f g h i j some none = absurd (cc)

given_by : (t : Bool) → check_kinds false false (true && (false || ((true && not t) || false))) ≡ [] → t ≡ true
given_by true e = refl
given_by false e = absurd (cc)

-- an argument that is given has its value
given_value : (id : Text) (acc : Text → Bool) (rows : List Row) (o : Option Row) → find (λ x. bytes_eq x.id id) rows ≡ o → option_map_or (λ r. explicit_source r.source) o false ≡ true → HasValue id acc rows → (v : Text) × (first_of id rows ≡ Some v) × (acc v ≡ true)
given_value id acc rows None e given good = absurd (cc)
given_value id acc rows (Some r) e given good =
    let v = good r e in
    (v.0, ap (option_and_then (λ (x : Row). slice_get x.values 0)) e ∙ v.1, v.2)

pub load_count : Text → Bool
load_count = accepts false (from_to 1 10000)

counted : (rows : List Row) (v : Text) (n : ℕ) → first_of (codes "count") rows ≡ Some v → number_in v ≡ Some n → number rows "count" ≡ Some n
counted rows v n e f = ap (option_and_then number_in) e ∙ f

abbrev pub above : Shape
above = (on_top with_leaf_noted (on_top marked_built commands)).top

-- a subcommand as building leaves it
abbrev pub made : App → Shape
made a = built_leaf (inherited above a.top)

pub lanes_value : Text → Bool
lanes_value = accepts false (from_to 1 most_lanes)

workers_value : Text → Bool
workers_value = accepts false (from_to 1 most_workers)

stop_value : Text → Bool
stop_value = accepts false (from_to 1 4294967295)

-- the number of an argument, where there is one, is in its range
number_ranges : (low high : ℕ) (id : Text) (rows : List Row) (o : Option Row) → 1 ≤ low → high < 2 ^ 32 → find (λ x. bytes_eq x.id id) rows ≡ o → HasValue id (accepts false (from_to low high)) rows
    → IfSome (option_and_then number_in (option_and_then (λ (r : Row). slice_get r.values 0) o)) (λ n. (low ≤ n) × (n ≤ high))
number_ranges low high id rows None some fits e good = tt
number_ranges low high id rows (Some r) some fits e good =
    let v = good r e in
    let n = number_accepted low high v.0 some fits v.2 in
    subst (λ (o : Option ℕ). IfSome o (λ n. (low ≤ n) × (n ≤ high))) (sym (ap (option_and_then number_in) v.1 ∙ n.1)) (n.2, n.3)

number_in_range : (low high : ℕ) (id : Text) (rows : List Row) → 1 ≤ low → high < 2 ^ 32 → HasValue id (accepts false (from_to low high)) rows → IfSome (number_of rows id) (λ n. (low ≤ n) × (n ≤ high))
number_in_range low high id rows some fits good = number_ranges low high id rows (find (λ x. bytes_eq x.id id) rows) some fits refl good

lanes_within : (o : Option ℕ) → IfSome o (λ n. (1 ≤ n) × (n ≤ most_lanes)) → (1 ≤ unwrap_or o 1) × (unwrap_or o 1 ≤ most_lanes)
lanes_within None h = (omega arith, omega arith)
lanes_within (Some n) h = h

workers_within : (o : Option ℕ) → IfSome o (λ n. (1 ≤ n) × (n ≤ most_workers)) → (1 ≤ unwrap_or o 4) × (unwrap_or o 4 ≤ most_workers)
workers_within None h = (omega arith, omega arith)
workers_within (Some n) h = h

stop_within : (o : Option ℕ) → IfSome o (λ n. (1 ≤ n) × (n ≤ 4294967295)) → IfSome o (λ n. 1 ≤ n)
stop_within None h = tt
stop_within (Some n) h = h.0

in_ranges : (rows : List Row) → HasValue (codes "lanes") lanes_value rows → HasValue (codes "workers") workers_value rows → HasValue (codes "stop-after") stop_value rows → HasRanges (options_of rows)
unfolding lanes_value workers_value stop_value
in_ranges rows lanes_good workers_good stop_good =
    let l = lanes_within (number_of rows (codes "lanes")) (number_in_range 1 most_lanes (codes "lanes") rows (omega arith) (omega arith) lanes_good) in
    let w = workers_within (number_of rows (codes "workers")) (number_in_range 1 most_workers (codes "workers") rows (omega arith) (omega arith) workers_good) in
    record {
      least_lanes = l.0;
      most_lanes = l.1;
      least_workers = w.0;
      most_workers = w.1;
      stop_after = stop_within (number_of rows (codes "stop-after")) (number_in_range 1 4294967295 (codes "stop-after") rows (omega arith) (omega arith) stop_good);
    }

-- the rules of a command are plain for each number of `serve`
record ArePlain (s : Shape) : Type 0 where
  lanes : AllPlain (codes "lanes") lanes_value s.rules
  workers : AllPlain (codes "workers") workers_value s.rules
  stop : AllPlain (codes "stop-after") stop_value s.rules

ranges_of : (s : Shape) (words : List Text) → s.args_override_self ≡ false → ArePlain s → level_fault s [] nothing_held words false [] ≡ [] → HasRanges (options_of (rows_after s.rules [] words))
ranges_of s words single plain none =
    in_ranges (rows_after s.rules [] words) (level_passes (codes "lanes") lanes_value s words single plain.lanes none).0 (level_passes (codes "workers") workers_value s words single plain.workers none).0
    (level_passes (codes "stop-after") stop_value s words single plain.stop none).0

pub once_lanes : AllPlain (codes "lanes") lanes_value (made once).rules
once_lanes = (record { sets = refl; one = refl; passes = λ e v. absurd (cc); defaults = refl }, tt)

once_workers : AllPlain (codes "workers") workers_value (made once).rules
once_workers = (record { sets = refl; one = refl; passes = λ e v. absurd (cc); defaults = refl }, tt)

once_stop : AllPlain (codes "stop-after") stop_value (made once).rules
once_stop = (record { sets = refl; one = refl; passes = λ e v. absurd (cc); defaults = refl }, tt)

pub serve_lanes : AllPlain (codes "lanes") lanes_value (made serve).rules
unfolding lanes_value
serve_lanes = (record { sets = refl; one = refl; passes = λ e v. absurd (cc); defaults = refl }, (record { sets = refl; one = refl; passes = λ e v. refl; defaults = refl }, (record { sets = refl; one = refl; passes = λ e v. absurd (cc); defaults = refl }, (record { sets = refl; one = refl; passes = λ e v. absurd (cc); defaults = refl }, tt))))

serve_workers : AllPlain (codes "workers") workers_value (made serve).rules
unfolding workers_value
serve_workers = (record { sets = refl; one = refl; passes = λ e v. absurd (cc); defaults = refl }, (record { sets = refl; one = refl; passes = λ e v. absurd (cc); defaults = refl }, (record { sets = refl; one = refl; passes = λ e v. refl; defaults = refl }, (record { sets = refl; one = refl; passes = λ e v. absurd (cc); defaults = refl }, tt))))

serve_stop : AllPlain (codes "stop-after") stop_value (made serve).rules
unfolding stop_value
serve_stop = (record { sets = refl; one = refl; passes = λ e v. absurd (cc); defaults = refl }, (record { sets = refl; one = refl; passes = λ e v. absurd (cc); defaults = refl }, (record { sets = refl; one = refl; passes = λ e v. absurd (cc); defaults = refl }, (record { sets = refl; one = refl; passes = λ e v. refl; defaults = refl }, tt))))

pub load_lanes : AllPlain (codes "lanes") lanes_value (made load).rules
load_lanes = (record { sets = refl; one = refl; passes = λ e v. absurd (cc); defaults = refl }, (record { sets = refl; one = refl; passes = λ e v. absurd (cc); defaults = refl }, tt))

load_workers : AllPlain (codes "workers") workers_value (made load).rules
load_workers = (record { sets = refl; one = refl; passes = λ e v. absurd (cc); defaults = refl }, (record { sets = refl; one = refl; passes = λ e v. absurd (cc); defaults = refl }, tt))

load_stop : AllPlain (codes "stop-after") stop_value (made load).rules
load_stop = (record { sets = refl; one = refl; passes = λ e v. absurd (cc); defaults = refl }, (record { sets = refl; one = refl; passes = λ e v. absurd (cc); defaults = refl }, tt))

pub relay_lanes : AllPlain (codes "lanes") lanes_value (made relay).rules
relay_lanes = (record { sets = refl; one = refl; passes = λ e v. absurd (cc); defaults = refl }, tt)

relay_workers : AllPlain (codes "workers") workers_value (made relay).rules
relay_workers = (record { sets = refl; one = refl; passes = λ e v. absurd (cc); defaults = refl }, tt)

relay_stop : AllPlain (codes "stop-after") stop_value (made relay).rules
relay_stop = (record { sets = refl; one = refl; passes = λ e v. absurd (cc); defaults = refl }, tt)

pub check_lanes : AllPlain (codes "lanes") lanes_value (made check).rules
check_lanes = (record { sets = refl; one = refl; passes = λ e v. absurd (cc); defaults = refl }, tt)

check_workers : AllPlain (codes "workers") workers_value (made check).rules
check_workers = (record { sets = refl; one = refl; passes = λ e v. absurd (cc); defaults = refl }, tt)

check_stop : AllPlain (codes "stop-after") stop_value (made check).rules
check_stop = (record { sets = refl; one = refl; passes = λ e v. absurd (cc); defaults = refl }, tt)

asks_once : (words : List Text) → Asks (made once) words
asks_once words none =
    (Once (options_of (rows_after (made once).rules [] words)), refl, ranges_of (made once) words refl (record { lanes = once_lanes; workers = once_workers; stop = once_stop }) none)

asks_serve : (words : List Text) → Asks (made serve) words
asks_serve words none =
    (Serve (options_of (rows_after (made serve).rules [] words)), refl, ranges_of (made serve) words refl (record { lanes = serve_lanes; workers = serve_workers; stop = serve_stop }) none)

asks_relay : (words : List Text) → Asks (made relay) words
asks_relay words none =
    (Relay (options_of (rows_after (made relay).rules [] words)), refl, ranges_of (made relay) words refl (record { lanes = relay_lanes; workers = relay_workers; stop = relay_stop }) none)

asks_check : (words : List Text) → Asks (made check) words
asks_check words none =
    (Check (options_of (rows_after (made check).rules [] words)), refl, ranges_of (made check) words refl (record { lanes = check_lanes; workers = check_workers; stop = check_stop }) none)

pub load_plain : AllPlain (codes "count") load_count (made load).rules
unfolding load_count
load_plain = (record { sets = refl; one = refl; passes = λ e v. absurd (cc); defaults = refl }, (record { sets = refl; one = refl; passes = λ e v. refl; defaults = refl }, tt))

asks_load : (words : List Text) → Asks (made load) words
unfolding load_count
asks_load words none =
    let rows = rows_after (made load).rules [] words in
    let level = level_passes (codes "count") load_count (made load) words refl load_plain none in
    let given = given_by (is_given (codes "count") rows) level.1 in
    let v = given_value (codes "count") load_count rows _ refl given level.0 in
    let n = number_accepted 1 10000 v.0 (omega arith) (omega arith) v.2 in
    (Load (options_of rows) n.0, ap (option_map (Load (options_of rows))) (counted rows v.0 n.0 v.1 n.1), (ranges_of (made load) words refl (record { lanes = load_lanes; workers = load_workers; stop = load_stop }) none, n.2, n.3))

stop_some : (stop : Option (Text × List Text)) → is_some (entered (built commands) stop) ≡ true → entered_fault (built commands) stop ≡ [] → (x : Asked) × (option_and_then (λ (s : Text × List Row). asked_by s.0 s.1) (entered (built commands) stop) ≡ Some x) × IsInRange x
stop_some None some none = absurd (cc)
stop_some (Some p) some none =
    by_sub (answers_to p.0 (label_of (made once))) (answers_to p.0 (label_of (made serve))) (answers_to p.0 (label_of (made load))) (answers_to p.0 (label_of (made relay))) (answers_to p.0 (label_of (made check)))
    (made once) (made serve) (made load) (made relay) (made check) p.1 (asks_once p.1) (asks_serve p.1) (asks_load p.1) (asks_relay p.1) (asks_check p.1) some none

-- the last check is of the subcommand alone
sub_wanted : (t : Bool) → check_kinds (not t && false) (not t && true) (true && false) ≡ [] → t ≡ true
sub_wanted true e = refl
sub_wanted false e = absurd (cc)

-- words that clap takes ask for something
pub asked_where_taken : (words : List Text) → fault_of commands words ≡ [] → (x : Asked) × (asked words ≡ Some x) × IsInRange x
asked_where_taken words none =
    let a = built commands in
    let walked_to = walk a.top.rules (names_of a) nothing_held words in
    let first = both_none (walk_fault a.top (names_of a) (walk_from nothing_held) words) _ none in
    let below = both_none (entered_fault a walked_to.stopped) _ first.1 in
    let settle = both_none (settle_fault a.top.rules a.top.args_override_self walked_to.held) _ below.1 in
    let rest = both_none (defaults_fault (settled a.top.rules walked_to.held).rows a.top.rules) _ settle.1 in
    stop_some walked_to.stopped (sub_wanted (is_some (entered a walked_to.stopped)) rest.1) below.0

-- the name and the values of the subcommand that was found
pub found_is : {Z : Type 0} (o : Option (Box SubCommand Z)) (name : Text) (rows : List Row) → Some name ≡ option_map (λ b. (out-SubCommand (box_value b)).name.now) o
    → Some rows ≡ option_map (λ (p : Text × List Row). p.1) (subcommand_rows o) → subcommand_rows o ≡ Some (name, rows)
found_is None name rows n r = absurd (cc)
found_is (Some b) name rows n r =
    let n' : name ≡ (out-SubCommand (box_value b)).name.now = cc in
    let r' : rows ≡ rows_of (found_of (out-SubCommand (box_value b)).matches) = cc in
    ap₂ (λ (x : Text) (y : List Row). Some (x, y)) (sym n') (sym r')

pub none_found : {Z : Type 0} (o : Option (Box SubCommand Z)) → false ≡ is_some o → subcommand_rows o ≡ None
none_found None e = refl
none_found (Some b) e = absurd (cc)

-- words that ask for nothing are refused
pub refused_where_nothing : (words : List Text) → asked words ≡ None → fault_of commands words ≡ [] → ⊥
refused_where_nothing words nothing none = let some = asked_where_taken words none in some_not_none some.0 (sym some.1 ∙ nothing)
  where
    some_not_none : (x : Asked) → Some x ≡ None → ⊥
    some_not_none x e = cc

-- what words ask for that are taken is in its ranges
pub taken_in_range : (words : List Text) (x : Asked) → fault_of commands words ≡ [] → asked words ≡ Some x → IsInRange x
taken_in_range words x none is =
    let y = asked_where_taken words none in
    let same : y.0 ≡ x = some_same y.0 x (sym y.1 ∙ is) in
    subst IsInRange same y.2
  where
    some_same : (a b : Asked) → Some a ≡ Some b → a ≡ b
    some_same a b e = cc
