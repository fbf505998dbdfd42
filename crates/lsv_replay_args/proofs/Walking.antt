-- How options and further words are walked: each option that isn't given yet is taken, and each word.
use Rattle.std.proofs.Common.{◌≡◌, ◌∙◌, ◌&&◌, ◌==◌, ◌<◌, ◌^◌, ℕ, Bool, true, false, not, cond, List, [], ◌∷◌, ◌++◌, Option, Some, None, length, codes, fold, refl, ap, ap₂, arith, nat_lt}
use lib.Utf8.{encode}
use Rattle.std.specs.Option.{option_and_then, option_map_or}
use Rattle.std.specs.Str.{bytes_eq, chars}
use Rattle.std.proofs.lemmas.Bool.Decides.{nat_tests}
use Rattle.clap.specs.Faults.{bundle_fault, flag_word_fault, flags_fault, settle_fault, step_fault, turn_fault, use_fault, values_fault, walk_fault}
use Rattle.clap.specs.Kinds.{or_else, range_kinds}
use Rattle.clap.specs.Lexer.{long_of, long_of_rest, short_of, short_of_rest, strip_byte, usize_max}
use Rattle.clap.specs.Simple.{Shape, built, filled, with_index}
use Rattle.clap.specs.Walk.{Held, Row, Rule, Step, Text, Waiting, Walk, after_step, bundle_met, has_row, idle, long_or_other, option, plain_word, positional, reading_by, settled, settled_rows, short_or_plain, trailing, used, value as word_step, pushed, walked}
use Rattle.lsv_replay_args.specs.Forms.{Dir, Following, Further, Given, Listing, Longest, Speed, Streams, Suspended, Unused, is_value}
use Rattle.lsv_replay_args.specs.Program.{flag, program, value, words}
use Rattle.lsv_replay_args.proofs.Rows.{appended, given_row, put_fresh}

-- the program as building leaves it
abbrev pub ruled : Shape
ruled = (built program).top

-- ---- a value is no flag

no_dashes : (b : ℕ) (bytes : Text) → (b == 45) ≡ false → bytes_eq (b ∷ bytes) (45 ∷ 45 ∷ []) ≡ false
no_dashes b bytes e = ap (λ t. t && bytes_eq bytes (45 ∷ [])) e

no_long : (b : ℕ) (bytes : Text) → (b == 45) ≡ false → long_of (b ∷ bytes) ≡ None
no_long b bytes e = ap (λ (t : Bool). option_and_then long_of_rest (option_and_then (strip_byte 45) (cond t (Some bytes) None))) e

no_short : (b : ℕ) (bytes : Text) → (b == 45) ≡ false → short_of (b ∷ bytes) ≡ None
no_short b bytes e = ap (λ (t : Bool). option_and_then short_of_rest (cond t (Some bytes) None)) e

module _ (waiting : Waiting) (b : ℕ) (bytes : Text) (h : Held) (e : (b == 45) ≡ false) where
  read_by : cond (bytes_eq (b ∷ bytes) (45 ∷ 45 ∷ [])) (h, trailing 1) (long_or_other ruled.rules waiting (b ∷ bytes) (long_of (b ∷ bytes)) h) ≡ plain_word ruled.rules waiting (b ∷ bytes) h
  read_by =
      ap (λ (t : Bool). cond t (h, trailing 1) (long_or_other ruled.rules waiting (b ∷ bytes) (long_of (b ∷ bytes)) h)) (no_dashes b bytes e)
      ∙ ap (λ o. long_or_other ruled.rules waiting (b ∷ bytes) o h) (no_long b bytes e)
      ∙ ap (λ o. short_or_plain ruled.rules waiting (b ∷ bytes) o h) (no_short b bytes e)

  refused_by : cond (bytes_eq (b ∷ bytes) (45 ∷ 45 ∷ [])) [] (flag_word_fault ruled.rules false (long_of (b ∷ bytes)) (b ∷ bytes) h) ≡ []
  refused_by =
      ap (λ (t : Bool). cond t [] (flag_word_fault ruled.rules false (long_of (b ∷ bytes)) (b ∷ bytes) h)) (no_dashes b bytes e)
      ∙ ap (λ o. flag_word_fault ruled.rules false o (b ∷ bytes) h) (no_long b bytes e)
      ∙ ap (λ (o : Option Text). option_map_or (λ flags. bundle_fault ruled.rules false flags h) o []) (no_short b bytes e)

-- ---- where the walk stands between two options or words

-- what is held if no flag is read
abbrev pub held : List Row → Option (Text × List Text) → Held
held rows pending = record { rows = rows; pending = pending; skip = 0 }

-- a further word was the last, or something else
abbrev pub waits : Bool → Waiting
waits true = positional
waits false = idle

abbrev pub at : List Row → Option (Text × List Text) → Bool → Walk
at rows pending behind_word = record { held = held rows pending; waiting = waits behind_word; position = 1; is_trailing = false; stopped = None }

-- after the name of an option
abbrev behind : List Row → Text → Walk
behind rows id = record { held = held rows (Some (id, [])); waiting = option id; position = 1; is_trailing = false; stopped = None }

-- what a walk comes to that has no fault and finds these rows
pub record Taken (w : Walk) (words : List Text) (rows : List Row) : Type 0 where
  pub no_fault : walk_fault ruled [] w words ≡ []
  pub settles : settle_fault ruled.rules false (fold (walked ruled.rules []) w words).held ≡ []
  pub found : (settled ruled.rules (fold (walked ruled.rules []) w words).held).rows ≡ rows

-- a word in front that has no fault
word_taken : (w next : Walk) (word : Text) (rest : List Text) (all : List Row) → turn_fault ruled [] w word ≡ [] → walked ruled.rules [] w word ≡ next → Taken next rest all → Taken w (word ∷ rest) all
unfolding walk_fault
word_taken w next word rest all none to t = record {
  no_fault = ap₂ or_else none (ap (λ w. walk_fault ruled [] w rest) to ∙ t.no_fault);
  settles = ap (λ (w : Walk). settle_fault ruled.rules false (fold (walked ruled.rules []) w rest).held) to ∙ t.settles;
  found = ap (λ (w : Walk). (settled ruled.rules (fold (walked ruled.rules []) w rest).held).rows) to ∙ t.found;
}

-- ---- options with a value

-- a name and a value, as the walk reads them if the option isn't given yet
pub record Reads (a : Rule) (name v : Text) : Type 0 where
  pub named : (rows : List Row) (pending : Option (Text × List Text)) (w : Bool) → walked ruled.rules [] (at rows pending w) name ≡ behind (settled_rows ruled.rules pending rows) a.id
  pub named_fault : (rows : List Row) (pending : Option (Text × List Text)) (w : Bool) → turn_fault ruled [] (at rows pending w) name ≡ or_else (settle_fault ruled.rules false (held rows pending)) []
  pub valued : (rows : List Row) → walked ruled.rules [] (behind rows a.id) v ≡ at rows (Some (a.id, v ∷ [])) false
  pub valued_fault : (rows : List Row) → turn_fault ruled [] (behind rows a.id) v ≡ []
  pub settles : (rows : List Row) → has_row a.id rows ≡ false → settle_fault ruled.rules false (held rows (Some (a.id, v ∷ []))) ≡ []
  pub adds : (rows : List Row) → has_row a.id rows ≡ false → settled_rows ruled.rules (Some (a.id, v ∷ [])) rows ≡ rows ++ given_row a.id (reading_by a) (v ∷ []) ∷ []

-- an option in front
pub option_taken : (a : Rule) (name v : Text) → Reads a name v → (rows after : List Row) (pending : Option (Text × List Text)) (w : Bool) (rest : List Text) (all : List Row)
    → settle_fault ruled.rules false (held rows pending) ≡ [] → settled_rows ruled.rules pending rows ≡ after → Taken (at after (Some (a.id, v ∷ [])) false) rest all → Taken (at rows pending w) (name ∷ v ∷ rest) all
option_taken a name v reads rows after pending w rest all settle is t =
    word_taken (at rows pending w) (behind after a.id) name (v ∷ rest) all (reads.named_fault rows pending w ∙ ap (λ k. or_else k []) settle) (reads.named rows pending w ∙ ap (λ (rs : List Row). behind rs a.id) is)
    (word_taken (behind after a.id) (at after (Some (a.id, v ∷ [])) false) v rest all (reads.valued_fault after) (reads.valued after) t)

-- the walk over a value, if what it comes to is known
valued_as : (id : Text) (b : ℕ) (bytes : Text) → (b == 45) ≡ false
    → ((rows : List Row) → after_step ruled.rules (b ∷ bytes) (behind rows id) (plain_word ruled.rules (option id) (b ∷ bytes) (held rows (Some (id, [])))).0 (plain_word ruled.rules (option id) (b ∷ bytes) (held rows (Some (id, [])))).1 ≡ at rows (Some (id, (b ∷ bytes) ∷ [])) false)
    → (rows : List Row) → walked ruled.rules [] (behind rows id) (b ∷ bytes) ≡ at rows (Some (id, (b ∷ bytes) ∷ [])) false
unfolding walked
valued_as id b bytes e is rows =
    ap (λ (m : Held × Step). after_step ruled.rules (b ∷ bytes) (behind rows id) m.0 m.1) (read_by (option id) b bytes (held rows (Some (id, []))) e) ∙ is rows

-- no fault at a value
valued_none : (id : Text) (b : ℕ) (bytes : Text) → (b == 45) ≡ false → ((rows : List Row) → step_fault ruled 1 (plain_word ruled.rules (option id) (b ∷ bytes) (held rows (Some (id, [])))).0 (plain_word ruled.rules (option id) (b ∷ bytes) (held rows (Some (id, [])))).1 ≡ [])
    → (rows : List Row) → turn_fault ruled [] (behind rows id) (b ∷ bytes) ≡ []
valued_none id b bytes e is rows =
    ap₂ or_else (refused_by (option id) b bytes (held rows (Some (id, []))) e)
    (ap (λ (m : Held × Step). step_fault ruled 1 m.0 m.1) (read_by (option id) b bytes (held rows (Some (id, []))) e) ∙ is rows)

not_true : (t : Bool) → not t ≡ true → t ≡ false
not_true true e = absurd (cc)
not_true false e = refl

-- the argument of an option or of a word
abbrev pub rule_of : Given → Rule
rule_of (Dir v) = filled (value (codes "dir") 100)
rule_of (Streams v) = filled (value (codes "streams") 102)
rule_of (Longest v) = filled (value (codes "longest") 109)
rule_of (Speed v) = filled (value (codes "speed") 115)
rule_of Suspended = filled (flag (codes "suspended") 83)
rule_of Unused = filled (flag (codes "unused") 110)
rule_of Listing = filled (flag (codes "list") 108)
rule_of Following = filled (flag (codes "follow") 70)
rule_of (Further v) = with_index 1 (filled words)

-- the name of an option, as a word
abbrev pub name_of : Given → Text
name_of (Dir v) = codes "-d"
name_of (Streams v) = codes "-f"
name_of (Longest v) = codes "-m"
name_of (Speed v) = codes "-s"
name_of Suspended = codes "-S"
name_of Unused = codes "-n"
name_of Listing = codes "-l"
name_of Following = codes "-F"
name_of (Further v) = []

dir_named : (rows : List Row) (pending : Option (Text × List Text)) (w : Bool) → walked ruled.rules [] (at rows pending w) (codes "-d") ≡ behind (settled_rows ruled.rules pending rows) (codes "dir")
unfolding walked bundle_met chars encode
dir_named rows pending true = refl
dir_named rows pending false = refl

dir_fault : (rows : List Row) (pending : Option (Text × List Text)) (w : Bool) → turn_fault ruled [] (at rows pending w) (codes "-d") ≡ or_else (settle_fault ruled.rules false (held rows pending)) []
unfolding bundle_met flags_fault chars encode
dir_fault rows pending true = refl
dir_fault rows pending false = refl

pub reads_dir : (v : Text) → is_value v ≡ true → Reads (rule_of (Dir v)) (codes "-d") v
reads_dir [] good = absurd (cc)
reads_dir (b ∷ bytes) good = let e = not_true (b == 45) good in record {
  named = dir_named;
  named_fault = dir_fault;
  valued = valued_as (codes "dir") b bytes e (λ rows. refl);
  valued_fault = valued_none (codes "dir") b bytes e (λ rows. refl);
  settles = λ rows fresh. rw fresh refl;
  adds = λ rows fresh. put_fresh (codes "dir") (reading_by (rule_of (Dir []))) ((b ∷ bytes) ∷ []) rows fresh;
}

streams_named : (rows : List Row) (pending : Option (Text × List Text)) (w : Bool) → walked ruled.rules [] (at rows pending w) (codes "-f") ≡ behind (settled_rows ruled.rules pending rows) (codes "streams")
unfolding walked bundle_met chars encode
streams_named rows pending true = refl
streams_named rows pending false = refl

streams_fault : (rows : List Row) (pending : Option (Text × List Text)) (w : Bool) → turn_fault ruled [] (at rows pending w) (codes "-f") ≡ or_else (settle_fault ruled.rules false (held rows pending)) []
unfolding bundle_met flags_fault chars encode
streams_fault rows pending true = refl
streams_fault rows pending false = refl

pub reads_streams : (v : Text) → is_value v ≡ true → Reads (rule_of (Streams v)) (codes "-f") v
reads_streams [] good = absurd (cc)
reads_streams (b ∷ bytes) good = let e = not_true (b == 45) good in record {
  named = streams_named;
  named_fault = streams_fault;
  valued = valued_as (codes "streams") b bytes e (λ rows. refl);
  valued_fault = valued_none (codes "streams") b bytes e (λ rows. refl);
  settles = λ rows fresh. rw fresh refl;
  adds = λ rows fresh. put_fresh (codes "streams") (reading_by (rule_of (Streams []))) ((b ∷ bytes) ∷ []) rows fresh;
}

longest_named : (rows : List Row) (pending : Option (Text × List Text)) (w : Bool) → walked ruled.rules [] (at rows pending w) (codes "-m") ≡ behind (settled_rows ruled.rules pending rows) (codes "longest")
unfolding walked bundle_met chars encode
longest_named rows pending true = refl
longest_named rows pending false = refl

longest_fault : (rows : List Row) (pending : Option (Text × List Text)) (w : Bool) → turn_fault ruled [] (at rows pending w) (codes "-m") ≡ or_else (settle_fault ruled.rules false (held rows pending)) []
unfolding bundle_met flags_fault chars encode
longest_fault rows pending true = refl
longest_fault rows pending false = refl

pub reads_longest : (v : Text) → is_value v ≡ true → Reads (rule_of (Longest v)) (codes "-m") v
reads_longest [] good = absurd (cc)
reads_longest (b ∷ bytes) good = let e = not_true (b == 45) good in record {
  named = longest_named;
  named_fault = longest_fault;
  valued = valued_as (codes "longest") b bytes e (λ rows. refl);
  valued_fault = valued_none (codes "longest") b bytes e (λ rows. refl);
  settles = λ rows fresh. rw fresh refl;
  adds = λ rows fresh. put_fresh (codes "longest") (reading_by (rule_of (Longest []))) ((b ∷ bytes) ∷ []) rows fresh;
}

speed_named : (rows : List Row) (pending : Option (Text × List Text)) (w : Bool) → walked ruled.rules [] (at rows pending w) (codes "-s") ≡ behind (settled_rows ruled.rules pending rows) (codes "speed")
unfolding walked bundle_met chars encode
speed_named rows pending true = refl
speed_named rows pending false = refl

speed_fault : (rows : List Row) (pending : Option (Text × List Text)) (w : Bool) → turn_fault ruled [] (at rows pending w) (codes "-s") ≡ or_else (settle_fault ruled.rules false (held rows pending)) []
unfolding bundle_met flags_fault chars encode
speed_fault rows pending true = refl
speed_fault rows pending false = refl

pub reads_speed : (v : Text) → is_value v ≡ true → Reads (rule_of (Speed v)) (codes "-s") v
reads_speed [] good = absurd (cc)
reads_speed (b ∷ bytes) good = let e = not_true (b == 45) good in record {
  named = speed_named;
  named_fault = speed_fault;
  valued = valued_as (codes "speed") b bytes e (λ rows. refl);
  valued_fault = valued_none (codes "speed") b bytes e (λ rows. refl);
  settles = λ rows fresh. rw fresh refl;
  adds = λ rows fresh. put_fresh (codes "speed") (reading_by (rule_of (Speed []))) ((b ∷ bytes) ∷ []) rows fresh;
}

-- ---- options without a value

-- a name, as the walk reads it if the option isn't given yet
pub record Sets (a : Rule) (name : Text) : Type 0 where
  pub named : (rows : List Row) (pending : Option (Text × List Text)) (w : Bool) → walked ruled.rules [] (at rows pending w) name ≡ at (used a [] (settled_rows ruled.rules pending rows)) None false
  pub named_fault : (rows : List Row) (pending : Option (Text × List Text)) (w : Bool) → turn_fault ruled [] (at rows pending w) name
      ≡ or_else (or_else (or_else (settle_fault ruled.rules false (held rows pending)) (use_fault false a [] (settled_rows ruled.rules pending rows))) []) []
  pub uses : (rows : List Row) → has_row a.id rows ≡ false → use_fault false a [] rows ≡ []
  pub adds : (rows : List Row) → has_row a.id rows ≡ false → used a [] rows ≡ rows ++ given_row a.id (reading_by a) (codes "true" ∷ []) ∷ []

-- an option without a value in front
pub flag_taken : (a : Rule) (name : Text) → Sets a name → (rows after : List Row) (pending : Option (Text × List Text)) (w : Bool) (rest : List Text) (all : List Row)
    → settle_fault ruled.rules false (held rows pending) ≡ [] → settled_rows ruled.rules pending rows ≡ after → has_row a.id after ≡ false
    → Taken (at (after ++ given_row a.id (reading_by a) (codes "true" ∷ []) ∷ []) None false) rest all → Taken (at rows pending w) (name ∷ rest) all
flag_taken a name sets rows after pending w rest all settle is fresh t =
    word_taken (at rows pending w) (at (after ++ given_row a.id (reading_by a) (codes "true" ∷ []) ∷ []) None false) name rest all
    (sets.named_fault rows pending w ∙ ap₂ (λ k l. or_else (or_else (or_else k l) []) []) settle (ap (use_fault false a []) is ∙ sets.uses after fresh))
    (sets.named rows pending w ∙ ap (λ (rs : List Row). at rs None false) (ap (used a []) is ∙ sets.adds after fresh)) t

suspended_named : (rows : List Row) (pending : Option (Text × List Text)) (w : Bool) → walked ruled.rules [] (at rows pending w) (codes "-S") ≡ at (used (rule_of Suspended) [] (settled_rows ruled.rules pending rows)) None false
unfolding walked bundle_met chars encode
suspended_named rows pending true = refl
suspended_named rows pending false = refl

suspended_fault : (rows : List Row) (pending : Option (Text × List Text)) (w : Bool) → turn_fault ruled [] (at rows pending w) (codes "-S")
    ≡ or_else (or_else (or_else (settle_fault ruled.rules false (held rows pending)) (use_fault false (rule_of Suspended) [] (settled_rows ruled.rules pending rows))) []) []
unfolding bundle_met flags_fault chars encode
suspended_fault rows pending true = refl
suspended_fault rows pending false = refl

pub sets_suspended : Sets (rule_of Suspended) (codes "-S")
sets_suspended = record {
  named = suspended_named;
  named_fault = suspended_fault;
  uses = λ rows fresh. rw fresh refl;
  adds = λ rows fresh. put_fresh (codes "suspended") (reading_by (rule_of Suspended)) (codes "true" ∷ []) rows fresh;
}

unused_named : (rows : List Row) (pending : Option (Text × List Text)) (w : Bool) → walked ruled.rules [] (at rows pending w) (codes "-n") ≡ at (used (rule_of Unused) [] (settled_rows ruled.rules pending rows)) None false
unfolding walked bundle_met chars encode
unused_named rows pending true = refl
unused_named rows pending false = refl

unused_fault : (rows : List Row) (pending : Option (Text × List Text)) (w : Bool) → turn_fault ruled [] (at rows pending w) (codes "-n")
    ≡ or_else (or_else (or_else (settle_fault ruled.rules false (held rows pending)) (use_fault false (rule_of Unused) [] (settled_rows ruled.rules pending rows))) []) []
unfolding bundle_met flags_fault chars encode
unused_fault rows pending true = refl
unused_fault rows pending false = refl

pub sets_unused : Sets (rule_of Unused) (codes "-n")
sets_unused = record {
  named = unused_named;
  named_fault = unused_fault;
  uses = λ rows fresh. rw fresh refl;
  adds = λ rows fresh. put_fresh (codes "unused") (reading_by (rule_of Unused)) (codes "true" ∷ []) rows fresh;
}

list_named : (rows : List Row) (pending : Option (Text × List Text)) (w : Bool) → walked ruled.rules [] (at rows pending w) (codes "-l") ≡ at (used (rule_of Listing) [] (settled_rows ruled.rules pending rows)) None false
unfolding walked bundle_met chars encode
list_named rows pending true = refl
list_named rows pending false = refl

list_fault : (rows : List Row) (pending : Option (Text × List Text)) (w : Bool) → turn_fault ruled [] (at rows pending w) (codes "-l")
    ≡ or_else (or_else (or_else (settle_fault ruled.rules false (held rows pending)) (use_fault false (rule_of Listing) [] (settled_rows ruled.rules pending rows))) []) []
unfolding bundle_met flags_fault chars encode
list_fault rows pending true = refl
list_fault rows pending false = refl

pub sets_list : Sets (rule_of Listing) (codes "-l")
sets_list = record {
  named = list_named;
  named_fault = list_fault;
  uses = λ rows fresh. rw fresh refl;
  adds = λ rows fresh. put_fresh (codes "list") (reading_by (rule_of Listing)) (codes "true" ∷ []) rows fresh;
}

follow_named : (rows : List Row) (pending : Option (Text × List Text)) (w : Bool) → walked ruled.rules [] (at rows pending w) (codes "-F") ≡ at (used (rule_of Following) [] (settled_rows ruled.rules pending rows)) None false
unfolding walked bundle_met chars encode
follow_named rows pending true = refl
follow_named rows pending false = refl

follow_fault : (rows : List Row) (pending : Option (Text × List Text)) (w : Bool) → turn_fault ruled [] (at rows pending w) (codes "-F")
    ≡ or_else (or_else (or_else (settle_fault ruled.rules false (held rows pending)) (use_fault false (rule_of Following) [] (settled_rows ruled.rules pending rows))) []) []
unfolding bundle_met flags_fault chars encode
follow_fault rows pending true = refl
follow_fault rows pending false = refl

pub sets_follow : Sets (rule_of Following) (codes "-F")
sets_follow = record {
  named = follow_named;
  named_fault = follow_fault;
  uses = λ rows fresh. rw fresh refl;
  adds = λ rows fresh. put_fresh (codes "follow") (reading_by (rule_of Following)) (codes "true" ∷ []) rows fresh;
}

-- ---- further words

abbrev pub word_rule : Rule
word_rule = rule_of (Further [])

-- this many values are wanted
enough : (n : ℕ) → 0 < n → n < 2 ^ 64 → range_kinds 1 usize_max n ≡ []
enough n some few =
    let a : (n == 0) ≡ false = grind (arith, nat_tests) in
    let b : nat_lt n 1 ≡ false = grind (arith, nat_tests) in
    let c : nat_lt usize_max n ≡ false = grind (arith, nat_tests) in
    rw (a, b, c) refl

any_values : (ws : List Text) → values_fault word_rule ws ≡ []
any_values [] = refl
any_values (w ∷ ws) = any_values ws

-- words that wait have no fault
pub words_settle : (w : Text) (ws : List Text) (rows : List Row) → length (w ∷ ws) < 2 ^ 64 → settle_fault ruled.rules false (held rows (Some (codes "words", w ∷ ws))) ≡ []
words_settle w ws rows few = ap₂ or_else (enough (length (w ∷ ws)) (omega arith) few) (any_values ws)

-- and stand after the words of their row
pub words_settled : (w : Text) (ws : List Text) (rows : List Row) → settled_rows ruled.rules (Some (codes "words", w ∷ ws)) rows ≡ appended (codes "words") (reading_by word_rule) (w ∷ ws) rows
words_settled w ws rows = refl

further_walked : (rows : List Row) (pending : Option (Text × List Text)) (waiting : Bool) (b : ℕ) (bytes : Text) → (b == 45) ≡ false
    → walked ruled.rules [] (at rows pending waiting) (b ∷ bytes) ≡ after_step ruled.rules (b ∷ bytes) (at rows pending waiting) (held rows pending) word_step
unfolding walked
further_walked rows pending true b bytes e = ap (λ (m : Held × Step). after_step ruled.rules (b ∷ bytes) (at rows pending true) m.0 m.1) (read_by positional b bytes (held rows pending) e)
further_walked rows pending false b bytes e = ap (λ (m : Held × Step). after_step ruled.rules (b ∷ bytes) (at rows pending false) m.0 m.1) (read_by idle b bytes (held rows pending) e)

further_fault : (rows : List Row) (pending : Option (Text × List Text)) (waiting : Bool) (b : ℕ) (bytes : Text) → (b == 45) ≡ false
    → turn_fault ruled [] (at rows pending waiting) (b ∷ bytes) ≡ step_fault ruled 1 (held rows pending) word_step
further_fault rows pending true b bytes e =
    ap₂ or_else (refused_by positional b bytes (held rows pending) e) (ap (λ (m : Held × Step). step_fault ruled 1 m.0 m.1) (read_by positional b bytes (held rows pending) e))
further_fault rows pending false b bytes e =
    ap₂ or_else (refused_by idle b bytes (held rows pending) e) (ap (λ (m : Held × Step). step_fault ruled 1 m.0 m.1) (read_by idle b bytes (held rows pending) e))

-- the walk after a word, if this is held before it
abbrev at_word : Held → Text → Walk
at_word h word = record { held = pushed (codes "words") word h; waiting = positional; position = 1; is_trailing = false; stopped = None }

-- a word in front, after another word
pub next_word_taken : (v : Text) → is_value v ≡ true → (ws : List Text) (rows : List Row) (rest : List Text) (all : List Row)
    → Taken (at rows (Some (codes "words", ws ++ v ∷ [])) true) rest all → Taken (at rows (Some (codes "words", ws)) true) (v ∷ rest) all
next_word_taken [] good ws rows rest all t = absurd (cc)
next_word_taken (b ∷ bytes) good ws rows rest all t =
    let e = not_true (b == 45) good in
    word_taken (at rows (Some (codes "words", ws)) true) (at rows (Some (codes "words", ws ++ (b ∷ bytes) ∷ [])) true) (b ∷ bytes) rest all
    (further_fault rows (Some (codes "words", ws)) true b bytes e) (further_walked rows (Some (codes "words", ws)) true b bytes e) t

-- a word in front, after nothing
pub first_word_taken : (v : Text) → is_value v ≡ true → (rows : List Row) (rest : List Text) (all : List Row)
    → Taken (at rows (Some (codes "words", v ∷ [])) true) rest all → Taken (at rows None false) (v ∷ rest) all
first_word_taken [] good rows rest all t = absurd (cc)
first_word_taken (b ∷ bytes) good rows rest all t =
    let e = not_true (b == 45) good in
    word_taken (at rows None false) (at rows (Some (codes "words", (b ∷ bytes) ∷ [])) true) (b ∷ bytes) rest all (further_fault rows None false b bytes e) (further_walked rows None false b bytes e) t

-- a word in front, after the value of an option
pub other_word_taken : (v : Text) → is_value v ≡ true → (id u : Text) → bytes_eq id (codes "words") ≡ false → (rows after : List Row) (rest : List Text) (all : List Row)
    → settle_fault ruled.rules false (held rows (Some (id, u ∷ []))) ≡ [] → settled_rows ruled.rules (Some (id, u ∷ [])) rows ≡ after
    → Taken (at after (Some (codes "words", v ∷ [])) true) rest all → Taken (at rows (Some (id, u ∷ [])) false) (v ∷ rest) all
other_word_taken [] good id u other rows after rest all settle is t = absurd (cc)
other_word_taken (b ∷ bytes) good id u other rows after rest all settle is t =
    let e = not_true (b == 45) good in
    let pending : Option (Text × List Text) = Some (id, u ∷ []) in
    word_taken (at rows pending false) (at after (Some (codes "words", (b ∷ bytes) ∷ [])) true) (b ∷ bytes) rest all
    (further_fault rows pending false b bytes e ∙ ap (λ (t : Bool). cond t [] (settle_fault ruled.rules false (held rows pending))) (ap (λ (t : Bool). t && true) other) ∙ settle)
    (further_walked rows pending false b bytes e
    ∙ ap (λ (t : Bool). at_word (cond t (held rows pending) (settled ruled.rules (held rows pending))) (b ∷ bytes)) (ap (λ (t : Bool). t && true) other)
    ∙ ap (λ (rs : List Row). at rs (Some (codes "words", (b ∷ bytes) ∷ [])) true) is) t
