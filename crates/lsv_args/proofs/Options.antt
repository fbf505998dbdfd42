-- How options and their values are walked, at any command: each option that isn't given yet is taken with its value.
use Rattle.std.proofs.Common.{◌≡◌, ◌∙◌, ◌&&◌, ◌||◌, ◌==◌, ℕ, Bool, true, false, not, cond, List, [], ◌∷◌, ◌++◌, Option, Some, None, fold, is_some, refl, sym, ap, ap₂, append_assoc}
use Rattle.std.specs.List.{AllByRecursion}
use Rattle.std.specs.Option.{option_and_then, option_map_or}
use Rattle.std.specs.Str.{bytes_eq}
use Rattle.clap.specs.Faults.{bundle_fault, check_fault, defaults_fault, entered_fault, flag_word_fault, given_default_fault, settle_fault, step_fault, turn_fault, walk_fault, word_fault}
use Rattle.clap.specs.Kinds.{Kinds, or_else}
use Rattle.clap.specs.Lexer.{long_of, long_of_rest, short_of, short_of_rest, strip_byte}
use Rattle.clap.specs.Simple.{App, Shape, built, entered}
use Rattle.clap.specs.Walk.{Held, Names, Row, Rule, Step, Text, Walk, action_of, after_step, finished, has_row, idle, is_empty, long_or_other, more_values, option, plain_word, reading_by, settled, settled_rows, short_or_plain, trailing, used, used_as, walked, with_default, with_values, word_met}
use Rattle.clap.specs.declared.builder.action.ArgAction.{ArgAction}
use Rattle.clap.specs.declared.builder.action.ArgAction.TheVariants.{Set}
use Rattle.clap.specs.declared.parser.matches.ValueSource.TheVariants.{CommandLine}
use Rattle.lsv_args.specs.Commands.{commands}
use Rattle.lsv_args.proofs.Walks.{no_more, no_row}

-- ---- a value is no flag

pub no_dashes : (b : ℕ) (bytes : Text) → (b == 45) ≡ false → bytes_eq (b ∷ bytes) (45 ∷ 45 ∷ []) ≡ false
no_dashes b bytes e = ap (λ t. t && bytes_eq bytes (45 ∷ [])) e

pub no_long : (b : ℕ) (bytes : Text) → (b == 45) ≡ false → long_of (b ∷ bytes) ≡ None
no_long b bytes e = ap (λ (t : Bool). option_and_then long_of_rest (option_and_then (strip_byte 45) (cond t (Some bytes) None))) e

pub no_short : (b : ℕ) (bytes : Text) → (b == 45) ≡ false → short_of (b ∷ bytes) ≡ None
no_short b bytes e = ap (λ (t : Bool). option_and_then short_of_rest (cond t (Some bytes) None)) e

pub value_met : (c : List Rule) (id : Text) (position b : ℕ) (bytes : Text) (h : Held) → (b == 45) ≡ false → word_met c [] false (option id) position (b ∷ bytes) h ≡ plain_word c (option id) (b ∷ bytes) h
value_met c id position b bytes h e =
    ap (λ (t : Bool). cond t (h, trailing position) (long_or_other c (option id) (b ∷ bytes) (long_of (b ∷ bytes)) h)) (no_dashes b bytes e)
    ∙ ap (λ o. long_or_other c (option id) (b ∷ bytes) o h) (no_long b bytes e)
    ∙ ap (λ o. short_or_plain c (option id) (b ∷ bytes) o h) (no_short b bytes e)

pub value_fault : (s : Shape) (id : Text) (b : ℕ) (bytes : Text) (h : Held) → (b == 45) ≡ false → word_fault s [] false (option id) (b ∷ bytes) h ≡ []
value_fault s id b bytes h e =
    ap (λ (t : Bool). cond t [] (flag_word_fault s.rules s.args_override_self (long_of (b ∷ bytes)) (b ∷ bytes) h)) (no_dashes b bytes e)
    ∙ ap (λ o. flag_word_fault s.rules s.args_override_self o (b ∷ bytes) h) (no_long b bytes e)
    ∙ ap (λ (o : Option Text). option_map_or (λ flags. bundle_fault s.rules s.args_override_self flags h) o []) (no_short b bytes e)

-- the same where nothing waits
pub word_alone : (c : List Rule) (position b : ℕ) (bytes : Text) (h : Held) → (b == 45) ≡ false → word_met c [] false idle position (b ∷ bytes) h ≡ plain_word c idle (b ∷ bytes) h
word_alone c position b bytes h e =
    ap (λ (t : Bool). cond t (h, trailing position) (long_or_other c idle (b ∷ bytes) (long_of (b ∷ bytes)) h)) (no_dashes b bytes e)
    ∙ ap (λ o. long_or_other c idle (b ∷ bytes) o h) (no_long b bytes e)
    ∙ ap (λ o. short_or_plain c idle (b ∷ bytes) o h) (no_short b bytes e)

pub alone_fault : (s : Shape) (b : ℕ) (bytes : Text) (h : Held) → (b == 45) ≡ false → word_fault s [] false idle (b ∷ bytes) h ≡ []
alone_fault s b bytes h e =
    ap (λ (t : Bool). cond t [] (flag_word_fault s.rules s.args_override_self (long_of (b ∷ bytes)) (b ∷ bytes) h)) (no_dashes b bytes e)
    ∙ ap (λ o. flag_word_fault s.rules s.args_override_self o (b ∷ bytes) h) (no_long b bytes e)
    ∙ ap (λ (o : Option Text). option_map_or (λ flags. bundle_fault s.rules s.args_override_self flags h) o []) (no_short b bytes e)

-- ---- the walk between two options

-- what is held where no flag is read
abbrev pub held : List Row → Option (Text × List Text) → Held
held rows pending = record { rows = rows; pending = pending; skip = 0 }

abbrev pub at : List Row → Option (Text × List Text) → ℕ → Walk
at rows pending position = record { held = held rows pending; waiting = idle; position = position; is_trailing = false; stopped = None }

-- after the name of an option
abbrev pub behind : List Row → Text → ℕ → Walk
behind rows id position = record { held = held rows (Some (id, [])); waiting = option id; position = position; is_trailing = false; stopped = None }

-- ---- an option of a command

-- the row of a value
abbrev pub row_of : Rule → Text → Row
row_of a v = record { id = a.id; values = v ∷ []; count = None; source = Some CommandLine; reading = reading_by a }

-- a name and a value, as a command's walk reads them where this argument isn't given yet
pub record Reads (s : Shape) (position : ℕ) (a : Rule) (name v : Text) : Type 0 where
  pub named : (rows : List Row) (pending : Option (Text × List Text)) → walked s.rules [] (at rows pending position) name ≡ behind (settled_rows s.rules pending rows) a.id position
  pub named_fault : (rows : List Row) (pending : Option (Text × List Text)) → turn_fault s [] (at rows pending position) name ≡ or_else (settle_fault s.rules false (held rows pending)) []
  pub valued : (rows : List Row) → walked s.rules [] (behind rows a.id position) v ≡ at rows (Some (a.id, v ∷ [])) position
  pub valued_fault : (rows : List Row) → turn_fault s [] (behind rows a.id position) v ≡ []
  pub settles : (rows : List Row) → has_row a.id rows ≡ false → settle_fault s.rules false (held rows (Some (a.id, v ∷ []))) ≡ []
  pub adds : (rows : List Row) → has_row a.id rows ≡ false → settled_rows s.rules (Some (a.id, v ∷ [])) rows ≡ rows ++ row_of a v ∷ []

module _ (s : Shape) (position : ℕ) where
  pub pair_walked : (a : Rule) (name v : Text) → Reads s position a name v → (rows : List Row) (pending : Option (Text × List Text))
      → walked s.rules [] (walked s.rules [] (at rows pending position) name) v ≡ at (settled_rows s.rules pending rows) (Some (a.id, v ∷ [])) position
  pair_walked a name v reads rows pending = ap (λ w. walked s.rules [] w v) (reads.named rows pending) ∙ reads.valued (settled_rows s.rules pending rows)

  pub pair_taken : (a : Rule) (name v : Text) → Reads s position a name v → (rows : List Row) (pending : Option (Text × List Text)) (rest : List Text) → settle_fault s.rules false (held rows pending) ≡ []
      → walk_fault s [] (at (settled_rows s.rules pending rows) (Some (a.id, v ∷ [])) position) rest ≡ [] → walk_fault s [] (at rows pending position) (name ∷ v ∷ rest) ≡ []
  unfolding walk_fault
  pair_taken a name v reads rows pending rest settle more =
      ap₂ or_else (reads.named_fault rows pending ∙ ap (λ k. or_else k []) settle)
      (ap₂ or_else (ap (λ w. turn_fault s [] w v) (reads.named rows pending) ∙ reads.valued_fault (settled_rows s.rules pending rows))
      (ap (λ w. walk_fault s [] w rest) (pair_walked a name v reads rows pending) ∙ more))

-- what a walk comes to that has no fault and finds these rows
pub record Taken (s : Shape) (w : Walk) (words : List Text) (rows : List Row) : Type 0 where
  pub no_fault : walk_fault s [] w words ≡ []
  pub settles : settle_fault s.rules false (fold (walked s.rules []) w words).held ≡ []
  pub found : (settled s.rules (fold (walked s.rules []) w words).held).rows ≡ rows

-- one option more in front
pub more_taken : (s : Shape) (position : ℕ) (a : Rule) (name v : Text) → Reads s position a name v → (rows : List Row) (pending : Option (Text × List Text)) (rest : List Text) (all : List Row) → settle_fault s.rules false (held rows pending) ≡ []
    → Taken s (at (settled_rows s.rules pending rows) (Some (a.id, v ∷ [])) position) rest all → Taken s (at rows pending position) (name ∷ v ∷ rest) all
more_taken s position a name v reads rows pending rest all settle t = record {
  no_fault = pair_taken s position a name v reads rows pending rest settle t.no_fault;
  settles = ap (λ (w : Walk). settle_fault s.rules false (fold (walked s.rules []) w rest).held) (pair_walked s position a name v reads rows pending) ∙ t.settles;
  found = ap (λ (w : Walk). (settled s.rules (fold (walked s.rules []) w rest).held).rows) (pair_walked s position a name v reads rows pending) ∙ t.found;
}

pub adds_row : (a : Rule) (v : Text) (rows : List Row) → action_of a ≡ Set → has_row a.id rows ≡ false → used a (v ∷ []) rows ≡ rows ++ row_of a v ∷ []
adds_row a v rows sets fresh =
    ap (λ (x : ArgAction). used_as x a.id (reading_by a) (v ∷ []) rows) sets
    ∙ ap (with_values a.id (reading_by a) CommandLine (v ∷ [])) (no_row a.id (λ _. []) [] rows fresh ∙ no_more rows)
    ∙ no_row a.id (more_values CommandLine (v ∷ [])) (row_of a v ∷ []) rows fresh

pub not_true : (t : Bool) → not t ≡ true → t ≡ false
not_true true e = absurd (cc)
not_true false e = refl

pub both_true : (a b : Bool) → (a && b) ≡ true → (a ≡ true) × (b ≡ true)
both_true true b e = (refl, e)
both_true false b e = absurd (cc)

-- the walk over a value, where what it comes to is known
pub valued_as : (s : Shape) (position : ℕ) (id : Text) (b : ℕ) (bytes : Text) → (b == 45) ≡ false
    → ((rows : List Row) → after_step s.rules (b ∷ bytes) (behind rows id position) (plain_word s.rules (option id) (b ∷ bytes) (held rows (Some (id, [])))).0 (plain_word s.rules (option id) (b ∷ bytes) (held rows (Some (id, [])))).1 ≡ at rows (Some (id, (b ∷ bytes) ∷ [])) position)
    → (rows : List Row) → walked s.rules [] (behind rows id position) (b ∷ bytes) ≡ at rows (Some (id, (b ∷ bytes) ∷ [])) position
unfolding walked
valued_as s position id b bytes e is rows =
    ap (λ (m : Held × Step). after_step s.rules (b ∷ bytes) (behind rows id position) m.0 m.1) (value_met s.rules id position b bytes (held rows (Some (id, []))) e) ∙ is rows

-- no fault at a value: it is a value, and then nothing of the command's own
pub valued_none : (s : Shape) (position : ℕ) (id : Text) (b : ℕ) (bytes : Text) → (b == 45) ≡ false → ((rows : List Row) → step_fault s position (plain_word s.rules (option id) (b ∷ bytes) (held rows (Some (id, [])))).0 (plain_word s.rules (option id) (b ∷ bytes) (held rows (Some (id, [])))).1 ≡ [])
    → (rows : List Row) → turn_fault s [] (behind rows id position) (b ∷ bytes) ≡ []
valued_none s position id b bytes e is rows =
    ap₂ or_else (value_fault s id b bytes (held rows (Some (id, []))) e)
    (ap (λ (m : Held × Step). step_fault s position m.0 m.1) (value_met s.rules id position b bytes (held rows (Some (id, []))) e) ∙ is rows)

-- ---- defaults

pub default_free : (t : Bool) (a : Rule) → a.defaults ≡ [] → cond (t || is_empty a.defaults) [] (given_default_fault a a.defaults) ≡ []
default_free true a e = refl
default_free false a e = ap (λ (ds : List Text). cond (is_empty ds) [] (given_default_fault a ds)) e

pub defaults_free : (rows : List Row) (c : List Rule) → AllByRecursion (λ a. a.defaults ≡ []) c → defaults_fault rows c ≡ []
unfolding defaults_fault
defaults_free rows [] e = refl
defaults_free rows (a ∷ c) e = ap₂ or_else (default_free (has_row a.id rows) a e.0) (defaults_free (with_default rows a) c e.1)

-- ---- the words with the command in front

abbrev pub whole : App
whole = built commands

pub stopped_walk : (c : List Rule) (names : Names) (w : Walk) (n : Text) (xs words : List Text) → fold (walked c names) (record w { stopped = Some (n, xs) }) words ≡ record w { stopped = Some (n, xs ++ words) }
unfolding walked
stopped_walk c names w n xs [] = ap (λ (ys : List Text). record w { stopped = Some (n, ys) }) (sym (no_more xs))
stopped_walk c names w n xs (word ∷ words) =
    stopped_walk c names w n (xs ++ word ∷ []) words ∙ ap (λ (ys : List Text). record w { stopped = Some (n, ys) }) (append_assoc xs (word ∷ []) words)

pub stopped_fault : (s : Shape) (names : Names) (w : Walk) (p : Text × List Text) (words : List Text) → walk_fault s names (record w { stopped = Some p }) words ≡ []
unfolding walk_fault walked
stopped_fault s names w p [] = refl
stopped_fault s names w p (word ∷ words) = stopped_fault s names w (p.0, p.1 ++ word ∷ []) words

-- the faults of a level, by its walk and the faults in it
abbrev pub by_walk : Walk → Kinds → Kinds
by_walk w k = or_else k (or_else (entered_fault whole w.stopped) (or_else (settle_fault whole.top.rules whole.top.args_override_self w.held)
    (or_else (defaults_fault (settled whole.top.rules w.held).rows whole.top.rules) (check_fault whole.top (finished whole.top.rules w.held) (is_some (entered whole w.stopped))))))
