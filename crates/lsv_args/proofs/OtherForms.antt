-- The words of `once` and of `load` are taken, with the option of `load` in front of its number or after it.
use Rattle.std.proofs.Common.{◌≡◌, ◌∙◌, ◌&&◌, ◌==◌, ℕ, true, false, List, [], ◌∷◌, ◌++◌, Option, Some, None, codes, fold, refl, ap, ap₂, option_map}
use lib.Utf8.{encode}
use Rattle.std.specs.Option.{option_and_then}
use Rattle.std.specs.Str.{chars}
use Rattle.clap.specs.Faults.{check_fault, defaults_fault, fault_of, flags_fault, level_fault, settle_fault, step_fault, turn_fault, walk_fault}
use Rattle.clap.specs.Kinds.{Kinds, or_else}
use Rattle.clap.specs.Simple.{Shape, entered, filled, names_of}
use Rattle.clap.specs.ValueTests.{accepts}
use Rattle.clap.specs.Walk.{Held, Row, Step, Text, Walk, after_step, bundle_met, finished, has_row, nothing_held, rows_after, settled, settled_rows, walk, walk_from, walked}
use Rattle.lsv_args.specs.Commands.{commands, conf, count, from_to, load, once}
use Rattle.lsv_args.specs.Forms.{file_words, is_count, is_file, is_value, told_file}
use Rattle.lsv_args.specs.Reading.{Load, Once, Options, asked, asked_by, number_in, options_of}
use Rattle.lsv_args.proofs.Asked.{defaults_none, lanes_value, load_lanes, made, once_lanes}
use Rattle.lsv_args.proofs.Options.{Reads, Taken, adds_row, alone_fault, at, both_true, by_walk, defaults_free, held, more_taken, not_true, row_of, stopped_fault, stopped_walk, valued_as, valued_none, whole, word_alone}

abbrev onced : Shape
onced = made once

abbrev loaded : Shape
loaded = made load

-- ---- `-f FILE`

once_reads : (v : Text) → is_value v ≡ true → Reads onced 1 (filled conf) (codes "-f") v
unfolding walked bundle_met flags_fault chars encode
once_reads [] good = absurd (cc)
once_reads (b ∷ bytes) good = let e = not_true (b == 45) good in record {
  named = λ rows pending. refl;
  named_fault = λ rows pending. refl;
  valued = valued_as onced 1 (codes "conf") b bytes e (λ rows. refl);
  valued_fault = valued_none onced 1 (codes "conf") b bytes e (λ rows. refl);
  settles = λ rows fresh. rw fresh refl;
  adds = λ rows fresh. adds_row (filled conf) (b ∷ bytes) rows refl fresh;
}

load_reads : (position : ℕ) (v : Text) → is_value v ≡ true → Reads loaded position (filled conf) (codes "-f") v
unfolding walked bundle_met flags_fault chars encode
load_reads position [] good = absurd (cc)
load_reads position (b ∷ bytes) good = let e = not_true (b == 45) good in record {
  named = λ rows pending. refl;
  named_fault = λ rows pending. refl;
  valued = valued_as loaded position (codes "conf") b bytes e (λ rows. refl);
  valued_fault = valued_none loaded position (codes "conf") b bytes e (λ rows. refl);
  settles = λ rows fresh. rw fresh refl;
  adds = λ rows fresh. adds_row (filled conf) (b ∷ bytes) rows refl fresh;
}

-- ---- `once`

abbrev pub file_rows : Option Text → List Row
file_rows None = []
file_rows (Some v) = row_of (filled conf) v ∷ []

once_walk : (file : Option Text) → is_file file ≡ true → Taken onced (at [] None 1) (file_words file) (file_rows file)
unfolding walk_fault
once_walk None good = record { no_fault = refl; settles = refl; found = refl }
once_walk (Some v) good =
    let r = once_reads v good in
    more_taken onced 1 (filled conf) (codes "-f") v r [] None [] (file_rows (Some v)) refl (record { no_fault = refl; settles = r.settles [] refl; found = r.adds [] refl })

once_level : (file : Option Text) → is_file file ≡ true → level_fault onced [] nothing_held (file_words file) false [] ≡ []
once_level file good =
    let t = once_walk file good in
    ap₂ or_else t.no_fault (ap₂ or_else t.settles (ap₂ or_else (defaults_free (settled onced.rules (walk onced.rules [] nothing_held (file_words file)).held).rows onced.rules (refl, tt)) refl))

once_rows : (file : Option Text) → is_file file ≡ true → rows_after onced.rules [] (file_words file) ≡ file_rows file
once_rows file good = defaults_none (codes "lanes") lanes_value (settled onced.rules (walk onced.rules [] nothing_held (file_words file)).held).rows onced.rules once_lanes ∙ (once_walk file good).found

pub file_told : (file : Option Text) → options_of (file_rows file) ≡ told_file file
file_told None = refl
file_told (Some v) = refl

once_top : (words : List Text) → walk whole.top.rules (names_of whole) nothing_held (codes "once" ∷ words) ≡ record (walk_from nothing_held) { stopped = Some (codes "once", words) }
unfolding walked
once_top words = stopped_walk whole.top.rules (names_of whole) (walk_from nothing_held) (codes "once") [] words

once_top_fault : (words : List Text) → walk_fault whole.top (names_of whole) (walk_from nothing_held) (codes "once" ∷ words) ≡ []
unfolding walk_fault walked
once_top_fault words = stopped_fault whole.top (names_of whole) (walk_from nothing_held) (codes "once", []) words

pub once_taken : (file : Option Text) → is_file file ≡ true → fault_of commands (codes "once" ∷ file_words file) ≡ []
unfolding defaults_fault
once_taken file good = ap₂ by_walk (once_top (file_words file)) (once_top_fault (file_words file)) ∙ ap (λ (k : Kinds). or_else k []) (once_level file good)

pub once_asked : (file : Option Text) → is_file file ≡ true → asked (codes "once" ∷ file_words file) ≡ Some (Once (told_file file))
once_asked file good =
    ap (λ (w : Walk). option_and_then (λ (s : Text × List Row). asked_by s.0 s.1) (entered whole w.stopped)) (once_top (file_words file))
    ∙ ap (λ (rows : List Row). Some (Once (options_of rows))) (once_rows file good) ∙ ap (λ (o : Options). Some (Once o)) (file_told file)

-- ---- the number of `load`

-- what is pending after `-f FILE`, where it is given
abbrev pending_of : Option Text → Option (Text × List Text)
pending_of None = None
pending_of (Some v) = Some (codes "conf", v ∷ [])

-- a number as the walk reads it, where it isn't given yet
record Counts (n : Text) : Type 0 where
  counted : (rows : List Row) (file : Option Text) → walked loaded.rules [] (at rows (pending_of file) 1) n ≡ at (settled_rows loaded.rules (pending_of file) rows) (Some (codes "count", n ∷ [])) 2
  counted_fault : (rows : List Row) (file : Option Text) → turn_fault loaded [] (at rows (pending_of file) 1) n ≡ settle_fault loaded.rules false (held rows (pending_of file))
  settles : (rows : List Row) → has_row (codes "count") rows ≡ false → settle_fault loaded.rules false (held rows (Some (codes "count", n ∷ []))) ≡ []
  adds : (rows : List Row) → has_row (codes "count") rows ≡ false → settled_rows loaded.rules (Some (codes "count", n ∷ [])) rows ≡ rows ++ row_of (filled count) n ∷ []

counted_by : (b : ℕ) (bytes : Text) → (b == 45) ≡ false → (rows : List Row) (file : Option Text)
    → walked loaded.rules [] (at rows (pending_of file) 1) (b ∷ bytes) ≡ at (settled_rows loaded.rules (pending_of file) rows) (Some (codes "count", (b ∷ bytes) ∷ [])) 2
unfolding walked
counted_by b bytes e rows None = ap (λ (m : Held × Step). after_step loaded.rules (b ∷ bytes) (at rows None 1) m.0 m.1) (word_alone loaded.rules 1 b bytes (held rows None) e)
counted_by b bytes e rows (Some v) = ap (λ (m : Held × Step). after_step loaded.rules (b ∷ bytes) (at rows (pending_of (Some v)) 1) m.0 m.1) (word_alone loaded.rules 1 b bytes (held rows (pending_of (Some v))) e)

counted_none : (b : ℕ) (bytes : Text) → (b == 45) ≡ false → (rows : List Row) (file : Option Text)
    → turn_fault loaded [] (at rows (pending_of file) 1) (b ∷ bytes) ≡ settle_fault loaded.rules false (held rows (pending_of file))
counted_none b bytes e rows None =
    ap₂ or_else (alone_fault loaded b bytes (held rows None) e) (ap (λ (m : Held × Step). step_fault loaded 1 m.0 m.1) (word_alone loaded.rules 1 b bytes (held rows None) e))
counted_none b bytes e rows (Some v) =
    ap₂ or_else (alone_fault loaded b bytes (held rows (pending_of (Some v))) e) (ap (λ (m : Held × Step). step_fault loaded 1 m.0 m.1) (word_alone loaded.rules 1 b bytes (held rows (pending_of (Some v))) e))

counts : (n : Text) → is_count n ≡ true → Counts n
counts [] good = absurd (cc)
counts (b ∷ bytes) good =
    let parts = both_true (is_value (b ∷ bytes)) (accepts false (from_to 1 10000) (b ∷ bytes)) good in
    let e = not_true (b == 45) parts.0 in record {
      counted = counted_by b bytes e;
      counted_fault = counted_none b bytes e;
      settles = λ rows fresh. let good = parts.1 in rw (fresh, good) refl;
      adds = λ rows fresh. adds_row (filled count) (b ∷ bytes) rows refl fresh;
    }

-- the number in front of words that are taken after it
count_taken : (n : Text) (c : Counts n) (rows : List Row) (file : Option Text) (rest : List Text) (all : List Row) → settle_fault loaded.rules false (held rows (pending_of file)) ≡ []
    → Taken loaded (at (settled_rows loaded.rules (pending_of file) rows) (Some (codes "count", n ∷ [])) 2) rest all → Taken loaded (at rows (pending_of file) 1) (n ∷ rest) all
unfolding walk_fault
count_taken n c rows file rest all settle t = record {
  no_fault = ap₂ or_else (c.counted_fault rows file ∙ settle) (ap (λ w. walk_fault loaded [] w rest) (c.counted rows file) ∙ t.no_fault);
  settles = ap (λ (w : Walk). settle_fault loaded.rules false (fold (walked loaded.rules []) w rest).held) (c.counted rows file) ∙ t.settles;
  found = ap (λ (w : Walk). (settled loaded.rules (fold (walked loaded.rules []) w rest).held).rows) (c.counted rows file) ∙ t.found;
}

-- ---- `load`

abbrev count_row : Text → Row
count_row n = row_of (filled count) n

-- the number after the option
behind_walk : (file : Option Text) (n : Text) → is_file file ≡ true → is_count n ≡ true → Taken loaded (at [] None 1) (file_words file ++ n ∷ []) (file_rows file ++ count_row n ∷ [])
unfolding walk_fault
behind_walk None n good number =
    let c = counts n number in
    count_taken n c [] None [] (count_row n ∷ []) refl (record { no_fault = refl; settles = c.settles [] refl; found = c.adds [] refl })
behind_walk (Some v) n good number =
    let c = counts n number in
    let r = load_reads 1 v good in
    let rows = file_rows (Some v) in
    let last : Taken loaded (at rows (Some (codes "count", n ∷ [])) 2) [] (rows ++ count_row n ∷ []) = record { no_fault = refl; settles = c.settles rows refl; found = c.adds rows refl } in
    more_taken loaded 1 (filled conf) (codes "-f") v r [] None (n ∷ []) (rows ++ count_row n ∷ []) refl
    (count_taken n c [] (Some v) [] (rows ++ count_row n ∷ []) (r.settles [] refl) last)

-- the number in front of the option
front_walk : (file : Option Text) (n : Text) → is_file file ≡ true → is_count n ≡ true → Taken loaded (at [] None 1) (n ∷ file_words file) (count_row n ∷ file_rows file)
unfolding walk_fault
front_walk None n good number =
    let c = counts n number in
    count_taken n c [] None [] (count_row n ∷ []) refl (record { no_fault = refl; settles = c.settles [] refl; found = c.adds [] refl })
front_walk (Some v) n good number =
    let c = counts n number in
    let r = load_reads 2 v good in
    let rows = count_row n ∷ [] in
    let last : Taken loaded (at rows (Some (codes "conf", v ∷ [])) 2) [] (count_row n ∷ file_rows (Some v)) = record { no_fault = refl; settles = r.settles rows refl; found = r.adds rows refl } in
    count_taken n c [] None (file_words (Some v)) (count_row n ∷ file_rows (Some v)) refl
    (more_taken loaded 2 (filled conf) (codes "-f") v r [] (Some (codes "count", n ∷ [])) [] (count_row n ∷ file_rows (Some v)) (c.settles [] refl) last)

-- a level whose walk is taken, and finds the number
load_level : (words : List Text) (rows : List Row) → Taken loaded (at [] None 1) words rows → check_fault loaded rows false ≡ [] → level_fault loaded [] nothing_held words false [] ≡ []
load_level words rows t checked =
    let found = (settled loaded.rules (walk loaded.rules [] nothing_held words).held).rows in
    let last : finished loaded.rules (walk loaded.rules [] nothing_held words).held ≡ rows = defaults_none (codes "lanes") lanes_value found loaded.rules load_lanes ∙ t.found in
    ap₂ or_else t.no_fault (ap₂ or_else t.settles (ap₂ or_else (defaults_free found loaded.rules (refl, (refl, tt))) (ap (λ (rs : List Row). check_fault loaded rs false) last ∙ checked)))

load_rows : (words : List Text) (rows : List Row) → Taken loaded (at [] None 1) words rows → rows_after loaded.rules [] words ≡ rows
load_rows words rows t = defaults_none (codes "lanes") lanes_value (settled loaded.rules (walk loaded.rules [] nothing_held words).held).rows loaded.rules load_lanes ∙ t.found

load_top : (words : List Text) → walk whole.top.rules (names_of whole) nothing_held (codes "load" ∷ words) ≡ record (walk_from nothing_held) { stopped = Some (codes "load", words) }
unfolding walked
load_top words = stopped_walk whole.top.rules (names_of whole) (walk_from nothing_held) (codes "load") [] words

load_top_fault : (words : List Text) → walk_fault whole.top (names_of whole) (walk_from nothing_held) (codes "load" ∷ words) ≡ []
unfolding walk_fault walked
load_top_fault words = stopped_fault whole.top (names_of whole) (walk_from nothing_held) (codes "load", []) words

taken_by : (words : List Text) → level_fault loaded [] nothing_held words false [] ≡ [] → fault_of commands (codes "load" ∷ words) ≡ []
unfolding defaults_fault
taken_by words level = ap₂ by_walk (load_top words) (load_top_fault words) ∙ ap (λ (k : Kinds). or_else k []) level

asked_for : (words : List Text) (rows : List Row) → rows_after loaded.rules [] words ≡ rows → asked (codes "load" ∷ words) ≡ asked_by (codes "load") rows
asked_for words rows e =
    ap (λ (w : Walk). option_and_then (λ (s : Text × List Row). asked_by s.0 s.1) (entered whole w.stopped)) (load_top words)
    ∙ ap (asked_by (codes "load")) e

behind_checked : (file : Option Text) (n : Text) → check_fault loaded (file_rows file ++ count_row n ∷ []) false ≡ []
behind_checked None n = refl
behind_checked (Some v) n = refl

front_checked : (file : Option Text) (n : Text) → check_fault loaded (count_row n ∷ file_rows file) false ≡ []
front_checked None n = refl
front_checked (Some v) n = refl

behind_told : (file : Option Text) (n : Text) → asked_by (codes "load") (file_rows file ++ count_row n ∷ []) ≡ option_map (Load (told_file file)) (number_in n)
behind_told None n = refl
behind_told (Some v) n = refl

front_told : (file : Option Text) (n : Text) → asked_by (codes "load") (count_row n ∷ file_rows file) ≡ option_map (Load (told_file file)) (number_in n)
front_told None n = refl
front_told (Some v) n = refl

pub load_taken : (file : Option Text) (n : Text) → is_file file ≡ true → is_count n ≡ true
    → (fault_of commands (codes "load" ∷ file_words file ++ n ∷ []) ≡ []) × (fault_of commands (codes "load" ∷ n ∷ file_words file) ≡ [])
load_taken file n good number = (
  taken_by (file_words file ++ n ∷ []) (load_level (file_words file ++ n ∷ []) (file_rows file ++ count_row n ∷ []) (behind_walk file n good number) (behind_checked file n)),
  taken_by (n ∷ file_words file) (load_level (n ∷ file_words file) (count_row n ∷ file_rows file) (front_walk file n good number) (front_checked file n)),
)

pub load_asked : (file : Option Text) (n : Text) → is_file file ≡ true → is_count n ≡ true
    → (asked (codes "load" ∷ file_words file ++ n ∷ []) ≡ option_map (Load (told_file file)) (number_in n)) × (asked (codes "load" ∷ n ∷ file_words file) ≡ option_map (Load (told_file file)) (number_in n))
load_asked file n good number = (
  asked_for (file_words file ++ n ∷ []) (file_rows file ++ count_row n ∷ []) (load_rows (file_words file ++ n ∷ []) (file_rows file ++ count_row n ∷ []) (behind_walk file n good number)) ∙ behind_told file n,
  asked_for (n ∷ file_words file) (count_row n ∷ file_rows file) (load_rows (n ∷ file_words file) (count_row n ∷ file_rows file) (front_walk file n good number)) ∙ front_told file n,
)
