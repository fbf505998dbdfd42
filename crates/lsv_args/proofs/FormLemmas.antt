-- The words of `serve` are taken, whatever the order of its options.
use Rattle.std.proofs.Common.{◌≡◌, ◌∙◌, ◌&&◌, ◌||◌, ◌==◌, ℕ, Bool, true, false, List, [], ◌∷◌, ◌++◌, Option, Some, None, codes, map, refl, sym, subst, ap, ap₂, append_assoc, unwrap_or}
use lib.Utf8.{encode}
use Rattle.std.specs.List.{AllByRecursion, list_all}
use Rattle.std.specs.Option.{option_and_then}
use Rattle.std.specs.Str.{bytes_eq, chars}
use Rattle.clap.specs.Faults.{defaults_fault, fault_of, flags_fault, level_fault, walk_fault}
use Rattle.clap.specs.Kinds.{Kinds, or_else}
use Rattle.clap.specs.Simple.{Shape, entered, filled, names_of}
use Rattle.clap.specs.ValueTests.{accepts}
use Rattle.clap.specs.Walk.{Row, Rule, Text, Walk, bundle_met, first_of, has_row, nothing_held, rows_after, settled, walk, walk_from, walked}
use Rattle.clap.specs.declared.builder.action.ArgAction.{ArgAction}
use Rattle.lsv_args.specs.Commands.{commands, conf, from_to, lanes, most_lanes, most_workers, serve, stop_after, workers}
use Rattle.lsv_args.specs.Forms.{File, Given, Lanes, StopAfter, Workers, file_in, is_good, is_once, is_other, is_value, lanes_in, stop_after_in, told, words_in, workers_in}
use Rattle.lsv_args.specs.Reading.{Options, Serve, asked, asked_by, number_in, options_of}
use Rattle.lsv_args.proofs.Asked.{defaults_none, lanes_value, made, serve_lanes}
use Rattle.lsv_args.proofs.Options.{Reads, Taken, adds_row, at, both_true, by_walk, defaults_free, held, more_taken, not_true, row_of, stopped_fault, stopped_walk, valued_as, valued_none, whole}
use Rattle.lsv_args.proofs.Walks.{no_more}

-- ---- the options of `serve`

abbrev served : Shape
served = made serve

abbrev rule_of : Given → Rule
rule_of (File v) = filled conf
rule_of (Lanes v) = filled lanes
rule_of (Workers v) = filled workers
rule_of (StopAfter v) = filled stop_after

abbrev name_of : Given → Text
name_of (File v) = codes "-f"
name_of (Lanes v) = codes "--lanes"
name_of (Workers v) = codes "--workers"
name_of (StopAfter v) = codes "--stop-after"

abbrev value_of : Given → Text
value_of (File v) = v
value_of (Lanes v) = v
value_of (Workers v) = v
value_of (StopAfter v) = v

words_front : (g : Given) (more : List Given) → words_in (g ∷ more) ≡ name_of g ∷ value_of g ∷ words_in more
words_front (File v) more = refl
words_front (Lanes v) more = refl
words_front (Workers v) more = refl
words_front (StopAfter v) more = refl

reads : (g : Given) → is_good g ≡ true → Reads served 1 (rule_of g) (name_of g) (value_of g)
unfolding walked bundle_met flags_fault chars encode
reads (File []) good = absurd (cc)
reads (File (b ∷ bytes)) good = let e = not_true (b == 45) good in record {
  named = λ rows pending. refl;
  named_fault = λ rows pending. refl;
  valued = valued_as served 1 (codes "conf") b bytes e (λ rows. refl);
  valued_fault = valued_none served 1 (codes "conf") b bytes e (λ rows. refl);
  settles = λ rows fresh. rw fresh refl;
  adds = λ rows fresh. adds_row (filled conf) (b ∷ bytes) rows refl fresh;
}
reads (Lanes []) good = absurd (cc)
reads (Lanes (b ∷ bytes)) good =
    let parts = both_true (is_value (b ∷ bytes)) (accepts false (from_to 1 most_lanes) (b ∷ bytes)) good in
    let e = not_true (b == 45) parts.0 in record {
      named = λ rows pending. refl;
      named_fault = λ rows pending. refl;
      valued = valued_as served 1 (codes "lanes") b bytes e (λ rows. refl);
      valued_fault = valued_none served 1 (codes "lanes") b bytes e (λ rows. refl);
      settles = λ rows fresh. let good = parts.1 in rw (fresh, good) refl;
      adds = λ rows fresh. adds_row (filled lanes) (b ∷ bytes) rows refl fresh;
    }
reads (Workers []) good = absurd (cc)
reads (Workers (b ∷ bytes)) good =
    let parts = both_true (is_value (b ∷ bytes)) (accepts false (from_to 1 most_workers) (b ∷ bytes)) good in
    let e = not_true (b == 45) parts.0 in record {
      named = λ rows pending. refl;
      named_fault = λ rows pending. refl;
      valued = valued_as served 1 (codes "workers") b bytes e (λ rows. refl);
      valued_fault = valued_none served 1 (codes "workers") b bytes e (λ rows. refl);
      settles = λ rows fresh. let good = parts.1 in rw (fresh, good) refl;
      adds = λ rows fresh. adds_row (filled workers) (b ∷ bytes) rows refl fresh;
    }
reads (StopAfter []) good = absurd (cc)
reads (StopAfter (b ∷ bytes)) good =
    let parts = both_true (is_value (b ∷ bytes)) (accepts false (from_to 1 4294967295) (b ∷ bytes)) good in
    let e = not_true (b == 45) parts.0 in record {
      named = λ rows pending. refl;
      named_fault = λ rows pending. refl;
      valued = valued_as served 1 (codes "stop-after") b bytes e (λ rows. refl);
      valued_fault = valued_none served 1 (codes "stop-after") b bytes e (λ rows. refl);
      settles = λ rows fresh. let good = parts.1 in rw (fresh, good) refl;
      adds = λ rows fresh. adds_row (filled stop_after) (b ∷ bytes) rows refl fresh;
    }

-- ---- options that stand once

abbrev row : Given → Row
row g = row_of (rule_of g) (value_of g)

abbrev rows_of : List Given → List Row
rows_of given = map row given

abbrev AreFresh : List Row → List Given → Type 0
AreFresh rows given = AllByRecursion (λ g. has_row (rule_of g).id rows ≡ false) given

has_push : (id : Text) (rows : List Row) (r : Row) → has_row id rows ≡ false → bytes_eq r.id id ≡ false → has_row id (rows ++ r ∷ []) ≡ false
has_push id [] r e f = ap (λ t. t || false) f
has_push id (x ∷ rows) r e f = either (bytes_eq x.id id) (has_row id rows) (has_row id (rows ++ r ∷ [])) e (λ rest. has_push id rows r rest f)
  where
    either : (t a b : Bool) → (t || a) ≡ false → (a ≡ false → b ≡ false) → (t || b) ≡ false
    either true a b e more = absurd (cc)
    either false a b e more = more e

other_id : (g x : Given) (more : List Given) → is_other g (x ∷ more) ≡ true → bytes_eq (rule_of g).id (rule_of x).id ≡ false
other_id (File v) (File w) more e = absurd (cc)
other_id (File v) (Lanes w) more e = refl
other_id (File v) (Workers w) more e = refl
other_id (File v) (StopAfter w) more e = refl
other_id (Lanes v) (File w) more e = refl
other_id (Lanes v) (Lanes w) more e = absurd (cc)
other_id (Lanes v) (Workers w) more e = refl
other_id (Lanes v) (StopAfter w) more e = refl
other_id (Workers v) (File w) more e = refl
other_id (Workers v) (Lanes w) more e = refl
other_id (Workers v) (Workers w) more e = absurd (cc)
other_id (Workers v) (StopAfter w) more e = refl
other_id (StopAfter v) (File w) more e = refl
other_id (StopAfter v) (Lanes w) more e = refl
other_id (StopAfter v) (Workers w) more e = refl
other_id (StopAfter v) (StopAfter w) more e = absurd (cc)

other_more : (g x : Given) (more : List Given) → is_other g (x ∷ more) ≡ true → is_other g more ≡ true
other_more (File v) (File w) more e = absurd (cc)
other_more (File v) (Lanes w) more e = e
other_more (File v) (Workers w) more e = e
other_more (File v) (StopAfter w) more e = e
other_more (Lanes v) (File w) more e = e
other_more (Lanes v) (Lanes w) more e = absurd (cc)
other_more (Lanes v) (Workers w) more e = e
other_more (Lanes v) (StopAfter w) more e = e
other_more (Workers v) (File w) more e = e
other_more (Workers v) (Lanes w) more e = e
other_more (Workers v) (Workers w) more e = absurd (cc)
other_more (Workers v) (StopAfter w) more e = e
other_more (StopAfter v) (File w) more e = e
other_more (StopAfter v) (Lanes w) more e = e
other_more (StopAfter v) (Workers w) more e = e
other_more (StopAfter v) (StopAfter w) more e = absurd (cc)

fresh_more : (g : Given) (rows : List Row) (more : List Given) → AreFresh rows more → is_other g more ≡ true → AreFresh (rows ++ row g ∷ []) more
fresh_more g rows [] fresh e = tt
fresh_more g rows (x ∷ more) fresh e = (has_push (rule_of x).id rows (row g) fresh.0 (other_id g x more e), fresh_more g rows more fresh.1 (other_more g x more e))

-- ---- the walk of `serve`

taken_from : (rows : List Row) (g : Given) (more : List Given) → is_good g ≡ true → list_all is_good more ≡ true → has_row (rule_of g).id rows ≡ false → AreFresh (rows ++ row g ∷ []) more → is_once more ≡ true
    → Taken served (at rows (Some ((rule_of g).id, value_of g ∷ [])) 1) (words_in more) ((rows ++ row g ∷ []) ++ rows_of more)
unfolding walk_fault
taken_from rows g [] good all new fresh once =
    record { no_fault = refl; settles = (reads g good).settles rows new; found = (reads g good).adds rows new ∙ sym (no_more (rows ++ row g ∷ [])) }
taken_from rows g (x ∷ more) good all new fresh once =
    let goods = both_true (is_good x) (list_all is_good more) all in
    let onces = both_true (is_other x more) (is_once more) once in
    let front = rows ++ row g ∷ [] in
    let next = taken_from front x more goods.0 goods.1 fresh.0 (fresh_more x front more fresh.1 onces.0) onces.1 in
    let here = subst (Taken served (at front (Some ((rule_of x).id, value_of x ∷ [])) 1) (words_in more)) (append_assoc front (row x ∷ []) (rows_of more)) next in
    let there = subst (λ (rs : List Row). Taken served (at rs (Some ((rule_of x).id, value_of x ∷ [])) 1) (words_in more) (front ++ row x ∷ rows_of more)) (sym ((reads g good).adds rows new)) here in
    subst (λ (ws : List Text). Taken served (at rows (Some ((rule_of g).id, value_of g ∷ [])) 1) ws (front ++ row x ∷ rows_of more)) (sym (words_front x more))
    (more_taken served 1 (rule_of x) (name_of x) (value_of x) (reads x goods.0) rows (Some ((rule_of g).id, value_of g ∷ [])) (words_in more) (front ++ row x ∷ rows_of more) ((reads g good).settles rows new) there)

none_fresh : (given : List Given) → AreFresh [] given
none_fresh [] = tt
none_fresh (g ∷ given) = (refl, none_fresh given)

walk_taken : (given : List Given) → list_all is_good given ≡ true → is_once given ≡ true → Taken served (at [] None 1) (words_in given) (rows_of given)
unfolding walk_fault
walk_taken [] all once = record { no_fault = refl; settles = refl; found = refl }
walk_taken (g ∷ more) all once =
    let goods = both_true (is_good g) (list_all is_good more) all in
    let onces = both_true (is_other g more) (is_once more) once in
    subst (λ (ws : List Text). Taken served (at [] None 1) ws (row g ∷ rows_of more)) (sym (words_front g more))
    (more_taken served 1 (rule_of g) (name_of g) (value_of g) (reads g goods.0) [] None (words_in more) (row g ∷ rows_of more) refl
    (taken_from [] g more goods.0 goods.1 refl (fresh_more g [] more (none_fresh more) onces.0) onces.1))

-- ---- the command `serve`

serve_level : (given : List Given) → list_all is_good given ≡ true → is_once given ≡ true → level_fault served [] nothing_held (words_in given) false [] ≡ []
serve_level given all once =
    let t = walk_taken given all once in
    ap₂ or_else t.no_fault (ap₂ or_else t.settles (ap₂ or_else (defaults_free (settled served.rules (walk served.rules [] nothing_held (words_in given)).held).rows served.rules (refl, (refl, (refl, (refl, tt))))) refl))

serve_rows : (given : List Given) → list_all is_good given ≡ true → is_once given ≡ true → rows_after served.rules [] (words_in given) ≡ rows_of given
serve_rows given all once =
    defaults_none (codes "lanes") lanes_value (settled served.rules (walk served.rules [] nothing_held (words_in given)).held).rows served.rules serve_lanes ∙ (walk_taken given all once).found

file_row : (given : List Given) → first_of (codes "conf") (rows_of given) ≡ file_in given
file_row [] = refl
file_row (File v ∷ more) = refl
file_row (Lanes v ∷ more) = file_row more
file_row (Workers v ∷ more) = file_row more
file_row (StopAfter v ∷ more) = file_row more

lanes_row : (given : List Given) → first_of (codes "lanes") (rows_of given) ≡ lanes_in given
lanes_row [] = refl
lanes_row (File v ∷ more) = lanes_row more
lanes_row (Lanes v ∷ more) = refl
lanes_row (Workers v ∷ more) = lanes_row more
lanes_row (StopAfter v ∷ more) = lanes_row more

workers_row : (given : List Given) → first_of (codes "workers") (rows_of given) ≡ workers_in given
workers_row [] = refl
workers_row (File v ∷ more) = workers_row more
workers_row (Lanes v ∷ more) = workers_row more
workers_row (Workers v ∷ more) = refl
workers_row (StopAfter v ∷ more) = workers_row more

stop_after_row : (given : List Given) → first_of (codes "stop-after") (rows_of given) ≡ stop_after_in given
stop_after_row [] = refl
stop_after_row (File v ∷ more) = stop_after_row more
stop_after_row (Lanes v ∷ more) = stop_after_row more
stop_after_row (Workers v ∷ more) = stop_after_row more
stop_after_row (StopAfter v ∷ more) = refl

abbrev told_by : Option Text → Option Text → Option Text → Option Text → Options
told_by file lanes workers stop = record {
  conf = unwrap_or file (codes "/etc/sudo_logsrvd.conf");
  lanes = unwrap_or (option_and_then number_in lanes) 1;
  workers = unwrap_or (option_and_then number_in workers) 4;
  stop_after = option_and_then number_in stop;
}

options_told : (given : List Given) → options_of (rows_of given) ≡ told given
options_told given =
    let rows = rows_of given in
    ap (λ (f : Option Text). told_by f (first_of (codes "lanes") rows) (first_of (codes "workers") rows) (first_of (codes "stop-after") rows)) (file_row given)
    ∙ ap (λ (l : Option Text). told_by (file_in given) l (first_of (codes "workers") rows) (first_of (codes "stop-after") rows)) (lanes_row given)
    ∙ ap (λ (w : Option Text). told_by (file_in given) (lanes_in given) w (first_of (codes "stop-after") rows)) (workers_row given)
    ∙ ap (λ (x : Option Text). told_by (file_in given) (lanes_in given) (workers_in given) x) (stop_after_row given)

-- ---- the words with the command in front

top_walk : (words : List Text) → walk whole.top.rules (names_of whole) nothing_held (codes "serve" ∷ words) ≡ record (walk_from nothing_held) { stopped = Some (codes "serve", words) }
unfolding walked
top_walk words = stopped_walk whole.top.rules (names_of whole) (walk_from nothing_held) (codes "serve") [] words

top_fault : (words : List Text) → walk_fault whole.top (names_of whole) (walk_from nothing_held) (codes "serve" ∷ words) ≡ []
unfolding walk_fault walked
top_fault words = stopped_fault whole.top (names_of whole) (walk_from nothing_held) (codes "serve", []) words

pub serve_taken : (given : List Given) → list_all is_good given ≡ true → is_once given ≡ true → fault_of commands (codes "serve" ∷ words_in given) ≡ []
unfolding defaults_fault
serve_taken given all once = ap₂ by_walk (top_walk (words_in given)) (top_fault (words_in given)) ∙ ap (λ (k : Kinds). or_else k []) (serve_level given all once)

pub serve_asked : (given : List Given) → list_all is_good given ≡ true → is_once given ≡ true → asked (codes "serve" ∷ words_in given) ≡ Some (Serve (told given))
serve_asked given all once =
    ap (λ (w : Walk). option_and_then (λ (s : Text × List Row). asked_by s.0 s.1) (entered whole w.stopped)) (top_walk (words_in given))
    ∙ ap (λ (rows : List Row). Some (Serve (options_of rows))) (serve_rows given all once) ∙ ap (λ (o : Options). Some (Serve o)) (options_told given)
