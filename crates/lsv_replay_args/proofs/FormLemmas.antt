-- The words of a form are taken, and ask for what they say.
use Rattle.std.proofs.Common.{◌≡◌, ◌∙◌, option_map, ◌&&◌, ◌||◌, ◌<◌, ◌+◌, ◌^◌, ℕ, suc, Bool, true, false, not, cond, List, [], ◌∷◌, ◌++◌, Option, Some, None, length, codes, fold, is_some, inl, inr, refl, sym, ap, ap₂, append_assoc, arith, unwrap_or}
use Rattle.std.specs.List.{AllByRecursion, list_all}
use Rattle.std.specs.Option.{option_and_then, option_or}
use Rattle.std.specs.Str.{bytes_eq}
use Rattle.clap.specs.Faults.{defaults_fault, entered_fault, fault_of, given_default_fault, level_fault, settle_fault, walk_fault}
use Rattle.clap.specs.Kinds.{Kinds, or_else}
use Rattle.clap.specs.Simple.{built, entered, matches_of}
use Rattle.clap.specs.Walk.{Row, Rule, Text, Walk, has_row, is_empty, nothing_held, reading_by, settled, settled_rows, walk, with_default}
use Rattle.lsv_replay_args.specs.Forms.{Dir, Following, Further, Given, IsForm, Listing, Longest, Speed, Streams, Suspended, Unused, dir_in, dir_told, further_in, has_following, has_listing, has_suspended, is_good, is_once, is_other, is_value, list_in, longest_in, manner_told, speed_in, told, words_in}
use Rattle.lsv_replay_args.specs.Program.{program}
use Rattle.lsv_replay_args.specs.Request.{Asked, Follow, IsRefused, Manner, Play, Search, asked, asked_by, longest_asked, play_of, search_of, speed_asked, streams_asked}
use Rattle.lsv_replay_args.proofs.Rows.{appended, appended_twice, default_kept, default_none, default_off, given_row, has_appended, has_push, is_on, no_more, or_assoc, none_or, row_appended, row_in, row_kept, row_pushed, value_in, values_appended, values_in}
use Rattle.lsv_replay_args.proofs.Walking.{Taken, at, first_word_taken, flag_taken, held, name_of, next_word_taken, option_taken, other_word_taken, reads_dir, reads_longest, reads_speed, reads_streams, ruled, rule_of, sets_follow, sets_list, sets_suspended, sets_unused, word_rule, words_settle, words_settled}

both_true : (a b : Bool) → (a && b) ≡ true → (a ≡ true) × (b ≡ true)
both_true true b e = (refl, e)
both_true false b e = absurd (cc)

-- ---- the rows of options and words

-- the row of an option
abbrev row : Given → Row
row (Dir v) = given_row (codes "dir") (reading_by (rule_of (Dir v))) (v ∷ [])
row (Streams v) = given_row (codes "streams") (reading_by (rule_of (Streams v))) (v ∷ [])
row (Longest v) = given_row (codes "longest") (reading_by (rule_of (Longest v))) (v ∷ [])
row (Speed v) = given_row (codes "speed") (reading_by (rule_of (Speed v))) (v ∷ [])
row Suspended = given_row (codes "suspended") (reading_by (rule_of Suspended)) (codes "true" ∷ [])
row Unused = given_row (codes "unused") (reading_by (rule_of Unused)) (codes "true" ∷ [])
row Listing = given_row (codes "list") (reading_by (rule_of Listing)) (codes "true" ∷ [])
row Following = given_row (codes "follow") (reading_by (rule_of Following)) (codes "true" ∷ [])
row (Further v) = given_row (codes "words") (reading_by word_rule) (v ∷ [])

-- the rows with one more option or word
abbrev add : List Row → Given → List Row
add rows (Further v) = appended (codes "words") (reading_by word_rule) (v ∷ []) rows
add rows g = rows ++ row g ∷ []

-- the rows with more of them
abbrev rows_with : List Row → List Given → List Row
rows_with rows given = fold add rows given

-- ---- options that stand once

-- an option isn't given yet
abbrev IsFresh : List Row → Given → Type 0
IsFresh rows (Further v) = Unit {0}
IsFresh rows g = has_row (row g).id rows ≡ false

abbrev AreFresh : List Row → List Given → Type 0
AreFresh rows given = AllByRecursion (IsFresh rows) given

-- whether two are the same option
abbrev apart : Given → Given → Bool
apart g (Further v) = true
apart (Further v) x = true
apart g x = not (bytes_eq (row g).id (row x).id)

other_id : (g x : Given) (more : List Given) → is_other g (x ∷ more) ≡ true → apart g x ≡ true
other_id (Dir v) (Dir w) more e = absurd (cc)
other_id (Dir v) (Streams w) more e = refl
other_id (Dir v) (Longest w) more e = refl
other_id (Dir v) (Speed w) more e = refl
other_id (Dir v) Suspended more e = refl
other_id (Dir v) Unused more e = refl
other_id (Dir v) Listing more e = refl
other_id (Dir v) Following more e = refl
other_id (Dir v) (Further w) more e = refl
other_id (Streams v) (Dir w) more e = refl
other_id (Streams v) (Streams w) more e = absurd (cc)
other_id (Streams v) (Longest w) more e = refl
other_id (Streams v) (Speed w) more e = refl
other_id (Streams v) Suspended more e = refl
other_id (Streams v) Unused more e = refl
other_id (Streams v) Listing more e = refl
other_id (Streams v) Following more e = refl
other_id (Streams v) (Further w) more e = refl
other_id (Longest v) (Dir w) more e = refl
other_id (Longest v) (Streams w) more e = refl
other_id (Longest v) (Longest w) more e = absurd (cc)
other_id (Longest v) (Speed w) more e = refl
other_id (Longest v) Suspended more e = refl
other_id (Longest v) Unused more e = refl
other_id (Longest v) Listing more e = refl
other_id (Longest v) Following more e = refl
other_id (Longest v) (Further w) more e = refl
other_id (Speed v) (Dir w) more e = refl
other_id (Speed v) (Streams w) more e = refl
other_id (Speed v) (Longest w) more e = refl
other_id (Speed v) (Speed w) more e = absurd (cc)
other_id (Speed v) Suspended more e = refl
other_id (Speed v) Unused more e = refl
other_id (Speed v) Listing more e = refl
other_id (Speed v) Following more e = refl
other_id (Speed v) (Further w) more e = refl
other_id Suspended (Dir w) more e = refl
other_id Suspended (Streams w) more e = refl
other_id Suspended (Longest w) more e = refl
other_id Suspended (Speed w) more e = refl
other_id Suspended Suspended more e = absurd (cc)
other_id Suspended Unused more e = refl
other_id Suspended Listing more e = refl
other_id Suspended Following more e = refl
other_id Suspended (Further w) more e = refl
other_id Unused (Dir w) more e = refl
other_id Unused (Streams w) more e = refl
other_id Unused (Longest w) more e = refl
other_id Unused (Speed w) more e = refl
other_id Unused Suspended more e = refl
other_id Unused Unused more e = absurd (cc)
other_id Unused Listing more e = refl
other_id Unused Following more e = refl
other_id Unused (Further w) more e = refl
other_id Listing (Dir w) more e = refl
other_id Listing (Streams w) more e = refl
other_id Listing (Longest w) more e = refl
other_id Listing (Speed w) more e = refl
other_id Listing Suspended more e = refl
other_id Listing Unused more e = refl
other_id Listing Listing more e = absurd (cc)
other_id Listing Following more e = refl
other_id Listing (Further w) more e = refl
other_id Following (Dir w) more e = refl
other_id Following (Streams w) more e = refl
other_id Following (Longest w) more e = refl
other_id Following (Speed w) more e = refl
other_id Following Suspended more e = refl
other_id Following Unused more e = refl
other_id Following Listing more e = refl
other_id Following Following more e = absurd (cc)
other_id Following (Further w) more e = refl
other_id (Further v) (Dir w) more e = refl
other_id (Further v) (Streams w) more e = refl
other_id (Further v) (Longest w) more e = refl
other_id (Further v) (Speed w) more e = refl
other_id (Further v) Suspended more e = refl
other_id (Further v) Unused more e = refl
other_id (Further v) Listing more e = refl
other_id (Further v) Following more e = refl
other_id (Further v) (Further w) more e = refl

other_more : (g x : Given) (more : List Given) → is_other g (x ∷ more) ≡ true → is_other g more ≡ true
other_more (Dir v) (Dir w) more e = absurd (cc)
other_more (Dir v) (Streams w) more e = e
other_more (Dir v) (Longest w) more e = e
other_more (Dir v) (Speed w) more e = e
other_more (Dir v) Suspended more e = e
other_more (Dir v) Unused more e = e
other_more (Dir v) Listing more e = e
other_more (Dir v) Following more e = e
other_more (Dir v) (Further w) more e = e
other_more (Streams v) (Dir w) more e = e
other_more (Streams v) (Streams w) more e = absurd (cc)
other_more (Streams v) (Longest w) more e = e
other_more (Streams v) (Speed w) more e = e
other_more (Streams v) Suspended more e = e
other_more (Streams v) Unused more e = e
other_more (Streams v) Listing more e = e
other_more (Streams v) Following more e = e
other_more (Streams v) (Further w) more e = e
other_more (Longest v) (Dir w) more e = e
other_more (Longest v) (Streams w) more e = e
other_more (Longest v) (Longest w) more e = absurd (cc)
other_more (Longest v) (Speed w) more e = e
other_more (Longest v) Suspended more e = e
other_more (Longest v) Unused more e = e
other_more (Longest v) Listing more e = e
other_more (Longest v) Following more e = e
other_more (Longest v) (Further w) more e = e
other_more (Speed v) (Dir w) more e = e
other_more (Speed v) (Streams w) more e = e
other_more (Speed v) (Longest w) more e = e
other_more (Speed v) (Speed w) more e = absurd (cc)
other_more (Speed v) Suspended more e = e
other_more (Speed v) Unused more e = e
other_more (Speed v) Listing more e = e
other_more (Speed v) Following more e = e
other_more (Speed v) (Further w) more e = e
other_more Suspended (Dir w) more e = e
other_more Suspended (Streams w) more e = e
other_more Suspended (Longest w) more e = e
other_more Suspended (Speed w) more e = e
other_more Suspended Suspended more e = absurd (cc)
other_more Suspended Unused more e = e
other_more Suspended Listing more e = e
other_more Suspended Following more e = e
other_more Suspended (Further w) more e = e
other_more Unused (Dir w) more e = e
other_more Unused (Streams w) more e = e
other_more Unused (Longest w) more e = e
other_more Unused (Speed w) more e = e
other_more Unused Suspended more e = e
other_more Unused Unused more e = absurd (cc)
other_more Unused Listing more e = e
other_more Unused Following more e = e
other_more Unused (Further w) more e = e
other_more Listing (Dir w) more e = e
other_more Listing (Streams w) more e = e
other_more Listing (Longest w) more e = e
other_more Listing (Speed w) more e = e
other_more Listing Suspended more e = e
other_more Listing Unused more e = e
other_more Listing Listing more e = absurd (cc)
other_more Listing Following more e = e
other_more Listing (Further w) more e = e
other_more Following (Dir w) more e = e
other_more Following (Streams w) more e = e
other_more Following (Longest w) more e = e
other_more Following (Speed w) more e = e
other_more Following Suspended more e = e
other_more Following Unused more e = e
other_more Following Listing more e = e
other_more Following Following more e = absurd (cc)
other_more Following (Further w) more e = e
other_more (Further v) (Dir w) more e = refl
other_more (Further v) (Streams w) more e = refl
other_more (Further v) (Longest w) more e = refl
other_more (Further v) (Speed w) more e = refl
other_more (Further v) Suspended more e = refl
other_more (Further v) Unused more e = refl
other_more (Further v) Listing more e = refl
other_more (Further v) Following more e = refl
other_more (Further v) (Further w) more e = refl

is_not : (t : Bool) → not t ≡ true → t ≡ false
is_not true e = absurd (cc)
is_not false e = refl

fresh_add : (g x : Given) (rows : List Row) → apart g x ≡ true → IsFresh rows x → IsFresh (add rows g) x
fresh_add (Dir v) (Dir w) rows e fresh = absurd (cc)
fresh_add (Dir v) (Streams w) rows e fresh = has_push (codes "streams") rows (row (Dir v)) fresh refl
fresh_add (Dir v) (Longest w) rows e fresh = has_push (codes "longest") rows (row (Dir v)) fresh refl
fresh_add (Dir v) (Speed w) rows e fresh = has_push (codes "speed") rows (row (Dir v)) fresh refl
fresh_add (Dir v) Suspended rows e fresh = has_push (codes "suspended") rows (row (Dir v)) fresh refl
fresh_add (Dir v) Unused rows e fresh = has_push (codes "unused") rows (row (Dir v)) fresh refl
fresh_add (Dir v) Listing rows e fresh = has_push (codes "list") rows (row (Dir v)) fresh refl
fresh_add (Dir v) Following rows e fresh = has_push (codes "follow") rows (row (Dir v)) fresh refl
fresh_add (Dir v) (Further w) rows e fresh = tt
fresh_add (Streams v) (Dir w) rows e fresh = has_push (codes "dir") rows (row (Streams v)) fresh refl
fresh_add (Streams v) (Streams w) rows e fresh = absurd (cc)
fresh_add (Streams v) (Longest w) rows e fresh = has_push (codes "longest") rows (row (Streams v)) fresh refl
fresh_add (Streams v) (Speed w) rows e fresh = has_push (codes "speed") rows (row (Streams v)) fresh refl
fresh_add (Streams v) Suspended rows e fresh = has_push (codes "suspended") rows (row (Streams v)) fresh refl
fresh_add (Streams v) Unused rows e fresh = has_push (codes "unused") rows (row (Streams v)) fresh refl
fresh_add (Streams v) Listing rows e fresh = has_push (codes "list") rows (row (Streams v)) fresh refl
fresh_add (Streams v) Following rows e fresh = has_push (codes "follow") rows (row (Streams v)) fresh refl
fresh_add (Streams v) (Further w) rows e fresh = tt
fresh_add (Longest v) (Dir w) rows e fresh = has_push (codes "dir") rows (row (Longest v)) fresh refl
fresh_add (Longest v) (Streams w) rows e fresh = has_push (codes "streams") rows (row (Longest v)) fresh refl
fresh_add (Longest v) (Longest w) rows e fresh = absurd (cc)
fresh_add (Longest v) (Speed w) rows e fresh = has_push (codes "speed") rows (row (Longest v)) fresh refl
fresh_add (Longest v) Suspended rows e fresh = has_push (codes "suspended") rows (row (Longest v)) fresh refl
fresh_add (Longest v) Unused rows e fresh = has_push (codes "unused") rows (row (Longest v)) fresh refl
fresh_add (Longest v) Listing rows e fresh = has_push (codes "list") rows (row (Longest v)) fresh refl
fresh_add (Longest v) Following rows e fresh = has_push (codes "follow") rows (row (Longest v)) fresh refl
fresh_add (Longest v) (Further w) rows e fresh = tt
fresh_add (Speed v) (Dir w) rows e fresh = has_push (codes "dir") rows (row (Speed v)) fresh refl
fresh_add (Speed v) (Streams w) rows e fresh = has_push (codes "streams") rows (row (Speed v)) fresh refl
fresh_add (Speed v) (Longest w) rows e fresh = has_push (codes "longest") rows (row (Speed v)) fresh refl
fresh_add (Speed v) (Speed w) rows e fresh = absurd (cc)
fresh_add (Speed v) Suspended rows e fresh = has_push (codes "suspended") rows (row (Speed v)) fresh refl
fresh_add (Speed v) Unused rows e fresh = has_push (codes "unused") rows (row (Speed v)) fresh refl
fresh_add (Speed v) Listing rows e fresh = has_push (codes "list") rows (row (Speed v)) fresh refl
fresh_add (Speed v) Following rows e fresh = has_push (codes "follow") rows (row (Speed v)) fresh refl
fresh_add (Speed v) (Further w) rows e fresh = tt
fresh_add Suspended (Dir w) rows e fresh = has_push (codes "dir") rows (row Suspended) fresh refl
fresh_add Suspended (Streams w) rows e fresh = has_push (codes "streams") rows (row Suspended) fresh refl
fresh_add Suspended (Longest w) rows e fresh = has_push (codes "longest") rows (row Suspended) fresh refl
fresh_add Suspended (Speed w) rows e fresh = has_push (codes "speed") rows (row Suspended) fresh refl
fresh_add Suspended Suspended rows e fresh = absurd (cc)
fresh_add Suspended Unused rows e fresh = has_push (codes "unused") rows (row Suspended) fresh refl
fresh_add Suspended Listing rows e fresh = has_push (codes "list") rows (row Suspended) fresh refl
fresh_add Suspended Following rows e fresh = has_push (codes "follow") rows (row Suspended) fresh refl
fresh_add Suspended (Further w) rows e fresh = tt
fresh_add Unused (Dir w) rows e fresh = has_push (codes "dir") rows (row Unused) fresh refl
fresh_add Unused (Streams w) rows e fresh = has_push (codes "streams") rows (row Unused) fresh refl
fresh_add Unused (Longest w) rows e fresh = has_push (codes "longest") rows (row Unused) fresh refl
fresh_add Unused (Speed w) rows e fresh = has_push (codes "speed") rows (row Unused) fresh refl
fresh_add Unused Suspended rows e fresh = has_push (codes "suspended") rows (row Unused) fresh refl
fresh_add Unused Unused rows e fresh = absurd (cc)
fresh_add Unused Listing rows e fresh = has_push (codes "list") rows (row Unused) fresh refl
fresh_add Unused Following rows e fresh = has_push (codes "follow") rows (row Unused) fresh refl
fresh_add Unused (Further w) rows e fresh = tt
fresh_add Listing (Dir w) rows e fresh = has_push (codes "dir") rows (row Listing) fresh refl
fresh_add Listing (Streams w) rows e fresh = has_push (codes "streams") rows (row Listing) fresh refl
fresh_add Listing (Longest w) rows e fresh = has_push (codes "longest") rows (row Listing) fresh refl
fresh_add Listing (Speed w) rows e fresh = has_push (codes "speed") rows (row Listing) fresh refl
fresh_add Listing Suspended rows e fresh = has_push (codes "suspended") rows (row Listing) fresh refl
fresh_add Listing Unused rows e fresh = has_push (codes "unused") rows (row Listing) fresh refl
fresh_add Listing Listing rows e fresh = absurd (cc)
fresh_add Listing Following rows e fresh = has_push (codes "follow") rows (row Listing) fresh refl
fresh_add Listing (Further w) rows e fresh = tt
fresh_add Following (Dir w) rows e fresh = has_push (codes "dir") rows (row Following) fresh refl
fresh_add Following (Streams w) rows e fresh = has_push (codes "streams") rows (row Following) fresh refl
fresh_add Following (Longest w) rows e fresh = has_push (codes "longest") rows (row Following) fresh refl
fresh_add Following (Speed w) rows e fresh = has_push (codes "speed") rows (row Following) fresh refl
fresh_add Following Suspended rows e fresh = has_push (codes "suspended") rows (row Following) fresh refl
fresh_add Following Unused rows e fresh = has_push (codes "unused") rows (row Following) fresh refl
fresh_add Following Listing rows e fresh = has_push (codes "list") rows (row Following) fresh refl
fresh_add Following Following rows e fresh = absurd (cc)
fresh_add Following (Further w) rows e fresh = tt
fresh_add (Further v) (Dir w) rows e fresh = has_appended (codes "words") (codes "dir") (reading_by word_rule) (v ∷ []) rows refl ∙ fresh
fresh_add (Further v) (Streams w) rows e fresh = has_appended (codes "words") (codes "streams") (reading_by word_rule) (v ∷ []) rows refl ∙ fresh
fresh_add (Further v) (Longest w) rows e fresh = has_appended (codes "words") (codes "longest") (reading_by word_rule) (v ∷ []) rows refl ∙ fresh
fresh_add (Further v) (Speed w) rows e fresh = has_appended (codes "words") (codes "speed") (reading_by word_rule) (v ∷ []) rows refl ∙ fresh
fresh_add (Further v) Suspended rows e fresh = has_appended (codes "words") (codes "suspended") (reading_by word_rule) (v ∷ []) rows refl ∙ fresh
fresh_add (Further v) Unused rows e fresh = has_appended (codes "words") (codes "unused") (reading_by word_rule) (v ∷ []) rows refl ∙ fresh
fresh_add (Further v) Listing rows e fresh = has_appended (codes "words") (codes "list") (reading_by word_rule) (v ∷ []) rows refl ∙ fresh
fresh_add (Further v) Following rows e fresh = has_appended (codes "words") (codes "follow") (reading_by word_rule) (v ∷ []) rows refl ∙ fresh
fresh_add (Further v) (Further w) rows e fresh = tt

fresh_more : (g : Given) (rows : List Row) (more : List Given) → AreFresh rows more → is_other g more ≡ true → AreFresh (add rows g) more
fresh_more g rows [] fresh e = tt
fresh_more g rows (x ∷ more) fresh e = (fresh_add g x rows (other_id g x more e) fresh.0, fresh_more g rows more fresh.1 (other_more g x more e))

none_fresh : (given : List Given) → AreFresh [] given
none_fresh [] = tt
none_fresh (Dir v ∷ more) = (refl, none_fresh more)
none_fresh (Streams v ∷ more) = (refl, none_fresh more)
none_fresh (Longest v ∷ more) = (refl, none_fresh more)
none_fresh (Speed v ∷ more) = (refl, none_fresh more)
none_fresh (Suspended ∷ more) = (refl, none_fresh more)
none_fresh (Unused ∷ more) = (refl, none_fresh more)
none_fresh (Listing ∷ more) = (refl, none_fresh more)
none_fresh (Following ∷ more) = (refl, none_fresh more)
none_fresh (Further v ∷ more) = (tt, none_fresh more)

-- ---- the walk

length_snoc : {X : Type 0} (xs : List X) (x : X) → length (xs ++ x ∷ []) ≡ suc (length xs)
length_snoc [] x = refl
length_snoc (y ∷ xs) x = ap suc (length_snoc xs x)

-- what waits for its use: nothing, an option with its value, or further words
data Pending : Type 0 where
  Clear : Pending
  Valued : Given → Text → Pending
  Worded : Text → List Text → Pending

abbrev pending_of : Pending → Option (Text × List Text)
pending_of Clear = None
pending_of (Valued g v) = Some ((row g).id, v ∷ [])
pending_of (Worded w ws) = Some (codes "words", w ∷ ws)

abbrev is_worded : Pending → Bool
is_worded (Worded w ws) = true
is_worded _ = false

-- how many words wait
abbrev waiting : Pending → ℕ
waiting (Worded w ws) = length (w ∷ ws)
waiting _ = 0

-- an option that waits is no word
abbrev IsOption : Pending → Type 0
IsOption (Valued g v) = bytes_eq (row g).id (codes "words") ≡ false
IsOption _ = Unit {0}

-- what waits has no fault, and then these are the rows
record Settles (p : Pending) (rows after : List Row) : Type 0 where
  fault : settle_fault ruled.rules false (held rows (pending_of p)) ≡ []
  used : settled_rows ruled.rules (pending_of p) rows ≡ after
  other : IsOption p

abbrev state : Pending → List Row → Walk
state p rows = at rows (pending_of p) (is_worded p)

clear_settles : (rows : List Row) → Settles Clear rows rows
clear_settles rows = record { fault = refl; used = refl; other = tt }

more_counted : (g : Given) (more : List Given) (n : ℕ) → n + length (further_in (g ∷ more)) < 2 ^ 64 → 0 + length (further_in more) < 2 ^ 64
more_counted (Dir v) more n few = omega arith
more_counted (Streams v) more n few = omega arith
more_counted (Longest v) more n few = omega arith
more_counted (Speed v) more n few = omega arith
more_counted Suspended more n few = omega arith
more_counted Unused more n few = omega arith
more_counted Listing more n few = omega arith
more_counted Following more n few = omega arith
more_counted (Further v) more n few = omega arith

-- a word in front, after what waits
module _ (v : Text) (good : is_value v ≡ true) (more : List Given) (after : List Row)
    (later : (q : Pending) (rs : List Row) → Settles q rs (add after (Further v)) → waiting q + length (further_in more) < 2 ^ 64 → Taken (state q rs) (words_in more) (rows_with (add after (Further v)) more)) where
  word_from : (p : Pending) (rows : List Row) → Settles p rows after → waiting p + suc (length (further_in more)) < 2 ^ 64 → Taken (state p rows) (v ∷ words_in more) (rows_with (add after (Further v)) more)
  word_from Clear rows s few =
      first_word_taken v good rows (words_in more) (rows_with (add after (Further v)) more)
      (later (Worded v []) rows (record { fault = words_settle v [] rows (omega arith); used = ap (λ (rs : List Row). add rs (Further v)) s.used; other = tt }) (omega arith))
  word_from (Valued g u) rows s few =
      other_word_taken v good (row g).id u s.other rows after (words_in more) (rows_with (add after (Further v)) more) s.fault s.used
      (later (Worded v []) after (record { fault = words_settle v [] after (omega arith); used = refl; other = tt }) (omega arith))
  word_from (Worded w ws) rows s few =
      let count = length_snoc ws v in
      let used = words_settled w (ws ++ v ∷ []) rows ∙ appended_twice (codes "words") (reading_by word_rule) (w ∷ ws) v rows refl ∙ ap (λ (rs : List Row). add rs (Further v)) s.used in
      next_word_taken v good (w ∷ ws) rows (words_in more) (rows_with (add after (Further v)) more)
      (later (Worded w (ws ++ v ∷ [])) rows (record { fault = words_settle w (ws ++ v ∷ []) rows (omega (arith, count)); used = used; other = tt }) (omega (arith, count)))

taken_from : (p : Pending) (rows after : List Row) (given : List Given) → Settles p rows after → list_all is_good given ≡ true → AreFresh after given → is_once given ≡ true
    → waiting p + length (further_in given) < 2 ^ 64 → Taken (state p rows) (words_in given) (rows_with after given)
unfolding walk_fault
taken_from p rows after [] s good fresh once few = record { no_fault = refl; settles = s.fault; found = s.used }
taken_from p rows after (Dir v ∷ more) s good fresh once few =
    let goods = both_true (is_value v) (list_all is_good more) good in
    let onces = both_true (is_other (Dir v) more) (is_once more) once in
    let reads = reads_dir v goods.0 in
    let next = taken_from (Valued (Dir v) v) after (add after (Dir v)) more (record { fault = reads.settles after fresh.0; used = reads.adds after fresh.0; other = refl }) goods.1 (fresh_more (Dir v) after more fresh.1 onces.0) onces.1 (more_counted (Dir v) more (waiting p) few) in
    option_taken (rule_of (Dir v)) (name_of (Dir v)) v reads rows after (pending_of p) (is_worded p) (words_in more) (rows_with (add after (Dir v)) more) s.fault s.used next
taken_from p rows after (Streams v ∷ more) s good fresh once few =
    let goods = both_true (is_value v) (list_all is_good more) good in
    let onces = both_true (is_other (Streams v) more) (is_once more) once in
    let reads = reads_streams v goods.0 in
    let next = taken_from (Valued (Streams v) v) after (add after (Streams v)) more (record { fault = reads.settles after fresh.0; used = reads.adds after fresh.0; other = refl }) goods.1 (fresh_more (Streams v) after more fresh.1 onces.0) onces.1 (more_counted (Streams v) more (waiting p) few) in
    option_taken (rule_of (Streams v)) (name_of (Streams v)) v reads rows after (pending_of p) (is_worded p) (words_in more) (rows_with (add after (Streams v)) more) s.fault s.used next
taken_from p rows after (Longest v ∷ more) s good fresh once few =
    let goods = both_true (is_value v) (list_all is_good more) good in
    let onces = both_true (is_other (Longest v) more) (is_once more) once in
    let reads = reads_longest v goods.0 in
    let next = taken_from (Valued (Longest v) v) after (add after (Longest v)) more (record { fault = reads.settles after fresh.0; used = reads.adds after fresh.0; other = refl }) goods.1 (fresh_more (Longest v) after more fresh.1 onces.0) onces.1 (more_counted (Longest v) more (waiting p) few) in
    option_taken (rule_of (Longest v)) (name_of (Longest v)) v reads rows after (pending_of p) (is_worded p) (words_in more) (rows_with (add after (Longest v)) more) s.fault s.used next
taken_from p rows after (Speed v ∷ more) s good fresh once few =
    let goods = both_true (is_value v) (list_all is_good more) good in
    let onces = both_true (is_other (Speed v) more) (is_once more) once in
    let reads = reads_speed v goods.0 in
    let next = taken_from (Valued (Speed v) v) after (add after (Speed v)) more (record { fault = reads.settles after fresh.0; used = reads.adds after fresh.0; other = refl }) goods.1 (fresh_more (Speed v) after more fresh.1 onces.0) onces.1 (more_counted (Speed v) more (waiting p) few) in
    option_taken (rule_of (Speed v)) (name_of (Speed v)) v reads rows after (pending_of p) (is_worded p) (words_in more) (rows_with (add after (Speed v)) more) s.fault s.used next
taken_from p rows after (Suspended ∷ more) s good fresh once few =
    let onces = both_true (is_other Suspended more) (is_once more) once in
    let next = taken_from Clear (add after Suspended) (add after Suspended) more (clear_settles (add after Suspended)) good (fresh_more Suspended after more fresh.1 onces.0) onces.1 (more_counted Suspended more (waiting p) few) in
    flag_taken (rule_of Suspended) (name_of Suspended) sets_suspended rows after (pending_of p) (is_worded p) (words_in more) (rows_with (add after Suspended) more) s.fault s.used fresh.0 next
taken_from p rows after (Unused ∷ more) s good fresh once few =
    let onces = both_true (is_other Unused more) (is_once more) once in
    let next = taken_from Clear (add after Unused) (add after Unused) more (clear_settles (add after Unused)) good (fresh_more Unused after more fresh.1 onces.0) onces.1 (more_counted Unused more (waiting p) few) in
    flag_taken (rule_of Unused) (name_of Unused) sets_unused rows after (pending_of p) (is_worded p) (words_in more) (rows_with (add after Unused) more) s.fault s.used fresh.0 next
taken_from p rows after (Listing ∷ more) s good fresh once few =
    let onces = both_true (is_other Listing more) (is_once more) once in
    let next = taken_from Clear (add after Listing) (add after Listing) more (clear_settles (add after Listing)) good (fresh_more Listing after more fresh.1 onces.0) onces.1 (more_counted Listing more (waiting p) few) in
    flag_taken (rule_of Listing) (name_of Listing) sets_list rows after (pending_of p) (is_worded p) (words_in more) (rows_with (add after Listing) more) s.fault s.used fresh.0 next
taken_from p rows after (Following ∷ more) s good fresh once few =
    let onces = both_true (is_other Following more) (is_once more) once in
    let next = taken_from Clear (add after Following) (add after Following) more (clear_settles (add after Following)) good (fresh_more Following after more fresh.1 onces.0) onces.1 (more_counted Following more (waiting p) few) in
    flag_taken (rule_of Following) (name_of Following) sets_follow rows after (pending_of p) (is_worded p) (words_in more) (rows_with (add after Following) more) s.fault s.used fresh.0 next
taken_from p rows after (Further v ∷ more) s good fresh once few =
    let goods = both_true (is_value v) (list_all is_good more) good in
    let fresh_later = fresh_more (Further v) after more fresh.1 refl in
    word_from v goods.0 more after (λ q rs t counted. taken_from q rs (add after (Further v)) more t goods.1 fresh_later once counted) p rows s few

abbrev walked_to : List Given → Walk
walked_to given = walk ruled.rules [] nothing_held (words_in given)

walk_taken : (given : List Given) → IsForm given → Taken (at [] None false) (words_in given) (rows_with [] given)
walk_taken given form = taken_from Clear [] [] given (clear_settles []) form.0 (none_fresh given) form.1 (few_from form.2)
  where
    few_from : {n : ℕ} → n < 2 ^ 64 → 0 + n < 2 ^ 64
    few_from few = omega arith

-- ---- what the rows hold

-- the row of an option, in rows with more of them
abbrev found : Text → List Given → Option Row
found id [] = None
found id (Further v ∷ more) = found id more
found id (g ∷ more) = option_or (cond (bytes_eq (row g).id id) (Some (row g)) None) (found id more)

module _ (id : Text) (other : bytes_eq (codes "words") id ≡ false) where
  option_found : (g : Given) (more : List Given) (rows : List Row) → row_in id (rows_with (rows ++ row g ∷ []) more) ≡ option_or (row_in id (rows ++ row g ∷ [])) (found id more)
      → row_in id (rows_with (rows ++ row g ∷ []) more) ≡ option_or (row_in id rows) (option_or (cond (bytes_eq (row g).id id) (Some (row g)) None) (found id more))
  option_found g more rows later =
      later ∙ ap (λ (o : Option Row). option_or o (found id more)) (row_pushed id rows (row g)) ∙ or_assoc (row_in id rows) (cond (bytes_eq (row g).id id) (Some (row g)) None) (found id more)

  rows_found : (given : List Given) (rows : List Row) → row_in id (rows_with rows given) ≡ option_or (row_in id rows) (found id given)
  rows_found [] rows = sym (none_or (row_in id rows))
  rows_found (Dir v ∷ more) rows = option_found (Dir v) more rows (rows_found more (rows ++ row (Dir v) ∷ []))
  rows_found (Streams v ∷ more) rows = option_found (Streams v) more rows (rows_found more (rows ++ row (Streams v) ∷ []))
  rows_found (Longest v ∷ more) rows = option_found (Longest v) more rows (rows_found more (rows ++ row (Longest v) ∷ []))
  rows_found (Speed v ∷ more) rows = option_found (Speed v) more rows (rows_found more (rows ++ row (Speed v) ∷ []))
  rows_found (Suspended ∷ more) rows = option_found Suspended more rows (rows_found more (rows ++ row Suspended ∷ []))
  rows_found (Unused ∷ more) rows = option_found Unused more rows (rows_found more (rows ++ row Unused ∷ []))
  rows_found (Listing ∷ more) rows = option_found Listing more rows (rows_found more (rows ++ row Listing ∷ []))
  rows_found (Following ∷ more) rows = option_found Following more rows (rows_found more (rows ++ row Following ∷ []))
  rows_found (Further v ∷ more) rows = rows_found more (add rows (Further v)) ∙ ap (λ (o : Option Row). option_or o (found id more)) (row_appended (codes "words") id (reading_by word_rule) (v ∷ []) rows other)

dir_found : (given : List Given) → value_in (found (codes "dir") given) ≡ dir_in given
dir_found [] = refl
dir_found (Dir v ∷ more) = refl
dir_found (Streams v ∷ more) = dir_found more
dir_found (Longest v ∷ more) = dir_found more
dir_found (Speed v ∷ more) = dir_found more
dir_found (Suspended ∷ more) = dir_found more
dir_found (Unused ∷ more) = dir_found more
dir_found (Listing ∷ more) = dir_found more
dir_found (Following ∷ more) = dir_found more
dir_found (Further v ∷ more) = dir_found more

list_found : (given : List Given) → value_in (found (codes "streams") given) ≡ list_in given
list_found [] = refl
list_found (Dir v ∷ more) = list_found more
list_found (Streams v ∷ more) = refl
list_found (Longest v ∷ more) = list_found more
list_found (Speed v ∷ more) = list_found more
list_found (Suspended ∷ more) = list_found more
list_found (Unused ∷ more) = list_found more
list_found (Listing ∷ more) = list_found more
list_found (Following ∷ more) = list_found more
list_found (Further v ∷ more) = list_found more

longest_found : (given : List Given) → value_in (found (codes "longest") given) ≡ longest_in given
longest_found [] = refl
longest_found (Dir v ∷ more) = longest_found more
longest_found (Streams v ∷ more) = longest_found more
longest_found (Longest v ∷ more) = refl
longest_found (Speed v ∷ more) = longest_found more
longest_found (Suspended ∷ more) = longest_found more
longest_found (Unused ∷ more) = longest_found more
longest_found (Listing ∷ more) = longest_found more
longest_found (Following ∷ more) = longest_found more
longest_found (Further v ∷ more) = longest_found more

speed_found : (given : List Given) → value_in (found (codes "speed") given) ≡ speed_in given
speed_found [] = refl
speed_found (Dir v ∷ more) = speed_found more
speed_found (Streams v ∷ more) = speed_found more
speed_found (Longest v ∷ more) = speed_found more
speed_found (Speed v ∷ more) = refl
speed_found (Suspended ∷ more) = speed_found more
speed_found (Unused ∷ more) = speed_found more
speed_found (Listing ∷ more) = speed_found more
speed_found (Following ∷ more) = speed_found more
speed_found (Further v ∷ more) = speed_found more

suspended_found : (given : List Given) → is_on (found (codes "suspended") given) ≡ has_suspended given
suspended_found [] = refl
suspended_found (Dir v ∷ more) = suspended_found more
suspended_found (Streams v ∷ more) = suspended_found more
suspended_found (Longest v ∷ more) = suspended_found more
suspended_found (Speed v ∷ more) = suspended_found more
suspended_found (Suspended ∷ more) = refl
suspended_found (Unused ∷ more) = suspended_found more
suspended_found (Listing ∷ more) = suspended_found more
suspended_found (Following ∷ more) = suspended_found more
suspended_found (Further v ∷ more) = suspended_found more

listing_found : (given : List Given) → is_on (found (codes "list") given) ≡ has_listing given
listing_found [] = refl
listing_found (Dir v ∷ more) = listing_found more
listing_found (Streams v ∷ more) = listing_found more
listing_found (Longest v ∷ more) = listing_found more
listing_found (Speed v ∷ more) = listing_found more
listing_found (Suspended ∷ more) = listing_found more
listing_found (Unused ∷ more) = listing_found more
listing_found (Listing ∷ more) = refl
listing_found (Following ∷ more) = listing_found more
listing_found (Further v ∷ more) = listing_found more

following_found : (given : List Given) → is_on (found (codes "follow") given) ≡ has_following given
following_found [] = refl
following_found (Dir v ∷ more) = following_found more
following_found (Streams v ∷ more) = following_found more
following_found (Longest v ∷ more) = following_found more
following_found (Speed v ∷ more) = following_found more
following_found (Suspended ∷ more) = following_found more
following_found (Unused ∷ more) = following_found more
following_found (Listing ∷ more) = following_found more
following_found (Following ∷ more) = refl
following_found (Further v ∷ more) = following_found more

words_kept : (more : List Given) (rows : List Row) (y : Row) → bytes_eq y.id (codes "words") ≡ false → values_in (row_in (codes "words") (rows_with (rows ++ y ∷ []) more)) ≡ values_in (row_in (codes "words") (rows ++ y ∷ [])) ++ further_in more
    → values_in (row_in (codes "words") (rows_with (rows ++ y ∷ []) more)) ≡ values_in (row_in (codes "words") rows) ++ further_in more
words_kept more rows y other later = later ∙ ap (λ (o : Option Row). values_in o ++ further_in more) (row_kept (codes "words") rows y other)

words_found : (given : List Given) (rows : List Row) → values_in (row_in (codes "words") (rows_with rows given)) ≡ values_in (row_in (codes "words") rows) ++ further_in given
words_found [] rows = sym (no_more (values_in (row_in (codes "words") rows)))
words_found (Dir v ∷ more) rows = words_kept more rows (row (Dir v)) refl (words_found more (rows ++ row (Dir v) ∷ []))
words_found (Streams v ∷ more) rows = words_kept more rows (row (Streams v)) refl (words_found more (rows ++ row (Streams v) ∷ []))
words_found (Longest v ∷ more) rows = words_kept more rows (row (Longest v)) refl (words_found more (rows ++ row (Longest v) ∷ []))
words_found (Speed v ∷ more) rows = words_kept more rows (row (Speed v)) refl (words_found more (rows ++ row (Speed v) ∷ []))
words_found (Suspended ∷ more) rows = words_kept more rows (row Suspended) refl (words_found more (rows ++ row Suspended ∷ []))
words_found (Unused ∷ more) rows = words_kept more rows (row Unused) refl (words_found more (rows ++ row Unused ∷ []))
words_found (Listing ∷ more) rows = words_kept more rows (row Listing) refl (words_found more (rows ++ row Listing ∷ []))
words_found (Following ∷ more) rows = words_kept more rows (row Following) refl (words_found more (rows ++ row Following ∷ []))
words_found (Further v ∷ more) rows =
    words_found more (add rows (Further v)) ∙ ap (λ (ws : List Text). ws ++ further_in more) (values_appended (codes "words") (reading_by word_rule) (v ∷ []) rows refl)
    ∙ append_assoc (values_in (row_in (codes "words") rows)) (v ∷ []) (further_in more)

-- ---- the defaults of the options without a value

abbrev with_defaults : List Row → List Row
with_defaults rows = with_default (with_default (with_default (with_default rows (rule_of Suspended)) (rule_of Unused)) (rule_of Listing)) (rule_of Following)

-- of the nine arguments these four have defaults
defaults_are : (rows : List Row) → fold with_default rows ruled.rules ≡ with_defaults rows
defaults_are rows =
    let a = default_none (rule_of (Dir [])) rows refl in
    let b = ap (λ rs. with_default rs (rule_of (Streams []))) a ∙ default_none (rule_of (Streams [])) rows refl in
    let c = ap (λ rs. with_default rs (rule_of (Longest []))) b ∙ default_none (rule_of (Longest [])) rows refl in
    let d = ap (λ rs. with_default rs (rule_of (Speed []))) c ∙ default_none (rule_of (Speed [])) rows refl in
    ap (λ rs. with_default (with_defaults rs) word_rule) d ∙ default_none word_rule (with_defaults rows) refl

-- another argument's row is as without them
kept : (id : Text) (rows : List Row) → bytes_eq (codes "suspended") id ≡ false → bytes_eq (codes "unused") id ≡ false → bytes_eq (codes "list") id ≡ false → bytes_eq (codes "follow") id ≡ false → row_in id (with_defaults rows) ≡ row_in id rows
kept id rows a b c d =
    default_kept id (rule_of Following) (codes "false") (with_default (with_default (with_default rows (rule_of Suspended)) (rule_of Unused)) (rule_of Listing)) refl d
    ∙ default_kept id (rule_of Listing) (codes "false") (with_default (with_default rows (rule_of Suspended)) (rule_of Unused)) refl c
    ∙ default_kept id (rule_of Unused) (codes "false") (with_default rows (rule_of Suspended)) refl b
    ∙ default_kept id (rule_of Suspended) (codes "false") rows refl a

suspended_kept : (rows : List Row) → is_on (row_in (codes "suspended") (with_defaults rows)) ≡ is_on (row_in (codes "suspended") rows)
suspended_kept rows =
    ap is_on (default_kept (codes "suspended") (rule_of Following) (codes "false") (with_default (with_default (with_default rows (rule_of Suspended)) (rule_of Unused)) (rule_of Listing)) refl refl
    ∙ default_kept (codes "suspended") (rule_of Listing) (codes "false") (with_default (with_default rows (rule_of Suspended)) (rule_of Unused)) refl refl
    ∙ default_kept (codes "suspended") (rule_of Unused) (codes "false") (with_default rows (rule_of Suspended)) refl refl)
    ∙ default_off (rule_of Suspended) rows refl refl

listing_kept : (rows : List Row) → is_on (row_in (codes "list") (with_defaults rows)) ≡ is_on (row_in (codes "list") rows)
listing_kept rows =
    ap is_on (default_kept (codes "list") (rule_of Following) (codes "false") (with_default (with_default (with_default rows (rule_of Suspended)) (rule_of Unused)) (rule_of Listing)) refl refl)
    ∙ default_off (rule_of Listing) (with_default (with_default rows (rule_of Suspended)) (rule_of Unused)) refl refl
    ∙ ap is_on (default_kept (codes "list") (rule_of Unused) (codes "false") (with_default rows (rule_of Suspended)) refl refl
    ∙ default_kept (codes "list") (rule_of Suspended) (codes "false") rows refl refl)

following_kept : (rows : List Row) → is_on (row_in (codes "follow") (with_defaults rows)) ≡ is_on (row_in (codes "follow") rows)
following_kept rows =
    default_off (rule_of Following) (with_default (with_default (with_default rows (rule_of Suspended)) (rule_of Unused)) (rule_of Listing)) refl refl
    ∙ ap is_on (default_kept (codes "follow") (rule_of Listing) (codes "false") (with_default (with_default rows (rule_of Suspended)) (rule_of Unused)) refl refl
    ∙ default_kept (codes "follow") (rule_of Unused) (codes "false") (with_default rows (rule_of Suspended)) refl refl
    ∙ default_kept (codes "follow") (rule_of Suspended) (codes "false") rows refl refl)

default_free : (t u : Bool) (k : Kinds) → k ≡ [] → cond (t || u) [] k ≡ []
default_free true u k e = refl
default_free false true k e = refl
default_free false false k e = e

defaults_free : (rows : List Row) (c : List Rule) → AllByRecursion (λ a. given_default_fault a a.defaults ≡ []) c → defaults_fault rows c ≡ []
unfolding defaults_fault
defaults_free rows [] e = refl
defaults_free rows (a ∷ c) e = ap₂ or_else (default_free (has_row a.id rows) (is_empty a.defaults) (given_default_fault a a.defaults) e.0) (defaults_free (with_default rows a) c e.1)

-- ---- the words

none_entered : (stop : Option (Text × List Text)) → is_some (entered (built program) stop) ≡ false
none_entered None = refl
none_entered (Some p) = refl

none_below : (stop : Option (Text × List Text)) → entered_fault (built program) stop ≡ []
none_below None = refl
none_below (Some p) = refl

pub form_taken : (given : List Given) → IsForm given → fault_of program (words_in given) ≡ []
form_taken given form =
    let t = walk_taken given form in
    ap₂ (level_fault ruled [] nothing_held (words_in given)) (none_entered (walked_to given).stopped) (none_below (walked_to given).stopped)
    ∙ ap₂ or_else t.no_fault (ap₂ or_else t.settles (ap₂ or_else (defaults_free (settled ruled.rules (walked_to given).held).rows ruled.rules (refl, (refl, (refl, (refl, (refl, (refl, (refl, (refl, (refl, tt)))))))))) refl))

rows_are : (given : List Given) → IsForm given → matches_of program (words_in given) ≡ with_defaults (rows_with [] given)
rows_are given form = ap (λ (rs : List Row). fold with_default rs ruled.rules) (walk_taken given form).found ∙ defaults_are (rows_with [] given)

-- what is asked for, by the values of the options and by the words
abbrev by_values : Option Text → Option Text → Option Text → Option Text → Bool → Bool → Bool → List Text → Option Asked
by_values dir list longest speed suspended listing following further =
    option_and_then (λ manner. cond listing (search_of following (unwrap_or dir (codes "/var/log/sudo-io")) further) (play_of following (unwrap_or dir (codes "/var/log/sudo-io")) manner further))
    (option_and_then (λ streams. option_and_then (λ most. option_map (λ rate. record {
      streams = streams;
      longest = most;
      speed = rate;
      suspended = suspended;
    }) (speed_asked speed)) (longest_asked longest)) (streams_asked list))

abbrev by_rows : Option Row → Option Row → Option Row → Option Row → Bool → Bool → Bool → List Text → Option Asked
by_rows dir list longest speed suspended listing following further = by_values (value_in dir) (value_in list) (value_in longest) (value_in speed) suspended listing following further

words_are : (o : Option Row) → unwrap_or (option_map (λ r. r.values) o) [] ≡ values_in o
words_are None = refl
words_are (Some r) = refl

asked_is : (rows : List Row) → asked_by rows ≡ by_rows (row_in (codes "dir") rows) (row_in (codes "streams") rows) (row_in (codes "longest") rows) (row_in (codes "speed") rows)
    (is_on (row_in (codes "suspended") rows)) (is_on (row_in (codes "list") rows)) (is_on (row_in (codes "follow") rows)) (values_in (row_in (codes "words") rows))
asked_is rows = ap (by_rows (row_in (codes "dir") rows) (row_in (codes "streams") rows) (row_in (codes "longest") rows) (row_in (codes "speed") rows) (is_on (row_in (codes "suspended") rows)) (is_on (row_in (codes "list") rows)) (is_on (row_in (codes "follow") rows)))
    (words_are (row_in (codes "words") rows))

pub form_asked : (given : List Given) → IsForm given → asked (words_in given) ≡ told given
form_asked given form =
    let rows = rows_with [] given in
    let all = with_defaults rows in
    let dir = ap value_in (kept (codes "dir") rows refl refl refl refl ∙ rows_found (codes "dir") refl given []) ∙ dir_found given in
    let list = ap value_in (kept (codes "streams") rows refl refl refl refl ∙ rows_found (codes "streams") refl given []) ∙ list_found given in
    let longest = ap value_in (kept (codes "longest") rows refl refl refl refl ∙ rows_found (codes "longest") refl given []) ∙ longest_found given in
    let speed = ap value_in (kept (codes "speed") rows refl refl refl refl ∙ rows_found (codes "speed") refl given []) ∙ speed_found given in
    let suspended = suspended_kept rows ∙ ap is_on (rows_found (codes "suspended") refl given []) ∙ suspended_found given in
    let listing = listing_kept rows ∙ ap is_on (rows_found (codes "list") refl given []) ∙ listing_found given in
    let following = following_kept rows ∙ ap is_on (rows_found (codes "follow") refl given []) ∙ following_found given in
    let further = ap values_in (kept (codes "words") rows refl refl refl refl) ∙ words_found given [] in
    ap asked_by (rows_are given form) ∙ asked_is all
    ∙ ap (λ d. by_values d (value_in (row_in (codes "streams") all)) (value_in (row_in (codes "longest") all)) (value_in (row_in (codes "speed") all)) (is_on (row_in (codes "suspended") all)) (is_on (row_in (codes "list") all)) (is_on (row_in (codes "follow") all)) (values_in (row_in (codes "words") all))) dir
    ∙ ap (λ l. by_values (dir_in given) l (value_in (row_in (codes "longest") all)) (value_in (row_in (codes "speed") all)) (is_on (row_in (codes "suspended") all)) (is_on (row_in (codes "list") all)) (is_on (row_in (codes "follow") all)) (values_in (row_in (codes "words") all))) list
    ∙ ap (λ m. by_values (dir_in given) (list_in given) m (value_in (row_in (codes "speed") all)) (is_on (row_in (codes "suspended") all)) (is_on (row_in (codes "list") all)) (is_on (row_in (codes "follow") all)) (values_in (row_in (codes "words") all))) longest
    ∙ ap (λ s. by_values (dir_in given) (list_in given) (longest_in given) s (is_on (row_in (codes "suspended") all)) (is_on (row_in (codes "list") all)) (is_on (row_in (codes "follow") all)) (values_in (row_in (codes "words") all))) speed
    ∙ ap (λ b. by_values (dir_in given) (list_in given) (longest_in given) (speed_in given) b (is_on (row_in (codes "list") all)) (is_on (row_in (codes "follow") all)) (values_in (row_in (codes "words") all))) suspended
    ∙ ap (λ b. by_values (dir_in given) (list_in given) (longest_in given) (speed_in given) (has_suspended given) b (is_on (row_in (codes "follow") all)) (values_in (row_in (codes "words") all))) listing
    ∙ ap (λ b. by_values (dir_in given) (list_in given) (longest_in given) (speed_in given) (has_suspended given) (has_listing given) b (values_in (row_in (codes "words") all))) following
    ∙ ap (by_values (dir_in given) (list_in given) (longest_in given) (speed_in given) (has_suspended given) (has_listing given) (has_following given)) further

-- ---- what is said, case by case

-- what is said of a manner
abbrev told_in : List Given → Bool → Bool → Manner → Option Asked
told_in given listing following manner = cond listing (search_of following (dir_told given) (further_in given)) (play_of following (dir_told given) manner (further_in given))

abbrev told_by : List Given → Option Manner → Option Asked
told_by given way = option_and_then (told_in given (has_listing given) (has_following given)) way

-- in this manner, with these options
told_as : (given : List Given) (manner : Manner) (listing following : Bool) → IsForm given → manner_told given ≡ Some manner → has_listing given ≡ listing → has_following given ≡ following → asked (words_in given) ≡ told_in given listing following manner
told_as given manner listing following form way lists follows =
    form_asked given form ∙ ap (told_by given) way
    ∙ ap (λ (t : Bool). told_in given t (has_following given) manner) lists
    ∙ ap (λ (t : Bool). told_in given listing t manner) follows

pub form_plays : (given : List Given) (manner : Manner) (id : Text) → IsForm given → manner_told given ≡ Some manner → has_listing given ≡ false → has_following given ≡ false → further_in given ≡ id ∷ []
    → asked (words_in given) ≡ Some (Play (dir_told given) manner id)
form_plays given manner id form way no_list no_follow one = told_as given manner false false form way no_list no_follow ∙ ap (play_of false (dir_told given) manner) one

pub form_follows : (given : List Given) (manner : Manner) (id : Text) → IsForm given → manner_told given ≡ Some manner → has_listing given ≡ false → has_following given ≡ true → further_in given ≡ id ∷ []
    → asked (words_in given) ≡ Some (Follow (dir_told given) manner id)
form_follows given manner id form way no_list follow one = told_as given manner false true form way no_list follow ∙ ap (play_of true (dir_told given) manner) one

pub form_lists : (given : List Given) (manner : Manner) → IsForm given → manner_told given ≡ Some manner → has_listing given ≡ true → has_following given ≡ false → asked (words_in given) ≡ Some (Search (dir_told given) (further_in given))
form_lists given manner form way list no_follow = told_as given manner true false form way list no_follow

pub form_refused : (given : List Given) → IsForm given → told given ≡ None → IsRefused (words_in given)
form_refused given form none = inr (form_asked given form ∙ none)

pub form_only : (given : List Given) → IsForm given → IsRefused (words_in given) → told given ≡ None
form_only given form (inl fault) = absurd (fault (form_taken given form))
form_only given form (inr none) = sym (form_asked given form) ∙ none
