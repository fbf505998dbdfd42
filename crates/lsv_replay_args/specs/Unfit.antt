-- What of words that clap takes is out of its form.
use Rattle.std.specs.Prelude.{Bool, ℕ, List, [], ◌∷◌, Option, Some, None, codes, if◌then◌else◌}
use Rattle.clap.specs.Walk.{Row, first_of}
use Rattle.lsv_replay_args.specs.Request.{is_set, longest_asked, speed_asked, streams_asked, words_of}
use Rattle.lsv_replay_args.specs.declared.unfit.Unfit.{Unfit}
use Rattle.lsv_replay_args.specs.declared.unfit.Unfit.TheVariants.{Streams, Longest, Speed, FollowedListing, NoIdentifier, Identifiers}

-- a value that is given and isn't read, or else what is found of others
abbrev pub or_else : {A : Type 0} → (List ℕ → Unfit) → Option (List ℕ) → Option A → Option Unfit → Option Unfit
or_else unfit None read more = more
or_else unfit (Some text) (Some read) more = more
or_else unfit (Some text) None more = Some (unfit text)

-- one identifier is wanted
abbrev pub unfit_words : List (List ℕ) → Option Unfit
unfit_words [] = Some NoIdentifier
unfit_words (id ∷ []) = None
unfit_words (id ∷ other ∷ more) = Some (Identifiers other)

-- a listing doesn't go with `-F`
abbrev pub unfit_listing : Bool → Option Unfit
unfit_listing follows = if follows then Some FollowedListing else None

-- the same, but with `-l`
abbrev pub unfit_task : List Row → Option Unfit
unfit_task rows = if is_set rows "list" then unfit_listing (is_set rows "follow") else unfit_words (words_of rows)

abbrev pub unfit_speed : List Row → Option Unfit
unfit_speed rows = or_else Speed (first_of (codes "speed") rows) (speed_asked (first_of (codes "speed") rows)) (unfit_task rows)

abbrev pub unfit_longest : List Row → Option Unfit
unfit_longest rows = or_else Longest (first_of (codes "longest") rows) (longest_asked (first_of (codes "longest") rows)) (unfit_speed rows)

-- the first of these that is out of its form: the streams, the longest wait, the speed, `-l` with `-F`, and without `-l` the identifier
abbrev pub unfit_in : List Row → Option Unfit
unfit_in rows = or_else Streams (first_of (codes "streams") rows) (streams_asked (first_of (codes "streams") rows)) (unfit_longest rows)
