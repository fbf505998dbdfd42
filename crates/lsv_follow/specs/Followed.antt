-- What is put of a log that is followed, by the looks at it.
use Rattle.std.specs.Prelude.{ℕ, zero, suc, List, [], ◌∷◌, ◌++◌, map}
use Rattle.lsv_play.specs.declared.options.Options.{Options}
use Rattle.lsv_play.specs.declared.screen.Item.{Item}
use Rattle.lsv_play.specs.declared.screen.Item.TheVariants.{Wait, Put}
use Rattle.lsv_play.specs.Schedule.{bytes_shown, items_of}
use Rattle.lsv_record.specs.declared.records.Record.{Record}
use Rattle.lsv_follow.specs.declared.follow.Seen.{Seen}
use Rattle.lsv_follow.specs.declared.follow.Seen.TheVariants as seen
use Rattle.lsv_follow.specs.Following.{given_by}

-- how long is waited after a look that found no further record, in nanoseconds
abbrev pub pause : ℕ
pause = 100000000

-- how many looks in a row found no further record, with one look more
abbrev pub quiet_after : ℕ → Seen → ℕ
quiet_after n (seen.Record r) = 0
quiet_after n seen.Nothing = suc n
quiet_after n seen.End = n

-- and at the end of these looks, if n did before them
abbrev pub quiet_in : ℕ → List Seen → ℕ
quiet_in n [] = n
quiet_in n (look ∷ looks) = quiet_in (quiet_after n look) looks

-- what is put for a record: its wait and bytes, as in play; but at once if the look before found nothing
abbrev pub record_put : Options → ℕ → Record → List Item
record_put o zero r = items_of o r
record_put o (suc n) r = Wait 0 ∷ bytes_shown o r

-- what is put for one look, after n in a row that found no further record: the record; a pause if there is none; nothing at the end
abbrev pub followed_by : Options → ℕ → Seen → List Item
followed_by o n (seen.Record r) = record_put o n r
followed_by o n seen.Nothing = Wait pause ∷ []
followed_by o n seen.End = []

-- what is put for these looks, in order, after n in a row that found no further record
abbrev pub followed_from : Options → ℕ → List Seen → List Item
followed_from o n [] = []
followed_from o n (look ∷ looks) = followed_by o n look ++ followed_from o (quiet_after n look) looks

-- what is put for all looks
abbrev pub followed : Options → List Seen → List Item
followed o looks = followed_from o 0 looks

-- what was put by each act of the others: one after a look read, and one after it was shown; and by the act after the next look read
abbrev pub put_at_acts : Options → List Seen → List Seen → List (List Item)
put_at_acts o done [] = followed o done ∷ []
put_at_acts o done (look ∷ looks) = followed o done ∷ followed o (done ++ look ∷ []) ∷ put_at_acts o (done ++ look ∷ []) looks

-- what a screen shows that had shown this before
abbrev pub seen_from : List Item → List (List Item) → List (List Item)
seen_from before saw = map (λ items. before ++ items) saw

-- the records that looks gave, in order
abbrev pub records_of : List Seen → List Record
records_of [] = []
records_of (look ∷ looks) = given_by look ++ records_of looks

-- the bytes that are put, without the waits
abbrev pub bytes_put : List Item → List ℕ
bytes_put [] = []
bytes_put (Wait nanos ∷ items) = bytes_put items
bytes_put (Put bytes ∷ items) = bytes ++ bytes_put items
