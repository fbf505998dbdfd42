-- What is put for looks, beside what is put of the records that they gave in play.
use Rattle.std.proofs.Common.{◌≡◌, ◌∙◌, ◌++◌, ◌+◌, ℕ, zero, suc, List, [], ◌∷◌, refl, sym, ap, append-nil, append_assoc, arith}
use Rattle.std.proofs.lemmas.List.{map-append, replicate_more}
use Rattle.lsv_record.specs.declared.records.Record.{Record}
use Rattle.lsv_play.specs.declared.options.Options.{Options}
use Rattle.lsv_play.specs.declared.screen.Item.{Item}
use Rattle.lsv_play.specs.declared.screen.Item.TheVariants.{Wait, Put}
use Rattle.lsv_play.specs.Schedule.{items_of, play}
use Rattle.lsv_play.proofs.Parts.{play_append}
use Rattle.lsv_follow.specs.Ending.{gave, pauses, quiet}
use Rattle.lsv_follow.specs.Followed.{bytes_put, followed, followed_by, followed_from, pause, quiet_after, quiet_in, record_put, records_of}
use Rattle.lsv_follow.specs.Following.{given_by}
use Rattle.lsv_follow.specs.declared.follow.Seen.{Seen}
use Rattle.lsv_follow.specs.declared.follow.Seen.TheVariants as seen

-- ---- bytes

bytes_append : (a b : List Item) → bytes_put (a ++ b) ≡ bytes_put a ++ bytes_put b
bytes_append [] b = refl
bytes_append (Wait nanos ∷ a) b = bytes_append a b
bytes_append (Put bytes ∷ a) b = ap (λ (rest : List ℕ). bytes ++ rest) (bytes_append a b) ∙ sym (append_assoc bytes (bytes_put a) (bytes_put b))

record_bytes : (o : Options) (n : ℕ) (r : Record) → bytes_put (record_put o n r) ≡ bytes_put (items_of o r)
record_bytes o zero r = refl
record_bytes o (suc n) r = refl

look_bytes : (o : Options) (n : ℕ) (look : Seen) → bytes_put (followed_by o n look) ≡ bytes_put (play o (given_by look))
look_bytes o n (seen.Record r) = record_bytes o n r ∙ ap bytes_put (sym (append-nil (items_of o r)))
look_bytes o n seen.Nothing = refl
look_bytes o n seen.End = refl

pub from_bytes : (o : Options) (n : ℕ) (looks : List Seen) → bytes_put (followed_from o n looks) ≡ bytes_put (play o (records_of looks))
from_bytes o n [] = refl
from_bytes o n (look ∷ looks) =
    bytes_append (followed_by o n look) (followed_from o (quiet_after n look) looks)
    ∙ ap (λ (bytes : List ℕ). bytes ++ bytes_put (followed_from o (quiet_after n look) looks)) (look_bytes o n look)
    ∙ ap (λ (bytes : List ℕ). bytes_put (play o (given_by look)) ++ bytes) (from_bytes o (quiet_after n look) looks)
    ∙ sym (bytes_append (play o (given_by look)) (play o (records_of looks)))
    ∙ ap bytes_put (sym (play_append o (given_by look) (records_of looks)))

-- ---- looks that gave records, and then found no further one

pub followed_end : (o : Options) (records : List Record) → followed o (gave records ++ seen.End ∷ []) ≡ play o records
followed_end o [] = refl
followed_end o (r ∷ records) = ap (λ (items : List Item). items_of o r ++ items) (followed_end o records)

quiet_put : (o : Options) (n m : ℕ) → followed_from o n (quiet m) ≡ pauses m
quiet_put o n zero = refl
quiet_put o n (suc m) = ap (λ (items : List Item). Wait pause ∷ items) (quiet_put o (suc n) m)

pub followed_quiet_put : (o : Options) (records : List Record) (m : ℕ) → followed o (gave records ++ quiet m) ≡ play o records ++ pauses m
followed_quiet_put o [] m = quiet_put o 0 m
followed_quiet_put o (r ∷ records) m = ap (λ (items : List Item). items_of o r ++ items) (followed_quiet_put o records m) ∙ sym (append_assoc (items_of o r) (play o records) (pauses m))

pub followed_gave : (o : Options) (records : List Record) → followed o (gave records) ≡ play o records
followed_gave o [] = refl
followed_gave o (r ∷ records) = ap (λ (items : List Item). items_of o r ++ items) (followed_gave o records)

pub gave_push : (records : List Record) (r : Record) → gave (records ++ r ∷ []) ≡ gave records ++ seen.Record r ∷ []
gave_push records r = map-append (λ (x : Record). seen.Record x) records (r ∷ [])

pub quiet_more : (n : ℕ) → quiet n ++ seen.Nothing ∷ [] ≡ quiet (n + 1)
quiet_more n = replicate_more n seen.Nothing

-- how many looks in a row found nothing
count_quiet : (n m : ℕ) → quiet_in n (quiet m) ≡ n + m
count_quiet n zero = let e : n ≡ n + 0 = omega arith in e
count_quiet n (suc m) = count_quiet (suc n) m ∙ (let e : suc n + m ≡ n + suc m = omega arith in e)

pub count_first : (records : List Record) (m : ℕ) → quiet_in 0 (gave records ++ quiet m) ≡ m
count_first [] m = count_quiet 0 m ∙ (let e : 0 + m ≡ m = omega arith in e)
count_first (r ∷ records) m = count_first records m

pub count_over : (records : List Record) → quiet_in 0 (gave records ++ seen.End ∷ []) ≡ 0
count_over [] = refl
count_over (r ∷ records) = count_over records

-- which records they gave
none_given : (m : ℕ) → records_of (quiet m) ≡ []
none_given zero = refl
none_given (suc m) = none_given m

pub given_first : (records : List Record) (m : ℕ) → records_of (gave records ++ quiet m) ≡ records
given_first [] m = none_given m
given_first (r ∷ records) m = ap (λ (rs : List Record). r ∷ rs) (given_first records m)

pub records_append : (looks more : List Seen) → records_of (looks ++ more) ≡ records_of looks ++ records_of more
records_append [] more = refl
records_append (look ∷ looks) more = ap (λ (rs : List Record). given_by look ++ rs) (records_append looks more) ∙ sym (append_assoc (given_by look) (records_of looks) (records_of more))
