-- A line that the server writes in sudo's style is an event.
use Rattle.std.proofs.Common.{◌≡◌, ◌∙◌, ◌++◌, ℕ, ◌+◌, ◌/◌, ◌%◌, ◌≤◌, Bool, true, List, [], ◌∷◌, length, codes, refl, sym, ap, append_assoc, arith}
use Rattle.std.specs.Prelude.{◌&&◌, ◌||◌, All, unsigned_abs}
use Rattle.std.specs.List.{list_all}
use Rattle.std.proofs.lemmas.Bool.{le-leb}
use Rattle.std.proofs.lemmas.List.Elements.{All-head, All-tail}
use Rattle.lsv_base.specs.declared.time.TimeSpec.{TimeSpec}
use Rattle.lsv_event.specs.Dates.{Day, clock_text, date_of, day_of, day_text, two_digits}
use Rattle.lsv_event.specs.Escapes.{escaped}
use Rattle.lsv_event.specs.Events.{IsVisible}
use Rattle.lsv_event.specs.SudoLine.{dated, joined, line_start, parts_of, sudo_line, who_of}
use Rattle.lsv_event.specs.declared.event.Event.{Event}
use Rattle.lsv_tally.specs.Events.{begins_as, fits_byte, is_visible, reads, reads_as_json}

both : {x y : Bool} → x ≡ true → y ≡ true → (x && y) ≡ true
both {x} {y} e f = ap (λ (b : Bool). b && y) e ∙ f

-- ---- the start of a line

digit_fits : (d : ℕ) → d ≤ 9 → fits_byte 48 (48 + d) ≡ true
digit_fits d few = both (le-leb 48 (48 + d) (omega arith)) (le-leb (48 + d) 57 (omega (arith, few)))

two_fit : (n : ℕ) (form rest : List ℕ) → begins_as form rest ≡ true → begins_as (48 ∷ 48 ∷ form) (two_digits n ++ rest) ≡ true
two_fit n form rest after = both (digit_fits (n / 10 % 10) (omega arith)) (both (digit_fits (n % 10) (omega arith)) after)

-- a date, a time of day, and ` : `
start_fits : (d : Day) (seconds : ℕ) (rest : List ℕ) → begins_as (codes "0000-00-00T00:00:00Z : ") (day_text d ++ 84 ∷ clock_text seconds ++ 90 ∷ [] ++ codes " : " ++ rest) ≡ true
start_fits d seconds rest =
    two_fit (d.year / 100) (codes "00-00-00T00:00:00Z : ") (two_digits d.year ++ (45 ∷ (two_digits d.month ++ (45 ∷ (two_digits d.day ++ (84 ∷ (clock_text seconds ++ (90 ∷ (codes " : " ++ rest)))))))))
    (two_fit d.year (codes "-00-00T00:00:00Z : ") (45 ∷ (two_digits d.month ++ (45 ∷ (two_digits d.day ++ (84 ∷ (clock_text seconds ++ (90 ∷ (codes " : " ++ rest))))))))
    (two_fit d.month (codes "-00T00:00:00Z : ") (45 ∷ (two_digits d.day ++ (84 ∷ (clock_text seconds ++ (90 ∷ (codes " : " ++ rest))))))
    (two_fit d.day (codes "T00:00:00Z : ") (84 ∷ (clock_text seconds ++ (90 ∷ (codes " : " ++ rest))))
    (two_fit (seconds / 3600) (codes ":00:00Z : ") (58 ∷ (two_digits (seconds / 60 % 60) ++ (58 ∷ (two_digits (seconds % 60) ++ (90 ∷ (codes " : " ++ rest))))))
    (two_fit (seconds / 60 % 60) (codes ":00Z : ") (58 ∷ (two_digits (seconds % 60) ++ (90 ∷ (codes " : " ++ rest))))
    (two_fit (seconds % 60) (codes "Z : ") (90 ∷ (codes " : " ++ rest)) refl))))))

-- ---- the whole

ends_same : (xs ys : List ℕ) → xs ++ 10 ∷ [] ≡ ys ++ 10 ∷ [] → xs ≡ ys
ends_same [] [] e = refl
ends_same [] (y ∷ []) e = absurd (let no_ : ⊥ = cc in no_)
ends_same [] (y ∷ z ∷ ys) e = absurd (let no_ : ⊥ = cc in no_)
ends_same (x ∷ []) [] e = absurd (let no_ : ⊥ = cc in no_)
ends_same (x ∷ z ∷ xs) [] e = absurd (let no_ : ⊥ = cc in no_)
ends_same (x ∷ xs) (y ∷ ys) e =
    let tail : xs ++ 10 ∷ [] ≡ ys ++ 10 ∷ [] = cc in
    let rest = ends_same xs ys tail in
    let head : x ≡ y = cc in
    ap (λ (k : ℕ). k ∷ xs) head ∙ ap (λ (l : List ℕ). y ∷ l) rest

all_visible : (text : List ℕ) → All (λ byte. (32 ≤ byte) × (byte ≤ 126)) text → list_all is_visible text ≡ true
all_visible [] all = refl
all_visible (x ∷ text) all =
    let at = All-head (λ byte. (32 ≤ byte) × (byte ≤ 126)) x text all in
    both (both (le-leb 32 x at.0) (le-leb x 126 at.1)) (all_visible text (All-tail (λ byte. (32 ≤ byte) × (byte ≤ 126)) x text all))

begins : (event : Event) (line : List ℕ) → sudo_line event ≡ line ++ 10 ∷ [] → begins_as (codes "0000-00-00T00:00:00Z : ") line ≡ true
unfolding sudo_line
begins event line is =
    let time : TimeSpec = dated event in
    let rest : List ℕ = escaped (who_of event) ++ codes " : " ++ joined (parts_of event) in
    let whole : line_start time (who_of event) ++ joined (parts_of event) ≡ line = ends_same (line_start time (who_of event) ++ joined (parts_of event)) line is in
    let shape : line_start time (who_of event) ++ joined (parts_of event) ≡ day_text (day_of (unsigned_abs time.sec / 86400)) ++ 84 ∷ clock_text (unsigned_abs time.sec % 86400) ++ 90 ∷ [] ++ codes " : " ++ rest
    = ap (λ (bytes : List ℕ). bytes ++ joined (parts_of event)) (append_assoc (date_of time ++ codes " : ") (escaped (who_of event)) (codes " : ")) ∙ append_assoc (date_of time ++ codes " : ") (escaped (who_of event) ++ codes " : ") (joined (parts_of event)) in
    ap (begins_as (codes "0000-00-00T00:00:00Z : ")) (sym whole ∙ shape) ∙ start_fits (day_of (unsigned_abs time.sec / 86400)) (unsigned_abs time.sec % 86400) rest

pub written_reads : ((event : Event) → IsVisible (sudo_line event)) → (event : Event) (line : List ℕ) → sudo_line event ≡ line ++ 10 ∷ [] → length line ≤ 16777216 → reads line ≡ true
unfolding reads
written_reads visible event line is long =
    let seen = visible event in
    let same : seen.0 ≡ line = ends_same seen.0 line (sym seen.1 ∙ is) in
    let all : list_all is_visible line ≡ true = ap (list_all is_visible) (sym same) ∙ all_visible seen.0 seen.2 in
    both (le-leb (length line) 16777216 long) (ap (λ (b : Bool). b || reads_as_json line) (both (begins event line is) all))
