-- What rows hold after one more option, one more word, and the defaults.
use Rattle.std.proofs.Common.{◌≡◌, ◌∙◌, ◌||◌, Bool, true, false, cond, List, [], ◌∷◌, ◌++◌, Option, Some, None, find, codes, refl, sym, ap, append_assoc}
use Rattle.std.specs.Option.{option_and_then, option_map_or, option_or}
use Rattle.std.specs.Prelude.{slice_get}
use Rattle.std.specs.Str.{bytes_eq}
use Rattle.std.proofs.lemmas.Slice.Eq.{bytes_eq-Decides}
use Rattle.clap.specs.Walk.{Row, Rule, Text, at_row, default_rows, has_row, more_values, reading_by, stronger, with_default, with_values, without}
use Rattle.clap.specs.declared.builder.value_parser.Reading.{Reading}
use Rattle.clap.specs.declared.parser.matches.ValueSource.{ValueSource}
use Rattle.clap.specs.declared.parser.matches.ValueSource.TheVariants.{CommandLine, DefaultValue}

pub no_more : {X : Type 0} (xs : List X) → xs ++ [] ≡ xs
no_more [] = refl
no_more (x ∷ xs) = ap (λ ys. x ∷ ys) (no_more xs)

pub none_or : {X : Type 0} (o : Option X) → option_or o None ≡ o
none_or None = refl
none_or (Some x) = refl

pub or_assoc : {X : Type 0} (o p q : Option X) → option_or (option_or o p) q ≡ option_or o (option_or p q)
or_assoc None p q = refl
or_assoc (Some x) p q = refl

-- the row that is found of an id
abbrev pub row_in : Text → List Row → Option Row
row_in id rows = find (λ r. bytes_eq r.id id) rows

-- a row of the command line
abbrev pub given_row : Text → Reading → List Text → Row
given_row id how values = record { id = id; values = values; count = None; source = Some CommandLine; reading = how }

-- ---- an id that has no row

no_row_step : (t b : Bool) (change : List Row) (r : Row) (rows rest more : List Row) → (t || b) ≡ false → (b ≡ false → rest ≡ more) → cond t (change ++ rows) (r ∷ rest) ≡ r ∷ more
no_row_step true b change r rows rest more e h = absurd (cc)
no_row_step false b change r rows rest more e h = ap (λ xs. r ∷ xs) (h e)

pub no_row : (id : Text) (change : Row → List Row) (missing : List Row) (rows : List Row) → has_row id rows ≡ false → at_row id change missing rows ≡ rows ++ missing
no_row id change missing [] e = refl
no_row id change missing (r ∷ rows) e = no_row_step (bytes_eq r.id id) (has_row id rows) (change r) r rows (at_row id change missing rows) (rows ++ missing) e (no_row id change missing rows)

-- a use of an argument that was not used adds its row
pub put_fresh : (id : Text) (how : Reading) (values : List Text) (rows : List Row) → has_row id rows ≡ false → with_values id how CommandLine values (without id rows) ≡ rows ++ given_row id how values ∷ []
put_fresh id how values rows fresh =
    ap (with_values id how CommandLine values) (no_row id (λ _. []) [] rows fresh ∙ no_more rows)
    ∙ no_row id (more_values CommandLine values) (given_row id how values ∷ []) rows fresh

none_step : (t b : Bool) (r : Row) (o : Option Row) → (t || b) ≡ false → (b ≡ false → o ≡ None) → cond t (Some r) o ≡ None
none_step true b r o e h = absurd (cc)
none_step false b r o e h = h e

pub no_row_in : (id : Text) (rows : List Row) → has_row id rows ≡ false → row_in id rows ≡ None
no_row_in id [] e = refl
no_row_in id (r ∷ rows) e = none_step (bytes_eq r.id id) (has_row id rows) r (row_in id rows) e (no_row_in id rows)

-- ---- one more row

cond_or : {X : Type 0} (t : Bool) (x : X) (o q : Option X) → cond t (Some x) (option_or o q) ≡ option_or (cond t (Some x) o) q
cond_or true x o q = refl
cond_or false x o q = refl

pub row_pushed : (id : Text) (rows : List Row) (y : Row) → row_in id (rows ++ y ∷ []) ≡ option_or (row_in id rows) (cond (bytes_eq y.id id) (Some y) None)
row_pushed id [] y = refl
row_pushed id (x ∷ rows) y = ap (λ o. cond (bytes_eq x.id id) (Some x) o) (row_pushed id rows y) ∙ cond_or (bytes_eq x.id id) x (row_in id rows) (cond (bytes_eq y.id id) (Some y) None)

other_pushed : (t : Bool) (o : Option Row) (y : Row) → t ≡ false → option_or o (cond t (Some y) None) ≡ o
other_pushed true o y e = absurd (cc)
other_pushed false o y e = none_or o

pub row_kept : (id : Text) (rows : List Row) (y : Row) → bytes_eq y.id id ≡ false → row_in id (rows ++ y ∷ []) ≡ row_in id rows
row_kept id rows y e = row_pushed id rows y ∙ other_pushed (bytes_eq y.id id) (row_in id rows) y e

has_step : (t a b : Bool) → (t || a) ≡ false → (a ≡ false → b ≡ false) → (t || b) ≡ false
has_step true a b e more = absurd (cc)
has_step false a b e more = more e

pub has_push : (id : Text) (rows : List Row) (r : Row) → has_row id rows ≡ false → bytes_eq r.id id ≡ false → has_row id (rows ++ r ∷ []) ≡ false
has_push id [] r e f = ap (λ t. t || false) f
has_push id (x ∷ rows) r e f = has_step (bytes_eq x.id id) (has_row id rows) (has_row id (rows ++ r ∷ [])) e (λ rest. has_push id rows r rest f)

-- ---- more values of a row

-- the row of an id with these values after its own, or a new one
abbrev pub appended : Text → Reading → List Text → List Row → List Row
appended id how values rows = with_values id how CommandLine values rows

from_words : (o : Option ValueSource) → stronger o CommandLine ≡ CommandLine
from_words None = refl
from_words (Some CommandLine) = refl
from_words (Some DefaultValue) = refl

-- the row after more values
abbrev grown : List Text → Row → Row
grown values r = record r { values = r.values ++ values; source = Some (stronger r.source CommandLine) }

grown_twice : (ws : List Text) (w : Text) (r : Row) → grown (ws ++ w ∷ []) r ≡ grown (w ∷ []) (grown ws r)
grown_twice ws w r =
    ap (λ (vs : List Text). record r { values = vs; source = Some (stronger r.source CommandLine) }) (sym (append_assoc r.values ws (w ∷ [])))
    ∙ ap (λ (s : ValueSource). record r { values = (r.values ++ ws) ++ w ∷ []; source = Some s }) (from_words r.source ∙ sym (from_words (Some (stronger r.source CommandLine))))

twice_step : (id : Text) (how : Reading) (ws : List Text) (w : Text) (t : Bool) (r : Row) (rows : List Row) → bytes_eq r.id id ≡ t
    → appended id how (ws ++ w ∷ []) rows ≡ appended id how (w ∷ []) (appended id how ws rows)
    → cond t (grown (ws ++ w ∷ []) r ∷ rows) (r ∷ appended id how (ws ++ w ∷ []) rows) ≡ appended id how (w ∷ []) (cond t (grown ws r ∷ rows) (r ∷ appended id how ws rows))
twice_step id how ws w true r rows is more =
    ap (λ (x : Row). x ∷ rows) (grown_twice ws w r)
    ∙ ap (λ (t : Bool). cond t (grown (w ∷ []) (grown ws r) ∷ rows) (grown ws r ∷ appended id how (w ∷ []) rows)) (sym is)
twice_step id how ws w false r rows is more =
    ap (λ (rs : List Row). r ∷ rs) more
    ∙ ap (λ (t : Bool). cond t (grown (w ∷ []) r ∷ appended id how ws rows) (r ∷ appended id how (w ∷ []) (appended id how ws rows))) (sym is)

-- values one by one are values at once
pub appended_twice : (id : Text) (how : Reading) (ws : List Text) (w : Text) (rows : List Row) → bytes_eq id id ≡ true → appended id how (ws ++ w ∷ []) rows ≡ appended id how (w ∷ []) (appended id how ws rows)
appended_twice id how ws w [] self =
    ap (λ (t : Bool). cond t (given_row id how (ws ++ w ∷ []) ∷ []) (given_row id how ws ∷ given_row id how (w ∷ []) ∷ [])) (sym self)
appended_twice id how ws w (r ∷ rows) self = twice_step id how ws w (bytes_eq r.id id) r rows refl (appended_twice id how ws w rows self)

has_grown : (id other : Text) (values : List Text) (how : Reading) (t : Bool) (r : Row) (rows : List Row) → has_row other (appended id how values rows) ≡ has_row other rows
    → has_row other (cond t (grown values r ∷ rows) (r ∷ appended id how values rows)) ≡ has_row other (r ∷ rows)
has_grown id other values how true r rows more = refl
has_grown id other values how false r rows more = ap (λ (t : Bool). bytes_eq r.id other || t) more

-- another id has a row as before
pub has_appended : (id other : Text) (how : Reading) (values : List Text) (rows : List Row) → bytes_eq id other ≡ false → has_row other (appended id how values rows) ≡ has_row other rows
has_appended id other how values [] e = ap (λ t. t || false) e
has_appended id other how values (r ∷ rows) e = has_grown id other values how (bytes_eq r.id id) r rows (has_appended id other how values rows e)

same_text : (xs ys : Text) → bytes_eq xs ys ≡ true → xs ≡ ys
same_text xs ys e = (bytes_eq-Decides xs ys).0 e

skipped : (t : Bool) (x : Row) (o : Option Row) → t ≡ false → cond t (Some x) o ≡ o
skipped true x o e = absurd (cc)
skipped false x o e = refl

row_grown : (id other : Text) (values : List Text) (how : Reading) (t : Bool) (r : Row) (rows : List Row) → bytes_eq r.id id ≡ t → bytes_eq id other ≡ false
    → row_in other (appended id how values rows) ≡ row_in other rows
    → row_in other (cond t (grown values r ∷ rows) (r ∷ appended id how values rows)) ≡ row_in other (r ∷ rows)
row_grown id other values how true r rows is e more =
    let apart : bytes_eq r.id other ≡ false = ap (λ (x : Text). bytes_eq x other) (same_text r.id id is) ∙ e in
    skipped (bytes_eq r.id other) (grown values r) (row_in other rows) apart ∙ sym (skipped (bytes_eq r.id other) r (row_in other rows) apart)
row_grown id other values how false r rows is e more = ap (λ (o : Option Row). cond (bytes_eq r.id other) (Some r) o) more

-- another id's row is as before
pub row_appended : (id other : Text) (how : Reading) (values : List Text) (rows : List Row) → bytes_eq id other ≡ false → row_in other (appended id how values rows) ≡ row_in other rows
row_appended id other how values [] e = skipped (bytes_eq id other) (given_row id how values) None e
row_appended id other how values (r ∷ rows) e = row_grown id other values how (bytes_eq r.id id) r rows refl e (row_appended id other how values rows e)

-- the values of a row, if there is one
abbrev pub values_in : Option Row → List Text
values_in o = option_map_or (λ r. r.values) o []

own_grown : (id : Text) (values : List Text) (how : Reading) (t : Bool) (r : Row) (rows : List Row) → bytes_eq r.id id ≡ t
    → values_in (row_in id (appended id how values rows)) ≡ values_in (row_in id rows) ++ values
    → values_in (row_in id (cond t (grown values r ∷ rows) (r ∷ appended id how values rows))) ≡ values_in (cond t (Some r) (row_in id rows)) ++ values
own_grown id values how true r rows is more = ap (λ (t : Bool). values_in (cond t (Some (grown values r)) (row_in id rows))) is
own_grown id values how false r rows is more = ap (λ (t : Bool). values_in (cond t (Some r) (row_in id (appended id how values rows)))) is ∙ more

-- an id's own values grow by these
pub values_appended : (id : Text) (how : Reading) (values : List Text) (rows : List Row) → bytes_eq id id ≡ true → values_in (row_in id (appended id how values rows)) ≡ values_in (row_in id rows) ++ values
values_appended id how values [] self = ap (λ (t : Bool). values_in (cond t (Some (given_row id how values)) None)) self
values_appended id how values (r ∷ rows) self = own_grown id values how (bytes_eq r.id id) r rows refl (values_appended id how values rows self)

-- ---- defaults

-- the row of a default
abbrev default_row : Rule → List Text → Row
default_row a values = record { id = a.id; values = values; count = None; source = Some DefaultValue; reading = reading_by a }

kept_by : (id : Text) (a : Rule) (v : Text) (rows : List Row) (t : Bool) → bytes_eq a.id id ≡ false → has_row a.id rows ≡ t
    → row_in id (cond t rows (with_values a.id (reading_by a) DefaultValue (v ∷ []) rows)) ≡ row_in id rows
kept_by id a v rows true other is = refl
kept_by id a v rows false other is =
    ap (row_in id) (no_row a.id (more_values DefaultValue (v ∷ [])) (default_row a (v ∷ []) ∷ []) rows is) ∙ row_kept id rows (default_row a (v ∷ [])) other

-- the default of another argument changes no row
pub default_kept : (id : Text) (a : Rule) (v : Text) (rows : List Row) → a.defaults ≡ v ∷ [] → bytes_eq a.id id ≡ false → row_in id (with_default rows a) ≡ row_in id rows
default_kept id a v rows is other =
    ap (λ (ds : List Text). row_in id (cond (has_row a.id rows) rows (default_rows a.id (reading_by a) ds rows))) is
    ∙ kept_by id a v rows (has_row a.id rows) other refl

no_default : (t : Bool) (rows : List Row) → cond t rows rows ≡ rows
no_default true rows = refl
no_default false rows = refl

-- an argument without a default gets no row
pub default_none : (a : Rule) (rows : List Row) → a.defaults ≡ [] → with_default rows a ≡ rows
default_none a rows is = ap (λ (ds : List Text). cond (has_row a.id rows) rows (default_rows a.id (reading_by a) ds rows)) is ∙ no_default (has_row a.id rows) rows

-- the first value of a row, if there is one
abbrev pub value_in : Option Row → Option Text
value_in o = option_and_then (λ r. slice_get r.values 0) o

-- the first value of a row is "true"
abbrev pub is_on : Option Row → Bool
is_on o = option_map_or (λ text. bytes_eq text (codes "true")) (value_in o) false

own_by : (a : Rule) (rows : List Row) (t : Bool) → bytes_eq a.id a.id ≡ true → has_row a.id rows ≡ t
    → is_on (row_in a.id (cond t rows (with_values a.id (reading_by a) DefaultValue (codes "false" ∷ []) rows))) ≡ is_on (row_in a.id rows)
own_by a rows true self is = refl
own_by a rows false self is =
    let y = default_row a (codes "false" ∷ []) in
    ap (λ (rs : List Row). is_on (row_in a.id rs)) (no_row a.id (more_values DefaultValue (codes "false" ∷ [])) (y ∷ []) rows is)
    ∙ ap is_on (row_pushed a.id rows y)
    ∙ ap (λ (o : Option Row). is_on (option_or o (cond (bytes_eq a.id a.id) (Some y) None))) (no_row_in a.id rows is)
    ∙ ap (λ (t : Bool). is_on (cond t (Some y) None)) self
    ∙ sym (ap is_on (no_row_in a.id rows is))

-- the default "false" sets nothing
pub default_off : (a : Rule) (rows : List Row) → a.defaults ≡ codes "false" ∷ [] → bytes_eq a.id a.id ≡ true → is_on (row_in a.id (with_default rows a)) ≡ is_on (row_in a.id rows)
default_off a rows is self =
    ap (λ (ds : List Text). is_on (row_in a.id (cond (has_row a.id rows) rows (default_rows a.id (reading_by a) ds rows)))) is
    ∙ own_by a rows (has_row a.id rows) self refl
