-- First parts of what is shown.
use Rattle.std.proofs.Common.{◌≡◌, ◌∙◌, ◌<◌, ℕ, suc, List, [], ◌∷◌, ◌++◌, inl, inr, length, take, drop, get_or, refl, sym, ap, subst, append_assoc, Result, Ok, Err, OnErr}
use Rattle.std.proofs.Math.Seq.{drop-cons}
use Rattle.std.proofs.lemmas.List.{take-append-drop}
use Rattle.lsv_record.specs.declared.records.Record.{Record}
use Rattle.lsv_play.specs.declared.screen.Item.{Item}
use Rattle.lsv_play.specs.declared.options.Options.{Options}
use Rattle.lsv_play.specs.Items.{IsPart}
use Rattle.lsv_play.specs.Schedule.{items_of, play}

-- a first part is one of more
pub part_of_more : (part whole more : List Item) → IsPart part whole → IsPart part (whole ++ more)
part_of_more [] whole more is = tt
part_of_more (item ∷ part) [] more is = absurd is
part_of_more (item ∷ part) (first ∷ whole) more (inl is) = inl (is.0, part_of_more part whole more is.1)
part_of_more (item ∷ part) (first ∷ whole) more (inr is) = inr is

-- after the same items
pub part_behind : (done part whole : List Item) → IsPart part whole → IsPart (done ++ part) (done ++ whole)
part_behind [] part whole is = is
part_behind (item ∷ done) part whole is = inl (refl, part_behind done part whole is)

-- the whole is a first part of itself
pub part_whole : (whole : List Item) → IsPart whole whole
part_whole [] = tt
part_whole (item ∷ whole) = inl (refl, part_whole whole)

-- the first items of the whole are a first part of it
pub part_first : (done more : List Item) → IsPart done (done ++ more)
part_first done more = part_of_more done done more (part_whole done)

-- the schedule of records that are joined
pub play_append : (o : Options) (records more : List Record) → play o (records ++ more) ≡ play o records ++ play o more
play_append o [] more = refl
play_append o (r ∷ records) more = ap (λ items. items_of o r ++ items) (play_append o records more) ∙ sym (append_assoc (items_of o r) (play o records) (play o more))

-- what is shown of one of these records is, after what is shown of those before it, a first part of what is shown of all
pub part_there : (o : Options) (records : List Record) (i : ℕ) (r : Record) (part : List Item) → i < length records → r ≡ get_or records i r → IsPart part (items_of o r)
    → IsPart (play o (take i records) ++ part) (play o records)
part_there o records i r part lt is first =
    let next : drop i records ≡ r ∷ drop (suc i) records = drop-cons records i r lt ∙ ap (λ (x : Record). x ∷ drop (suc i) records) (sym is) in
    let split : play o records ≡ play o (take i records) ++ (items_of o r ++ play o (drop (suc i) records)) =
    ap (play o) (sym (take-append-drop i records)) ∙ (play_append o (take i records) (drop i records) ∙ ap (λ (rs : List Record). play o (take i records) ++ play o rs) next) in
    subst (IsPart (play o (take i records) ++ part)) (sym split) (part_behind (play o (take i records)) part _ (part_of_more part (items_of o r) (play o (drop (suc i) records)) first))

-- what holds, holds if there is an error
pub on_err : {T E P : Type 0} (r : Result T E) → P → OnErr r P
on_err (Ok x) p = tt
on_err (Err e) p = p

-- what follows from an error's clause holds if there is an error
pub if_err : {T E : Type 0} (r : Result T E) (P Q : Type 0) → OnErr r P → (P → Q) → OnErr r Q
if_err (Ok x) P Q is step = tt
if_err (Err e) P Q is step = step is
