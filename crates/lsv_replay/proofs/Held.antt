-- The listing of logs that the disk holds.
use Rattle.std.proofs.Common.{◌≡◌, ◌∙◌, ◌++◌, ◌⊎◌, inl, inr, ℕ, suc, ◌≤◌, List, [], ◌∷◌, length, Option, Some, None, refl, sym, ap, subst, arith}
use Rattle.std.proofs.Math.Nat.{eq-or-lt_of_le}
use Rattle.std.specs.Option.{option_or}
use Rattle.lsv_disk.specs.declared.file.Part.{Part}
use Rattle.lsv_disk.specs.View.{Image}
use Rattle.lsv_iolog.specs.Recovered.{Replays}
use Rattle.lsv_play.specs.declared.screen.Item.{Item}
use Rattle.lsv_play.specs.Items.{IsPart}
use Rattle.lsv_play.proofs.Parts.{part_of_more}
use Rattle.lsv_record.specs.Points.{Stored}
use Rattle.lsv_search.specs.Grammar.{Expression}
use Rattle.lsv_replay.specs.Held.{AreHeld, line_held, line_read, listing_held}
use Rattle.lsv_replay.specs.Listing.{AreFound, Found, IsFound, ListsAll, ListsSome, damage_in, first_damage, line_if, listing}
use Rattle.lsv_replay.specs.Numbers.{last_number}
use Rattle.lsv_replay.proofs.Found.{absent_found, stored_found}

-- one log is listed as the disk holds it, and isn't damaged
record IsSame (searched : Option Expression) (n : ℕ) (log : Option Stored) (found : Found) : Type 0 where
  line : line_if searched n found ≡ line_held searched n log
  sound : damage_in found ≡ None

one_same : (searched : Option Expression) (image : Image) (n : ℕ) (log : Option Stored) (found : Found) → Replays image n log → IsFound image n found → IsSame searched n log found
one_same searched image n None found held is = let e = absent_found image n found held is in record { line = ap (λ (f : Found). line_if searched n f) e; sound = ap (λ (f : Found). damage_in f) e }
one_same searched image n (Some log) found held is =
    let own = stored_found image n log found held is in
    record { line = ap (λ (f : Found). line_if searched n f) own.2 ∙ ap (line_read searched n) (sym own.1); sound = ap (λ (f : Found). damage_in f) own.2 }

-- all of them
record AreSame (searched : Option Expression) (logs : List (Option Stored)) (found : List Found) : Type 0 where
  lines : listing searched found ≡ listing_held searched logs
  sound : first_damage found ≡ None

all_same : (searched : Option Expression) (image : Image) (logs : List (Option Stored)) (found : List Found) → AreHeld image logs → AreFound image found → length found ≡ length logs → AreSame searched logs found
all_same searched image [] [] held are same = record { lines = refl; sound = refl }
all_same searched image [] (f ∷ found) held are same = absurd (omega arith)
all_same searched image (log ∷ logs) [] held are same = absurd (omega arith)
all_same searched image (log ∷ logs) (f ∷ found) held are same =
    let shorter : length found ≡ length logs = omega arith in
    let before = all_same searched image logs found held.1 are.1 shorter in
    let one = one_same searched image (suc (length logs)) log f held.0 (subst (λ (k : ℕ). IsFound image (suc k) f) shorter are.0) in
    record {
      lines = ap (λ (items : List Item). items ++ line_if searched (suc (length found)) f) before.lines
          ∙ ap (λ (k : ℕ). listing_held searched logs ++ line_if searched (suc k) f) shorter ∙ ap (λ (items : List Item). listing_held searched logs ++ items) one.line;
      sound = ap (λ (o : Option Part). option_or o (damage_in f)) before.sound ∙ one.sound;
    }

some_length : (a b : ℕ) → Some a ≡ Some b → a ≡ b
some_length a b e = cc

pub held_whole : (searched : Option Expression) (image : Image) (logs : List (Option Stored)) (put : List Item) (damage : Option Part) → AreHeld image logs → last_number image ≡ Some (length logs)
    → ListsAll searched image put damage → (put ≡ listing_held searched logs) × (damage ≡ None)
held_whole searched image logs put damage held last all =
    let same = all_same searched image logs all.found held all.are (some_length (length all.found) (length logs) (sym all.last ∙ last)) in
    (all.put_is ∙ same.lines, sym all.damage_is ∙ same.sound)

-- a first part of the lines of the first logs is one of those of all
first_logs : (searched : Option Expression) (image : Image) (logs : List (Option Stored)) (found : List Found) (put : List Item) → AreHeld image logs → AreFound image found → (length found ≡ length logs) ⊎ (length found ≤ length logs)
    → IsPart put (listing searched found) → IsPart put (listing_held searched logs)
first_logs searched image logs found put held are (inl same) part = subst (λ (items : List Item). IsPart put items) (all_same searched image logs found held are same).lines part
first_logs searched image [] [] put held are (inr less) part = part
first_logs searched image [] (f ∷ found) put held are (inr less) part = absurd (omega arith)
first_logs searched image (log ∷ logs) found put held are (inr less) part =
    elim (eq-or-lt_of_le less) [
      | inl same ↦ subst (λ (items : List Item). IsPart put items) (all_same searched image (log ∷ logs) found held are same).lines part
      | inr lt ↦ let le : length found ≤ length logs = omega (arith, lt) in
          part_of_more put (listing_held searched logs) (line_held searched (suc (length logs)) log) (first_logs searched image logs found put held.1 are (inr le) part)
    ]

pub held_part : (searched : Option Expression) (image : Image) (logs : List (Option Stored)) (put : List Item) → AreHeld image logs → last_number image ≡ Some (length logs)
    → ListsSome searched image put → IsPart put (listing_held searched logs)
held_part searched image logs put held last some = first_logs searched image logs some.found put held some.are (inr (few some.within)) some.part
  where
    few : (some.found ≡ []) ⊎ ((l : ℕ) × (last_number image ≡ Some l) × (length some.found ≤ l)) → length some.found ≤ length logs
    few (inl none) = let e : length some.found ≡ 0 = ap length none in omega arith
    few (inr (l, is, less)) = let e : l ≡ length logs = some_length l (length logs) (sym is ∙ last) in omega arith
