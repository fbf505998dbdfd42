-- The words of `check` are taken.
use Rattle.std.proofs.Common.{◌≡◌, ◌∙◌, ◌==◌, true, false, List, [], ◌∷◌, Option, Some, None, codes, refl, ap, ap₂}
use lib.Utf8.{encode}
use Rattle.std.specs.Option.{option_and_then}
use Rattle.std.specs.Str.{chars}
use Rattle.clap.specs.Faults.{defaults_fault, fault_of, flags_fault, level_fault, walk_fault}
use Rattle.clap.specs.Kinds.{Kinds, or_else}
use Rattle.clap.specs.Simple.{Shape, entered, filled, names_of}
use Rattle.clap.specs.Walk.{Row, Text, Walk, bundle_met, nothing_held, rows_after, settled, walk, walk_from, walked}
use Rattle.lsv_args.specs.Commands.{check, commands, conf}
use Rattle.lsv_args.specs.Forms.{file_words, is_file, is_value, told_file}
use Rattle.lsv_args.specs.Reading.{Check, Options, asked, asked_by, options_of}
use Rattle.lsv_args.proofs.Asked.{check_lanes, defaults_none, lanes_value, made}
use Rattle.lsv_args.proofs.Options.{Reads, Taken, adds_row, at, by_walk, defaults_free, more_taken, not_true, stopped_fault, stopped_walk, valued_as, valued_none, whole}
use Rattle.lsv_args.proofs.OtherForms.{file_rows, file_told}

abbrev checked : Shape
checked = made check

check_reads : (v : Text) → is_value v ≡ true → Reads checked 1 (filled conf) (codes "-f") v
unfolding walked bundle_met flags_fault chars encode
check_reads [] good = absurd (cc)
check_reads (b ∷ bytes) good = let e = not_true (b == 45) good in record {
  named = λ rows pending. refl;
  named_fault = λ rows pending. refl;
  valued = valued_as checked 1 (codes "conf") b bytes e (λ rows. refl);
  valued_fault = valued_none checked 1 (codes "conf") b bytes e (λ rows. refl);
  settles = λ rows fresh. rw fresh refl;
  adds = λ rows fresh. adds_row (filled conf) (b ∷ bytes) rows refl fresh;
}

check_walk : (file : Option Text) → is_file file ≡ true → Taken checked (at [] None 1) (file_words file) (file_rows file)
unfolding walk_fault
check_walk None good = record { no_fault = refl; settles = refl; found = refl }
check_walk (Some v) good =
    let r = check_reads v good in
    more_taken checked 1 (filled conf) (codes "-f") v r [] None [] (file_rows (Some v)) refl (record { no_fault = refl; settles = r.settles [] refl; found = r.adds [] refl })

check_level : (file : Option Text) → is_file file ≡ true → level_fault checked [] nothing_held (file_words file) false [] ≡ []
check_level file good =
    let t = check_walk file good in
    ap₂ or_else t.no_fault (ap₂ or_else t.settles (ap₂ or_else (defaults_free (settled checked.rules (walk checked.rules [] nothing_held (file_words file)).held).rows checked.rules (refl, tt)) refl))

check_rows : (file : Option Text) → is_file file ≡ true → rows_after checked.rules [] (file_words file) ≡ file_rows file
check_rows file good = defaults_none (codes "lanes") lanes_value (settled checked.rules (walk checked.rules [] nothing_held (file_words file)).held).rows checked.rules check_lanes ∙ (check_walk file good).found

check_top : (words : List Text) → walk whole.top.rules (names_of whole) nothing_held (codes "check" ∷ words) ≡ record (walk_from nothing_held) { stopped = Some (codes "check", words) }
unfolding walked
check_top words = stopped_walk whole.top.rules (names_of whole) (walk_from nothing_held) (codes "check") [] words

check_top_fault : (words : List Text) → walk_fault whole.top (names_of whole) (walk_from nothing_held) (codes "check" ∷ words) ≡ []
unfolding walk_fault walked
check_top_fault words = stopped_fault whole.top (names_of whole) (walk_from nothing_held) (codes "check", []) words

pub check_taken : (file : Option Text) → is_file file ≡ true → fault_of commands (codes "check" ∷ file_words file) ≡ []
unfolding defaults_fault
check_taken file good = ap₂ by_walk (check_top (file_words file)) (check_top_fault (file_words file)) ∙ ap (λ (k : Kinds). or_else k []) (check_level file good)

pub check_asked : (file : Option Text) → is_file file ≡ true → asked (codes "check" ∷ file_words file) ≡ Some (Check (told_file file))
check_asked file good =
    ap (λ (w : Walk). option_and_then (λ (s : Text × List Row). asked_by s.0 s.1) (entered whole w.stopped)) (check_top (file_words file))
    ∙ ap (λ (rows : List Row). Some (Check (options_of rows))) (check_rows file good) ∙ ap (λ (o : Options). Some (Check o)) (file_told file)
