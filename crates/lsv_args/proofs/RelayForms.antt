-- The words of `relay` are taken.
use Rattle.std.proofs.Common.{◌≡◌, ◌∙◌, ◌==◌, true, false, List, [], ◌∷◌, Option, Some, None, codes, refl, ap, ap₂}
use lib.Utf8.{encode}
use Rattle.std.specs.Option.{option_and_then}
use Rattle.std.specs.Str.{chars}
use Rattle.clap.specs.Faults.{defaults_fault, fault_of, flags_fault, level_fault, walk_fault}
use Rattle.clap.specs.Kinds.{Kinds, or_else}
use Rattle.clap.specs.Simple.{Shape, entered, filled, names_of}
use Rattle.clap.specs.Walk.{Row, Text, Walk, bundle_met, nothing_held, rows_after, settled, walk, walk_from, walked}
use Rattle.lsv_args.specs.Commands.{commands, conf, relay}
use Rattle.lsv_args.specs.Forms.{file_words, is_file, is_value, told_file}
use Rattle.lsv_args.specs.Reading.{Options, Relay, asked, asked_by, options_of}
use Rattle.lsv_args.proofs.Asked.{defaults_none, lanes_value, made, relay_lanes}
use Rattle.lsv_args.proofs.Options.{Reads, Taken, adds_row, at, by_walk, defaults_free, more_taken, not_true, stopped_fault, stopped_walk, valued_as, valued_none, whole}
use Rattle.lsv_args.proofs.OtherForms.{file_rows, file_told}

abbrev relayed : Shape
relayed = made relay

relay_reads : (v : Text) → is_value v ≡ true → Reads relayed 1 (filled conf) (codes "-f") v
unfolding walked bundle_met flags_fault chars encode
relay_reads [] good = absurd (cc)
relay_reads (b ∷ bytes) good = let e = not_true (b == 45) good in record {
  named = λ rows pending. refl;
  named_fault = λ rows pending. refl;
  valued = valued_as relayed 1 (codes "conf") b bytes e (λ rows. refl);
  valued_fault = valued_none relayed 1 (codes "conf") b bytes e (λ rows. refl);
  settles = λ rows fresh. rw fresh refl;
  adds = λ rows fresh. adds_row (filled conf) (b ∷ bytes) rows refl fresh;
}

relay_walk : (file : Option Text) → is_file file ≡ true → Taken relayed (at [] None 1) (file_words file) (file_rows file)
unfolding walk_fault
relay_walk None good = record { no_fault = refl; settles = refl; found = refl }
relay_walk (Some v) good =
    let r = relay_reads v good in
    more_taken relayed 1 (filled conf) (codes "-f") v r [] None [] (file_rows (Some v)) refl (record { no_fault = refl; settles = r.settles [] refl; found = r.adds [] refl })

relay_level : (file : Option Text) → is_file file ≡ true → level_fault relayed [] nothing_held (file_words file) false [] ≡ []
relay_level file good =
    let t = relay_walk file good in
    ap₂ or_else t.no_fault (ap₂ or_else t.settles (ap₂ or_else (defaults_free (settled relayed.rules (walk relayed.rules [] nothing_held (file_words file)).held).rows relayed.rules (refl, tt)) refl))

relay_rows : (file : Option Text) → is_file file ≡ true → rows_after relayed.rules [] (file_words file) ≡ file_rows file
relay_rows file good = defaults_none (codes "lanes") lanes_value (settled relayed.rules (walk relayed.rules [] nothing_held (file_words file)).held).rows relayed.rules relay_lanes ∙ (relay_walk file good).found

relay_top : (words : List Text) → walk whole.top.rules (names_of whole) nothing_held (codes "relay" ∷ words) ≡ record (walk_from nothing_held) { stopped = Some (codes "relay", words) }
unfolding walked
relay_top words = stopped_walk whole.top.rules (names_of whole) (walk_from nothing_held) (codes "relay") [] words

relay_top_fault : (words : List Text) → walk_fault whole.top (names_of whole) (walk_from nothing_held) (codes "relay" ∷ words) ≡ []
unfolding walk_fault walked
relay_top_fault words = stopped_fault whole.top (names_of whole) (walk_from nothing_held) (codes "relay", []) words

pub relay_taken : (file : Option Text) → is_file file ≡ true → fault_of commands (codes "relay" ∷ file_words file) ≡ []
unfolding defaults_fault
relay_taken file good = ap₂ by_walk (relay_top (file_words file)) (relay_top_fault (file_words file)) ∙ ap (λ (k : Kinds). or_else k []) (relay_level file good)

pub relay_asked : (file : Option Text) → is_file file ≡ true → asked (codes "relay" ∷ file_words file) ≡ Some (Relay (told_file file))
relay_asked file good =
    ap (λ (w : Walk). option_and_then (λ (s : Text × List Row). asked_by s.0 s.1) (entered whole w.stopped)) (relay_top (file_words file))
    ∙ ap (λ (rows : List Row). Some (Relay (options_of rows))) (relay_rows file good) ∙ ap (λ (o : Options). Some (Relay o)) (file_told file)
