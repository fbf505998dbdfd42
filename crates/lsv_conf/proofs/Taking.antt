-- A text whose lines are taken in as far as some line.
use Rattle.std.proofs.Common.{◌≡◌, ◌∙◌, ℕ, ◌+◌, ◌-◌, ◌^◌, ◌≤◌, Bool, true, false, List, [], ◌∷◌, ◌++◌, Option, Some, None, Bor, min, ap, refl, sym, subst, option_map, arith}
use Rattle.std.specs.Str.{is_utf8}
use Rattle.lsv_conf.specs.Inner.{at}
use Rattle.lsv_conf.specs.Lines.{Placed, first_refused, line_of, lines_of, refuses, section_behind}
use Rattle.lsv_conf.specs.Refusals.{found_in, lines_in, onto, refusal, refused_lines}
use Rattle.lsv_conf.specs.Settings.{Settings, settings_of, told}
use Rattle.lsv_conf.specs.Texts.{before, behind}
use Rattle.lsv_conf.specs.declared.refused.Refused.{Refused}
use Rattle.lsv_conf.specs.declared.refused.Refusals.{Refusals}
use Rattle.lsv_conf.specs.declared.refused.RefusedLine.{RefusedLine}
use Rattle.lsv_conf.proofs.Finding.{IsFinding, bytes_refuse, finding_end, finding_next, finding_start, first_counted, first_is, first_line, first_number, is_why}
use Rattle.lsv_conf.proofs.Reading.{IsReading, now_of, reading_end, reading_next, reading_start}

-- the refused lines so far are found, and if there is none, the settings are what the lines so far set
pub record IsTaking (text : List ℕ) (shown : Settings) (found : List RefusedLine) (number : ℕ) (section rest : Option (Bor (List ℕ))) : Type 0 where
  pub finding : IsFinding text found number section rest
  pub reading : found ≡ [] → IsReading text shown number section rest

-- before the first line
pub taking_start : (text : Bor (List ℕ)) (shown : Settings) → shown ≡ settings_of [] → IsTaking text.now shown [] 1 None (Some text)
taking_start text shown e = record { finding = finding_start text [] refl; reading = λ none. reading_start text shown e }

none_more : (number : ℕ) (found : List RefusedLine) (o : Option Refused) → found ++ onto number o [] ≡ [] → (found ≡ []) × (o ≡ None)
none_more number [] None e = (refl, refl)
none_more number [] (Some why) e = absurd (cc)
none_more number (x ∷ xs) o e = absurd (cc)

-- a line that isn't refused
not_refused : (section : Option (List ℕ)) (line : List ℕ) (o : Option Refused) → o ≡ refusal section line → o ≡ None → refuses section (line_of line) ≡ false
not_refused section line o why none = sym (bytes_refuse section line (is_utf8 line) refl) ∙ ap is_why (sym why ∙ none)

-- after one more line
pub taking_next : (text : List ℕ) (old new : Settings) (found now : List RefusedLine) (number next : ℕ) (section after rest more : Option (Bor (List ℕ))) (bytes : Bor (List ℕ)) (line : List ℕ) (o : Option Refused)
    → rest ≡ Some bytes → line ≡ before 10 bytes.now → now_of more ≡ behind 10 bytes.now → now_of after ≡ section_behind (now_of section) (line_of line)
    → o ≡ refusal (now_of section) line → now ≡ found ++ onto number o [] → next ≡ min (number + 1) (2 ^ 32 - 1)
    → (o ≡ None → (done : List Placed) (n : ℕ) → told n ≡ number → old ≡ settings_of done → new ≡ settings_of (done ++ at n (now_of section) line ∷ []))
    → IsTaking text old found number section rest → IsTaking text new now next after more
taking_next text old new found now number next section after rest more bytes line o is first cut section_is why pushed next_is set t = record {
  finding = finding_next text found now number next section after rest more bytes line o is first cut section_is why pushed next_is t.finding;
  reading = λ none.
      let parts = none_more number found o (sym pushed ∙ none) in
      reading_next text old new number next section after rest more bytes line is first cut (not_refused (now_of section) line o why parts.1) section_is (set parts.1) next_is (t.reading parts.0);
}

-- all is read, and nothing is refused
pub taking_end : (text : List ℕ) (shown : Settings) (found : Option Refusals) (number : ℕ) (section rest : Option (Bor (List ℕ))) → found ≡ None → rest ≡ None
    → IsTaking text shown (found_in found) number section rest → (shown ≡ settings_of (lines_of text)) × (first_refused (lines_of text) ≡ None)
taking_end text shown found number section rest none is t = reading_end text shown number section rest is (t.reading (ap found_in none))

-- all is read, and these lines are refused
pub taking_refused : (text : List ℕ) (shown : Settings) (found : Option Refusals) (refused : Refusals) (number : ℕ) (section rest : Option (Bor (List ℕ))) → found ≡ Some refused → rest ≡ None
    → IsTaking text shown (found_in found) number section rest
    → (lines_in refused ≡ refused_lines text) × (option_map told (first_refused (lines_of text)) ≡ Some refused.first.line) × (1 ≤ refused.first.line)
taking_refused text shown found refused number section rest some is t =
    let all : lines_in refused ≡ refused_lines text = sym (ap found_in some) ∙ finding_end text (found_in found) number section rest is t.finding in
    (all, sym (first_is text) ∙ ap first_number (sym all), subst (λ ls. 1 ≤ first_line ls) (sym all) (first_counted text))
