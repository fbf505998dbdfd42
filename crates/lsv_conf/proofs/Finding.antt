-- A text whose refused lines are found as far as some line.
use Rattle.std.proofs.Common.{◌≡◌, ◌∙◌, ℕ, ◌+◌, ◌-◌, ◌^◌, ◌≤◌, Bool, true, false, List, [], ◌∷◌, ◌++◌, Option, Some, None, Bor, cond, find, min, ap, refl, sym, option_map, append_assoc, arith}
use Rattle.std.specs.Prelude.{not}
use Rattle.std.specs.Str.{IsUtf8, is_utf8}
use Rattle.std.proofs.lemmas.Str.{IsUtf8-from_is_utf8, is_utf8-from_IsUtf8}
use Rattle.lsv_conf.specs.Lines.{Line, Empty, Section, Setting, Bad, Placed, first_refused, is_refused, line_of, lines_of, placed, refuses, section_behind}
use Rattle.lsv_conf.specs.Refusals.{onto, refusal, refusal_of, refused_from, refused_lines, wrong_value}
use Rattle.lsv_conf.specs.Settings.{told}
use Rattle.lsv_conf.specs.Table.{Row, row_of}
use Rattle.lsv_conf.specs.Texts.{before, behind, pieces}
use Rattle.lsv_conf.specs.Values.{takes}
use Rattle.lsv_conf.specs.declared.refused.Refused.{Refused}
use Rattle.lsv_conf.specs.declared.refused.Refused.TheVariants.{NotUtf8, NoForm, NoSection, Value}
use Rattle.lsv_conf.specs.declared.refused.RefusedLine.{RefusedLine}
use Rattle.lsv_conf.proofs.Cuts.{left_cut, pieces_left}
use Rattle.lsv_conf.proofs.Reading.{now_of, no_more}

-- what is found so far, and what is left
pub record IsFinding (text : List ℕ) (found : List RefusedLine) (number : ℕ) (section rest : Option (Bor (List ℕ))) : Type 0 where
  pub n : ℕ
  pub whole : refused_lines text ≡ found ++ refused_from n (now_of section) (pieces_left 10 rest)
  pub told : told n ≡ number

-- before the first line
pub finding_start : (text : Bor (List ℕ)) (found : List RefusedLine) → found ≡ [] → IsFinding text.now found 1 None (Some text)
finding_start text found e = record { n = 1; whole = ap (λ ls. ls ++ refused_lines text.now) (sym e); told = refl }

onto_front : (number : ℕ) (o : Option Refused) (more : List RefusedLine) → onto number o more ≡ onto number o [] ++ more
onto_front number None more = refl
onto_front number (Some why) more = refl

told_next : (n number : ℕ) → told n ≡ number → told (n + 1) ≡ min (number + 1) (2 ^ 32 - 1)
told_next n number e = omega (arith, e)

-- the lines that are left, if the first of them is cut off
left_next : (n number : ℕ) (section after rest more : Option (Bor (List ℕ))) (bytes : Bor (List ℕ)) (line : List ℕ) (o : Option Refused)
    → rest ≡ Some bytes → line ≡ before 10 bytes.now → now_of more ≡ behind 10 bytes.now → now_of after ≡ section_behind (now_of section) (line_of line)
    → told n ≡ number → o ≡ refusal (now_of section) line
    → refused_from n (now_of section) (pieces_left 10 rest) ≡ onto number o (refused_from (n + 1) (now_of after) (pieces_left 10 more))
left_next n number section after rest more bytes line o is first cut section_is told_is why =
    ap (λ r. refused_from n (now_of section) (pieces_left 10 r)) is ∙ ap (refused_from n (now_of section)) (left_cut 10 bytes.now more cut)
    ∙ ap (λ b. onto (told n) (refusal (now_of section) b) (refused_from (n + 1) (section_behind (now_of section) (line_of b)) (pieces_left 10 more))) (sym first)
    ∙ ap (λ s. onto (told n) (refusal (now_of section) line) (refused_from (n + 1) s (pieces_left 10 more))) (sym section_is)
    ∙ ap (λ k. onto k (refusal (now_of section) line) (refused_from (n + 1) (now_of after) (pieces_left 10 more))) told_is
    ∙ ap (λ w. onto number w (refused_from (n + 1) (now_of after) (pieces_left 10 more))) (sym why)

-- after one more line
pub finding_next : (text : List ℕ) (found new : List RefusedLine) (number next : ℕ) (section after rest more : Option (Bor (List ℕ))) (bytes : Bor (List ℕ)) (line : List ℕ) (o : Option Refused)
    → rest ≡ Some bytes → line ≡ before 10 bytes.now → now_of more ≡ behind 10 bytes.now → now_of after ≡ section_behind (now_of section) (line_of line)
    → o ≡ refusal (now_of section) line → new ≡ found ++ onto number o [] → next ≡ min (number + 1) (2 ^ 32 - 1)
    → IsFinding text found number section rest → IsFinding text new next after more
finding_next text found new number next section after rest more bytes line o is first cut section_is why pushed next_is f =
    let left = refused_from (f.n + 1) (now_of after) (pieces_left 10 more) in record {
      n = f.n + 1;
      whole = f.whole ∙ ap (λ ls. found ++ ls) (left_next f.n number section after rest more bytes line o is first cut section_is f.told why ∙ onto_front number o left)
          ∙ sym (append_assoc found (onto number o []) left) ∙ ap (λ ls. ls ++ left) (sym pushed);
      told = told_next f.n number f.told ∙ sym next_is;
    }

-- all is found
pub finding_end : (text : List ℕ) (found : List RefusedLine) (number : ℕ) (section rest : Option (Bor (List ℕ))) → rest ≡ None → IsFinding text found number section rest → found ≡ refused_lines text
finding_end text found number section rest is f = sym (f.whole ∙ ap (λ r. found ++ refused_from f.n (now_of section) (pieces_left 10 r)) is ∙ no_more found)

-- ---- Why a line is refused

utf8_refusal : (section : Option (List ℕ)) (bytes : List ℕ) (t : Bool) → is_utf8 bytes ≡ t → (IsUtf8 bytes → ⊥) → Some NotUtf8 ≡ refusal section bytes
utf8_refusal section bytes true e bad = absurd (bad (IsUtf8-from_is_utf8 bytes e))
utf8_refusal section bytes false e bad = sym (rw e refl)

-- a line that isn't UTF-8
pub bytes_refusal : (section : Option (List ℕ)) (bytes : List ℕ) → (IsUtf8 bytes → ⊥) → Some NotUtf8 ≡ refusal section bytes
bytes_refusal section bytes bad = utf8_refusal section bytes (is_utf8 bytes) refl bad

-- a line of text
pub text_refusal : (section : Option (List ℕ)) (bytes : List ℕ) → IsUtf8 bytes → refusal section bytes ≡ refusal_of section (line_of bytes)
text_refusal section bytes good = rw (is_utf8-from_IsUtf8 bytes good) refl

-- ---- The first refused line

-- the number of the first of these lines
abbrev pub first_number : List RefusedLine → Option ℕ
first_number [] = None
first_number (r ∷ more) = Some r.line

-- the number of the first of some lines that is refused
abbrev first_of : ℕ → Option (List ℕ) → List (List ℕ) → Option ℕ
first_of number section ps = option_map told (option_map (λ (p : Placed). p.number) (find is_refused (placed number section ps)))

-- whether a line is refused, and why
abbrev pub is_why : Option Refused → Bool
is_why None = false
is_why (Some why) = true

wrong_refuses : (key value : List ℕ) (r : Row) (t : Bool) → takes r.values value ≡ t → is_why (wrong_value key value r) ≡ not t
wrong_refuses key value r true e = rw e refl
wrong_refuses key value r false e = rw e refl

setting_refuses : (name key value : List ℕ) (o : Option Row) → row_of name key ≡ o → is_why (refusal_of (Some name) (Setting key value)) ≡ refuses (Some name) (Setting key value)
setting_refuses name key value None e = rw e refl
setting_refuses name key value (Some r) e = rw e (wrong_refuses key value r (takes r.values value) refl)

why_refuses : (section : Option (List ℕ)) (line : Line) → is_why (refusal_of section line) ≡ refuses section line
why_refuses section Empty = refl
why_refuses section (Section name) = refl
why_refuses section Bad = refl
why_refuses None (Setting key value) = refl
why_refuses (Some name) (Setting key value) = setting_refuses name key value (row_of name key) refl

pub bytes_refuse : (section : Option (List ℕ)) (bytes : List ℕ) (t : Bool) → is_utf8 bytes ≡ t → is_why (refusal section bytes) ≡ refuses section (line_of bytes)
bytes_refuse section bytes true e = rw e (why_refuses section _)
bytes_refuse section bytes false e = rw e refl

first_step : (number : ℕ) (section : Option (List ℕ)) (bytes : List ℕ) (more : List RefusedLine) (rest : Option ℕ) (o : Option Refused) (t : Bool)
    → is_why o ≡ t → first_number more ≡ rest → first_number (onto (told number) o more) ≡ cond t (Some (told number)) rest
first_step number section bytes more rest None true e same = absurd (cc)
first_step number section bytes more rest None false e same = same
first_step number section bytes more rest (Some why) true e same = refl
first_step number section bytes more rest (Some why) false e same = absurd (cc)

found_step : (number : ℕ) (section : Option (List ℕ)) (bytes : List ℕ) (rest : Option Placed) (t : Bool)
    → cond t (Some (told number)) (option_map told (option_map (λ (p : Placed). p.number) rest))
    ≡ option_map told (option_map (λ (p : Placed). p.number) (cond t (Some (record { number = number; section = section; line = line_of bytes })) rest))
found_step number section bytes rest true = refl
found_step number section bytes rest false = refl

first_from : (number : ℕ) (section : Option (List ℕ)) (ps : List (List ℕ)) → first_number (refused_from number section ps) ≡ first_of number section ps
first_from number section [] = refl
first_from number section (bytes ∷ more) =
    let rest = find is_refused (placed (number + 1) (section_behind section (line_of bytes)) more) in
    first_step number section bytes (refused_from (number + 1) (section_behind section (line_of bytes)) more) (option_map told (option_map (λ (p : Placed). p.number) rest)) (refusal section bytes) (refuses section (line_of bytes))
    (bytes_refuse section bytes (is_utf8 bytes) refl) (first_from (number + 1) (section_behind section (line_of bytes)) more)
    ∙ found_step number section bytes rest (refuses section (line_of bytes))

-- the first refused line is the first that is refused
pub first_is : (text : List ℕ) → first_number (refused_lines text) ≡ option_map told (first_refused (lines_of text))
first_is text = first_from 1 None (pieces 10 text)

-- the number of the first of these lines, or 1
abbrev pub first_line : List RefusedLine → ℕ
first_line [] = 1
first_line (r ∷ more) = r.line

counted_onto : (number : ℕ) (o : Option Refused) (more : List RefusedLine) → 1 ≤ number → 1 ≤ first_line more → 1 ≤ first_line (onto (told number) o more)
counted_onto number None more counted rest = rest
counted_onto number (Some why) more counted rest = omega (arith, counted)

counted_from : (number : ℕ) (section : Option (List ℕ)) (ps : List (List ℕ)) → 1 ≤ number → 1 ≤ first_line (refused_from number section ps)
counted_from number section [] counted = omega arith
counted_from number section (bytes ∷ more) counted =
    counted_onto number (refusal section bytes) (refused_from (number + 1) (section_behind section (line_of bytes)) more) counted (counted_from (number + 1) (section_behind section (line_of bytes)) more (omega (arith, counted)))

-- its number is counted from 1
pub first_counted : (text : List ℕ) → 1 ≤ first_line (refused_lines text)
first_counted text = counted_from 1 None (pieces 10 text) (omega arith)
