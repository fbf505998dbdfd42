-- What is cut out of a text beside ASCII is text, so all texts of the settings are.
use Rattle.std.proofs.Common.{◌≡◌, ◌∙◌, ℕ, zero, suc, ◌+◌, ◌-◌, ◌<◌, ◌≤◌, ◌==◌, Bool, true, false, ◌&&◌, ◌||◌, List, [], ◌∷◌, ◌++◌, Option, Some, None, cond, codes, length, take, drop, add-one, get_or, map, ap, refl, sym, subst, option_map, unwrap_or, nat_lt, arith}
use borrow.Author.Tests.{ltb-true}
use Rattle.std.proofs.lemmas.Str.Ascii.{IsAscii-nil, IsAscii-cons}
use Rattle.std.specs.List.{list_all, cons_option}
use Rattle.std.specs.Option.{option_map_or, option_or}
use Rattle.std.specs.Str.{IsUtf8, IsAscii, IsCharBoundary, is_utf8}
use Rattle.std.proofs.lemmas.Bool.Decides.{nat_tests}
use Rattle.std.proofs.lemmas.Str.{IsUtf8-append, IsUtf8-take, IsUtf8-drop, IsUtf8-nil, IsUtf8-from_ascii, IsUtf8-from_is_utf8, is_utf8-from_IsUtf8, IsCharBoundary-after_ascii}
use Rattle.lsv_conf.specs.Inner.{AreTexts}
use Rattle.lsv_conf.specs.Lines.{Line, Empty, Section, Setting, Bad, form_of, line_of, lines_of, placed, setting_of, is_section}
use Rattle.lsv_conf.specs.Settings.{note_by, noted, notes_of, settings_of, value_by, value_of}
use Rattle.lsv_conf.specs.Table.{Row, row_of}
use Rattle.lsv_conf.specs.Texts.{before, behind, is_blank, is_empty, pieces, trimmed, without_end, without_front}
use Rattle.lsv_conf.specs.Values.{has_port, prompts_of, with_port}
use Rattle.lsv_conf.specs.declared.conf.Note.{Note}
use Rattle.lsv_conf.proofs.Cuts.{behind_shorter, pieces_behind, pieces_cut}

-- a place at which a text ends, or an ASCII byte stands
record Stop (bytes cut : List ℕ) : Type 0 where
  at : ℕ
  within : at ≤ length bytes
  is : cut ≡ take at bytes
  ascii : at < length bytes → get_or bytes at 0 < 128

cut_is_text : (bytes cut : List ℕ) → IsUtf8 bytes → Stop bytes cut → IsUtf8 cut
cut_is_text bytes cut u s =
    let here : IsCharBoundary bytes s.at = (s.within, λ l h. absurd (let low = s.ascii l in omega arith)) in
    subst IsUtf8 (sym s.is) (IsUtf8-take bytes s.at u here)

rest_is_text : (b : ℕ) (bytes : List ℕ) → b < 128 → IsUtf8 (b ∷ bytes) → IsUtf8 bytes
rest_is_text b bytes low u = IsUtf8-drop (b ∷ bytes) 1 u (IsCharBoundary-after_ascii (b ∷ bytes) 0 u (omega arith) low)

same_byte : (b c : ℕ) → (b == c) ≡ true → c < 128 → b < 128
same_byte b c e low = grind (arith, nat_tests)

stop_first : (b c : ℕ) (bytes : List ℕ) (t : Bool) → (b == c) ≡ t → c < 128 → Stop bytes (before c bytes) → Stop (b ∷ bytes) (before c (b ∷ bytes))
stop_first b c bytes true e low s = record { at = 0; within = omega arith; is = rw e refl; ascii = λ l. same_byte b c e low }
stop_first b c bytes false e low s = record { at = suc s.at; within = let w = s.within in omega arith; is = rw e (ap (λ rest. b ∷ rest) s.is); ascii = λ l. s.ascii (omega arith) }

before_stops : (c : ℕ) (bytes : List ℕ) → c < 128 → Stop bytes (before c bytes)
before_stops c [] low = record { at = 0; within = omega arith; is = refl; ascii = λ l. absurd (omega arith) }
before_stops c (b ∷ bytes) low = stop_first b c bytes (b == c) refl low (before_stops c bytes low)

pub before_is_text : (c : ℕ) (bytes : List ℕ) → c < 128 → IsUtf8 bytes → IsUtf8 (before c bytes)
before_is_text c bytes low u = cut_is_text bytes (before c bytes) u (before_stops c bytes low)

some_same : {A : Type 0} {x y : A} → Some x ≡ Some y → x ≡ y
some_same e = cc

-- where a separator stands, and what stands after it
record Behind (c : ℕ) (bytes rest : List ℕ) : Type 0 where
  at : ℕ
  within : at < length bytes
  here : (get_or bytes at 0 == c) ≡ true
  is : rest ≡ drop (suc at) bytes

behind_first : (b c : ℕ) (bytes rest : List ℕ) (t : Bool) → (b == c) ≡ t → behind c (b ∷ bytes) ≡ Some rest → (behind c bytes ≡ Some rest → Behind c bytes rest) → Behind c (b ∷ bytes) rest
behind_first b c bytes rest true e is more = record { at = 0; within = omega arith; here = e; is = sym (some_same (rw e at is)) }
behind_first b c bytes rest false e is more = let r = more (rw e at is) in record { at = suc r.at; within = let l = r.within in omega arith; here = r.here; is = r.is }

behind_stands : (c : ℕ) (bytes rest : List ℕ) → behind c bytes ≡ Some rest → Behind c bytes rest
behind_stands c [] rest e = absurd (cc)
behind_stands c (b ∷ bytes) rest e = behind_first b c bytes rest (b == c) refl e (behind_stands c bytes rest)

behind_is_text : (c : ℕ) (bytes rest : List ℕ) → c < 128 → IsUtf8 bytes → behind c bytes ≡ Some rest → IsUtf8 rest
behind_is_text c bytes rest low u e =
    let r = behind_stands c bytes rest e in
    let boundary = IsCharBoundary-after_ascii bytes r.at u r.within (same_byte (get_or bytes r.at 0) c r.here low) in
    subst IsUtf8 (ap (λ k. drop k bytes) (add-one r.at) ∙ sym r.is) (IsUtf8-drop bytes (r.at + 1) u boundary)

blank_low : (b : ℕ) → is_blank b ≡ true → b < 128
blank_low b e = grind (arith, nat_tests)

front_first : (b : ℕ) (bytes : List ℕ) (t : Bool) → is_blank b ≡ t → IsUtf8 (b ∷ bytes) → (IsUtf8 bytes → IsUtf8 (without_front bytes)) → IsUtf8 (without_front (b ∷ bytes))
front_first b bytes true e u more = subst IsUtf8 (sym (rw e refl)) (more (rest_is_text b bytes (blank_low b e) u))
front_first b bytes false e u more = subst IsUtf8 (sym (rw e refl)) u

front_is_text : (bytes : List ℕ) → IsUtf8 bytes → IsUtf8 (without_front bytes)
front_is_text [] u = u
front_is_text (b ∷ bytes) u = front_first b bytes (is_blank b) refl u (front_is_text bytes)

and_one : (a b : Bool) → (a && b) ≡ true → a ≡ true
and_one true b e = refl
and_one false b e = e

end_first : (b : ℕ) (bytes : List ℕ) (t : Bool) → (is_blank b && is_empty (without_end bytes)) ≡ t → Stop bytes (without_end bytes) → Stop (b ∷ bytes) (without_end (b ∷ bytes))
end_first b bytes true e s = record { at = 0; within = omega arith; is = rw e refl; ascii = λ l. blank_low b (and_one _ _ e) }
end_first b bytes false e s = record { at = suc s.at; within = let w = s.within in omega arith; is = rw e (ap (λ rest. b ∷ rest) s.is); ascii = λ l. s.ascii (omega arith) }

end_stops : (bytes : List ℕ) → Stop bytes (without_end bytes)
end_stops [] = record { at = 0; within = omega arith; is = refl; ascii = λ l. absurd (omega arith) }
end_stops (b ∷ bytes) = end_first b bytes (is_blank b && is_empty (without_end bytes)) refl (end_stops bytes)

trimmed_is_text : (bytes : List ℕ) → IsUtf8 bytes → IsUtf8 (trimmed bytes)
trimmed_is_text bytes u = cut_is_text (without_front bytes) (trimmed bytes) (front_is_text bytes u) (end_stops (without_front bytes))

-- the same as tests
text_test : (bytes : List ℕ) → IsUtf8 bytes → is_utf8 bytes ≡ true
text_test bytes u = is_utf8-from_IsUtf8 bytes u

text_of : (bytes : List ℕ) → is_utf8 bytes ≡ true → IsUtf8 bytes
text_of bytes e = IsUtf8-from_is_utf8 bytes e

-- a line whose key and value are text
abbrev IsTextLine : Line → Type 0
IsTextLine Empty = Unit {0}
IsTextLine (Section name) = Unit {0}
IsTextLine (Setting key value) = IsUtf8 key × IsUtf8 value
IsTextLine Bad = Unit {0}

setting_lines : (key : List ℕ) (value : Option (List ℕ)) (t : Bool) → is_empty key ≡ t → IsUtf8 key → ((v : List ℕ) → value ≡ Some v → IsUtf8 v) → IsTextLine (setting_of key value)
setting_lines key None t e u w = tt
setting_lines key (Some v) true e u w = rw e tt
setting_lines key (Some v) false e u w = rw e (u, w v refl)

trimmed_some : (o : Option (List ℕ)) (v : List ℕ) → option_map trimmed o ≡ Some v → ((b : List ℕ) → o ≡ Some b → IsUtf8 b) → IsUtf8 v
trimmed_some None v e u = absurd (cc)
trimmed_some (Some b) v e u = subst IsUtf8 (some_same e) (trimmed_is_text b (u b refl))

pick : (t : Bool) (a b : Line) → IsTextLine a → IsTextLine b → IsTextLine (cond t a b)
pick true a b p q = p
pick false a b p q = q

form_is_text : (text : List ℕ) → IsUtf8 text → IsTextLine (form_of text)
form_is_text text u =
    pick _ Empty _ tt (pick (is_section text) _ _ tt
    (setting_lines (trimmed (before 61 text)) (option_map trimmed (behind 61 text)) _ refl
    (trimmed_is_text (before 61 text) (before_is_text 61 text (omega arith) u))
    (λ v e. trimmed_some (behind 61 text) v e (λ b is. behind_is_text 61 text b (omega arith) u is))))

line_first : (bytes : List ℕ) (t : Bool) → is_utf8 bytes ≡ t → IsTextLine (line_of bytes)
line_first bytes true e = rw e (form_is_text (trimmed (before 35 bytes)) (trimmed_is_text (before 35 bytes) (before_is_text 35 bytes (omega arith) (text_of bytes e))))
line_first bytes false e = rw e tt

line_is_text : (bytes : List ℕ) → IsTextLine (line_of bytes)
line_is_text bytes = line_first bytes (is_utf8 bytes) refl

-- a value that may be missing is text
abbrev IsTextIf : Option (List ℕ) → Type 0
IsTextIf None = Unit {0}
IsTextIf (Some value) = IsUtf8 value

or_is_text : (o p : Option (List ℕ)) → IsTextIf o → IsTextIf p → IsTextIf (option_or o p)
or_is_text None p u w = w
or_is_text (Some v) p u w = u

pick_if : (t : Bool) (v : List ℕ) → IsUtf8 v → IsTextIf (cond t (Some v) None)
pick_if true v u = u
pick_if false v u = tt

value_is_text : (s k : List ℕ) (line : Line) (at : Option (List ℕ)) → IsTextLine line → IsTextIf (value_by s k line at)
value_is_text s k Empty at u = tt
value_is_text s k (Section name) at u = tt
value_is_text s k Bad at u = tt
value_is_text s k (Setting key value) None u = tt
value_is_text s k (Setting key value) (Some name) u = pick_if _ value u.1

values_are_text : (n : ℕ) (at : Option (List ℕ)) (lines : List (List ℕ)) (s k : List ℕ) → IsTextIf (value_of (placed n at lines) s k)
values_are_text n at [] s k = tt
values_are_text n at (bytes ∷ more) s k = or_is_text _ (value_by s k (line_of bytes) at) (values_are_text (n + 1) _ more s k) (value_is_text s k (line_of bytes) at (line_is_text bytes))

noted_is_text : (n : ℕ) (key : List ℕ) (r : Option Row) (notes : List Note) → IsUtf8 key → list_all (λ (note : Note). is_utf8 note.key) notes ≡ true → list_all (λ (note : Note). is_utf8 note.key) (cons_option (noted n key r) notes) ≡ true
noted_is_text n key None notes u all = rw (text_test key u) all
noted_is_text n key (Some r) notes u all = all

note_is_text : (n : ℕ) (line : Line) (at : Option (List ℕ)) (notes : List Note) → IsTextLine line → list_all (λ (note : Note). is_utf8 note.key) notes ≡ true → list_all (λ (note : Note). is_utf8 note.key) (cons_option (note_by n line at) notes) ≡ true
note_is_text n Empty at notes u all = all
note_is_text n (Section name) at notes u all = all
note_is_text n Bad at notes u all = all
note_is_text n (Setting key value) None notes u all = all
note_is_text n (Setting key value) (Some name) notes u all = noted_is_text n key (row_of name key) notes u.0 all

notes_are_text : (n : ℕ) (at : Option (List ℕ)) (lines : List (List ℕ)) → list_all (λ (note : Note). is_utf8 note.key) (notes_of (placed n at lines)) ≡ true
notes_are_text n at [] = refl
notes_are_text n at (bytes ∷ more) = note_is_text n (line_of bytes) at _ (line_is_text bytes) (notes_are_text (n + 1) _ more)

abbrev low_all : List ℕ → Bool
low_all [] = true
low_all (b ∷ bytes) = nat_lt b 128 && low_all bytes

and_two : (a b : Bool) → (a && b) ≡ true → b ≡ true
and_two true b e = e
and_two false b e = absurd (cc)

low_ascii : (bytes : List ℕ) → low_all bytes ≡ true → IsAscii bytes
low_ascii [] e = IsAscii-nil
low_ascii (b ∷ bytes) e = IsAscii-cons b bytes (ltb-true b 128 (and_one _ _ e)) (low_ascii bytes (and_two _ _ e))

low_text : (bytes : List ℕ) → low_all bytes ≡ true → IsUtf8 bytes
low_text bytes e = IsUtf8-from_ascii bytes (low_ascii bytes e)

with_port_is_text : (value : List ℕ) → IsUtf8 value → IsUtf8 (with_port value)
with_port_is_text value u = by_port (has_port value) value u
  where
    by_port : (t : Bool) (value : List ℕ) → IsUtf8 value → IsUtf8 (cond t value (value ++ codes ":30343"))
    by_port true value u = u
    by_port false value u = IsUtf8-append value (codes ":30343") u (low_text (codes ":30343") refl)

-- the value that counts, where its default is ASCII
text_is_text : (o p : Option (List ℕ)) → IsTextIf o → IsTextIf p → IsUtf8 (unwrap_or (option_or o p) [])
text_is_text None None u w = IsUtf8-nil
text_is_text None (Some v) u w = w
text_is_text (Some v) p u w = u

both : (a b : Bool) → a ≡ true → b ≡ true → (a && b) ≡ true
both a b p q = rw (p, q) refl

more_pieces : (c : ℕ) (bytes : List ℕ) (o : Option (List ℕ)) → c < 128 → IsUtf8 bytes → behind c bytes ≡ o
    → ((rest : List ℕ) → behind c bytes ≡ Some rest → list_all is_utf8 (map trimmed (pieces c rest)) ≡ true)
    → list_all is_utf8 (map trimmed (before c bytes ∷ pieces_behind c o)) ≡ true
more_pieces c bytes None low u e more = both (is_utf8 (trimmed (before c bytes))) true (text_test _ (trimmed_is_text (before c bytes) (before_is_text c bytes low u))) refl
more_pieces c bytes (Some rest) low u e more = both (is_utf8 (trimmed (before c bytes))) _ (text_test _ (trimmed_is_text (before c bytes) (before_is_text c bytes low u))) (more rest e)

all_pieces : (n c : ℕ) (bytes : List ℕ) → c < 128 → length bytes ≤ n → IsUtf8 bytes → list_all is_utf8 (map trimmed (pieces c bytes)) ≡ true
all_pieces zero c bytes low small u = ap (λ ps. list_all is_utf8 (map trimmed ps)) (pieces_cut c bytes) ∙ more_pieces c bytes (behind c bytes) low u refl (λ rest e. absurd (let less = behind_shorter c bytes rest e in omega arith))
all_pieces (suc n) c bytes low small u = ap (λ ps. list_all is_utf8 (map trimmed ps)) (pieces_cut c bytes)
    ∙ more_pieces c bytes (behind c bytes) low u refl (λ rest e. all_pieces n c rest low (let less = behind_shorter c bytes rest e in omega arith) (behind_is_text c bytes rest low u e))

host_is_text : (o : Option (List ℕ)) → IsTextIf o → option_map_or is_utf8 (option_map with_port (option_or o None)) true ≡ true
host_is_text None u = refl
host_is_text (Some v) u = text_test (with_port v) (with_port_is_text v u)

prompts_are_text : (value : List ℕ) → IsUtf8 value → list_all is_utf8 (prompts_of value) ≡ true
prompts_are_text value u = all_pieces (length value) 44 value (omega arith) (omega arith) u

pub settings_are_text : (text : List ℕ) → AreTexts (settings_of (lines_of text))
settings_are_text text =
    let value = values_are_text 1 None (pieces 10 text) in
    record {
      listen = text_test _ (with_port_is_text _ (text_is_text _ _ (value (codes "server") (codes "listen_address")) (low_text (codes "*:30343") refl)));
      relay_host = host_is_text _ (value (codes "relay") (codes "relay_host"));
      iolog_dir = text_test _ (text_is_text _ _ (value (codes "iolog") (codes "iolog_dir")) (low_text (codes "/var/log/sudo-io") refl));
      path = text_test _ (text_is_text _ _ (value (codes "logfile") (codes "path")) (low_text (codes "/var/log/sudo.log") refl));
      notes = notes_are_text 1 None (pieces 10 text);
      prompts = prompts_are_text _ (text_is_text _ _ (value (codes "iolog") (codes "prompts")) (low_text (codes "assword:,assword for") refl));
    }
