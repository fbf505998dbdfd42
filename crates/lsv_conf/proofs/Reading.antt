-- A text that is read as far as some line.
use Rattle.std.proofs.Common.{◌≡◌, ◌∙◌, ℕ, ◌+◌, ◌-◌, ◌^◌, ◌≤◌, Bool, true, false, List, [], ◌∷◌, ◌++◌, Option, Some, None, Bor, cond, find, min, ap, refl, sym, option_map, append_assoc, arith}
use Rattle.lsv_conf.specs.Inner.{at}
use Rattle.lsv_conf.specs.Lines.{Placed, first_refused, is_refused, line_of, lines_of, placed, refuses, section_behind}
use Rattle.lsv_conf.specs.Settings.{Settings, settings_of, told}
use Rattle.lsv_conf.specs.Texts.{before, behind}
use Rattle.lsv_conf.proofs.Cuts.{left_cut, pieces_left}

-- the bytes of a reference, if there is one
abbrev pub now_of : Option (Bor (List ℕ)) → Option (List ℕ)
now_of section = option_map (λ name. name.now) section

-- the lines that are left
abbrev pub lines_left : ℕ → Option (Bor (List ℕ)) → Option (Bor (List ℕ)) → List Placed
lines_left n section rest = placed n (now_of section) (pieces_left 10 rest)

-- what is read so far, and what is left
pub record IsReading (text : List ℕ) (shown : Settings) (number : ℕ) (section rest : Option (Bor (List ℕ))) : Type 0 where
  pub done : List Placed
  pub n : ℕ
  pub whole : lines_of text ≡ done ++ lines_left n section rest
  pub counted : 1 ≤ n
  pub told : told n ≡ number
  pub settings : shown ≡ settings_of done
  pub none : find is_refused done ≡ None

find_rest : (t : Bool) (x : Placed) (o : Option Placed) → cond t (Some x) o ≡ None → (t ≡ false) × (o ≡ None)
find_rest true x o e = absurd (cc)
find_rest false x o e = (refl, e)

find_on : (p : Placed → Bool) (xs ys : List Placed) → find p xs ≡ None → find p (xs ++ ys) ≡ find p ys
find_on p [] ys e = refl
find_on p (x ∷ xs) ys e =
    let parts = find_rest (p x) x (find p xs) e in
    ap (λ t. cond t (Some x) (find p (xs ++ ys))) parts.0 ∙ find_on p xs ys parts.1

pub no_more : {A : Type 0} (xs : List A) → xs ++ [] ≡ xs
no_more [] = refl
no_more (x ∷ xs) = ap (λ rest. x ∷ rest) (no_more xs)

-- before the first line
pub reading_start : (text : Bor (List ℕ)) (shown : Settings) → shown ≡ settings_of [] → IsReading text.now shown 1 None (Some text)
reading_start text shown e = record { done = []; n = 1; whole = refl; counted = omega arith; told = refl; settings = e; none = refl }

told_next : (n number : ℕ) → told n ≡ number → told (n + 1) ≡ min (number + 1) (2 ^ 32 - 1)
told_next n number e = omega (arith, e)

-- the lines that are left, where the first of them is cut off
left_next : (n : ℕ) (section behind_it rest more : Option (Bor (List ℕ))) (bytes : Bor (List ℕ)) (line : List ℕ)
    → rest ≡ Some bytes → line ≡ before 10 bytes.now → now_of more ≡ behind 10 bytes.now → now_of behind_it ≡ section_behind (now_of section) (line_of line)
    → lines_left n section rest ≡ at n (now_of section) line ∷ lines_left (n + 1) behind_it more
left_next n section behind_it rest more bytes line is first cut section_is =
    ap (lines_left n section) is ∙ ap (placed n (now_of section)) (left_cut 10 bytes.now more cut)
    ∙ ap (λ b. at n (now_of section) b ∷ placed (n + 1) (section_behind (now_of section) (line_of b)) (pieces_left 10 more)) (sym first)
    ∙ ap (λ s. at n (now_of section) line ∷ placed (n + 1) s (pieces_left 10 more)) (sym section_is)

-- after one more line
pub reading_next : (text : List ℕ) (old new : Settings) (number next : ℕ) (section behind_it rest more : Option (Bor (List ℕ))) (bytes : Bor (List ℕ)) (line : List ℕ)
    → rest ≡ Some bytes → line ≡ before 10 bytes.now → now_of more ≡ behind 10 bytes.now
    → refuses (now_of section) (line_of line) ≡ false → now_of behind_it ≡ section_behind (now_of section) (line_of line)
    → ((done : List Placed) (n : ℕ) → told n ≡ number → old ≡ settings_of done → new ≡ settings_of (done ++ at n (now_of section) line ∷ []))
    → next ≡ min (number + 1) (2 ^ 32 - 1)
    → IsReading text old number section rest → IsReading text new next behind_it more
reading_next text old new number next section behind_it rest more bytes line is first cut taken section_is set next_is r = record {
  done = r.done ++ at r.n (now_of section) line ∷ [];
  n = r.n + 1;
  whole = r.whole ∙ ap (λ ls. r.done ++ ls) (left_next r.n section behind_it rest more bytes line is first cut section_is) ∙ sym (append_assoc r.done (at r.n (now_of section) line ∷ []) (lines_left (r.n + 1) behind_it more));
  counted = omega arith;
  told = told_next r.n number r.told ∙ sym next_is;
  settings = set r.done r.n r.told r.settings;
  none = find_on is_refused r.done (at r.n (now_of section) line ∷ []) r.none ∙ ap (λ t. cond t (Some (at r.n (now_of section) line)) None) taken;
}

-- all is read
pub reading_end : (text : List ℕ) (shown : Settings) (number : ℕ) (section rest : Option (Bor (List ℕ))) → rest ≡ None → IsReading text shown number section rest → (shown ≡ settings_of (lines_of text)) × (first_refused (lines_of text) ≡ None)
reading_end text shown number section rest is r =
    let all : lines_of text ≡ r.done = r.whole ∙ ap (λ left. r.done ++ lines_left r.n section left) is ∙ no_more r.done in
    (r.settings ∙ ap settings_of (sym all), ap first_refused all ∙ ap (option_map (λ (p : Placed). p.number)) r.none)
