-- A line with its line feed, at an offset of a text.
use Rattle.std.proofs.Common.{◌≡◌, ◌≢◌, ℕ, ◌+◌, ◌<◌, ◌≤◌, List, [], ◌∷◌, ◌++◌, length, drop, All, None, arith, refl, sym, ap, ◌∙◌, subst, lit<, lit≤, append_assoc, length-append, length-drop}
use Rattle.std.proofs.lemmas.List.{drop_at, drop-drop}
use Rattle.std.proofs.lemmas.List.Elements.{All-cons, All-append, All-weaker}
use Rattle.lsv_record.specs.declared.records.Shaped.{Shaped}
use Rattle.lsv_record.specs.declared.records.Shaped.TheVariants.{Io, Winsize, Suspend}
use Rattle.lsv_record.specs.Records.{seconds, text_of, shaped_line, IsGood}
use Rattle.lsv_record.specs.Lines.{IsLineAt, IsBadAt}
use Rattle.lsv_record.specs.Inner.Spelled.{Reads, joined, parts_of}
use Rattle.lsv_record.proofs.Splits.{cut_once, avoids}
use Rattle.lsv_record.proofs.Times.{decimal_above, seconds_above}
use Rattle.lsv_record.proofs.Told.{text_is_joined, good_delay}

rest_above : (told : Shaped) → IsGood told → All (λ byte. 10 < byte) (parts_of told).rest
rest_above (Io d s n) good = decimal_above 10 n (lit< tt) (omega (arith, good.1))
rest_above (Winsize d r c) good =
    All-append (λ byte. 10 < byte) _ _ (decimal_above 10 r (lit< tt) (omega (arith, good.1))) (All-cons (λ byte. 10 < byte) 32 _ (lit< tt) (decimal_above 10 c (lit< tt) (omega (arith, good.2))))
rest_above (Suspend d s) good = All-weaker (λ byte. (33 ≤ byte) × (byte ≤ 126)) (λ byte. 10 < byte) (λ byte h. omega (arith, h.0)) s good.1.visible

event_above : (told : Shaped) → 10 < (parts_of told).event
event_above (Io d s n) = omega arith
event_above (Winsize d r c) = lit< tt
event_above (Suspend d s) = lit< tt

-- a line has no line feed but at its end
pub one_line_feed : (told : Shaped) → IsGood told → All (λ byte. byte ≢ 10) (text_of told)
one_line_feed told good =
    let p = parts_of told in
    let delay = All-weaker (λ byte. 45 < byte) (λ byte. 10 < byte) (λ byte h. omega (arith, h)) (seconds p.delay) (seconds_above p.delay (good_delay told good)) in
    let behind = All-append (λ byte. 10 < byte) (seconds p.delay) (32 ∷ p.rest) delay (All-cons (λ byte. 10 < byte) 32 p.rest (lit< tt) (rest_above told good)) in
    let all : All (λ byte. 10 < byte) (joined p) = All-cons (λ byte. 10 < byte) p.event (32 ∷ seconds p.delay ++ 32 ∷ p.rest) (event_above told) (All-cons (λ byte. 10 < byte) 32 (seconds p.delay ++ 32 ∷ p.rest) (lit< tt) behind) in
    avoids 10 10 (text_of told) (lit≤ tt) (subst (All (λ byte. 10 < byte)) (sym (text_is_joined told)) all)

pub line_found : (text rest line tail : List ℕ) (at : ℕ) (told : Shaped) → rest ≡ drop at text → rest ≡ line ++ 10 ∷ tail → IsGood told → line ≡ text_of told → IsLineAt text at told (at + length line + 1)
line_found text rest line tail at told there cut good is =
    let whole : line ++ 10 ∷ tail ≡ shaped_line told ++ tail = ap (λ t. t ++ 10 ∷ tail) is ∙ sym (append_assoc (text_of told) (10 ∷ []) tail) in
    let long : length (shaped_line told) ≡ length line + 1 = omega (arith, length-append (text_of told) (10 ∷ []), ap length is) in
    let next : at + length line + 1 ≡ at + length (shaped_line told) = omega arith in
    let dropped : drop (at + length line + 1) text ≡ tail =
    ap (λ (k : ℕ). drop k text) next ∙ sym (drop-drop (length (shaped_line told)) at text) ∙ ap (drop (length (shaped_line told))) (sym there ∙ (cut ∙ whole)) ∙ drop_at (shaped_line told) tail (length (shaped_line told)) refl in
    record {
      good = good;
      spelled = sym there ∙ (cut ∙ (whole ∙ ap (λ t. shaped_line told ++ t) (sym dropped)));
      after = next;
    }

pub spelled_behind : (text : List ℕ) (at : ℕ) (told : Shaped) (next : ℕ) → IsLineAt text at told next → drop at text ≡ text_of told ++ 10 ∷ drop next text
spelled_behind text at told next line = line.spelled ∙ append_assoc (text_of told) (10 ∷ []) (drop next text)

nothing_told : (text rest line tail : List ℕ) (at : ℕ) → rest ≡ drop at text → rest ≡ line ++ 10 ∷ tail → All (λ byte. byte ≢ 10) line → Reads IsGood text_of line None → (told : Shaped) (next : ℕ) → IsLineAt text at told next → ⊥
nothing_told text rest line tail at there cut first none told next at_place =
    none told at_place.good (cut_once 10 line tail (text_of told) (drop next text) (sym cut ∙ (there ∙ spelled_behind text at told next at_place)) first (one_line_feed told at_place.good)).0

pub bad_line : (text rest line tail : List ℕ) (at : ℕ) → rest ≡ drop at text → rest ≡ line ++ 10 ∷ tail → All (λ byte. byte ≢ 10) line → Reads IsGood text_of line None → IsBadAt text at
bad_line text rest line tail at there cut first none = record {
  before_end = omega (arith, length-drop at text, ap length (sym there ∙ cut), length-append line (10 ∷ tail));
  no_line = nothing_told text rest line tail at there cut first none;
}
