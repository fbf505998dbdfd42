-- Lines of a window are lines of its text.
use Rattle.std.proofs.Common.{◌≡◌, ℕ, ◌+◌, ◌≤◌, List, ◌++◌, length, take, drop, ◌⊎◌, inl, inr, Bool, IsTrue, arith, refl, sym, ap, ◌∙◌, append_assoc, length-append, length-drop}
use Rattle.std.proofs.lemmas.List.{drop_at, take_at, drop-drop, take-append-drop, take-append-le}
use Rattle.lsv_record.specs.declared.records.Shaped.{Shaped}
use Rattle.lsv_record.specs.Lines.{IsLineAt, IsBadAt, IsWindow}
use Rattle.lsv_record.specs.Records.{shaped_line}
use Rattle.lsv_record.proofs.Lengths.{short_line}

-- what begins a text as far as a window of it goes begins the window
begins_window : (line tail window rest : List ℕ) → window ++ rest ≡ line ++ tail → length line ≤ length window → window ≡ line ++ drop (length line) window
begins_window line tail window rest e long =
    let first : take (length line) window ≡ line = sym (take-append-le (length line) window rest long) ∙ (ap (take (length line)) e ∙ take_at line tail (length line) refl) in
    sym (take-append-drop (length line) window) ∙ ap (λ (t : List ℕ). t ++ drop (length line) window) first

-- a line at the start of a window stands in the text
pub line_in_text : (text window : List ℕ) (offset : ℕ) (is_last : Bool) (told : Shaped) (next : ℕ) → IsWindow text offset window is_last → IsLineAt window 0 told next → IsLineAt text offset told (offset + next)
line_in_text text window offset is_last told next w line =
    let rest = w.within.0 in
    let spelled : drop offset text ≡ shaped_line told ++ (drop next window ++ rest) = w.within.1 ∙ (ap (λ (t : List ℕ). t ++ rest) line.spelled ∙ append_assoc (shaped_line told) (drop next window) rest) in
    let after : offset + next ≡ offset + length (shaped_line told) = omega (arith, line.after) in
    let dropped : drop (offset + next) text ≡ drop next window ++ rest =
    ap (λ (k : ℕ). drop k text) after ∙ (sym (drop-drop (length (shaped_line told)) offset text) ∙ (ap (drop (length (shaped_line told))) spelled ∙ drop_at (shaped_line told) (drop next window ++ rest) (length (shaped_line told)) refl)) in
    record { good = line.good; spelled = spelled ∙ ap (λ (t : List ℕ). shaped_line told ++ t) (sym dropped); after = after }

-- a line of the text that is no longer than the window stands in the window
line_in_window : (text window : List ℕ) (offset : ℕ) (is_last : Bool) (told : Shaped) (next : ℕ) → IsWindow text offset window is_last → length (shaped_line told) ≤ length window → IsLineAt text offset told next → IsLineAt window 0 told (length (shaped_line told))
line_in_window text window offset is_last told next w long line =
    record { good = line.good; spelled = begins_window (shaped_line told) (drop next text) window w.within.0 (sym w.within.1 ∙ line.spelled) long; after = omega arith }

-- as all lines are where the window is long enough, or has all that is left of the text
fits_window : (text window : List ℕ) (offset : ℕ) (is_last : Bool) (told : Shaped) (next : ℕ) → IsWindow text offset window is_last → (56 ≤ length window) ⊎ IsTrue is_last → IsLineAt text offset told next → length (shaped_line told) ≤ length window
fits_window text window offset is_last told next w (inl long) line = omega (arith, short_line told line.good)
fits_window text window offset is_last told next w (inr last) line =
    omega (arith, ap length (sym (w.whole last) ∙ line.spelled), length-append (shaped_line told) (drop next text))

pub bad_in_text : (text window : List ℕ) (offset : ℕ) (is_last : Bool) → IsWindow text offset window is_last → (56 ≤ length window) ⊎ IsTrue is_last → IsBadAt window 0 → IsBadAt text offset
bad_in_text text window offset is_last w enough bad = record {
  before_end = omega (arith, bad.before_end, length-drop offset text, ap length w.within.1, length-append window w.within.0);
  no_line = λ told next line. bad.no_line told (length (shaped_line told)) (line_in_window text window offset is_last told next w (fits_window text window offset is_last told next w enough line) line);
}
