-- The text of a verdict is one line of visible bytes.
use Rattle.std.proofs.Common.{◌≡◌, ℕ, zero, suc, ◌+◌, ◌-◌, ◌/◌, ◌%◌, ◌<◌, ◌≤◌, ℤ, pos, negsuc, List, [], ◌∷◌, ◌++◌, length, slice_index, Bool, true, false, refl, sym, ap, ◌∙◌, append_assoc, arith, codes, Option, Some, None}
use Rattle.std.specs.Prelude.{if◌then◌else◌, nat_le, nat_lt, ◌&&◌, ◌==◌, decimal, All}
use Rattle.std.specs.Fmt.{signed_decimal}
use Rattle.std.specs.List.{list_all}
use Rattle.std.proofs.lemmas.Bool.{and_parts, le-leb}
use Rattle.std.proofs.lemmas.List.Elements.{All-head, All-tail}
use Rattle.hex.specs.Hex.{encode_lower, encode_with, lower_digits}
use Rattle.lsv_base.specs.LogNo.{digit_byte, digits_of}
use Rattle.lsv_bundle.specs.declared.body.Body.{Body}
use Rattle.lsv_disk.specs.declared.file.Part.{Part}
use Rattle.lsv_disk.specs.declared.file.Part.TheVariants as parts
use Rattle.lsv_event.specs.Events.{IsVisible}
use Rattle.lsv_event.specs.SudoLine.{sudo_line}
use Rattle.lsv_event.specs.declared.event.Event.{Event}
use Rattle.lsv_event.specs.declared.event.Event.TheVariants.{Accept}
use Rattle.lsv_finding.specs.declared.checked.Checked.{Checked}
use Rattle.lsv_finding.specs.declared.checked.Checked.TheVariants as kept
use Rattle.lsv_info.specs.declared.times.Exit.{Exit}
use Rattle.lsv_info.specs.declared.times.Head.{Head}
use Rattle.lsv_record.specs.Records.{last_digits, seconds}
use Rattle.lsv_verdict.proofs.Calm.{Each, both, clean, decimal_clean, digit_clean, every, join, then_each, visible}
use Rattle.lsv_verdict.specs.Lines.{AreBytes}
use Rattle.lsv_verdict.specs.Text.{broken_text, bytes_in, complete_text, faulty_text, found_text, incomplete_text, listing_line, name_of, said, started, text_in, text_of, with_body, with_cuts, with_digest, with_exit, with_relayed}
use Rattle.lsv_verdict.specs.declared.verdict.Verdict.{Verdict}

-- ---- parts of a line

plain : (text : List ℕ) → list_all clean text ≡ true → Each clean text
plain text e = record { holds = e }

digit_byte_clean : (d : ℕ) → d < 36 → clean (digit_byte d) ≡ true
digit_byte_clean d few = by (nat_lt d 10) where
  by : (b : Bool) → clean (if b then 48 + d else 55 + d) ≡ true
  by true = both (le-leb 32 (48 + d) (omega arith)) (le-leb (48 + d) 126 (omega (arith, few)))
  by false = both (le-leb 32 (55 + d) (omega arith)) (le-leb (55 + d) 126 (omega (arith, few)))

digits_clean : (n : ℕ) → Each clean (digits_of n)
digits_clean n =
    then_each (digit_byte_clean (n / 60466176 % 36) (omega arith)) (then_each (digit_byte_clean (n / 1679616 % 36) (omega arith)) (then_each (digit_byte_clean (n / 46656 % 36) (omega arith))
    (then_each (digit_byte_clean (n / 1296 % 36) (omega arith)) (then_each (digit_byte_clean (n / 36 % 36) (omega arith)) (then_each (digit_byte_clean (n % 36) (omega arith)) (plain [] refl))))))

last_clean : (k n : ℕ) → Each clean (last_digits k n)
unfolding last_digits
last_clean zero n = plain [] refl
last_clean (suc k) n = join (last_clean k (n / 10)) (record { holds = both (digit_clean (n % 10) (omega arith)) refl })

seconds_clean : (nanos : ℕ) → Each clean (seconds nanos)
seconds_clean nanos = join (decimal_clean (nanos / 1000000000)) (then_each refl (last_clean 9 (nanos % 1000000000)))

signed_clean : (z : ℤ) → Each clean (signed_decimal z)
signed_clean (pos n) = decimal_clean n
signed_clean (negsuc n) = then_each refl (decimal_clean (suc n))

name_clean : (part : Part) → Each clean (name_of part)
name_clean parts.Head = plain _ refl
name_clean parts.Exit = plain _ refl
name_clean parts.Timing = plain _ refl
name_clean parts.Stdin = plain _ refl
name_clean parts.Stdout = plain _ refl
name_clean parts.Stderr = plain _ refl
name_clean parts.Ttyin = plain _ refl
name_clean parts.Ttyout = plain _ refl
name_clean parts.Lines = plain _ refl
name_clean parts.Id = plain _ refl
name_clean parts.Commit = plain _ refl
name_clean parts.Slots = plain _ refl

index_clean : (t : List ℕ) (i : ℕ) → list_all clean t ≡ true → i < length t → clean (slice_index t i) ≡ true
index_clean [] i e within = absurd (let no_ : ⊥ = omega (arith, within) in no_)
index_clean (x ∷ t) zero e within = (and_parts (clean x) (list_all clean t) e).0
index_clean (x ∷ t) (suc i) e within = index_clean t i (and_parts (clean x) (list_all clean t) e).1 (omega (arith, within))

hex_clean : (bytes : List ℕ) → All (λ b. b < 256) bytes → Each clean (encode_with lower_digits bytes)
unfolding encode_with
hex_clean [] are = plain [] refl
hex_clean (b ∷ bytes) are =
    let small = All-head (λ x. x < 256) b bytes are in
    then_each (index_clean lower_digits (b / 16) refl (omega (arith, small))) (then_each (index_clean lower_digits (b % 16) refl (omega arith)) (hex_clean bytes (All-tail (λ x. x < 256) b bytes are)))

-- ---- lines

started_clean : (state : List ℕ) (n : ℕ) → list_all clean state ≡ true → Each clean (started state n)
started_clean state n e = join (plain state e) (digits_clean n)

ended : (text : List ℕ) → Each clean text → IsVisible (text ++ 10 ∷ [])
ended text e = (text, refl, every clean (λ byte. (32 ≤ byte) × (byte ≤ 126)) visible text e.holds)

clean_of : (text : List ℕ) → All (λ byte. (32 ≤ byte) × (byte ≤ 126)) text → Each clean text
clean_of [] all = plain [] refl
clean_of (x ∷ text) all =
    let at = All-head (λ byte. (32 ≤ byte) × (byte ≤ 126)) x text all in
    then_each (both (le-leb 32 x at.0) (le-leb x 126 at.1)) (clean_of text (All-tail (λ byte. (32 ≤ byte) × (byte ≤ 126)) x text all))

cuts_clean : (line : List ℕ) (cuts : ℕ) → Each clean line → Each clean (with_cuts line cuts)
cuts_clean line cuts e = by (cuts == 0) where
  by : (b : Bool) → Each clean (if b then line else line ++ codes ", cuts " ++ decimal cuts)
  by true = e
  by false = join (join {b = codes ", cuts "} e (plain _ refl)) (decimal_clean cuts)

body_clean : (line until : List ℕ) (body : Body) → Each clean line → list_all clean until ≡ true → Each clean (with_body line until body)
body_clean line until body e is =
    join {b = codes " bytes"} (join (join {b = codes " s, "} (join (join (join {b = codes " records"} (join (join {b = codes " ; "} e (plain _ refl)) (decimal_clean body.count)) (plain _ refl)) (plain until is)) (seconds_clean body.elapsed)) (plain _ refl)) (decimal_clean (bytes_in body))) (plain _ refl)

exit_clean : (line : List ℕ) (exit : Option Exit) → Each clean line → Each clean (with_exit line exit)
exit_clean line None e = join {b = codes ", exit unreadable"} e (plain _ refl)
exit_clean line (Some exit) e = join (join {b = codes ", exit "} e (plain _ refl)) (signed_clean exit.value)

relayed_clean : (line : List ℕ) (relayed : Bool) → Each clean line → Each clean (with_relayed line relayed)
relayed_clean line true e = join {b = codes ", relayed"} e (plain _ refl)
relayed_clean line false e = e

digest_clean : (line : List ℕ) (digest : Option (List ℕ)) → AreBytes digest → Each clean line → Each clean (with_digest line digest)
digest_clean line None are e = e
digest_clean line (Some digest) are e = join (join {b = codes ", sha256 "} e (plain _ refl)) (hex_clean digest are)

module _ (listing : (event : Event) → IsVisible (sudo_line event)) where
  listed : (front : List ℕ) (n : ℕ) (head : Head) → Each clean front → IsVisible (front ++ listing_line n head)
  unfolding listing_line
  listed front n head e =
      let line = listing (Accept head.submit (record { worker = 0; seq = 0 }) (Some n) head) in (
        front ++ line.0,
        ap (λ (bytes : List ℕ). front ++ bytes) line.1 ∙ sym (append_assoc front line.0 (10 ∷ [])),
        every clean (λ byte. (32 ≤ byte) × (byte ≤ 126)) visible (front ++ line.0) (join e (clean_of line.0 line.2)).holds,
      )

  found_visible : (n : ℕ) (relayed : Bool) (digest : Option (List ℕ)) (found : Checked) → AreBytes digest → IsVisible (found_text n relayed digest found)
  found_visible n relayed digest kept.Nowhere are = ended _ (join {b = []} (started_clean (codes "absent      ") n refl) (plain _ refl))
  found_visible n relayed digest (kept.Unlisted part) are =
      ended _ (join {b = codes " has bytes"} (join (join {b = codes " ; no entry in slots, but "} (started_clean (codes "damaged     ") n refl) (plain _ refl)) (name_clean part)) (plain _ refl))
  found_visible n relayed digest (kept.Closed part) are =
      ended _ (join {b = codes " is missing, short or unreadable"} (join (join {b = codes " ; "} (started_clean (codes "damaged     ") n refl) (plain _ refl)) (name_clean part)) (plain _ refl))
  found_visible n relayed digest (kept.Broken head body count time part) are =
      listed _ n head (join {b = codes " s ; "} (join (join {b = codes " at "} (join (join {b = codes ", after record "} (join (join {b = codes " ; "} (started_clean (codes "damaged     ") n refl) (plain _ refl)) (name_clean part)) (plain _ refl)) (decimal_clean count)) (plain _ refl)) (seconds_clean time)) (plain _ refl))
  found_visible n relayed digest (kept.Sound head body exit) are = by (body.kind == 3) where
    by : (b : Bool) → IsVisible (if b then complete_text n head body exit relayed digest else incomplete_text n head body)
    by true =
        listed _ n head (join {b = codes " ; "} (digest_clean _ digest are (relayed_clean _ relayed (exit_clean _ exit (cuts_clean _ body.extra (body_clean (started (codes "complete    ") n) (codes ", ") body (started_clean (codes "complete    ") n refl) refl))))) (plain _ refl))
    by false =
        listed _ n head (join {b = codes " ; "} (cuts_clean _ body.extra (body_clean (started (codes "incomplete  ") n) (codes ", up to ") body (started_clean (codes "incomplete  ") n refl) refl)) (plain _ refl))

  text_visible : (n : ℕ) (found : Option Checked) (relayed : Bool) (digest : Option (List ℕ)) → AreBytes digest → IsVisible (text_in n found relayed digest)
  text_visible n None relayed digest are = ended _ (join {b = codes " ; a read of its files failed"} (started_clean (codes "unread      ") n refl) (plain _ refl))
  text_visible n (Some found) relayed digest are = found_visible n relayed digest found are

  pub one_text : (v : Verdict) → AreBytes v.digest → IsVisible (text_of v)
  unfolding text_of
  one_text v are = text_visible v.number v.found v.relayed v.digest are
