-- Records of a legal conversation: masked ones have the lengths and the time of those that were sent, so a log takes them where it takes those.
use Rattle.std.proofs.Common.{◌≡◌, ◌≤◌, ◌<◌, ◌+◌, ◌^◌, ℕ, suc, List, [], ◌∷◌, ◌++◌, length, map, refl, sym, ◌∙◌, ap, subst, arith, length-append}
use Rattle.std.specs.Prelude.{◌&&◌, nat_lt, nat_le, Bool, true}
use Rattle.std.proofs.lemmas.Bool.Decides.{nat_tests}
use Rattle.lsv_mask.specs.Masking.{mask}
use Rattle.lsv_mask.proofs.Covers.{shapes_masked}
use Rattle.lsv_record.specs.Points.{Stored}
use Rattle.lsv_record.specs.Records.{data_in, delay_of, elapsed, line_of, shape_of, stream_of, timing_of}
use Rattle.lsv_record.specs.Tally.{lines_of, told_data, told_elapsed}
use Rattle.lsv_record.specs.declared.records.Record.{Record}
use Rattle.lsv_record.specs.declared.records.Record.TheVariants.{Io, Winsize, Suspend}
use Rattle.lsv_record.specs.declared.records.Stream.{Stream}
use Rattle.lsv_record.proofs.Layouts.{elapsed-append, elapsed-push, stream_of-append, stream_of-push, timing_of-append, timing_of-push}
use Rattle.lsv_record.proofs.Tallies.{lines_are_timing, lines_tell_data, lines_tell_time}
use Rattle.lsv_machine.specs.Work.{files_take, fits_file, stream_takes, takes}

-- ---- What masking keeps

pub masked_time : (texts : List (List ℕ)) (rs : List Record) → elapsed (mask texts rs) ≡ elapsed rs
masked_time texts rs = sym (lines_tell_time (mask texts rs)) ∙ (ap told_elapsed (shapes_masked texts rs) ∙ lines_tell_time rs)

masked_timing : (texts : List (List ℕ)) (rs : List Record) → timing_of (mask texts rs) ≡ timing_of rs
masked_timing texts rs = sym (lines_are_timing (mask texts rs)) ∙ (ap lines_of (shapes_masked texts rs) ∙ lines_are_timing rs)

masked_data : (texts : List (List ℕ)) (rs : List Record) (s : Stream) → length (stream_of s (mask texts rs)) ≡ length (stream_of s rs)
masked_data texts rs s = sym (lines_tell_data s (mask texts rs)) ∙ (ap (told_data s) (shapes_masked texts rs) ∙ lines_tell_data s rs)

pub masked_count : (texts : List (List ℕ)) (rs : List Record) → length (mask texts rs) ≡ length rs
masked_count texts rs = sym (count shape_of (mask texts rs)) ∙ (ap length (shapes_masked texts rs) ∙ count shape_of rs)
  where
    count : {A B : Type 0} (f : A → B) (xs : List A) → length (map f xs) ≡ length xs
    count {A} {B} f [] = refl
    count {A} {B} f (x ∷ xs) = ap (λ (n : ℕ). suc n) (count f xs)

-- ---- What a log takes

at_most : (a b : ℕ) → a ≤ b → nat_le a b ≡ true
at_most a b h = grind (arith, nat_tests)

said_most : (a b : ℕ) → nat_le a b ≡ true → a ≤ b
said_most a b h = grind (arith, nat_tests)

both : (a b : Bool) → a ≡ true → b ≡ true → (a && b) ≡ true
both a b p q = rw (p, q) refl

module _ (texts : List (List ℕ)) (all sent : List Record) (r : Record) (rest : List Record) (is : all ≡ sent ++ r ∷ rest) where
  timing_fits : fits_file (timing_of all) ≡ true → fits_file (timing_of (mask texts sent ++ r ∷ [])) ≡ true
  timing_fits fits =
      let most = said_most (length (timing_of all)) (2 ^ 40) fits in
      let a = ap length (ap timing_of is ∙ timing_of-append sent (r ∷ rest)) in
      let b = length-append (timing_of sent) (timing_of (r ∷ rest)) in
      let c = length-append (line_of r) (timing_of rest) in
      let d = ap length (timing_of-push (mask texts sent) r) in
      let e = length-append (timing_of (mask texts sent)) (line_of r) in
      let f = ap length (masked_timing texts sent) in
      at_most (length (timing_of (mask texts sent ++ r ∷ []))) (2 ^ 40) (omega arith)

  stream_fits : (s : Stream) → fits_file (stream_of s all) ≡ true → fits_file (stream_of s (mask texts sent ++ r ∷ [])) ≡ true
  stream_fits s fits =
      let most = said_most (length (stream_of s all)) (2 ^ 40) fits in
      let a = ap length (ap (stream_of s) is ∙ stream_of-append s sent (r ∷ rest)) in
      let b = length-append (stream_of s sent) (stream_of s (r ∷ rest)) in
      let c = length-append (data_in s r) (stream_of s rest) in
      let d = ap length (stream_of-push s (mask texts sent) r) in
      let e = length-append (stream_of s (mask texts sent)) (data_in s r) in
      let f = masked_data texts sent s in
      at_most (length (stream_of s (mask texts sent ++ r ∷ []))) (2 ^ 40) (omega arith)

  stream_takes_it : (q : Record) → q ≡ r → ((s : Stream) → fits_file (stream_of s all) ≡ true) → stream_takes (mask texts sent) q ≡ true
  stream_takes_it (Io delay s bytes) e fits = subst (λ (x : Record). fits_file (stream_of s (mask texts sent ++ x ∷ [])) ≡ true) (sym e) (stream_fits s (fits s))
  stream_takes_it (Winsize delay rows cols) e fits = refl
  stream_takes_it (Suspend delay signal) e fits = refl

  time_fits : elapsed all < 2 ^ 63 → nat_lt (elapsed (mask texts sent) + delay_of r) (2 ^ 63) ≡ true
  time_fits fits =
      let a = ap elapsed is in
      let b = elapsed-append sent (r ∷ rest) in
      let c = masked_time texts sent in
      less (elapsed (mask texts sent) + delay_of r) (2 ^ 63) (omega arith)
    where
      less : (a b : ℕ) → a < b → nat_lt a b ≡ true
      less a b h = grind (arith, nat_tests)

  pub log_takes : (log : Stored) → log.records ≡ mask texts sent → elapsed all < 2 ^ 63 → fits_file (timing_of all) ≡ true → ((s : Stream) → fits_file (stream_of s all) ≡ true) → takes log r ≡ true
  log_takes log e time timing streams =
      let a : nat_lt (elapsed log.records + delay_of r) (2 ^ 63) ≡ true = ap (λ (rs : List Record). nat_lt (elapsed rs + delay_of r) (2 ^ 63)) e ∙ time_fits time in
      let b : files_take log.records r ≡ true = ap (λ (rs : List Record). files_take rs r) e ∙ both (fits_file (timing_of (mask texts sent ++ r ∷ []))) (stream_takes (mask texts sent) r) (timing_fits timing) (stream_takes_it r refl streams) in
      both (nat_lt (elapsed log.records + delay_of r) (2 ^ 63)) (files_take log.records r) a b
