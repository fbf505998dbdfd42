-- Records, and the points at which they end.
use Rattle.std.proofs.Common.{◌≡◌, ◌≤◌, ◌+◌, ◌-◌, ℕ, suc, List, [], ◌∷◌, ◌++◌, take, refl, ◌∙◌, ap, subst, arith, Option, Some, None}
use Rattle.std.specs.Prelude.{◌==◌, ◌&&◌, nat_lt, Bool, true, false, if◌then◌else◌}
use Rattle.std.proofs.lemmas.Bool.Decides.{nat_tests}
use Rattle.lsv_record.specs.Layout.{IsLayout, stream_in}
use Rattle.lsv_record.specs.Points.{first, one_more}
use Rattle.lsv_record.specs.Records.{delay_of, elapsed, timing_of}
use Rattle.lsv_record.specs.declared.laid.Laid.{Laid}
use Rattle.lsv_record.specs.declared.records.Record.{Record}
use Rattle.lsv_record.specs.declared.records.Record.TheVariants.{Io, Winsize, Suspend}
use Rattle.lsv_machine.specs.Work.{files_take, fits_file}
use Rattle.lsvt_model.specs.Inner.{fits_files}

pub elapsed_push : (rs : List Record) (r : Record) → elapsed (rs ++ r ∷ []) ≡ elapsed rs + delay_of r
elapsed_push [] r = omega arith
elapsed_push (x ∷ rs) r = omega (arith, elapsed_push rs r)

-- this many records end at the point
pub record Ends (rs : List Record) (point n : ℕ) : Type 0 where
  pub ends : elapsed (take n rs) ≡ point
  pub within : point ≤ elapsed rs

pub first_ends : (rs : List Record) (point n : ℕ) → first rs point ≡ Some n → Ends rs point n
first_ends [] point n h = cc
first_ends (r ∷ rs) point n h = go (delay_of r == point) refl (nat_lt point (delay_of r)) refl (first rs (point - delay_of r)) (λ m e. first_ends rs (point - delay_of r) m e) h
  where
    go : (s : Bool) → (delay_of r == point) ≡ s → (t : Bool) → nat_lt point (delay_of r) ≡ t → (o : Option ℕ) → ((m : ℕ) → o ≡ Some m → Ends rs (point - delay_of r) m)
        → (if s then Some 1 else if t then None else one_more o) ≡ Some n → Ends (r ∷ rs) point n
    go true a t b o ih h =
        let z : 1 ≡ n = cc in
        let same : delay_of r ≡ point = grind (arith, nat_tests) in
        subst (λ k. Ends (r ∷ rs) point k) z (record { ends = omega (arith, same); within = omega (arith, same) })
    go false a true b o ih h = cc
    go false a false b None ih h = cc
    go false a false b (Some m) ih h =
        let z : suc m ≡ n = cc in
        let below : delay_of r ≤ point = grind (arith, nat_tests) in
        let e = ih m refl in
        subst (λ k. Ends (r ∷ rs) point k) z (record { ends = omega (arith, e.ends, below); within = omega (arith, e.within, below) })

pub layout_fits : (l : Laid) (records : List Record) (r : Record) → IsLayout l (records ++ r ∷ []) → fits_files l r ≡ files_take records r
layout_fits l records (Io delay stream bytes) h =
    ap (λ (t : List ℕ). fits_file t && fits_file (stream_in stream l)) h.timing
    ∙ ap (λ (t : List ℕ). fits_file (timing_of (records ++ Io delay stream bytes ∷ [])) && fits_file t) (h.streams stream)
layout_fits l records (Winsize delay rows cols) h = rw h.timing refl
layout_fits l records (Suspend delay signal) h = rw h.timing refl
