-- A record that is shown at once.
use Rattle.std.proofs.Common.{◌≡◌, ◌≢◌, ◌&&◌, ℕ, zero, suc, ◌∷◌, Bool, true, false, not, Some, refl, sym, ap, arith}
use Rattle.std.specs.Prelude.{◌*◌, ◌/◌, ◌-◌, ◌^◌, min, if◌then◌else◌}
use Rattle.lsv_record.specs.declared.records.Record.{Record}
use Rattle.lsv_record.specs.declared.records.Record.TheVariants.{Io, Winsize, Suspend}
use Rattle.lsv_play.specs.declared.options.Options.{Options}
use Rattle.lsv_play.specs.declared.screen.Item.TheVariants.{Wait}
use Rattle.lsv_play.specs.Schedule.{bytes_shown, items_of, resumes, scaled, wait_of}
use Rattle.lsv_follow.specs.Followed.{record_put}

-- options with no wait
abbrev pub hurried : Options → Options
hurried o = record { streams = o.streams; longest = Some 0; speed = o.speed; suspended = o.suspended; runs = o.runs }

no_wait : (o : Options) (delay : ℕ) (b : Bool) → wait_of (hurried o) delay b ≡ 0
no_wait o delay b = by (b && not o.suspended) where
  by : (c : Bool) → (if c then 0 else scaled (hurried o) delay) ≡ 0
  by true = refl
  by false = let e : min (min (delay * 1000000000 / o.speed) 0) (2 ^ 63 - 1) ≡ 0 = omega arith in e

hurried_put : (o : Options) (r : Record) → items_of (hurried o) r ≡ Wait 0 ∷ bytes_shown o r
hurried_put o (Io delay stream bytes) = ap (λ (n : ℕ). Wait n ∷ bytes_shown o (Io delay stream bytes)) (no_wait o delay (resumes (Io delay stream bytes)))
hurried_put o (Winsize delay rows cols) = ap (λ (n : ℕ). Wait n ∷ bytes_shown o (Winsize delay rows cols)) (no_wait o delay (resumes (Winsize delay rows cols)))
hurried_put o (Suspend delay signal) = ap (λ (n : ℕ). Wait n ∷ bytes_shown o (Suspend delay signal)) (no_wait o delay (resumes (Suspend delay signal)))

pub put_at_once : (o : Options) (n : ℕ) (r : Record) → n ≢ 0 → items_of (hurried o) r ≡ record_put o n r
put_at_once o zero r some = absurd (some refl)
put_at_once o (suc n) r some = hurried_put o r

pub put_as_played : (o : Options) (n : ℕ) (r : Record) → n ≡ 0 → items_of o r ≡ record_put o n r
put_as_played o n r none = ap (λ (k : ℕ). record_put o k r) (sym none)
