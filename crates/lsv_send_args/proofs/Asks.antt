-- What words ask for, by what clap found.
use Rattle.std.proofs.Common.{◌≡◌, ◌∙◌, ℕ, List, Result, Ok, Err, IsErrAnd, ap, sym}
use Rattle.std.specs.Prelude.{IfOk, OnOk}
use Rattle.clap.specs.Simple.{matches_of}
use Rattle.clap.specs.Walk.{Row}
use Rattle.lsv_send_args.specs.Program.{program}
use Rattle.lsv_send_args.specs.Request.{asked, asked_by}
use Rattle.lsv_send_args.specs.declared.fault.WordsFault.{WordsFault}

pub by_rows : (words texts : List (List ℕ)) (rows : List Row) → texts ≡ words → rows ≡ matches_of program texts → asked words ≡ asked_by rows
by_rows words texts rows same is = ap (λ (ws : List (List ℕ)). asked_by (matches_of program ws)) (sym same) ∙ ap asked_by (sym is)

-- what holds in any case
pub on_ok : {T E P : Type 0} (r : Result T E) → P → OnOk r P
on_ok (Ok x) p = p
on_ok (Err e) p = tt

pub same_err : {T : Type 0} (r : Result T WordsFault) (e d : WordsFault) → IsErrAnd r (λ x. x ≡ e) → r ≡ Err d → e ≡ d
same_err (Ok x) e d is at = absurd is
same_err (Err y) e d is at = let same : y ≡ d = cc in sym is ∙ same

-- what an answer equals, by another name of it
pub moved : {A T : Type 0} (f g : A) (h : T → A) (o : Result T WordsFault) → f ≡ g → IfOk o (λ r. g ≡ h r) → IfOk o (λ r. f ≡ h r)
moved f g h (Ok r) e is = e ∙ is
moved f g h (Err x) e is = tt
