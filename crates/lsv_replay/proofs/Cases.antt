-- Clauses by cases of an answer.
use Rattle.std.proofs.Common.{◌≡◌, Result, Ok, Err, IfOk, IfErr, IsErrAnd, sym, subst}
use Rattle.lsv_replay.specs.declared.fault.ListFault.{ListFault}

pub if_err : {T : Type 0} (r : Result T ListFault) (e : ListFault) (P : ListFault → Type 0) → IsErrAnd r (λ x. x ≡ e) → P e → IfErr r P
if_err (Ok x) e P is p = tt
if_err (Err x) e P is p = subst P (sym is) p

pub if_ok_map : {T : Type 0} (r : Result T ListFault) (P Q : T → Type 0) → ((x : T) → P x → Q x) → IfOk r P → IfOk r Q
if_ok_map (Ok x) P Q step p = step x p
if_ok_map (Err e) P Q step p = tt

pub if_err_map : {T : Type 0} (r : Result T ListFault) (P Q : ListFault → Type 0) → ((e : ListFault) → P e → Q e) → IfErr r P → IfErr r Q
if_err_map (Ok x) P Q step p = tt
if_err_map (Err e) P Q step p = step e p

-- an error is this one
pub err_as : {T : Type 0} (r : Result T ListFault) (e : ListFault) → IsErrAnd r (λ x. x ≡ e) → r ≡ Err e
err_as (Ok x) e is = absurd is
err_as {T} (Err x) e is = let same : x ≡ e = is in cc
