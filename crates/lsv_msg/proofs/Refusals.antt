-- What a refusal says.
use Rattle.std.proofs.Common.{◌≡◌, ◌≢◌, Result, Ok, Err, refl}
use Rattle.std.specs.Prelude.{IfOk, IfErr}
use Rattle.lsv_msg.specs.declared.fault.MsgFault.{MsgFault}
use Rattle.lsv_msg.specs.declared.fault.MsgFault.TheVariants.{Wire, Untyped, Twice, WrongType, NoMem}
use Rattle.lsv_msg.specs.Format.{Fails, Gives}

fails : {A : Type 0} (e : MsgFault) (reading : Result A MsgFault) → Fails e reading → e ≢ NoMem → reading ≡ Err e
fails NoMem reading given other = absurd (other refl)
fails (Wire fault) reading given other = given
fails Untyped reading given other = given
fails (Twice number) reading given other = given
fails (WrongType number) reading given other = given

pub given_message : {A : Type 0} (result reading : Result A MsgFault) → Gives (λ a. a) result reading → IfOk result (λ a. reading ≡ Ok a)
given_message (Ok a) reading given = given
given_message (Err e) reading given = tt

pub given_refusal : {A : Type 0} (result reading : Result A MsgFault) → Gives (λ a. a) result reading → IfErr result (λ e. e ≢ NoMem → reading ≡ Err e)
given_refusal (Ok a) reading given = tt
given_refusal (Err e) reading given = fails e reading given

pub given_good : {A : Type 0} (Good : A → Type 0) (result reading : Result A MsgFault) → Gives (λ a. a) result reading → ((a : A) → reading ≡ Ok a → Good a) → IfOk result Good
given_good Good (Ok a) reading given good = good a given
given_good Good (Err e) reading given good = tt
