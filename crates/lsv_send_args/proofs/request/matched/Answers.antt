use Rattle.std.proofs.Common.{◌≡◌, ◌∙◌, inl, inr, ℕ, List, [], true, Result, Ok, Err, map, refl, subst}
use Rattle.clap.specs.Faults.{fault_of, is_simple_and_free}
use Rattle.clap.specs.Kinds.{FailsBy, HasKind, IsAmong, Kinds}
use Rattle.clap.specs.Words.{kind_of}
use Rattle.clap.specs.declared.error.kind.ErrorKind.{ErrorKind}
use Rattle.clap.specs.declared.error.kind.ErrorKind.TheVariants as kind
use Rattle.clap.specs.Simple.{App, HasMatchesOf}
use Rattle.clap.specs.declared.error.Error.{Error}
use Rattle.clap.specs.declared.parser.matches.ArgMatches.{ArgMatches}
use Rattle.lsv_send_args.specs.Program.{program}
use Rattle.lsv_send_args.specs.declared.fault.WordsFault.{WordsFault}
use Rattle.lsv_send_args.specs.declared.fault.WordsFault.TheVariants as faults
use Rattle.lsv_send_args.proofs.request.matched.Goals as goal
use Rattle.lsv_send_args.proofs.request.matched.Goals.{in-OutOfMemory, in_default}

pub returns-in-Ok-clause-rows : goal.returns-in-Ok-clause-rows
returns-in-Ok-clause-rows c =
    (subst (λ (a : App). HasMatchesOf a (map (λ w. w.now) c.args.words.now) c.in-Ok.found) c.in_ok-program.ensures c.in-Ok.ensures.matches refl).0

-- what the program's words fail by
fails : (a : App) (words : List (List ℕ)) (r : Result ArgMatches Error) → a ≡ program → (is_simple_and_free a ≡ true → FailsBy (fault_of a words) r) → FailsBy (fault_of program words) r
fails a words r is kinds = subst (λ (p : App). is_simple_and_free p ≡ true → FailsBy (fault_of p words) r) is kinds refl

pub returns-in-Ok-clause-taken : goal.returns-in-Ok-clause-taken
returns-in-Ok-clause-taken c = fails _ (map (λ w. w.now) c.args.words.now) (Ok c.in-Ok.found) c.in_ok-program.ensures c.in-Ok.ensures.kinds

-- want of memory is no refusal
not_refused : (f : WordsFault) → f ≡ faults.NoMem → (let r : Result ArgMatches WordsFault = Err f in r) ≡ Err faults.Refused → ⊥
not_refused f is refused = cc

-- an error of another kind than want of memory comes of a fault
other_kind : (kinds : Kinds) (e : Error) (k : ErrorKind) → k ≡ kind_of e → (k ≡ kind.OutOfMemory → ⊥) → HasKind kinds e → kinds ≡ [] → ⊥
other_kind kinds e k is not (inl memory) none = not (is ∙ memory)
other_kind kinds e k is not (inr among) none = subst (IsAmong (kind_of e)) none among

pub returns-after-kind-clause-refused : goal.returns-after-kind-clause-refused
returns-after-kind-clause-refused c = λ refused none.
    let all = fails _ (map (λ w. w.now) c.args.words.now) (Err c.in-Err.error) c.in_ok-program.ensures c.in-Err.ensures.kinds in
    elim c.match-kind.branch [
      | in-OutOfMemory w ↦ let is = w.result-is in absurd (not_refused c.match-kind.result is refused)
      | in_default w ↦ other_kind (fault_of program (map (λ w. w.now) c.args.words.now)) c.in-Err.error c.kind.result c.kind.ensures w.in_default.not-OutOfMemory all none
    ]
