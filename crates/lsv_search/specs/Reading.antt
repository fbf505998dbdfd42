-- What reading a part of an expression comes to. No public clause cites it.
use Rattle.std.specs.Prelude.{◌≡◌, ℕ, ◌+◌, ◌<◌, ◌≤◌, List, ◌++◌, length, drop, Option, Some, None, option_map, slice_get, nat_lt, if◌then◌else◌}
use Rattle.lsv_search.specs.declared.name.Name.{Name}
use Rattle.lsv_search.specs.declared.read.Reader.{Reader}
use Rattle.lsv_search.specs.declared.step.Step.{Step}
use Rattle.lsv_search.specs.declared.token.Start.{Start}
use Rattle.lsv_search.specs.declared.token.Start.TheVariants as starts
use Rattle.lsv_search.specs.declared.token.Token.{Token}
use Rattle.lsv_search.specs.declared.token.Token.TheVariants as tokens
use Rattle.lsv_search.specs.Grammar.{Expression, Conjunction, Factor, words_of, conjunction_words, factor_words, depth_of, conjunction_depth, factor_depth, AreTests, ConjunctionTests, FactorTests, IsArgument, most_depth}
use Rattle.lsv_search.specs.Meaning.{test_of}
use Rattle.lsv_search.specs.Places.{Opened, Due, Factor as FactorDue, Operator, complete, FailsAt, IsRefusedArgument, token_of}
use Rattle.lsv_search.specs.Steps.{steps_of, conjunction_steps, factor_steps, tested}

-- these words were read, and these steps came of them
pub record HasRead (old new : Reader) (words : List (List ℕ)) (more : List Step) : Type 0 where
  pub same : new.words.now ≡ old.words.now
  pub text : drop old.at old.words.now ≡ words ++ drop new.at old.words.now
  pub at : new.at ≡ old.at + length words
  pub within : new.at ≤ length old.words.now
  pub progress : old.at < new.at
  pub steps : new.steps.items ≡ old.steps.items ++ more

pub record ReadsExpression (depth : ℕ) (old new : Reader) : Type 0 where
  pub e : Expression
  pub read : HasRead old new (words_of e) (steps_of e)
  pub deep : depth_of e + depth ≤ most_depth
  pub tests : AreTests e

pub record ReadsConjunction (depth : ℕ) (old new : Reader) : Type 0 where
  pub c : Conjunction
  pub read : HasRead old new (conjunction_words c) (conjunction_steps c)
  pub deep : conjunction_depth c + depth ≤ most_depth
  pub tests : ConjunctionTests c

pub record ReadsFactor (depth : ℕ) (old new : Reader) : Type 0 where
  pub f : Factor
  pub read : HasRead old new (factor_words f) (factor_steps f)
  pub deep : factor_depth f + depth ≤ most_depth
  pub tests : FactorTests f

-- what the next word is, if there is one
abbrev pub next_token : Reader → Option Token
next_token r = option_map token_of (slice_get r.words.now r.at)

-- a token begins a factor, or goes before one
abbrev pub GoesOn : Option Token → Type 0
GoesOn None = ⊥
GoesOn (Some tokens.Exclamation) = Unit {0}
GoesOn (Some tokens.Opening) = Unit {0}
GoesOn (Some tokens.Closing) = ⊥
GoesOn (Some tokens.And) = Unit {0}
GoesOn (Some tokens.Or) = ⊥
GoesOn (Some (tokens.Word None)) = ⊥
GoesOn (Some (tokens.Word (Some name))) = Unit {0}

-- no factor goes on here, nor another conjunction
pub record Ends (r : Reader) : Type 0 where
  pub factor : GoesOn (next_token r) → ⊥
  pub conjunction : next_token r ≡ Some tokens.Or → ⊥

-- if this is due at the reader's place, the word at this place is the first that isn't taken
abbrev pub FailsFrom : Due → Reader → ℕ → Type 0
FailsFrom due r at = (n : ℕ) × (at ≡ r.at + n) × FailsAt due (drop r.at r.words.now) n

-- a factor is due, with as much open
abbrev pub FailsInFactor : ℕ → Reader → ℕ → Type 0
FailsInFactor depth r at = (outer : List Opened) → length outer ≡ depth → FailsFrom (FactorDue outer) r at

-- and it is no negation that is open innermost
abbrev pub FailsInExpression : ℕ → Reader → ℕ → Type 0
FailsInExpression depth r at = (outer : List Opened) → length outer ≡ depth → complete outer ≡ Operator outer → FailsFrom (FactorDue outer) r at

-- a good argument of a name was read, and its test came of it
pub record ReadsArgument (name : Name) (old new : Reader) : Type 0 where
  pub word : List ℕ
  pub there : slice_get old.words.now old.at ≡ Some word
  pub good : IsArgument name word
  pub same : new.words.now ≡ old.words.now
  pub at : new.at ≡ old.at + 1
  pub steps : new.steps.items ≡ old.steps.items ++ tested (test_of name word)

-- no argument is there, or it is refused
abbrev pub IsBadArgument : Name → Option (List ℕ) → Type 0
IsBadArgument name None = Unit {0}
IsBadArgument name (Some word) = IsRefusedArgument name word

-- what a token begins, with so much open
abbrev pub starting : ℕ → Option Token → Option Start
starting depth None = None
starting depth (Some tokens.Exclamation) = if nat_lt depth most_depth then Some starts.Negation else None
starting depth (Some tokens.Opening) = if nat_lt depth most_depth then Some starts.Parenthesis else None
starting depth (Some tokens.Closing) = None
starting depth (Some tokens.And) = None
starting depth (Some tokens.Or) = None
starting depth (Some (tokens.Word None)) = None
starting depth (Some (tokens.Word (Some name))) = Some (starts.Test name)
