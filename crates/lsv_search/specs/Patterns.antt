-- Patterns of the crate regex: which words are some, which are refused, and where they are found.
use Rattle.std.specs.Prelude.{◌≢◌, ℕ, List, Bool, false, Option, Some, None, is_some, chars}
use Rattle.regex_hir.specs.Re.{Re}
use Rattle.regex_hir.specs.Find.{find_str}
use Rattle.regex_syntax.specs.Brackets.{Nested}
use Rattle.regex_syntax.specs.Grammar.{Names, read}
use Rattle.regex_syntax.specs.Verdict.{default_config}
use Rattle.regex.specs.Sources.{IsTextRefusal}
use Rattle.regex.specs.Failures as failures
use Rattle.regex.specs.declared.error.Error.{Error}
use Rattle.regex.specs.declared.error.Error.TheVariants.{OutOfMemory}

-- a pattern in the syntax of regex, nested no deeper than it allows
unfoldable pub IsPattern : List ℕ → Type 0
IsPattern word = failures.IsPattern default_config word

-- regex refuses a word for another cause than memory: it is no pattern or one too deep, it may match parts of characters, or it is too big
pub record IsRefusedPattern (word : List ℕ) : Type 0 where
  pub error : Error
  pub cause : error ≢ OutOfMemory
  pub refused : IsTextRefusal default_config word error
  pub kind : failures.IsRightKind default_config word error

-- a pattern as it was read has a match in a text
abbrev pub has_match : Option (Nested Re × Names) → List ℕ → Bool
has_match None text = false
has_match (Some pattern) text = is_some (find_str pattern.0.value text 0)

-- a pattern is found in a text
unfoldable pub is_found : List ℕ → List ℕ → Bool
is_found pattern text = has_match (read default_config (chars pattern)) text
