-- Search expressions, in the grammar of sudoreplay(8): the words that they are written with, and what they may be.
--
--     expression  := conjunction { "or" conjunction }
--     conjunction := factor { [ "and" ] factor }
--     factor      := "!" factor | "(" expression ")" | name argument
use Rattle.std.specs.Prelude.{◌≡◌, ℕ, ◌+◌, ◌≤◌, max, List, [], ◌∷◌, ◌++◌, Option, Some, None, IsSome, codes}
use Rattle.lsv_search.specs.declared.name.Name.{Name}
use Rattle.lsv_search.specs.declared.name.Name.TheVariants.{Command, Cwd, FromDate, Group, Host, Runas, ToDate, Tty, User}
use Rattle.lsv_search.specs.Names.{name_in}
use Rattle.lsv_search.specs.Dates.{date_in}
use Rattle.lsv_search.specs.Patterns.{IsPattern}

mutual
  pub data Expression : Type 0 where
    Alone : Conjunction → Expression
    Or : Expression → Conjunction → Expression

  pub data Conjunction : Type 0 where
    Single : Factor → Conjunction
    And : Conjunction → Factor → Conjunction
    -- without its `and`
    Beside : Conjunction → Factor → Conjunction

  pub data Factor : Type 0 where
    Not : Factor → Factor
    Enclosed : Expression → Factor
    Test : List ℕ → List ℕ → Factor

-- the words of an expression
abbrev mutual
  pub words_of : Expression → List (List ℕ)
  words_of (Alone c) = conjunction_words c
  words_of (Or e c) = words_of e ++ codes "or" ∷ conjunction_words c

  pub conjunction_words : Conjunction → List (List ℕ)
  conjunction_words (Single f) = factor_words f
  conjunction_words (And c f) = conjunction_words c ++ codes "and" ∷ factor_words f
  conjunction_words (Beside c f) = conjunction_words c ++ factor_words f

  pub factor_words : Factor → List (List ℕ)
  factor_words (Not f) = codes "!" ∷ factor_words f
  factor_words (Enclosed e) = codes "(" ∷ words_of e ++ codes ")" ∷ []
  factor_words (Test name argument) = name ∷ argument ∷ []

-- how deep `!` and `(` are nested in it
abbrev mutual
  pub depth_of : Expression → ℕ
  depth_of (Alone c) = conjunction_depth c
  depth_of (Or e c) = max (depth_of e) (conjunction_depth c)

  pub conjunction_depth : Conjunction → ℕ
  conjunction_depth (Single f) = factor_depth f
  conjunction_depth (And c f) = max (conjunction_depth c) (factor_depth f)
  conjunction_depth (Beside c f) = max (conjunction_depth c) (factor_depth f)

  pub factor_depth : Factor → ℕ
  factor_depth (Not f) = factor_depth f + 1
  factor_depth (Enclosed e) = depth_of e + 1
  factor_depth (Test name argument) = 0

-- a word is a good argument of a name: a pattern, a date, or any text
abbrev pub IsArgument : Name → List ℕ → Type 0
IsArgument Command word = IsPattern word
IsArgument FromDate word = IsSome (date_in word)
IsArgument ToDate word = IsSome (date_in word)
IsArgument Cwd word = Unit {0}
IsArgument Group word = Unit {0}
IsArgument Host word = Unit {0}
IsArgument Runas word = Unit {0}
IsArgument Tty word = Unit {0}
IsArgument User word = Unit {0}

-- a name is one, and its argument is good
abbrev pub IsTest : List ℕ → List ℕ → Type 0
IsTest word argument = (name : Name) × (name_in word ≡ Some name) × IsArgument name argument

-- the tests of an expression are tests
abbrev mutual
  pub AreTests : Expression → Type 0
  AreTests (Alone c) = ConjunctionTests c
  AreTests (Or e c) = AreTests e × ConjunctionTests c

  pub ConjunctionTests : Conjunction → Type 0
  ConjunctionTests (Single f) = FactorTests f
  ConjunctionTests (And c f) = ConjunctionTests c × FactorTests f
  ConjunctionTests (Beside c f) = ConjunctionTests c × FactorTests f

  pub FactorTests : Factor → Type 0
  FactorTests (Not f) = FactorTests f
  FactorTests (Enclosed e) = AreTests e
  FactorTests (Test name argument) = IsTest name argument

-- the greatest depth of `!` and `(`
abbrev pub most_depth : ℕ
most_depth = 100

-- the words are this expression: its words, nested no deeper than is allowed, with good arguments
pub record IsExpression (words : List (List ℕ)) (e : Expression) : Type 0 where
  pub text : words ≡ words_of e
  pub depth : depth_of e ≤ most_depth
  pub tests : AreTests e

-- what words search for: no word at all for every log
abbrev pub IsSearch : List (List ℕ) → Option Expression → Type 0
IsSearch words None = words ≡ []
IsSearch words (Some e) = IsExpression words e
