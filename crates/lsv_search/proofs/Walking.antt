-- The words of an expression are taken one by one, and no word of it is bad.
use Rattle.std.proofs.Common.{◌≡◌, ◌∙◌, ◌+◌, ◌<◌, ◌≤◌, ℕ, suc, Bool, true, false, cond, List, [], ◌∷◌, ◌++◌, length, Option, Some, None, refl, sym, ap, subst, arith, codes, zero-add}
use Rattle.std.proofs.lemmas.Bool.{lt-ltb}
use Rattle.std.proofs.lemmas.Slice.Eq.{bytes_eq-Decides}
use Rattle.std.specs.Str.{bytes_eq}
use Rattle.lsv_search.specs.declared.name.Name.{Name}
use Rattle.lsv_search.specs.declared.token.Token.{Token}
use Rattle.lsv_search.specs.declared.token.Token.TheVariants as tokens
use Rattle.lsv_search.specs.Names.{name_in}
use Rattle.lsv_search.specs.Grammar as grammar
use Rattle.lsv_search.specs.Grammar.{words_of, conjunction_words, factor_words, depth_of, conjunction_depth, factor_depth, AreTests, ConjunctionTests, FactorTests, most_depth}
use Rattle.lsv_search.specs.Places.{Opened, Negation, Parenthesis, Due, Factor, Argument, Operator, token_of, complete, deeper, begin, follow, Takes, FailsAt}

-- from where this is due these words are taken, and then that is due
abbrev pub Walks : Due → List (List ℕ) → Due → Type 0
Walks due [] last = due ≡ last
Walks due (word ∷ words) last = (next : Due) × Takes due word next × Walks next words last

pub walks_append : (a b c : Due) (words more : List (List ℕ)) → Walks a words b → Walks b more c → Walks a (words ++ more) c
walks_append a b c [] more e rest = subst (λ d. Walks d more c) (sym e) rest
walks_append a b c (word ∷ words) more (next, takes, walks) rest = (next, takes, walks_append next b c words more walks rest)

-- what is bad after words that are taken is bad after the start
pub walks_fails : (a b : Due) (words more : List (List ℕ)) (n : ℕ) → Walks a words b → FailsAt b more n → FailsAt a (words ++ more) (length words + n)
walks_fails a b [] more n e bad = subst (FailsAt a more) (sym (zero-add n)) (subst (λ d. FailsAt d more n) (sym e) bad)
walks_fails a b (word ∷ words) more n (next, takes, walks) bad =
    let one : length (word ∷ words) + n ≡ suc (length words + n) = omega arith in
    subst (FailsAt a ((word ∷ words) ++ more)) (sym one) (next, takes, walks_fails next b words more n walks bad)

-- a token that begins a factor may follow one
pub begins_follows : (outer : List Opened) (t : Token) (next : Due) → begin outer t ≡ Some next → follow outer t ≡ Some next
begins_follows outer tokens.Exclamation next e = e
begins_follows outer tokens.Opening next e = e
begins_follows outer tokens.Closing next e = absurd (cc)
begins_follows outer tokens.And next e = absurd (cc)
begins_follows outer tokens.Or next e = absurd (cc)
begins_follows outer (tokens.Word name) next e = e

not_sign : (word sign : List ℕ) (name : Name) (b : Bool) → name_in sign ≡ None → name_in word ≡ Some name → bytes_eq word sign ≡ b → b ≡ false
not_sign word sign name true none some is = let same : word ≡ sign = (bytes_eq-Decides word sign).0 is in let no : None ≡ Some name = sym none ∙ (ap name_in (sym same) ∙ some) in absurd (cc)
not_sign word sign name false none some is = refl

unnamed_exclamation : name_in (codes "!") ≡ None
unfolding name_in
unnamed_exclamation = refl

unnamed_opening : name_in (codes "(") ≡ None
unfolding name_in
unnamed_opening = refl

unnamed_closing : name_in (codes ")") ≡ None
unfolding name_in
unnamed_closing = refl

unnamed_and : name_in (codes "and") ≡ None
unfolding name_in
unnamed_and = refl

unnamed_or : name_in (codes "or") ≡ None
unfolding name_in
unnamed_or = refl

-- a word that stands for a name is no sign
pub named_token : (word : List ℕ) (name : Name) → name_in word ≡ Some name → token_of word ≡ tokens.Word (Some name)
named_token word name is =
    let e1 : bytes_eq word (codes "!") ≡ false = not_sign word (codes "!") name _ unnamed_exclamation is refl in
    let e2 : bytes_eq word (codes "(") ≡ false = not_sign word (codes "(") name _ unnamed_opening is refl in
    let e3 : bytes_eq word (codes ")") ≡ false = not_sign word (codes ")") name _ unnamed_closing is refl in
    let e4 : bytes_eq word (codes "and") ≡ false = not_sign word (codes "and") name _ unnamed_and is refl in
    let e5 : bytes_eq word (codes "or") ≡ false = not_sign word (codes "or") name _ unnamed_or is refl in
    by_tests (bytes_eq word (codes "!")) (bytes_eq word (codes "(")) (bytes_eq word (codes ")")) (bytes_eq word (codes "and")) (bytes_eq word (codes "or")) e1 e2 e3 e4 e5
  where
    by_tests : (a b c d e : Bool) → a ≡ false → b ≡ false → c ≡ false → d ≡ false → e ≡ false
        → cond a tokens.Exclamation (cond b tokens.Opening (cond c tokens.Closing (cond d tokens.And (cond e tokens.Or (tokens.Word (name_in word)))))) ≡ tokens.Word (Some name)
    by_tests a b c d e p q r s t = rw (p, q, r, s, t) (ap (λ (o : Option Name). tokens.Word o) is)

pub one_deeper : (opened : Opened) (outer : List Opened) → length outer < most_depth → deeper opened outer ≡ Some (Factor (opened ∷ outer))
one_deeper opened outer lt = ap (λ b. cond b (Some (Factor (opened ∷ outer))) None) (lt-ltb (length outer) most_depth lt)

-- what takes the words of a factor where one is due takes them after a factor too
factor_follows : (f : grammar.Factor) (outer : List Opened) (last : Due) → Walks (Factor outer) (factor_words f) last → Walks (Operator outer) (factor_words f) last
factor_follows (grammar.Not f) outer last (next, takes, walks) = (next, takes, walks)
factor_follows (grammar.Enclosed e) outer last (next, takes, walks) = (next, takes, walks)
factor_follows (grammar.Test name argument) outer last (next, takes, walks) = (next, begins_follows outer (token_of name) next takes, walks)

mutual
  pub walks_expression : (e : grammar.Expression) (outer : List Opened) → AreTests e → depth_of e + length outer ≤ most_depth → complete outer ≡ Operator outer → Walks (Factor outer) (words_of e) (Operator outer)
  walks_expression (grammar.Alone c) outer tests deep settled = walks_conjunction c outer tests deep settled
  walks_expression (grammar.Or e c) outer tests deep settled =
      walks_append (Factor outer) (Operator outer) (Operator outer) (words_of e) (codes "or" ∷ conjunction_words c)
      (walks_expression e outer tests.0 (omega arith) settled) (Factor outer, refl, walks_conjunction c outer tests.1 (omega arith) settled)

  pub walks_conjunction : (c : grammar.Conjunction) (outer : List Opened) → ConjunctionTests c → conjunction_depth c + length outer ≤ most_depth → complete outer ≡ Operator outer → Walks (Factor outer) (conjunction_words c) (Operator outer)
  walks_conjunction (grammar.Single f) outer tests deep settled = subst (Walks (Factor outer) (factor_words f)) settled (walks_factor f outer tests deep)
  walks_conjunction (grammar.And c f) outer tests deep settled =
      walks_append (Factor outer) (Operator outer) (Operator outer) (conjunction_words c) (codes "and" ∷ factor_words f)
      (walks_conjunction c outer tests.0 (omega arith) settled) (Factor outer, refl, subst (Walks (Factor outer) (factor_words f)) settled (walks_factor f outer tests.1 (omega arith)))
  walks_conjunction (grammar.Beside c f) outer tests deep settled =
      walks_append (Factor outer) (Operator outer) (Operator outer) (conjunction_words c) (factor_words f)
      (walks_conjunction c outer tests.0 (omega arith) settled) (factor_follows f outer (Operator outer) (subst (Walks (Factor outer) (factor_words f)) settled (walks_factor f outer tests.1 (omega arith))))

  pub walks_factor : (f : grammar.Factor) (outer : List Opened) → FactorTests f → factor_depth f + length outer ≤ most_depth → Walks (Factor outer) (factor_words f) (complete outer)
  walks_factor (grammar.Not f) outer tests deep = (Factor (Negation ∷ outer), one_deeper Negation outer (omega arith), walks_factor f (Negation ∷ outer) tests (omega arith))
  walks_factor (grammar.Enclosed e) outer tests deep = (
    Factor (Parenthesis ∷ outer),
    one_deeper Parenthesis outer (omega arith),
    walks_append (Factor (Parenthesis ∷ outer)) (Operator (Parenthesis ∷ outer)) (complete outer) (words_of e) (codes ")" ∷ []) (walks_expression e (Parenthesis ∷ outer) tests (omega arith) refl) (complete outer, refl, refl),
  )
  walks_factor (grammar.Test name argument) outer (n, is, good) deep = (Argument n outer, ap (begin outer) (named_token name n is), (complete outer, (good, refl), refl))
