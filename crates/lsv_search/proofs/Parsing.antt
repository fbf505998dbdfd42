-- Parts of an expression that are read one after the other.
use Rattle.std.proofs.Common.{◌≡◌, ◌≢◌, ◌∙◌, ◌+◌, ◌<◌, ◌≤◌, ℕ, suc, Bool, true, false, cond, List, [], ◌∷◌, ◌++◌, length, drop, get_or, Option, Some, None, Bor, option_map, nat_lt, refl, sym, ap, subst, arith, codes, append_assoc, length-append}
use Rattle.std.proofs.lemmas.List.{append-nil, drop_all}
use Rattle.std.specs.Prelude.{slice_get}
use Rattle.std.specs.Str.{bytes_eq, is_utf8, IsUtf8}
use Rattle.std.proofs.lemmas.Bool.{ltb-true}
use Rattle.std.proofs.lemmas.Slice.Eq.{bytes_eq-Decides}
use Rattle.std.proofs.lemmas.Option.{slice_get_within, slice_get-get_or}
use Rattle.std.specs.List.{list_all}
use Rattle.std.proofs.lemmas.List.Sums.{AllPass-from_list_all}
use Rattle.std.proofs.lemmas.Str.{IsUtf8-from_is_utf8}
use Rattle.lsv_search.specs.declared.name.Name.{Name}
use Rattle.lsv_search.specs.declared.read.Reader.{Reader}
use Rattle.lsv_search.specs.declared.step.Step.{Step}
use Rattle.lsv_search.specs.declared.step.Step.TheVariants as steps
use Rattle.lsv_search.specs.declared.token.Start.{Start}
use Rattle.lsv_search.specs.declared.token.Start.TheVariants as starts
use Rattle.lsv_search.specs.declared.token.Token.{Token}
use Rattle.lsv_search.specs.declared.token.Token.TheVariants as tokens
use Rattle.lsv_search.specs.Names.{name_in}
use Rattle.lsv_search.specs.Grammar as grammar
use Rattle.lsv_search.specs.Grammar.{words_of, conjunction_words, factor_words, depth_of, most_depth, IsSearch}
use Rattle.lsv_search.specs.Meaning.{test_of, test_in}
use Rattle.lsv_search.specs.Steps.{steps_of, conjunction_steps, factor_steps, tested, AreStepsOf}
use Rattle.lsv_search.specs.Places.{token_of}
use Rattle.lsv_search.specs.Reading.{HasRead, ReadsExpression, ReadsConjunction, ReadsFactor, ReadsArgument, GoesOn, next_token, starting}
use Rattle.lsv_search.proofs.Failing.{drop_at, token_word}
use Rattle.lsv_search.proofs.Evaluating.{test_is}

-- one part after another
pub read_then : (a b c : Reader) (words more : List (List ℕ)) (done next : List Step) → HasRead a b words done → HasRead b c more next → HasRead a c (words ++ more) (done ++ next)
read_then a b c words more done next first second = record {
  same = second.same ∙ first.same;
  text =
      let behind : drop b.at a.words.now ≡ more ++ drop c.at a.words.now = subst (λ (ws : List (List ℕ)). drop b.at ws ≡ more ++ drop c.at ws) first.same second.text in
      first.text ∙ (ap (λ (ws : List (List ℕ)). words ++ ws) behind ∙ sym (append_assoc words more (drop c.at a.words.now)));
  at = omega (arith, first.at, second.at, length-append words more);
  within = subst (λ (ws : List (List ℕ)). c.at ≤ length ws) first.same second.within;
  progress = omega (arith, first.progress, second.progress);
  steps = second.steps ∙ (ap (λ (ss : List Step). ss ++ next) first.steps ∙ append_assoc a.steps.items done next);
}

-- one word
pub read_word : (a b : Reader) (word : List ℕ) → slice_get a.words.now a.at ≡ Some word → b.words.now ≡ a.words.now → b.at ≡ a.at + 1 → b.steps.items ≡ a.steps.items → HasRead a b (word ∷ []) []
read_word a b word there same one kept =
    let lt : a.at < length a.words.now = slice_get_within a.words.now a.at word there in
    let place : b.at ≡ suc a.at = omega arith in
    record {
      same = same;
      text = drop_at a.words.now a.at word there ∙ ap (λ k. word ∷ drop k a.words.now) (sym place);
      at = omega arith;
      within = omega arith;
      progress = omega arith;
      steps = kept ∙ sym (append-nil a.steps.items);
    }

-- one step more
pub read_step : (z a b : Reader) (words : List (List ℕ)) (done : List Step) (step : Step) → HasRead z a words done → b.words.now ≡ a.words.now → b.at ≡ a.at → b.steps.items ≡ a.steps.items ++ step ∷ [] → HasRead z b words (done ++ step ∷ [])
read_step z a b words done step read same place pushed = record {
  same = same ∙ read.same;
  text = read.text ∙ ap (λ k. words ++ drop k z.words.now) (sym place);
  at = place ∙ read.at;
  within = omega (arith, read.within);
  progress = omega (arith, read.progress);
  steps = pushed ∙ (ap (λ (ss : List Step). ss ++ step ∷ []) read.steps ∙ append_assoc z.steps.items done (step ∷ []));
}

-- the sign that a token is of
abbrev sign_of : Token → Option (List ℕ)
sign_of tokens.Exclamation = Some (codes "!")
sign_of tokens.Opening = Some (codes "(")
sign_of tokens.Closing = Some (codes ")")
sign_of tokens.And = Some (codes "and")
sign_of tokens.Or = Some (codes "or")
sign_of (tokens.Word name) = None

abbrev IsSignOf : List ℕ → Option (List ℕ) → Type 0
IsSignOf word None = Unit {0}
IsSignOf word (Some sign) = word ≡ sign

-- a word with a sign's token is that sign, and another stands for its name
abbrev IsTokenOf : List ℕ → Token → Type 0
IsTokenOf word tokens.Exclamation = word ≡ codes "!"
IsTokenOf word tokens.Opening = word ≡ codes "("
IsTokenOf word tokens.Closing = word ≡ codes ")"
IsTokenOf word tokens.And = word ≡ codes "and"
IsTokenOf word tokens.Or = word ≡ codes "or"
IsTokenOf word (tokens.Word name) = name_in word ≡ name

pub token_is : (word : List ℕ) → IsTokenOf word (token_of word)
token_is word =
    by_tests (bytes_eq word (codes "!")) (bytes_eq word (codes "(")) (bytes_eq word (codes ")")) (bytes_eq word (codes "and")) (bytes_eq word (codes "or"))
    (bytes_eq-Decides word (codes "!")).0 (bytes_eq-Decides word (codes "(")).0 (bytes_eq-Decides word (codes ")")).0 (bytes_eq-Decides word (codes "and")).0 (bytes_eq-Decides word (codes "or")).0
  where
    by_tests : (a b c d e : Bool) → (a ≡ true → word ≡ codes "!") → (b ≡ true → word ≡ codes "(") → (c ≡ true → word ≡ codes ")") → (d ≡ true → word ≡ codes "and") → (e ≡ true → word ≡ codes "or")
        → IsTokenOf word (cond a tokens.Exclamation (cond b tokens.Opening (cond c tokens.Closing (cond d tokens.And (cond e tokens.Or (tokens.Word (name_in word)))))))
    by_tests true b c d e p q r s t = p refl
    by_tests false true c d e p q r s t = q refl
    by_tests false false true d e p q r s t = r refl
    by_tests false false false true e p q r s t = s refl
    by_tests false false false false true p q r s t = t refl
    by_tests false false false false false p q r s t = refl

-- the word at a place, by its token
pub word_there : (r : Reader) (t : Token) → next_token r ≡ Some t → (word : List ℕ) × (slice_get r.words.now r.at ≡ Some word) × IsTokenOf word t
word_there r t is =
    let w = token_word (slice_get r.words.now r.at) t is in
    (w.0, w.1, subst (IsTokenOf w.0) w.2 (token_is w.0))

-- the token of what a word begins
chosen : (b : Bool) (start other : Start) → cond b (Some start) None ≡ Some other → (b ≡ true) × (start ≡ other)
chosen true start other e = (refl, cc)
chosen false start other e = absurd (cc)

pub start_negation : (depth : ℕ) (o : Option Token) → starting depth o ≡ Some starts.Negation → (o ≡ Some tokens.Exclamation) × (depth < most_depth)
start_negation depth None e = absurd (cc)
start_negation depth (Some tokens.Exclamation) e = (refl, ltb-true depth most_depth (chosen (nat_lt depth most_depth) starts.Negation starts.Negation e).0)
start_negation depth (Some tokens.Opening) e = absurd (let no : starts.Parenthesis ≡ starts.Negation = (chosen (nat_lt depth most_depth) starts.Parenthesis starts.Negation e).1 in cc)
start_negation depth (Some tokens.Closing) e = absurd (cc)
start_negation depth (Some tokens.And) e = absurd (cc)
start_negation depth (Some tokens.Or) e = absurd (cc)
start_negation depth (Some (tokens.Word None)) e = absurd (cc)
start_negation depth (Some (tokens.Word (Some name))) e = absurd (cc)

pub start_parenthesis : (depth : ℕ) (o : Option Token) → starting depth o ≡ Some starts.Parenthesis → (o ≡ Some tokens.Opening) × (depth < most_depth)
start_parenthesis depth None e = absurd (cc)
start_parenthesis depth (Some tokens.Exclamation) e = absurd (let no : starts.Negation ≡ starts.Parenthesis = (chosen (nat_lt depth most_depth) starts.Negation starts.Parenthesis e).1 in cc)
start_parenthesis depth (Some tokens.Opening) e = (refl, ltb-true depth most_depth (chosen (nat_lt depth most_depth) starts.Parenthesis starts.Parenthesis e).0)
start_parenthesis depth (Some tokens.Closing) e = absurd (cc)
start_parenthesis depth (Some tokens.And) e = absurd (cc)
start_parenthesis depth (Some tokens.Or) e = absurd (cc)
start_parenthesis depth (Some (tokens.Word None)) e = absurd (cc)
start_parenthesis depth (Some (tokens.Word (Some name))) e = absurd (cc)

pub start_test : (depth : ℕ) (o : Option Token) (name : Name) → starting depth o ≡ Some (starts.Test name) → o ≡ Some (tokens.Word (Some name))
start_test depth None name e = absurd (cc)
start_test depth (Some tokens.Exclamation) name e = absurd (let no : starts.Negation ≡ starts.Test name = (chosen (nat_lt depth most_depth) starts.Negation (starts.Test name) e).1 in cc)
start_test depth (Some tokens.Opening) name e = absurd (let no : starts.Parenthesis ≡ starts.Test name = (chosen (nat_lt depth most_depth) starts.Parenthesis (starts.Test name) e).1 in cc)
start_test depth (Some tokens.Closing) name e = absurd (cc)
start_test depth (Some tokens.And) name e = absurd (cc)
start_test depth (Some tokens.Or) name e = absurd (cc)
start_test depth (Some (tokens.Word None)) name e = absurd (cc)
start_test depth (Some (tokens.Word (Some other))) name e = let same : other ≡ name = cc in ap (λ (n : Name). Some (tokens.Word (Some n))) same

-- a word in its place
sign_there : (a b : Reader) (t : Token) (sign : List ℕ) → next_token a ≡ Some t → ((word : List ℕ) → IsTokenOf word t → word ≡ sign) → b.words.now ≡ a.words.now → b.at ≡ a.at + 1 → b.steps.items ≡ a.steps.items → HasRead a b (sign ∷ []) []
sign_there a b t sign is means same one kept =
    let w = word_there a t is in
    subst (λ (word : List ℕ). HasRead a b (word ∷ []) []) (means w.0 w.2) (read_word a b w.0 w.1 same one kept)

-- a negation: `!`, a factor, and a step
pub reads_negation : (depth : ℕ) (a b c d : Reader) → next_token a ≡ Some tokens.Exclamation → depth < most_depth → b.words.now ≡ a.words.now → b.at ≡ a.at + 1 → b.steps.items ≡ a.steps.items
    → ReadsFactor (depth + 1) b c → d.words.now ≡ c.words.now → d.at ≡ c.at → d.steps.items ≡ c.steps.items ++ steps.Not ∷ [] → ReadsFactor depth a d
reads_negation depth a b c d is lt same one kept reads after place pushed = record {
  f = grammar.Not reads.f;
  read = read_step a c d _ _ steps.Not (read_then a b c (codes "!" ∷ []) (factor_words reads.f) [] (factor_steps reads.f) (sign_there a b tokens.Exclamation (codes "!") is (λ word e. e) same one kept) reads.read) after place pushed;
  deep = omega (arith, reads.deep);
  tests = reads.tests;
}

-- an expression in parentheses
pub reads_enclosed : (depth : ℕ) (a b c d : Reader) → next_token a ≡ Some tokens.Opening → depth < most_depth → b.words.now ≡ a.words.now → b.at ≡ a.at + 1 → b.steps.items ≡ a.steps.items
    → ReadsExpression (depth + 1) b c → next_token c ≡ Some tokens.Closing → d.words.now ≡ c.words.now → d.at ≡ c.at + 1 → d.steps.items ≡ c.steps.items → ReadsFactor depth a d
reads_enclosed depth a b c d is lt same one kept reads closing after place stays =
    let opened = read_then a b c (codes "(" ∷ []) (words_of reads.e) [] (steps_of reads.e) (sign_there a b tokens.Opening (codes "(") is (λ word e. e) same one kept) reads.read in
    let closed = read_then a c d (codes "(" ∷ words_of reads.e) (codes ")" ∷ []) (steps_of reads.e) [] opened (sign_there c d tokens.Closing (codes ")") closing (λ word e. e) after place stays) in
    record {
      f = grammar.Enclosed reads.e;
      read = subst (HasRead a d (codes "(" ∷ words_of reads.e ++ codes ")" ∷ [])) (append-nil (steps_of reads.e)) closed;
      deep = omega (arith, reads.deep);
      tests = reads.tests;
    }

-- a name and its argument
pub reads_test : (depth : ℕ) (name : Name) (a b c : Reader) → depth ≤ most_depth → next_token a ≡ Some (tokens.Word (Some name)) → b.words.now ≡ a.words.now → b.at ≡ a.at + 1 → b.steps.items ≡ a.steps.items
    → ReadsArgument name b c → ReadsFactor depth a c
reads_test depth name a b c le is same one kept reads =
    let w = word_there a (tokens.Word (Some name)) is in
    let test : test_of name reads.word ≡ test_in w.0 reads.word = sym (test_is w.0 reads.word name w.2) in
    let first = read_word a b w.0 w.1 same one kept in
    let lt : b.at < length b.words.now = slice_get_within b.words.now b.at reads.word reads.there in
    let place : c.at ≡ suc b.at = omega (arith, reads.at) in
    let second : HasRead b c (reads.word ∷ []) (tested (test_in w.0 reads.word)) = record {
      same = reads.same;
      text = drop_at b.words.now b.at reads.word reads.there ∙ ap (λ k. reads.word ∷ drop k b.words.now) (sym place);
      at = omega arith;
      within = omega arith;
      progress = omega arith;
      steps = reads.steps ∙ ap (λ o. b.steps.items ++ tested o) test;
    } in
    record {
      f = grammar.Test w.0 reads.word;
      read = read_then a b c (w.0 ∷ []) (reads.word ∷ []) [] _ first second;
      deep = omega arith;
      tests = (name, w.2, reads.good);
    }

-- a factor alone is a conjunction, and a conjunction alone an expression
pub reads_single : (depth : ℕ) (a b : Reader) → ReadsFactor depth a b → ReadsConjunction depth a b
reads_single depth a b reads = record { c = grammar.Single reads.f; read = reads.read; deep = reads.deep; tests = reads.tests }

pub reads_alone : (depth : ℕ) (a b : Reader) → ReadsConjunction depth a b → ReadsExpression depth a b
reads_alone depth a b reads = record { e = grammar.Alone reads.c; read = reads.read; deep = reads.deep; tests = reads.tests }

-- one factor more, after an `and`
reads_and : (depth : ℕ) (z a b c d : Reader) → ReadsConjunction depth z a → next_token a ≡ Some tokens.And → b.words.now ≡ a.words.now → b.at ≡ a.at + 1 → b.steps.items ≡ a.steps.items
    → ReadsFactor depth b c → d.words.now ≡ c.words.now → d.at ≡ c.at → d.steps.items ≡ c.steps.items ++ steps.And ∷ [] → ReadsConjunction depth z d
reads_and depth z a b c d before is same one kept reads after place pushed =
    let factor = read_then a b c (codes "and" ∷ []) (factor_words reads.f) [] (factor_steps reads.f) (sign_there a b tokens.And (codes "and") is (λ word e. e) same one kept) reads.read in
    record {
      c = grammar.And before.c reads.f;
      read = read_step z c d _ _ steps.And (read_then z a c (conjunction_words before.c) (codes "and" ∷ factor_words reads.f) (conjunction_steps before.c) (factor_steps reads.f) before.read factor) after place pushed;
      deep = omega (arith, before.deep, reads.deep);
      tests = (before.tests, reads.tests);
    }

-- or with nothing before it
moved : (a b c : Reader) (words : List (List ℕ)) (more : List Step) → b.words.now ≡ a.words.now → b.at ≡ a.at → b.steps.items ≡ a.steps.items → HasRead b c words more → HasRead a c words more
moved a b c words more same place kept read = record {
  same = read.same ∙ same;
  text =
      let here : drop b.at a.words.now ≡ words ++ drop c.at a.words.now = subst (λ (ws : List (List ℕ)). drop b.at ws ≡ words ++ drop c.at ws) same read.text in
      ap (λ k. drop k a.words.now) (sym place) ∙ here;
  at = omega (arith, read.at);
  within = subst (λ (ws : List (List ℕ)). c.at ≤ length ws) same read.within;
  progress = omega (arith, read.progress);
  steps = read.steps ∙ ap (λ (ss : List Step). ss ++ more) kept;
}

reads_beside : (depth : ℕ) (z a b c d : Reader) → ReadsConjunction depth z a → b.words.now ≡ a.words.now → b.at ≡ a.at → b.steps.items ≡ a.steps.items
    → ReadsFactor depth b c → d.words.now ≡ c.words.now → d.at ≡ c.at → d.steps.items ≡ c.steps.items ++ steps.And ∷ [] → ReadsConjunction depth z d
reads_beside depth z a b c d before same stays kept reads after place pushed = record {
  c = grammar.Beside before.c reads.f;
  read = read_step z c d _ _ steps.And (read_then z a c (conjunction_words before.c) (factor_words reads.f) (conjunction_steps before.c) (factor_steps reads.f) before.read (moved a b c _ _ same stays kept reads.read)) after place pushed;
  deep = omega (arith, before.deep, reads.deep);
  tests = (before.tests, reads.tests);
}

-- one factor more, by the token before it
pub reads_more : (depth : ℕ) (z a b c d : Reader) → ReadsConjunction depth z a → b.words.now ≡ a.words.now → b.steps.items ≡ a.steps.items
    → (next_token a ≡ Some tokens.And → b.at ≡ a.at + 1) → (next_token a ≢ Some tokens.And → b.at ≡ a.at)
    → ReadsFactor depth b c → d.words.now ≡ c.words.now → d.at ≡ c.at → d.steps.items ≡ c.steps.items ++ steps.And ∷ [] → ReadsConjunction depth z d
reads_more depth z a b c d before same kept passed stays reads after place pushed = by_token (next_token a) refl
  where
    beside : (next_token a ≢ Some tokens.And) → ReadsConjunction depth z d
    beside other = reads_beside depth z a b c d before same (stays other) kept reads after place pushed

    by_token : (o : Option Token) → next_token a ≡ o → ReadsConjunction depth z d
    by_token None e = beside (λ is. let no : None ≡ Some tokens.And = sym e ∙ is in cc)
    by_token (Some tokens.Exclamation) e = beside (λ is. let no : Some tokens.Exclamation ≡ Some tokens.And = sym e ∙ is in cc)
    by_token (Some tokens.Opening) e = beside (λ is. let no : Some tokens.Opening ≡ Some tokens.And = sym e ∙ is in cc)
    by_token (Some tokens.Closing) e = beside (λ is. let no : Some tokens.Closing ≡ Some tokens.And = sym e ∙ is in cc)
    by_token (Some tokens.And) e = reads_and depth z a b c d before e same (passed e) kept reads after place pushed
    by_token (Some tokens.Or) e = beside (λ is. let no : Some tokens.Or ≡ Some tokens.And = sym e ∙ is in cc)
    by_token (Some (tokens.Word name)) e = beside (λ is. let no : Some (tokens.Word name) ≡ Some tokens.And = sym e ∙ is in cc)

-- one conjunction more, after an `or`
pub reads_or : (depth : ℕ) (z a b c d : Reader) → ReadsExpression depth z a → next_token a ≡ Some tokens.Or → b.words.now ≡ a.words.now → b.at ≡ a.at + 1 → b.steps.items ≡ a.steps.items
    → ReadsConjunction depth b c → d.words.now ≡ c.words.now → d.at ≡ c.at → d.steps.items ≡ c.steps.items ++ steps.Or ∷ [] → ReadsExpression depth z d
reads_or depth z a b c d before is same one kept reads after place pushed =
    let conjunction = read_then a b c (codes "or" ∷ []) (conjunction_words reads.c) [] (conjunction_steps reads.c) (sign_there a b tokens.Or (codes "or") is (λ word e. e) same one kept) reads.read in
    record {
      e = grammar.Or before.e reads.c;
      read = read_step z c d _ _ steps.Or (read_then z a c (words_of before.e) (codes "or" ∷ conjunction_words reads.c) (steps_of before.e) (conjunction_steps reads.c) before.read conjunction) after place pushed;
      deep = omega (arith, before.deep, reads.deep);
      tests = (before.tests, reads.tests);
    }

-- where a factor goes on, the reader is within the words
pub goes_within : (a b : Reader) → GoesOn (next_token a) → b.words.now ≡ a.words.now → (next_token a ≡ Some tokens.And → b.at ≡ a.at + 1) → (next_token a ≢ Some tokens.And → b.at ≡ a.at) → b.at ≤ length b.words.now
goes_within a b goes same passed stays = subst (λ (ws : List (List ℕ)). b.at ≤ length ws) (sym same) (by_token (next_token a) refl goes)
  where
    there : (t : Token) → next_token a ≡ Some t → a.at < length a.words.now
    there t is = let w = token_word (slice_get a.words.now a.at) t is in slice_get_within a.words.now a.at w.0 w.1

    unmoved : (t : Token) → next_token a ≡ Some t → t ≢ tokens.And → b.at ≤ length a.words.now
    unmoved t is other =
        let lt = there t is in
        let place : b.at ≡ a.at = stays (λ and. let both : Some t ≡ Some tokens.And = sym is ∙ and in other (let same_token : t ≡ tokens.And = cc in same_token)) in
        omega arith

    by_token : (o : Option Token) → next_token a ≡ o → GoesOn o → b.at ≤ length a.words.now
    by_token None is on = absurd on
    by_token (Some tokens.Exclamation) is on = unmoved tokens.Exclamation is (λ e. cc)
    by_token (Some tokens.Opening) is on = unmoved tokens.Opening is (λ e. cc)
    by_token (Some tokens.Closing) is on = absurd on
    by_token (Some tokens.And) is on = let lt = there tokens.And is in let place = passed is in omega arith
    by_token (Some tokens.Or) is on = absurd on
    by_token (Some (tokens.Word name)) is on = unmoved (tokens.Word name) is (λ e. cc)

-- a word that stands there lets the reader pass
pub passes_within : (a : Reader) (t : Token) → next_token a ≡ Some t → a.at + 1 ≤ length a.words.now
passes_within a t is = let w = token_word (slice_get a.words.now a.at) t is in let lt = slice_get_within a.words.now a.at w.0 w.1 in omega arith

-- the word at a place is text
pub text_there : (words : List (List ℕ)) (k : ℕ) (word : List ℕ) → list_all is_utf8 words ≡ true → slice_get words k ≡ Some word → IsUtf8 word
text_there words k word all is =
    let lt = slice_get_within words k word is in
    let same : Some (get_or words k word) ≡ Some word = sym (slice_get-get_or words k word lt) ∙ is in
    let there : get_or words k word ≡ word = cc in
    subst IsUtf8 there (IsUtf8-from_is_utf8 (get_or words k word) (AllPass-from_list_all is_utf8 words all k word lt))

-- an element at a place
pub element_there : {A : Type 0} (xs : List A) (i : ℕ) (x : A) → i < length xs → x ≡ get_or xs i x → slice_get xs i ≡ Some x
element_there xs i x lt is = slice_get-get_or xs i x lt ∙ ap (λ y. Some y) (sym is)

pub same_words : (a b : Reader) → b.words ≡ a.words → b.words.now ≡ a.words.now
same_words a b is = ap (λ (w : Bor (List (List ℕ))). w.now) is

pub same_steps : (a b : Reader) → b.steps ≡ a.steps → b.steps.items ≡ a.steps.items
same_steps a b is = ap (λ s. s.items) is

pub same_token : (a b : Reader) → b.words.now ≡ a.words.now → b.at ≡ a.at → next_token b ≡ next_token a
same_token a b same place = ap (λ (ws : List (List ℕ)). option_map token_of (slice_get ws b.at)) same ∙ ap (λ k. option_map token_of (slice_get a.words.now k)) place

-- words that stay are text
pub still_text : (a b : Reader) → b.words.now ≡ a.words.now → list_all is_utf8 a.words.now ≡ true → list_all is_utf8 b.words.now ≡ true
still_text a b same text = ap (list_all is_utf8) same ∙ text

-- what a start's arm knows
pub started : (depth : ℕ) (r : Reader) (token : Option Token) (field start : Start) → token ≡ next_token r → Some field ≡ starting depth token → field ≡ start → starting depth (next_token r) ≡ Some start
started depth r token field start there is means = ap (starting depth) (sym there) ∙ (sym is ∙ ap (λ (s : Start). Some s) means)

-- all words were read
pub all_read : (a b : Reader) → a.at ≡ 0 → a.steps.items ≡ [] → ReadsExpression 0 a b → length b.words.now ≤ b.at → (searched : Option grammar.Expression) × IsSearch a.words.now searched × AreStepsOf searched b.steps.items
all_read a b start none reads end =
    let past : drop b.at a.words.now ≡ [] = drop_all b.at a.words.now (subst (λ (ws : List (List ℕ)). length ws ≤ b.at) reads.read.same end) in
    let whole : drop a.at a.words.now ≡ a.words.now = ap (λ k. drop k a.words.now) start in
    let text : a.words.now ≡ words_of reads.e = sym whole ∙ (reads.read.text ∙ (ap (λ (ws : List (List ℕ)). words_of reads.e ++ ws) past ∙ append-nil (words_of reads.e))) in
    let deep : depth_of reads.e ≤ most_depth = omega (arith, reads.deep) in
    (Some reads.e, record { text = text; depth = deep; tests = reads.tests }, (reads.read.steps ∙ ap (λ (ss : List Step). ss ++ steps_of reads.e) none, reads.tests))
