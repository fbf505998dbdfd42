-- Where each part of an expression is refused.
use Rattle.std.proofs.Common.{◌≡◌, ◌≢◌, ◌∙◌, ◌+◌, ◌<◌, ℕ, zero, suc, Bool, true, false, cond, List, [], ◌∷◌, length, drop, Option, Some, None, option_map, nat_lt, refl, sym, ap, subst, arith, length-drop}
use Rattle.std.specs.Prelude.{slice_get}
use Rattle.lsv_search.specs.declared.name.Name.{Name}
use Rattle.lsv_search.specs.declared.read.Reader.{Reader}
use Rattle.lsv_search.specs.declared.token.Start.TheVariants as starts
use Rattle.lsv_search.specs.declared.token.Token.{Token}
use Rattle.lsv_search.specs.declared.token.Token.TheVariants as tokens
use Rattle.lsv_search.specs.Grammar.{words_of, conjunction_words, most_depth}
use Rattle.lsv_search.specs.Places.{Opened, Negation, Parenthesis, Due, Factor, Argument, Operator, token_of, begin, follow, FailsAt}
use Rattle.lsv_search.specs.Reading.{ReadsExpression, ReadsConjunction, Ends, FailsFrom, FailsInFactor, FailsInExpression, GoesOn, IsBadArgument, next_token, starting}
use Rattle.lsv_search.proofs.Walking.{Walks, walks_expression, walks_conjunction, begins_follows, one_deeper}
use Rattle.lsv_search.proofs.Failing.{fails_behind, fails_after, fails_here, fails_end, token_word, drop_at, drop_past}

-- a token that begins nothing
not_begun : (outer : List Opened) (t : Token) → starting (length outer) (Some t) ≡ None → begin outer t ≡ None
not_begun outer tokens.Exclamation e = by_test (nat_lt (length outer) most_depth) e
  where
    by_test : (b : Bool) → cond b (Some starts.Negation) None ≡ None → cond b (Some (Factor (Negation ∷ outer))) None ≡ None
    by_test true e = absurd (cc)
    by_test false e = refl
not_begun outer tokens.Opening e = by_test (nat_lt (length outer) most_depth) e
  where
    by_test : (b : Bool) → cond b (Some starts.Parenthesis) None ≡ None → cond b (Some (Factor (Parenthesis ∷ outer))) None ≡ None
    by_test true e = absurd (cc)
    by_test false e = refl
not_begun outer tokens.Closing e = refl
not_begun outer tokens.And e = refl
not_begun outer tokens.Or e = refl
not_begun outer (tokens.Word None) e = refl
not_begun outer (tokens.Word (Some name)) e = absurd (cc)

-- nothing begins here where a factor is due
pub fails_to_start : (depth : ℕ) (r : Reader) → starting depth (next_token r) ≡ None → FailsInFactor depth r r.at
fails_to_start depth r none outer long = by_word (slice_get r.words.now r.at) refl
  where
    by_word : (o : Option (List ℕ)) → slice_get r.words.now r.at ≡ o → FailsFrom (Factor outer) r r.at
    by_word None e = fails_end r (Factor outer) e tt
    by_word (Some word) e =
        let token : next_token r ≡ Some (token_of word) = ap (option_map token_of) e in
        let begun : starting (length outer) (Some (token_of word)) ≡ None = ap (λ d. starting d (Some (token_of word))) long ∙ (ap (starting depth) (sym token) ∙ none) in
        fails_here r word (Factor outer) e (not_begun outer (token_of word) begun)

-- after a `!`, a parenthesis or a name
pub fails_in_negation : (depth : ℕ) (a b : Reader) (at : ℕ) → next_token a ≡ Some tokens.Exclamation → depth < most_depth → b.words.now ≡ a.words.now → b.at ≡ a.at + 1 → FailsInFactor (depth + 1) b at → FailsInFactor depth a at
fails_in_negation depth a b at is lt same one bad outer long =
    let w = token_word (slice_get a.words.now a.at) tokens.Exclamation is in
    let more : length (Negation ∷ outer) ≡ depth + 1 = omega arith in
    fails_after a b w.0 (Factor outer) (Factor (Negation ∷ outer)) at w.1 same one (ap (begin outer) w.2 ∙ one_deeper Negation outer (omega arith)) (bad (Negation ∷ outer) more)

pub fails_in_parenthesis : (depth : ℕ) (a b : Reader) (at : ℕ) → next_token a ≡ Some tokens.Opening → depth < most_depth → b.words.now ≡ a.words.now → b.at ≡ a.at + 1 → FailsInExpression (depth + 1) b at → FailsInFactor depth a at
fails_in_parenthesis depth a b at is lt same one bad outer long =
    let w = token_word (slice_get a.words.now a.at) tokens.Opening is in
    let more : length (Parenthesis ∷ outer) ≡ depth + 1 = omega arith in
    fails_after a b w.0 (Factor outer) (Factor (Parenthesis ∷ outer)) at w.1 same one (ap (begin outer) w.2 ∙ one_deeper Parenthesis outer (omega arith)) (bad (Parenthesis ∷ outer) more refl)

pub fails_in_argument : (depth : ℕ) (name : Name) (a b : Reader) (at : ℕ) → next_token a ≡ Some (tokens.Word (Some name)) → b.words.now ≡ a.words.now → b.at ≡ a.at + 1 → at ≡ b.at → IsBadArgument name (slice_get b.words.now at) → FailsInFactor depth a at
fails_in_argument depth name a b at is same one here bad outer long =
    let w = token_word (slice_get a.words.now a.at) (tokens.Word (Some name)) is in
    let there : FailsFrom (Argument name outer) b b.at = by_word (slice_get b.words.now b.at) refl (subst (λ k. IsBadArgument name (slice_get b.words.now k)) here bad) in
    fails_after a b w.0 (Factor outer) (Argument name outer) at w.1 same one (ap (begin outer) w.2) (subst (FailsFrom (Argument name outer) b) (sym here) there)
  where
    by_word : (o : Option (List ℕ)) → slice_get b.words.now b.at ≡ o → IsBadArgument name o → FailsFrom (Argument name outer) b b.at
    by_word None e refused = fails_end b (Argument name outer) e tt
    by_word (Some word) e refused = fails_here b word (Argument name outer) e refused

-- what follows a factor and is neither `and`, `or`, nor a factor's start
neither_follows : (outer : List Opened) (t : Token) → (GoesOn (Some t) → ⊥) → (Some t ≡ Some tokens.Or → ⊥) → (Some t ≡ Some tokens.Closing → ⊥) → follow outer t ≡ None
neither_follows outer tokens.Exclamation goes or closing = absurd (goes tt)
neither_follows outer tokens.Opening goes or closing = absurd (goes tt)
neither_follows outer tokens.Closing goes or closing = absurd (closing refl)
neither_follows outer tokens.And goes or closing = absurd (goes tt)
neither_follows outer tokens.Or goes or closing = absurd (or refl)
neither_follows outer (tokens.Word None) goes or closing = refl
neither_follows outer (tokens.Word (Some name)) goes or closing = absurd (goes tt)

-- no closing parenthesis after an expression
pub fails_to_close : (depth : ℕ) (a b c : Reader) (at : ℕ) → next_token a ≡ Some tokens.Opening → depth < most_depth → b.words.now ≡ a.words.now → b.at ≡ a.at + 1 → ReadsExpression (depth + 1) b c → Ends c → at ≡ c.at → next_token c ≢ Some tokens.Closing → FailsInFactor depth a at
fails_to_close depth a b c at is lt same one reads ends here unclosed outer long =
    let w = token_word (slice_get a.words.now a.at) tokens.Opening is in
    let walk : Walks (Factor (Parenthesis ∷ outer)) (words_of reads.e) (Operator (Parenthesis ∷ outer)) = walks_expression reads.e (Parenthesis ∷ outer) reads.tests (omega (arith, reads.deep)) refl in
    let last : FailsFrom (Operator (Parenthesis ∷ outer)) c at = subst (FailsFrom (Operator (Parenthesis ∷ outer)) c) (sym here) (by_word (slice_get c.words.now c.at) refl) in
    fails_after a b w.0 (Factor outer) (Factor (Parenthesis ∷ outer)) at w.1 same one (ap (begin outer) w.2 ∙ one_deeper Parenthesis outer (omega arith))
    (fails_behind b c (words_of reads.e) _ (Factor (Parenthesis ∷ outer)) (Operator (Parenthesis ∷ outer)) at reads.read walk last)
  where
    by_word : (o : Option (List ℕ)) → slice_get c.words.now c.at ≡ o → FailsFrom (Operator (Parenthesis ∷ outer)) c c.at
    by_word None e = fails_end c (Operator (Parenthesis ∷ outer)) e tt
    by_word (Some word) e =
        let token : next_token c ≡ Some (token_of word) = ap (option_map token_of) e in
        fails_here c word (Operator (Parenthesis ∷ outer)) e
        (neither_follows (Parenthesis ∷ outer) (token_of word) (λ goes. ends.factor (subst GoesOn (sym token) goes)) (λ or. ends.conjunction (token ∙ or)) (λ closing. unclosed (token ∙ closing)))

-- what is bad where a factor is due is bad after a factor, where the word begins one
behind_factor : (outer : List Opened) (t : Token) (word : List ℕ) (words : List (List ℕ)) (n : ℕ) → token_of word ≡ t → GoesOn (Some t) → t ≢ tokens.And → FailsAt (Factor outer) (word ∷ words) n → FailsAt (Operator outer) (word ∷ words) n
behind_factor outer t word words zero is goes other bad = ap (follow outer) is ∙ (same_refusal t goes other ∙ (ap (begin outer) (sym is) ∙ bad))
  where
    same_refusal : (t : Token) → GoesOn (Some t) → t ≢ tokens.And → follow outer t ≡ begin outer t
    same_refusal tokens.Exclamation goes other = refl
    same_refusal tokens.Opening goes other = refl
    same_refusal tokens.Closing goes other = absurd goes
    same_refusal tokens.And goes other = absurd (other refl)
    same_refusal tokens.Or goes other = absurd goes
    same_refusal (tokens.Word name) goes other = refl
behind_factor outer t word words (suc n) is goes other (next, takes, bad) = (next, begins_follows outer (token_of word) next takes, bad)

-- a factor that belongs to a conjunction is bad
pub fails_in_more : (depth : ℕ) (z a b : Reader) (at : ℕ) → ReadsConjunction depth z a → GoesOn (next_token a) → b.words.now ≡ a.words.now → (next_token a ≡ Some tokens.And → b.at ≡ a.at + 1) → (next_token a ≢ Some tokens.And → b.at ≡ a.at)
    → FailsInFactor depth b at → FailsInExpression depth z at
fails_in_more depth z a b at reads goes same passed stays bad outer long settled =
    let walk : Walks (Factor outer) (conjunction_words reads.c) (Operator outer) = walks_conjunction reads.c outer reads.tests (omega (arith, reads.deep)) settled in
    fails_behind z a (conjunction_words reads.c) _ (Factor outer) (Operator outer) at reads.read walk (by_word (slice_get a.words.now a.at) refl)
  where
    behind : (word : List ℕ) (t : Token) → slice_get a.words.now a.at ≡ Some word → token_of word ≡ t → GoesOn (Some t) → t ≢ tokens.And → FailsFrom (Operator outer) a at
    behind word t there is on other =
        let token : next_token a ≡ Some t = ap (option_map token_of) there ∙ ap (λ (x : Token). Some x) is in
        let place : b.at ≡ a.at = stays (λ and. let same : t ≡ tokens.And = let both : Some t ≡ Some tokens.And = sym token ∙ and in cc in other same) in
        let found = bad outer long in
        let here : FailsAt (Factor outer) (drop a.at a.words.now) found.0 = subst (λ (ws : List (List ℕ)). FailsAt (Factor outer) (drop a.at ws) found.0) same (subst (λ k. FailsAt (Factor outer) (drop k b.words.now) found.0) place found.2) in
        let split = drop_at a.words.now a.at word there in
        (found.0, found.1 ∙ ap (λ k. k + found.0) place, subst (λ (ws : List (List ℕ)). FailsAt (Operator outer) ws found.0) (sym split) (behind_factor outer t word _ found.0 is on other (subst (λ (ws : List (List ℕ)). FailsAt (Factor outer) ws found.0) split here)))

    by_token : (word : List ℕ) (t : Token) → slice_get a.words.now a.at ≡ Some word → token_of word ≡ t → GoesOn (Some t) → FailsFrom (Operator outer) a at
    by_token word tokens.Exclamation there is on = behind word tokens.Exclamation there is on (λ e. cc)
    by_token word tokens.Opening there is on = behind word tokens.Opening there is on (λ e. cc)
    by_token word tokens.Closing there is on = absurd on
    by_token word tokens.And there is on =
        let token : next_token a ≡ Some tokens.And = ap (option_map token_of) there ∙ ap (λ (x : Token). Some x) is in
        fails_after a b word (Operator outer) (Factor outer) at there same (passed token) (ap (follow outer) is) (bad outer long)
    by_token word tokens.Or there is on = absurd on
    by_token word (tokens.Word name) there is on = behind word (tokens.Word name) there is on (λ e. cc)

    by_word : (o : Option (List ℕ)) → slice_get a.words.now a.at ≡ o → FailsFrom (Operator outer) a at
    by_word None e = absurd (subst GoesOn (ap (option_map token_of) e) goes)
    by_word (Some word) e = by_token word (token_of word) e refl (subst GoesOn (ap (option_map token_of) e) goes)

-- the first factor of a conjunction, and the first conjunction of an expression
pub fails_at_first : (depth : ℕ) (r : Reader) (at : ℕ) → FailsInFactor depth r at → FailsInExpression depth r at
fails_at_first depth r at bad outer long settled = bad outer long

-- a conjunction after an `or` is bad
pub fails_in_or : (depth : ℕ) (z a b : Reader) (at : ℕ) → ReadsExpression depth z a → next_token a ≡ Some tokens.Or → b.words.now ≡ a.words.now → b.at ≡ a.at + 1 → FailsInExpression depth b at → FailsInExpression depth z at
fails_in_or depth z a b at reads is same one bad outer long settled =
    let w = token_word (slice_get a.words.now a.at) tokens.Or is in
    let walk : Walks (Factor outer) (words_of reads.e) (Operator outer) = walks_expression reads.e outer reads.tests (omega (arith, reads.deep)) settled in
    fails_behind z a (words_of reads.e) _ (Factor outer) (Operator outer) at reads.read walk (fails_after a b w.0 (Operator outer) (Factor outer) at w.1 same one (ap (follow outer) w.2) (bad outer long settled))

-- a word after the whole expression
pub fails_behind_all : (a b : Reader) → ReadsExpression 0 a b → Ends b → b.at < length b.words.now → FailsFrom (Factor []) a b.at
fails_behind_all a b reads ends lt =
    let walk : Walks (Factor []) (words_of reads.e) (Operator []) = walks_expression reads.e [] reads.tests (omega (arith, reads.deep)) refl in
    fails_behind a b (words_of reads.e) _ (Factor []) (Operator []) b.at reads.read walk (by_word (slice_get b.words.now b.at) refl)
  where
    last_follows : (t : Token) → (GoesOn (Some t) → ⊥) → (Some t ≡ Some tokens.Or → ⊥) → follow [] t ≡ None
    last_follows tokens.Exclamation goes or = absurd (goes tt)
    last_follows tokens.Opening goes or = absurd (goes tt)
    last_follows tokens.Closing goes or = refl
    last_follows tokens.And goes or = absurd (goes tt)
    last_follows tokens.Or goes or = absurd (or refl)
    last_follows (tokens.Word None) goes or = refl
    last_follows (tokens.Word (Some name)) goes or = absurd (goes tt)

    by_word : (o : Option (List ℕ)) → slice_get b.words.now b.at ≡ o → FailsFrom (Operator []) b b.at
    by_word None e = absurd (let none = drop_past b.words.now b.at e in no_rest none)
      where
        no_rest : drop b.at b.words.now ≡ [] → ⊥
        no_rest none = let long : length (drop b.at b.words.now) ≡ 0 = ap length none in omega (arith, length-drop b.at b.words.now)
    by_word (Some word) e =
        let token : next_token b ≡ Some (token_of word) = ap (option_map token_of) e in
        fails_here b word (Operator []) e (last_follows (token_of word) (λ goes. ends.factor (subst GoesOn (sym token) goes)) (λ or. ends.conjunction (token ∙ or)))

-- from the first word on
pub from_start : (r : Reader) (due : Due) (at : ℕ) → r.at ≡ 0 → FailsFrom due r at → FailsAt due r.words.now at
from_start r due at start (n, is, bad) =
    let place : at ≡ n = omega arith in
    subst (FailsAt due r.words.now) (sym place) (subst (λ k. FailsAt due (drop k r.words.now) n) start bad)
