-- A line feed after a text that was printed changes none of its tokens.
use Rattle.std.proofs.Common.{◌≡◌, ℕ, Bool, true, false, cond, ◌&&◌, List, [], ◌∷◌, ◌++◌, refl, sym, ap, ap₂, ◌∙◌, append_assoc, append-nil}
use Rattle.json.specs.Token.{Token, begin_object, end_object, begin_array, end_array, key, string, number, boolean, null, bad}
use Rattle.json.specs.Word.{ends_word, word}
use Rattle.json.specs.Lex.{Lexeme, token, comma, colon, string_token, lex, between, fresh, punctuate, tokens}
use Rattle.json.specs.Print.{escape, quoted, token_text, begins, ends, print_from, print, IsPrintable, ArePrintable}
use Rattle.json.proofs.Printed.Strings.{content-escape, lex-escape}
use Rattle.json.proofs.Printed.Numbers.{lex-number, in_word-ended}
use Rattle.json.proofs.Printed.Tokens.{tokens-print}

abbrev lexemes_of : Token → List Lexeme
lexemes_of begin_object = token begin_object ∷ []
lexemes_of end_object = token end_object ∷ []
lexemes_of begin_array = token begin_array ∷ []
lexemes_of end_array = token end_array ∷ []
lexemes_of (key s) = token (string s) ∷ colon ∷ []
lexemes_of (string s) = token (string s) ∷ []
lexemes_of (number s) = token (number s) ∷ []
lexemes_of (boolean b) = token (boolean b) ∷ []
lexemes_of null = token null ∷ []
lexemes_of bad = []

lex_quoted : (s r : List ℕ) → lex between (quoted s ++ r) ≡ token (string s) ∷ lex between r
unfolding lex
lex_quoted s r =
    ap (λ l. lex between (34 ∷ l)) (append_assoc (escape s) (34 ∷ []) r) ∙ ap₂ (λ o l. token (string_token o) ∷ l) (content-escape s r) (lex-escape s r)

lex_token : (t : Token) (r : List ℕ) → IsPrintable t → (ends t ≡ true → ends_word r ≡ true) → lex between (token_text t ++ r) ≡ lexemes_of t ++ lex between r
unfolding lex word
lex_token begin_object r h ended = refl
lex_token end_object r h ended = refl
lex_token begin_array r h ended = refl
lex_token end_array r h ended = refl
lex_token (key s) r h ended = ap (lex between) (append_assoc (quoted s) (58 ∷ []) r) ∙ lex_quoted s (58 ∷ r)
lex_token (string s) r h ended = lex_quoted s r
lex_token (number s) r h ended = lex-number s r h (ended refl)
lex_token (boolean true) r h ended = ap₂ (λ b l. token (cond b (boolean true) bad) ∷ l) (ended refl) (in_word-ended r (ended refl))
lex_token (boolean false) r h ended = ap₂ (λ b l. token (cond b (boolean false) bad) ∷ l) (ended refl) (in_word-ended r (ended refl))
lex_token null r h ended = ap₂ (λ b l. token (cond b null bad) ∷ l) (ended refl) (in_word-ended r (ended refl))
lex_token bad r h ended = absurd h

lex_separator : (b : Bool) (r : List ℕ) → lex between (cond b (44 ∷ []) [] ++ r) ≡ cond b (comma ∷ []) [] ++ lex between r
unfolding lex
lex_separator true r = refl
lex_separator false r = refl

-- after a value stands a comma, a closing bracket or what follows
ends_after : (ts : List Token) (r : List ℕ) → ends_word r ≡ true → ends_word (print_from true ts ++ r) ≡ true
unfolding print_from
ends_after [] r h = h
ends_after (begin_object ∷ ts) r h = refl
ends_after (end_object ∷ ts) r h = refl
ends_after (begin_array ∷ ts) r h = refl
ends_after (end_array ∷ ts) r h = refl
ends_after (key s ∷ ts) r h = refl
ends_after (string s ∷ ts) r h = refl
ends_after (number s ∷ ts) r h = refl
ends_after (boolean b ∷ ts) r h = refl
ends_after (null ∷ ts) r h = refl
ends_after (bad ∷ ts) r h = refl

lex_first : (c : Bool) (t : Token) (ts : List Token) (r : List ℕ) → IsPrintable t → ends_word r ≡ true
    → lex between (print_from c (t ∷ ts) ++ r) ≡ cond (c && begins t) (comma ∷ []) [] ++ (lexemes_of t ++ lex between (print_from (ends t) ts ++ r))
unfolding print_from
lex_first c t ts r h ended =
    let rest = print_from (ends t) ts in
    ap (lex between) (append_assoc (cond (c && begins t) (44 ∷ []) []) (token_text t ++ rest) r ∙ ap (λ l. cond (c && begins t) (44 ∷ []) [] ++ l) (append_assoc (token_text t) rest r))
    ∙ lex_separator (c && begins t) _
    ∙ ap (λ l. cond (c && begins t) (comma ∷ []) [] ++ l) (lex_token t (rest ++ r) h (λ e. ap (λ b. ends_word (print_from b ts ++ r)) e ∙ ends_after ts r ended))

lex_tail : (c : Bool) (ts : List Token) → ArePrintable ts → lex between (print_from c ts ++ 10 ∷ []) ≡ lex between (print_from c ts ++ [])
unfolding lex print_from ArePrintable
lex_tail c [] h = refl
lex_tail c (t ∷ ts) h =
    lex_first c t ts (10 ∷ []) h.0 refl ∙ ap (λ l. cond (c && begins t) (comma ∷ []) [] ++ (lexemes_of t ++ l)) (lex_tail (ends t) ts h.1) ∙ sym (lex_first c t ts [] h.0 refl)

pub tokens_of_line : (ts : List Token) → ArePrintable ts → tokens (print ts ++ 10 ∷ []) ≡ ts
tokens_of_line ts h = ap (punctuate fresh) (lex_tail false ts h ∙ ap (lex between) (append-nil (print ts))) ∙ tokens-print ts h
