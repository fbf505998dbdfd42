-- Words that are text.
use Rattle.std.proofs.Common.{◌≡◌, ◌∙◌, ◌<◌, ◌+◌, ◌++◌, ℕ, zero, suc, arith, true, List, [], ◌∷◌, Option, Some, None, Bor, length, map, take, get_or, option_map, unwrap_or, refl, sym, ap}
use Rattle.std.specs.List.{list_all}
use Rattle.std.specs.Str.{IsUtf8, is_utf8}
use Rattle.std.proofs.lemmas.List.{map-append, take_more}
use Rattle.std.proofs.lemmas.List.Sums.{AllPass-from_list_all}
use Rattle.std.proofs.lemmas.Str.{IsUtf8-from_is_utf8}

-- a text or another, after references
pub unwrapped : (o : Option (Bor (List ℕ))) (d : Bor (List ℕ)) → (unwrap_or o d).now ≡ unwrap_or (option_map (λ s. s.now) o) d.now
unwrapped None d = refl
unwrapped (Some s) d = refl

pub word_is_text : (words : List (List ℕ)) (k : ℕ) (d : List ℕ) → list_all is_utf8 words ≡ true → k < length words → IsUtf8 (get_or words k d)
word_is_text words k d e lt = IsUtf8-from_is_utf8 (get_or words k d) (AllPass-from_list_all is_utf8 words e k d lt)

-- the texts so far and one more are the words so far and one more
pub texts_more : (texts : List (Bor (List ℕ))) (words : List (List ℕ)) (k : ℕ) (text : Bor (List ℕ)) (word : List ℕ) → k < length words → map (λ t. t.now) texts ≡ take k words → text.now ≡ word → word ≡ get_or words k word → map (λ t. t.now) (texts ++ text ∷ []) ≡ take (k + 1) words
texts_more texts words k text word lt so_far is at =
    map-append (λ t. t.now) texts (text ∷ []) ∙ ap (λ ws. ws ++ text.now ∷ []) so_far ∙ ap (λ w. take k words ++ w ∷ []) (is ∙ at) ∙ sym (take_more words k word lt)

texts_length : (texts : List (Bor (List ℕ))) → length (map (λ t. t.now) texts) ≡ length texts
texts_length [] = refl
texts_length (t ∷ texts) = ap suc (texts_length texts)

text_at : (texts : List (Bor (List ℕ))) (k : ℕ) (text : Bor (List ℕ)) → get_or (map (λ t. t.now) texts) k text.now ≡ (get_or texts k text).now
text_at [] k text = refl
text_at (t ∷ texts) zero text = refl
text_at (t ∷ texts) (suc k) text = text_at texts k text

-- the words so far and one more are the texts so far and one more
pub words_more : (texts : List (Bor (List ℕ))) (words new : List (List ℕ)) (k : ℕ) (d : Bor (List ℕ)) (word : List ℕ) → k < length texts → words ≡ take k (map (λ t. t.now) texts) → word ≡ (get_or texts k d).now
    → new ≡ words ++ word ∷ [] → new ≡ take (k + 1) (map (λ t. t.now) texts)
words_more texts words new k d word lt so_far is put =
    let within : k < length (map (λ t. t.now) texts) = omega (arith, texts_length texts) in
    put ∙ ap (λ (ws : List (List ℕ)). ws ++ word ∷ []) so_far
    ∙ ap (λ (w : List ℕ). take k (map (λ t. t.now) texts) ++ w ∷ []) (is ∙ sym (text_at texts k d))
    ∙ sym (take_more (map (λ t. t.now) texts) k d.now within)

-- the texts of an option, if it is given
pub unwrapped_words : (o : Option (Bor (List (Bor (List ℕ))))) (d : Bor (List (Bor (List ℕ)))) (words : Option (List (List ℕ))) → option_map (λ s. map (λ v. v.now) s.now) o ≡ words → d.now ≡ [] → map (λ t. t.now) (unwrap_or o d).now ≡ unwrap_or words []
unwrapped_words None d words e none = ap (map (λ t. t.now)) none ∙ ap (λ (w : Option (List (List ℕ))). unwrap_or w []) e
unwrapped_words (Some s) d words e none = ap (λ (w : Option (List (List ℕ))). unwrap_or w []) e
