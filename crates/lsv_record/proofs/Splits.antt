-- Texts that are cut at the first byte of a kind.
use Rattle.std.proofs.Common.{◌≡◌, ◌≢◌, ℕ, ◌<◌, ◌≤◌, List, [], ◌∷◌, ◌++◌, All, arith, refl}
use Rattle.std.proofs.lemmas.List.Elements.{All-head, All-tail, All-weaker}

-- a byte that a text has nowhere stands nowhere in it
pub stands_not : (stop : ℕ) (a b : List ℕ) → All (λ byte. byte ≢ stop) (a ++ stop ∷ b) → ⊥
stands_not stop [] b h = All-head (λ byte. byte ≢ stop) stop b h refl
stands_not stop (x ∷ a) b h = stands_not stop a b (All-tail (λ byte. byte ≢ stop) x (a ++ stop ∷ b) h)

-- a text is cut at the first such byte in one way
pub cut_once : (stop : ℕ) (a b c d : List ℕ) → a ++ stop ∷ b ≡ c ++ stop ∷ d → All (λ byte. byte ≢ stop) a → All (λ byte. byte ≢ stop) c → (a ≡ c) × (b ≡ d)
cut_once stop [] b [] d e ha hc = (refl, cc)
cut_once stop [] b (y ∷ c) d e ha hc = absurd (All-head (λ byte. byte ≢ stop) y c hc (cc))
cut_once stop (x ∷ a) b [] d e ha hc = absurd (All-head (λ byte. byte ≢ stop) x a ha (cc))
cut_once stop (x ∷ a) b (y ∷ c) d e ha hc =
    let rest : a ++ stop ∷ b ≡ c ++ stop ∷ d = cc in
    let h = cut_once stop a b c d rest (All-tail (λ byte. byte ≢ stop) x a ha) (All-tail (λ byte. byte ≢ stop) y c hc) in
    (cc (h.0), h.1)

-- bytes above a byte are none that is at most it
pub avoids : (low stop : ℕ) (text : List ℕ) → stop ≤ low → All (λ byte. low < byte) text → All (λ byte. byte ≢ stop) text
avoids low stop text h above = All-weaker (λ byte. low < byte) (λ byte. byte ≢ stop) (λ byte b. omega arith) text above
