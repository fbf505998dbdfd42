-- Sizes as they are counted.
use Rattle.std.proofs.Common.{◌≡◌, ◌∙◌, ℕ, ◌+◌, ◌-◌, ◌^◌, ◌<◌, List, length, get_or, min, sum_by, take, ap, sym, arith}
use Rattle.std.proofs.lemmas.List.Sums.{sum_by_more}
use Rattle.lsv_info.specs.declared.info.Entry.{Entry}
use Rattle.lsv_worker.specs.Sizes.{counted, entry_bytes, texts_bytes}

counted_more : (a b : ℕ) → min (counted a + counted b) (2 ^ 64 - 1) ≡ counted (a + b)
counted_more a b = omega arith

-- one text more
pub texts_more : (texts : List (List ℕ)) (i : ℕ) (d : List ℕ) → i < length texts → min (counted (texts_bytes (take i texts)) + counted (32 + length (get_or texts i d))) (2 ^ 64 - 1) ≡ counted (texts_bytes (take (i + 1) texts))
texts_more texts i d here = counted_more (texts_bytes (take i texts)) (32 + length (get_or texts i d)) ∙ ap counted (sym (sum_by_more (λ (text : List ℕ). 32 + length text) texts i d here))

-- one entry more
pub info_more : (entries : List Entry) (i : ℕ) (d : Entry) → i < length entries → min (counted (sum_by entry_bytes (take i entries)) + counted (entry_bytes (get_or entries i d))) (2 ^ 64 - 1) ≡ counted (sum_by entry_bytes (take (i + 1) entries))
info_more entries i d here = counted_more (sum_by entry_bytes (take i entries)) (entry_bytes (get_or entries i d)) ∙ ap counted (sym (sum_by_more entry_bytes entries i d here))
