-- What is due at the first bad word.
use Rattle.std.proofs.Common.{◌≡◌, ◌∙◌, Bool, true, false, ℕ, zero, suc, List, [], ◌∷◌, Option, Some, None, cond, refl, sym, ap, take}
use Rattle.std.specs.Prelude.{fold, slice_get, nat_lt, length}
use Rattle.lsv_search.specs.declared.token.Token.{Token}
use Rattle.lsv_search.specs.declared.token.Token.TheVariants.{Exclamation, Opening, Closing, And, Or, Word}
use Rattle.lsv_search.specs.BadWords.{Fails, IsReasonAt, after_token, due_after, kind_of, reason}
use Rattle.lsv_search.specs.Grammar.{most_depth}
use Rattle.lsv_search.specs.Places.{Opened, Negation, Parenthesis, Due, Factor, Argument, Operator, FailsAt, Takes, begin, close, complete, deeper, follow, token_of}

complete_kind : (outer : List Opened) → kind_of (complete outer) ≡ kind_of (Operator [])
complete_kind [] = refl
complete_kind (Negation ∷ outer) = complete_kind outer
complete_kind (Parenthesis ∷ outer) = refl

deeper_kind : (opened : Opened) (outer : List Opened) (next : Due) → deeper opened outer ≡ Some next → kind_of next ≡ kind_of (Factor [])
deeper_kind opened outer next is = go (nat_lt (length outer) most_depth) is
  where
    go : (t : Bool) → cond t (Some (Factor (opened ∷ outer))) None ≡ Some next → kind_of next ≡ kind_of (Factor [])
    go true e = let same : Factor (opened ∷ outer) ≡ next = cc in ap kind_of (sym same)
    go false e = absurd (cc)

close_kind : (outer : List Opened) (next : Due) → close outer ≡ Some next → kind_of next ≡ kind_of (Operator [])
close_kind [] next is = absurd (cc)
close_kind (Negation ∷ outer) next is = absurd (cc)
close_kind (Parenthesis ∷ outer) next is = let same : complete outer ≡ next = cc in ap kind_of (sym same) ∙ complete_kind outer

begin_kind : (outer : List Opened) (token : Token) (next : Due) → begin outer token ≡ Some next → kind_of next ≡ after_token token
begin_kind outer Exclamation next is = deeper_kind Negation outer next is
begin_kind outer Opening next is = deeper_kind Parenthesis outer next is
begin_kind outer Closing next is = absurd (cc)
begin_kind outer And next is = absurd (cc)
begin_kind outer Or next is = absurd (cc)
begin_kind outer (Word None) next is = absurd (cc)
begin_kind outer (Word (Some name)) next is = let same : Argument name outer ≡ next = cc in ap kind_of (sym same)

follow_kind : (outer : List Opened) (token : Token) (next : Due) → follow outer token ≡ Some next → kind_of next ≡ after_token token
follow_kind outer Exclamation next is = begin_kind outer Exclamation next is
follow_kind outer Opening next is = begin_kind outer Opening next is
follow_kind outer Closing next is = close_kind outer next is
follow_kind outer And next is = let same : Factor outer ≡ next = cc in ap kind_of (sym same)
follow_kind outer Or next is = let same : Factor outer ≡ next = cc in ap kind_of (sym same)
follow_kind outer (Word name) next is = begin_kind outer (Word name) next is

kind_after : (due : Due) (word : List ℕ) (next : Due) → Takes due word next → kind_of next ≡ due_after (kind_of due) word
kind_after (Factor outer) word next takes = begin_kind outer (token_of word) next takes
kind_after (Argument name outer) word next takes = ap kind_of takes.1 ∙ complete_kind outer
kind_after (Operator outer) word next takes = follow_kind outer (token_of word) next takes

-- what is due at the place at which words fail
record FailsThere (due : Due) (words : List (List ℕ)) (at : ℕ) : Type 0 where
  now : Due
  fails : Fails now (slice_get words at)
  kind : kind_of now ≡ fold due_after (kind_of due) (take at words)

there : (due : Due) (words : List (List ℕ)) (at : ℕ) → FailsAt due words at → FailsThere due words at
there due [] zero bad = record { now = due; fails = bad; kind = refl }
there due [] (suc at) bad = absurd bad
there due (word ∷ words) zero bad = record { now = due; fails = bad; kind = refl }
there due (word ∷ words) (suc at) (next, takes, bad) =
    let r = there next words at bad in record {
      now = r.now;
      fails = r.fails;
      kind = r.kind ∙ ap (λ k. fold due_after k (take at words)) (kind_after due word next takes);
    }

pub reason_at : (words : List (List ℕ)) (at : ℕ) → FailsAt (Factor []) words at → IsReasonAt words at
reason_at words at bad =
    let r = there (Factor []) words at bad in
    record { due = r.now; fails = r.fails; same = ap (λ k. reason k (slice_get words at)) (sym r.kind) }
