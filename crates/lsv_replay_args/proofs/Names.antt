-- The names of a list, one by one.
use Rattle.std.proofs.Common.{◌≡◌, ◌∙◌, ℕ, true, Bool, List, ◌∷◌, Option, Some, None, Bor, set, ap, sym}
use Rattle.std.specs.Option.{option_and_then}
use Rattle.lsv_replay_args.specs.Texts.{before, pieces}
use Rattle.lsv_replay_args.specs.Streams.{index_in, named, streams_in}
use Rattle.lsv_replay_args.proofs.Cuts.{pieces_left}

module _ (list : List ℕ) (streams : List Bool) (rest more : Option (Bor (List ℕ))) (at : Bor (List ℕ)) (name : List ℕ) (is : rest ≡ Some at) (so_far : streams_in list ≡ named streams (pieces_left 44 rest))
    (cut : pieces 44 at.now ≡ before 44 at.now ∷ pieces_left 44 more) (at_name : name ≡ before 44 at.now) where
  this_name : streams_in list ≡ option_and_then (λ k. named (set streams k true) (pieces_left 44 more)) (index_in name)
  this_name =
      so_far ∙ ap (λ (r : Option (Bor (List ℕ))). named streams (pieces_left 44 r)) is ∙ ap (named streams) cut
      ∙ ap (λ (n : List ℕ). option_and_then (λ k. named (set streams k true) (pieces_left 44 more)) (index_in n)) (sym at_name)

  -- one name more
  pub named_more : (i : ℕ) (new : List Bool) → index_in name ≡ Some i → new ≡ set streams i true → streams_in list ≡ named new (pieces_left 44 more)
  named_more i new found put =
      this_name ∙ ap (option_and_then (λ k. named (set streams k true) (pieces_left 44 more))) found ∙ ap (λ (s : List Bool). named s (pieces_left 44 more)) (sym put)

  -- a word that is no name
  pub named_none : index_in name ≡ None → streams_in list ≡ None
  named_none none = this_name ∙ ap (option_and_then (λ k. named (set streams k true) (pieces_left 44 more))) none
