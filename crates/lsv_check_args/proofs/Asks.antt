-- What words ask for, by what clap found.
use Rattle.std.proofs.Common.{◌≡◌, ◌≢◌, ◌∙◌, inl, inr, ℕ, List, [], Some, None, ap, sym, true}
use Rattle.std.specs.List.{list_all}
use Rattle.std.specs.Str.{is_utf8}
use Rattle.clap.specs.Faults.{fault_of}
use Rattle.clap.specs.Simple.{matches_of}
use Rattle.clap.specs.Walk.{Row}
use Rattle.lsv_check_args.specs.Program.{program}
use Rattle.lsv_check_args.specs.Request.{Asked, Asks, IsUsage, asked_by}

module _ (words texts : List (List ℕ)) (rows : List Row) (same : texts ≡ words) (is : rows ≡ matches_of program texts) where
  by_rows : asked_by (matches_of program words) ≡ asked_by rows
  by_rows = ap (λ (ws : List (List ℕ)). asked_by (matches_of program ws)) (sym same) ∙ ap asked_by (sym is)

  pub asks : (asked : Asked) → list_all is_utf8 words ≡ true → fault_of program texts ≡ [] → asked_by rows ≡ Some asked → Asks words asked
  asks asked text taken one = record { text = text; taken = ap (fault_of program) (sym same) ∙ taken; asks = by_rows ∙ one }

  pub unfit : asked_by rows ≡ None → IsUsage words
  unfit none = inr (inr (by_rows ∙ none))

pub refused : (words texts : List (List ℕ)) → texts ≡ words → fault_of program texts ≢ [] → IsUsage words
refused words texts same some = inr (inl (λ none. some (ap (fault_of program) same ∙ none)))
