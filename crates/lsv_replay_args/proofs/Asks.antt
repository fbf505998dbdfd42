-- What words ask for, by what clap found.
use Rattle.std.proofs.Common.{◌≡◌, ◌≢◌, ◌∙◌, inl, inr, ℕ, Bool, true, false, cond, List, [], ◌∷◌, Option, Some, None, Result, Ok, Err, IsErrAnd, ap, refl, sym, codes}
use Rattle.std.specs.Option.{option_and_then}
use Rattle.clap.specs.Faults.{fault_of}
use Rattle.clap.specs.Simple.{matches_of}
use Rattle.clap.specs.Walk.{Row}
use Rattle.lsv_args.specs.declared.command.ArgFault.{ArgFault}
use Rattle.lsv_replay_args.specs.Asked.{task_in}
use Rattle.lsv_replay_args.specs.Program.{program}
use Rattle.lsv_replay_args.specs.Request.{Asked, Follow, IsRefused, Manner, Play, Search, asked, asked_by, dir_of, is_set_text, manner_of, play_of, search_of, task_of, words_of}
use Rattle.lsv_replay_args.specs.declared.request.Task.{Task}

-- ---- the task

-- what is asked for, by whether it is listed and followed
abbrev task_by : List Row → Manner → Bool → Bool → Option Asked
task_by rows manner lists follows = cond lists (search_of follows (dir_of rows) (words_of rows)) (play_of follows (dir_of rows) manner (words_of rows))

task_is : (rows : List Row) (manner : Manner) (lists follows : Bool) → is_set_text rows (codes "list") ≡ lists → is_set_text rows (codes "follow") ≡ follows → task_of rows manner ≡ task_by rows manner lists follows
task_is rows manner lists follows list follow =
    ap (λ (t : Bool). task_by rows manner t (is_set_text rows (codes "follow"))) list ∙ ap (λ (t : Bool). task_by rows manner lists t) follow

pub search_task : (rows : List Row) (manner : Manner) (ws : List (List ℕ)) → is_set_text rows (codes "list") ≡ true → is_set_text rows (codes "follow") ≡ false → ws ≡ words_of rows → task_of rows manner ≡ Some (Search (dir_of rows) ws)
search_task rows manner ws list follow same = task_is rows manner true false list follow ∙ ap (λ (w : List (List ℕ)). Some (Search (dir_of rows) w)) (sym same)

pub no_search : (rows : List Row) (manner : Manner) → is_set_text rows (codes "list") ≡ true → is_set_text rows (codes "follow") ≡ true → task_of rows manner ≡ None
no_search rows manner list follow = task_is rows manner true true list follow

pub play_task : (rows : List Row) (manner : Manner) (id : List ℕ) → is_set_text rows (codes "list") ≡ false → is_set_text rows (codes "follow") ≡ false → words_of rows ≡ id ∷ [] → task_of rows manner ≡ Some (Play (dir_of rows) manner id)
play_task rows manner id list follow one = task_is rows manner false false list follow ∙ ap (play_of false (dir_of rows) manner) one

pub follow_task : (rows : List Row) (manner : Manner) (id : List ℕ) → is_set_text rows (codes "list") ≡ false → is_set_text rows (codes "follow") ≡ true → words_of rows ≡ id ∷ [] → task_of rows manner ≡ Some (Follow (dir_of rows) manner id)
follow_task rows manner id list follow one = task_is rows manner false true list follow ∙ ap (play_of true (dir_of rows) manner) one

none_by : (follows : Bool) (dir : List ℕ) (manner : Manner) (ws : List (List ℕ)) → ((id : List ℕ) → ws ≡ id ∷ [] → ⊥) → play_of follows dir manner ws ≡ None
none_by follows dir manner [] no_one = refl
none_by follows dir manner (id ∷ []) no_one = absurd (no_one id refl)
none_by follows dir manner (id ∷ other ∷ more) no_one = refl

pub no_task : (rows : List Row) (manner : Manner) → is_set_text rows (codes "list") ≡ false → ((id : List ℕ) → words_of rows ≡ id ∷ [] → ⊥) → task_of rows manner ≡ None
no_task rows manner list no_one =
    task_is rows manner false (is_set_text rows (codes "follow")) list refl ∙ none_by (is_set_text rows (codes "follow")) (dir_of rows) manner (words_of rows) no_one

-- ---- the request

module _ (words texts : List (List ℕ)) (rows : List Row) (same : texts ≡ words) (is : rows ≡ matches_of program texts) where
  by_rows : asked words ≡ asked_by rows
  by_rows = ap (λ (ws : List (List ℕ)). asked_by (matches_of program ws)) (sym same) ∙ ap asked_by (sym is)

  by_manner : (manner : Manner) → Some manner ≡ manner_of rows → asked words ≡ task_of rows manner
  by_manner manner way = by_rows ∙ ap (option_and_then (task_of rows)) (sym way)

  pub asks_task : (manner : Manner) (dir : List ℕ) (task : Task) → Some manner ≡ manner_of rows → task_of rows manner ≡ Some (task_in (dir_of rows) task) → dir ≡ dir_of rows → asked words ≡ Some (task_in dir task)
  asks_task manner dir task way asks at = by_manner manner way ∙ asks ∙ ap (λ (d : List ℕ). Some (task_in d task)) (sym at)

  pub refused_manner : None ≡ manner_of rows → IsRefused words
  refused_manner none = inr (by_rows ∙ ap (option_and_then (task_of rows)) (sym none))

  pub refused_task : (manner : Manner) → Some manner ≡ manner_of rows → task_of rows manner ≡ None → IsRefused words
  refused_task manner way none = inr (by_manner manner way ∙ none)

pub refused_words : (words texts : List (List ℕ)) → texts ≡ words → fault_of program texts ≢ [] → IsRefused words
refused_words words texts same some = inl (λ e. some (ap (fault_of program) same ∙ e))

-- ---- what isn't there, and why

pub none_there : {X : Type 0} (o : Option X) → ((x : X) → o ≡ Some x → ⊥) → o ≡ None
none_there None never = refl
none_there (Some x) never = absurd (never x refl)

pub same_err : {T : Type 0} (r : Result T ArgFault) (e d : ArgFault) → IsErrAnd r (λ x. x ≡ e) → r ≡ Err d → e ≡ d
same_err (Ok x) e d is at = absurd is
same_err (Err y) e d is at = let same : y ≡ d = cc in sym is ∙ same
