-- The past of each file after one more call.
use Rattle.std.proofs.Common.{◌≡◌, ◌≢◌, Bool, cond, List, [], ◌∷◌, ◌++◌, map, reverse, refl, sym, ◌∙◌, ap}
use Rattle.std.specs.List.{filter}
use Rattle.std.proofs.lemmas.List.{map-append, reverse-append}
use Rattle.std.proofs.lemmas.List.Elements.{filter-append}
use Rattle.lsv_disk.specs.declared.file.FileId.{FileId}
use Rattle.lsv_disk.specs.declared.memory.call.Call.{Call}
use Rattle.lsv_disk.specs.declared.memory.call.Effect.{Effect}
use Rattle.lsv_disk.specs.Files.{same_file}
use Rattle.lsv_disk.specs.Memory.Calls.{past_of}
use Rattle.lsv_disk.proofs.Same.{same_itself, other_not_same}

past_push : (calls : List Call) (call : Call) (file : FileId) → past_of (calls ++ call ∷ []) file ≡ reverse (map (λ (c : Call). c.effect) (cond (same_file call.file file) (call ∷ []) [])) ++ past_of calls file
unfolding past_of
past_push calls call file =
    ap (λ (l : List Call). reverse (map (λ (c : Call). c.effect) l)) (filter-append (λ (c : Call). same_file c.file file) calls (call ∷ []))
    ∙ ap (λ (l : List Effect). reverse l) (map-append (λ (c : Call). c.effect) (filter (λ (c : Call). same_file c.file file) calls) (filter (λ (c : Call). same_file c.file file) (call ∷ [])))
    ∙ reverse-append (map (λ (c : Call). c.effect) (filter (λ (c : Call). same_file c.file file) calls)) (map (λ (c : Call). c.effect) (filter (λ (c : Call). same_file c.file file) (call ∷ [])))

pub past_here : (calls : List Call) (file : FileId) (effect : Effect) → past_of (calls ++ record { file = file; effect = effect } ∷ []) file ≡ effect ∷ past_of calls file
past_here calls file effect =
    let call : Call = record { file = file; effect = effect } in
    past_push calls call file
    ∙ ap (λ (b : Bool). reverse (map (λ (c : Call). c.effect) (cond b (call ∷ []) [])) ++ past_of calls file) (same_itself file)

pub past_other : (calls : List Call) (file : FileId) (effect : Effect) (g : FileId) → g ≢ file → past_of (calls ++ record { file = file; effect = effect } ∷ []) g ≡ past_of calls g
past_other calls file effect g other =
    let call : Call = record { file = file; effect = effect } in
    past_push calls call g
    ∙ ap (λ (b : Bool). reverse (map (λ (c : Call). c.effect) (cond b (call ∷ []) [])) ++ past_of calls g) (other_not_same file g (λ is. other (sym is)))

pub past_none : (file : FileId) → past_of [] file ≡ []
unfolding past_of
past_none file = refl

-- where no call was made
pub nothing : (calls : List Call) → calls ≡ [] → (f : FileId) → past_of calls f ≡ []
nothing calls none f = ap (λ (cs : List Call). past_of cs f) none ∙ past_none f
