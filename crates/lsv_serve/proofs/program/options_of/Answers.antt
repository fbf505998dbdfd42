-- The other server is the one that the settings name, if they ask for it.
use Rattle.std.proofs.Common.{◌≡◌, ◌∙◌, Bool, true, false, if◌then◌else◌, Option, None, List, ℕ, sym, ap}
use Rattle.lsv_serve.proofs.program.options_of.Goals.{then-store_first+then-drop, then-store_first+else-drop, else-store_first+in-Some-1, else-store_first+in-None-1}
use Rattle.lsv_serve.proofs.program.options_of.Goals as goal

asked : (store_first : Bool) (host result : Option (List ℕ)) → store_first ≡ true → result ≡ host → result ≡ (if store_first then host else None)
asked store_first host result is same = same ∙ sym (ap (λ (b : Bool). if b then host else None) is)

unasked : (store_first : Bool) (host result : Option (List ℕ)) → store_first ≡ false → result ≡ None → result ≡ (if store_first then host else None)
unasked store_first host result is same = same ∙ sym (ap (λ (b : Bool). if b then host else None) is)

pub returns-clause-upstream : goal.returns-clause-upstream
returns-clause-upstream c = elim c.if-store_first.branch [
  | then-store_first+then-drop w ↦ asked c.args.conf.store_first c.args.conf.relay_host c.if-store_first.result w.if-store_first.true w.result-is
  | then-store_first+else-drop w ↦ asked c.args.conf.store_first c.args.conf.relay_host c.if-store_first.result w.if-store_first.true w.result-is
  | else-store_first+in-Some-1 w ↦ unasked c.args.conf.store_first c.args.conf.relay_host c.if-store_first.result w.if-store_first.false w.result-is
  | else-store_first+in-None-1 w ↦ unasked c.args.conf.store_first c.args.conf.relay_host c.if-store_first.result w.if-store_first.false w.result-is
]
