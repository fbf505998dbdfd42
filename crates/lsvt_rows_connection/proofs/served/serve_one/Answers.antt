use Rattle.std.proofs.Common.{◌≡◌, ◌<◌, ℕ, [], ◌∷◌, length, Some, sym, ap, subst, ◌∙◌, arith}
use Rattle.std.specs.Prelude.{slice_get}
use Rattle.std.proofs.Math.ListN.{get_or}
use Rattle.std.proofs.lemmas.Option.{get_or_from_slice_get, slice_get_within}
use Rattle.lsv_port.specs.Ledger.{PortLedger}
use Rattle.lsv_port.specs.Port.{PortState}
use Rattle.lsv_port.specs.Memory.Value.{port_ledger, port_state}
use Rattle.lsv_endpoint.specs.InnerEndpoint.{IsMade}
use Rattle.lsv_worker.specs.Worker.{setting}
use Rattle.lsv_endpoint.specs.Ports.{view_by}
use Rattle.lsv_endpoint.specs.declared.endpoint.WorkerEndpoint.{WorkerEndpoint}
use Rattle.lsvt_doubles.specs.declared.watched.Watched.{Watched}
use Rattle.lsvt_rows_connection.proofs.served.serve_one.Goals as goal

-- the one of a list of one
only : {A : Type 0} (x : A) (i : ℕ) (y : A) → slice_get (x ∷ []) i ≡ Some y → x ≡ y
only x i y e =
    let within : i < length (x ∷ []) = slice_get_within (x ∷ []) i y e in
    let first : i ≡ 0 = omega (arith, within) in
    sym (ap (λ (k : ℕ). get_or (x ∷ []) k x) first) ∙ get_or_from_slice_get (x ∷ []) i y x e

-- what a watched port is seen as
abbrev state : Watched → PortState
state p = port_state p.port

abbrev ledger : Watched → PortLedger
ledger p = port_ledger p.port

pub serve-requires-clause-posts : goal.serve-requires-clause-posts
serve-requires-clause-posts c =
    (λ i. view_by state ledger c.args.port, λ i post e. subst (λ (y : WorkerEndpoint Watched). IsMade ⊥ state ledger (view_by state ledger c.args.port) y (λ lane. []) []) (only c.in_ok-post_of.field-0 i post e) c.in_ok-post_of.ensures.made)

pub serve-requires-clause-lanes : goal.serve-requires-clause-lanes
serve-requires-clause-lanes c = λ i post e. subst (λ (y : WorkerEndpoint Watched). (setting y.worker).lanes ≡ 1) (only c.in_ok-post_of.field-0 i post e) c.in_ok-post_of.ensures.lanes
