-- What a pair relays, as its two links tell it.
use Rattle.std.specs.Prelude.{◌≡◌, ◌≢◌, ◌⊎◌, Bool, true, false, ℕ, List, [], ◌++◌, Option, Some, None}
use Rattle.lsv_defs.specs.Pieces.{IsPrefix}
use Rattle.lsv_port.specs.Port.{LinkState, PortState}
use Rattle.lsv_wire.specs.Frame.{IsPartial}
use Rattle.lsv_live.specs.Ends.{IsOver}
use Rattle.lsv_live.specs.Meter.{start}
use Rattle.lsv_live.specs.Pairs.{RefusesClient, RefusesUpstream, StatesTooMuch, is_by_upstream, lost_by, words}
use Rattle.lsv_live.specs.Story.{Exchange, IsLawful, after, frames, heard, puts, up}
use Rattle.lsv_live.specs.declared.pair.Pair.{Pair}
use Rattle.lsv_live.specs.declared.trouble.Trouble.{Trouble}
use Rattle.lsv_live.specs.declared.trouble.Trouble.TheVariants.{Refused, TooLarge, RelayLost, BadUpstream, Told, NoMem}

-- all whole messages that were read from the client were passed on, each in the frame that it came in
pub record IsUp (input : List ℕ) (story : List Exchange) : Type 0 where
  pub rest : List ℕ
  pub whole : input ≡ up story ++ rest
  pub partial : IsPartial rest

-- all whole messages that were read from the other server were taken, up to one that ends the pair
pub record IsDown (trouble : Option Trouble) (input : List ℕ) (story : List Exchange) : Type 0 where
  pub rest : List ℕ
  pub whole : input ≡ frames (heard story) ++ rest
  pub partial : is_by_upstream trouble ≡ false → IsPartial rest

-- after these bytes, of what was read, stands this rest
abbrev pub Behind : List ℕ → List ℕ → (List ℕ → Type 0) → Type 0
Behind input taken P = (rest : List ℕ) × IsPrefix (taken ++ rest) input × P rest

-- why a trouble arose, by the two links. dialled: whether a link was dialled for the client
abbrev pub HasCause : Option Trouble → (dialled : Bool) → List Exchange → (c u : LinkState) → Type 0
HasCause None dialled story c u = Unit {0}
HasCause (Some (Refused fault)) dialled story c u = Behind c.input (up story) (RefusesClient (after start story) fault)
HasCause (Some TooLarge) dialled story c u = Behind c.input (up story) StatesTooMuch
HasCause (Some RelayLost) dialled story c u = ((after start story).has_left ≡ false) × ((dialled ≡ false) ⊎ IsOver u)
HasCause (Some BadUpstream) dialled story c u = dialled ≡ true → Behind u.input (frames (heard story)) (RefusesUpstream (after start story))
HasCause (Some Told) dialled story c u = (after start story).has_ended ≡ true
HasCause (Some NoMem) dialled story c u = Unit {0}

-- why a link of a pair was closed: a trouble arose, one of the links is over, or the port had told Stop or had failed
abbrev pub ClosedFor : LinkState → Option Trouble → (c u : LinkState) → Type 0
ClosedFor link trouble c u = (trouble ≢ None) ⊎ (IsOver c ⊎ (IsOver u ⊎ (link.late ≡ true)))

-- what passed between a client's link and the link that was dialled for it, if one was
pub record Relays (dialled : Bool) (c u : LinkState) : Type 0 where
  -- what was passed on, in order, and how the pair ended, if by an error
  pub story : List Exchange
  pub trouble : Option Trouble
  pub lawful : IsLawful start story
  pub none : dialled ≡ false → story ≡ []
  -- the other server is put what the client sent: only that, and all of it unless a trouble arose, its link is over, or it takes no more
  pub up_first : IsPrefix (up story) c.input
  pub up_put : dialled ≡ true → IsPrefix u.output (up story)
  pub up_whole : dialled ≡ true → trouble ≡ None → (IsOver u → ⊥) → u.full ≡ false → IsUp c.input story × (u.output ≡ up story)
  -- the client is put what the other server said, and the error of a trouble: only that, and all of it unless its link failed, it takes no more, or memory ran out
  pub down_first : dialled ≡ true → trouble ≢ Some NoMem → IsDown trouble u.input story
  pub down_put : IsPrefix c.output (puts start story ++ words trouble)
  pub down_whole : trouble ≢ Some NoMem → c.failed ≡ false → c.full ≡ false → c.output ≡ puts start story ++ words trouble
  -- each trouble has its cause; and if the other server is lost the client is told, unless an exit or a reject was passed on
  pub cause : HasCause trouble dialled story c u
  pub lost : (dialled ≡ false) ⊎ IsOver u → (trouble ≡ Some NoMem) ⊎ (trouble ≡ lost_by (after start story).has_left)
  -- a link is closed for a cause alone
  pub closed_client : c.is_open ≡ false → ClosedFor c trouble c u
  pub closed_upstream : dialled ≡ true → u.is_open ≡ false → ClosedFor u trouble c u

-- a pair over the links of a port
abbrev pub RelaysAt : Pair → PortState → Type 0
RelaysAt p port = Relays p.is_dialled (port.link p.client.number) (port.link p.upstream.number)
