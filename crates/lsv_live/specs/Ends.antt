-- One end of a pair over its link of the port.
use Rattle.std.specs.Prelude.{◌≡◌, ◌≢◌, ◌⊎◌, ℕ, true, false, List, [], ◌++◌}
use Rattle.lsv_defs.specs.Pieces.{IsPrefix}
use Rattle.lsv_port.specs.Port.{LinkState, PortState}
use Rattle.lsv_live.specs.declared.end.End.{End}

-- no link of a port changed but this one
pub record Alone (l : ℕ) (old new : PortState) : Type 0 where
  pub others : (m : ℕ) → m ≢ l → new.link m ≡ old.link m
  pub opened : new.opened ≡ old.opened
  pub stopped : new.stopped ≡ old.stopped
  pub failed : new.failed ≡ old.failed

-- the input of a link ended, or a call on it failed
abbrev pub IsOver : LinkState → Type 0
IsOver s = (s.ended ≡ true) ⊎ (s.failed ≡ true)

-- an end over its link: these bytes of what was read were taken, and these were said on it
pub record EndStands (e : End) (s : LinkState) (taken said : List ℕ) : Type 0 where
  pub is_open : s.is_open ≡ e.is_open
  pub owed : s.owed ≡ e.is_owed
  pub late : e.is_open ≡ true → s.late ≡ false
  pub paid : s.ended ≡ true → s.owed ≡ false
  pub broken : s.failed ≡ true → e.is_open ≡ false
  pub heard : IsPrefix (taken ++ e.rest) s.input
  pub all_heard : e.is_missing ≡ false → s.input ≡ taken ++ e.rest
  pub put : IsPrefix (s.output ++ e.unsent) said
  pub all_put : e.is_cut ≡ false → s.output ++ e.unsent ≡ said
  pub sent : e.is_open ≡ false → e.unsent ≡ []
  pub over : e.is_over ≡ true → IsOver s
  pub known : IsOver s → e.is_over ≡ true
  pub fails : e.is_broken ≡ true → s.failed ≡ true

-- what a call does for an end, whatever was taken and said
pub record EndStep (old new : End) (before after : PortState) : Type 0 where
  pub number : new.number ≡ old.number
  pub alone : Alone old.number before after
  pub goes : (taken said : List ℕ) → EndStands old (before.link old.number) taken said → EndStands new (after.link old.number) taken said

-- nothing is unsent if the link is open and isn't full
abbrev pub IsSent : End → LinkState → Type 0
IsSent e s = e.is_open ≡ true → s.full ≡ false → e.unsent ≡ []

-- the end was closed, and what was unsent isn't put
pub record IsClosed (old new : End) : Type 0 where
  pub number : new.number ≡ old.number
  pub is_open : new.is_open ≡ false
  pub owed : new.is_owed ≡ old.is_owed
  pub over : new.is_over ≡ old.is_over
  pub broken : new.is_broken ≡ old.is_broken
  pub deaf : new.is_deaf ≡ old.is_deaf
  pub missing : new.is_missing ≡ old.is_missing
  pub rest : new.rest ≡ old.rest
  pub unsent : new.unsent ≡ []
  pub cut : (new.is_cut ≡ true) ⊎ ((new.is_cut ≡ old.is_cut) × (old.unsent ≡ []))
  pub whole : old.unsent ≡ [] → new.is_cut ≡ old.is_cut

-- what writing did to a link: the bytes that were unsent were put, or are unsent still
pub record Writes (old new : End) (before after : LinkState) : Type 0 where
  pub is : new ≡ record old { unsent = new.unsent }
  pub whole : after.output ++ new.unsent ≡ before.output ++ old.unsent
  pub state : after ≡ record before { output = after.output; full = after.full; failed = after.failed }

-- it has the same link, which stands as before, and what was read and not taken is the same
pub record IsSameLink (old new : End) : Type 0 where
  pub number : new.number ≡ old.number
  pub is_open : new.is_open ≡ old.is_open
  pub owed : new.is_owed ≡ old.is_owed
  pub over : new.is_over ≡ old.is_over
  pub broken : new.is_broken ≡ old.is_broken
  pub deaf : new.is_deaf ≡ old.is_deaf
  pub missing : new.is_missing ≡ old.is_missing
