-- The port of the server, as the command line has it.
use Rattle.std.specs.Prelude.{ℕ, List, [], ◌∷◌, Bool, false, not, ◌==◌, ◌&&◌, nat_le}
use Rattle.std.specs.Option.{option_map_or}
use Rattle.lsv_replay_args.specs.Decimal.{digits_in}

-- digits begin with a zero
abbrev pub leads_with_zero : List ℕ → Bool
leads_with_zero [] = false
leads_with_zero (b ∷ digits) = b == 48

-- digits are a port: a number from 1 to 65535 without a leading zero
abbrev pub is_port : List ℕ → Bool
is_port digits = not (leads_with_zero digits) && option_map_or (λ port. nat_le port 65535) (digits_in digits) false
