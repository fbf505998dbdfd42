-- Which names the store keeps for itself in the folder of the logs.
use Rattle.std.specs.Prelude.{ℕ, List, Bool, false, ◌||◌, ◌&&◌, ◌+◌, ◌==◌, ◌∷◌, codes, drop, get_or, is_some, length, nat_eq, nat_lt}
use Rattle.std.specs.List.{starts_with}
use Rattle.lsv_base.specs.LogNo.{is_digit}
use Rattle.std.specs.Str.{bytes_eq}
use Rattle.lsv_real_disk.specs.Drawn.{folder_name_in}

-- a name that begins with seq, lock, relay.lock, or that of a folder of logs
abbrev pub is_own_name : List ℕ → Bool
is_own_name name = starts_with (◌==◌) name (codes "seq") || bytes_eq name (codes "lock") || bytes_eq name (codes "relay.lock") || is_some (folder_name_in name)

-- a path leads through a folder
abbrev pub is_below : List ℕ → List ℕ → Bool
is_below folder path = starts_with (◌==◌) path folder && nat_lt (length folder) (length path) && nat_eq (get_or path (length folder) 0) 47

-- names with slashes between them begin with that of a folder of logs
abbrev pub begins_folder : List ℕ → Bool
begins_folder (a ∷ b ∷ c ∷ rest) = is_digit a && is_digit b && nat_eq c 47
begins_folder _ = false

-- names begin with one that the store keeps for itself
abbrev pub begins_own : List ℕ → Bool
begins_own names = is_own_name names || starts_with (◌==◌) names (codes "lock/") || starts_with (◌==◌) names (codes "relay.lock/") || begins_folder names

-- a path is the folder of the logs, leads to a folder above it, or through a name there that the store keeps for itself
abbrev pub is_in_store : List ℕ → List ℕ → Bool
is_in_store logs path = bytes_eq path logs || is_below path logs || is_below logs path && begins_own (drop (length logs + 1) path)
