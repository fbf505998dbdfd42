-- Varints of the protobuf encoding: seven bits a byte, the least significant group first; the top bit of a byte says that another follows.
use Rattle.std.specs.Prelude.{ℕ, zero, suc, ◌+◌, ◌*◌, ◌/◌, ◌%◌, List, [], ◌∷◌, nat_lt, if◌then◌else◌}

-- how many bytes from the front on say that another follows
abbrev pub continued : List ℕ → ℕ
continued [] = 0
continued (b ∷ bs) = if nat_lt b 128 then 0 else suc (continued bs)

-- what these groups of seven bits stand for
abbrev pub grouped : List ℕ → ℕ
grouped [] = 0
grouped (b ∷ bs) = b % 128 + 128 * grouped bs

-- the shortest spelling of a number with at most this many bytes that say that another follows
abbrev pub spelled_within : ℕ → ℕ → List ℕ
spelled_within zero n = n ∷ []
spelled_within (suc more) n = if nat_lt n 128 then n ∷ [] else (n % 128 + 128) ∷ spelled_within more (n / 128)

-- the shortest spelling of a number below 2 ^ 64
unfoldable pub varint : ℕ → List ℕ
varint n = spelled_within 9 n
