-- What a count of faults says of a call: each fault that an object of the outside answers raises its count.
use Rattle.std.specs.Prelude.{ℕ, ◌<◌, ◌-◌, ◌^◌}

-- the count has risen, where a count that stands at its last value now is taken as one that rose
abbrev pub HasRisen : ℕ → ℕ → Type 0
HasRisen before now = now < 2 ^ 64 - 1 → before < now
