use Rattle.std.proofs.Common.{◌≡◌, Some, map, take}
use Rattle.lsv_check_args.specs.Request.{numbers_in}
use Rattle.lsv_check_args.proofs.words.numbers_in.Given as goal

-- the numbers so far are those of the identifiers so far
abbrev pub invariant-loop-id : goal.invariant-loop-id
invariant-loop-id l = numbers_in (take l.id-index (map (λ t. t.now) l.ids)) ≡ Some l.numbers.items
