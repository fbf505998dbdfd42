use Rattle.lsv_verdict.proofs.text.+add_last_digits.Given as goal

-- the digits that are left
abbrev pub decreases-add_last_digits : goal.decreases-add_last_digits
decreases-add_last_digits l = l.count
