-- Which paths may not be meant as they stand.
use Rattle.std.specs.Prelude.{ℕ, List, Option, Some, None, codes}
use Rattle.std.specs.Str.Pattern.{FindsChar, FindsCharPrefix, FindsText}
use Rattle.lsv_real_disk.specs.declared.doubt.Doubt.{Doubt}
use Rattle.lsv_real_disk.specs.declared.doubt.Doubt.TheVariants.{Quote, Escape, Relative}

-- the first doubt about a path: it has a quote, it has an escape of sudo's own server, or it doesn't begin with a slash
abbrev pub IsDoubt : List ℕ → Option Doubt → Type 0
IsDoubt path (Some Quote) = (i j : ℕ) × FindsChar 34 path (Some (i, j))
IsDoubt path (Some Escape) = FindsChar 34 path None × ((i j : ℕ) × FindsText (codes "%{") path (Some (i, j)))
IsDoubt path (Some Relative) = FindsChar 34 path None × FindsText (codes "%{") path None × FindsCharPrefix 47 path None
IsDoubt path None = FindsChar 34 path None × FindsText (codes "%{") path None × ((n : ℕ) × FindsCharPrefix 47 path (Some n))
