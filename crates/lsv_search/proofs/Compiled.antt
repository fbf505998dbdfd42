-- A pattern that regex has compiled.
use Rattle.std.proofs.Common.{◌≡◌, ◌<◌, ℕ, List, get_or, Option, Some, None, is_some, refl, subst}
use Rattle.std.specs.Prelude.{chars}
use Rattle.regex_hir.specs.Re.{Re}
use Rattle.regex_hir.specs.Find.{find_str}
use Rattle.regex_syntax.specs.Brackets.{Nested}
use Rattle.regex_syntax.specs.Grammar.{Names, read}
use Rattle.regex_syntax.specs.Verdict.{Reads, default_config}
use Rattle.regex_syntax.specs.declared.Config.{Config}
use Rattle.regex.specs.Names.{names_of}
use Rattle.regex.specs.Strings.{regex_config, regex_pattern, regex_source, IsReadFromSource}
use Rattle.regex.specs.declared.string.regex.Regex.{Regex}
use Rattle.regex.proofs.OnLiterals.{IsReadAs, is_match_as_written, same_refl}
use Rattle.lsv_search.specs.Patterns.{IsPattern, has_match, is_found}

-- the text of a compiled pattern is a pattern
pub compiled_is_pattern : (r : Regex) (text : List ℕ) → regex_source r ≡ text → regex_config r ≡ default_config → IsReadFromSource r → IsPattern text
unfolding IsPattern
compiled_is_pattern r text source config reads =
    let hir = r.pattern.program.hir in
    let found = names_of r.pattern.names.items in (
      hir,
      found,
      subst (λ (t : List ℕ). Reads default_config t hir found) source (subst (λ (c : Config). Reads c (regex_source r) hir found) config reads),
    )

-- where a text is read as nothing there is no compiled pattern of it
unread : (r : Regex) → regex_config r ≡ default_config → IsReadFromSource r → read default_config (chars (regex_source r)) ≡ None → ⊥
unfolding Reads
unread r config reads none =
    let hir = r.pattern.program.hir in
    let found = names_of r.pattern.names.items in
    let here : Reads default_config (regex_source r) hir found = subst (λ (c : Config). Reads c (regex_source r) hir found) config reads in
    rw none at here

-- and where it is read as a pattern it matches as that does
read_as : (source : List ℕ) (pattern : Nested Re × Names) → read default_config (chars source) ≡ Some pattern → IsReadAs default_config source pattern.0.value
read_as source pattern is = rw is (same_refl pattern.0.value)

found_by : (r : Regex) (hay : List ℕ) (o : Option (Nested Re × Names)) → regex_config r ≡ default_config → IsReadFromSource r → ((k : ℕ) → get_or hay k 0 < 256)
    → read default_config (chars (regex_source r)) ≡ o → is_some (find_str (regex_pattern r) hay 0) ≡ has_match o hay
found_by r hay None config reads bytes is = absurd (unread r config reads is)
found_by r hay (Some pattern) config reads bytes is = is_match_as_written r (regex_source r) pattern.0.value refl config reads (read_as (regex_source r) pattern is) hay bytes 0

-- a compiled pattern has a match where its text has one
pub compiled_is_found : (r : Regex) (hay : List ℕ) → regex_config r ≡ default_config → IsReadFromSource r → ((k : ℕ) → get_or hay k 0 < 256) → is_some (find_str (regex_pattern r) hay 0) ≡ is_found (regex_source r) hay
unfolding is_found
compiled_is_found r hay config reads bytes = found_by r hay (read default_config (chars (regex_source r))) config reads bytes refl
