-- Each part of a shape is found at its place, once.
use Rattle.std.proofs.Common.{◌≡◌, ◌≢◌, ◌⊎◌, inl, inr, ℕ, zero, suc, ◌+◌, ◌≤◌, List, [], ◌∷◌, length, map, refl, sym, ◌∙◌, ap, subst, arith}
use Rattle.std.specs.Prelude.{slice_index, slice_index_or, replicate, ◌-◌, ◌++◌}
use Rattle.lsv_disk.specs.declared.file.FileId.{FileId}
use Rattle.lsv_disk.specs.declared.file.Owner.{Owner}
use Rattle.lsv_disk.specs.declared.file.Part.{Part}
use Rattle.lsv_disk.specs.declared.file.Part.TheVariants.{Head, Exit, Timing, Stdin, Stdout, Stderr, Ttyin, Ttyout, Lines, Id, Commit, Slots}
use Rattle.lsv_bundle.specs.declared.shape.Shape.{Shape}
use Rattle.lsv_bundle.specs.declared.shape.Shape.TheVariants as shape
use Rattle.lsv_disk.specs.Files.{file_of, IsOneOf, AreDistinct}
use Rattle.lsv_bundle.specs.Shape.{parts_of, IsPart, on_shape, index_of, eight, journal_of, IsDataFile, IsWritable}
use Rattle.lsv_bundle.specs.Value.{FileView}
use Rattle.lsv_bundle.specs.Represents.{Each}
use Rattle.lsv_bundle.specs.InnerFiles.{IsAmong, IsStagedAmong, Differ, all_parts_of, EachPart, commit_file}
use Rattle.lsv_bundle.proofs.Journals.{data_not_journal}

-- the file of a list that stands at that place, and what the list has there
pub record IsFound (P : FileView → Type 0) (files : List FileView) (part : Part) : Type 0 where
  pub file : FileView
  pub has : P file
  pub part_is : file.part ≡ part
  pub length_is : slice_index (map (λ f. f.committed) files) (index_of part) ≡ file.committed
  pub staged_is : slice_index_or (map (λ f. f.staged) files) (index_of part) [] ≡ file.staged

-- a list with such a part first
record IsCons (files : List FileView) (part : Part) (parts : List Part) : Type 0 where
  first : FileView
  rest : List FileView
  split : files ≡ first ∷ rest
  part_is : first.part ≡ part
  others : map (λ f. f.part) rest ≡ parts

split_map : (files : List FileView) (part : Part) (parts : List Part) → map (λ f. f.part) files ≡ part ∷ parts → IsCons files part parts
split_map [] part parts e = absurd (let no : ⊥ = cc in no)
split_map (file ∷ files) part parts e = record { first = file; rest = files; split = refl; part_is = cc; others = cc }

split_none : (files : List FileView) → map (λ f. f.part) files ≡ [] → files ≡ []
split_none [] e = refl
split_none (file ∷ files) e = absurd (let no : ⊥ = cc in no)

-- the eight files of a log
record IsLog (files : List FileView) : Type 0 where
  a : FileView
  b : FileView
  c : FileView
  d : FileView
  e : FileView
  f : FileView
  g : FileView
  h : FileView
  all : files ≡ a ∷ b ∷ c ∷ d ∷ e ∷ f ∷ g ∷ h ∷ []
  a_is : a.part ≡ Head
  b_is : b.part ≡ Exit
  c_is : c.part ≡ Timing
  d_is : d.part ≡ Stdin
  e_is : e.part ≡ Stdout
  f_is : f.part ≡ Stderr
  g_is : g.part ≡ Ttyin
  h_is : h.part ≡ Ttyout

glue : (files : List FileView) (first : FileView) (rest more : List FileView) → files ≡ first ∷ rest → rest ≡ more → files ≡ first ∷ more
glue files first rest more split e = split ∙ ap (λ (l : List FileView). first ∷ l) e

is_log : (files : List FileView) → map (λ f. f.part) files ≡ parts_of shape.Log → IsLog files
is_log files parts =
    let one = split_map files Head (Exit ∷ Timing ∷ Stdin ∷ Stdout ∷ Stderr ∷ Ttyin ∷ Ttyout ∷ []) parts in
    let two = split_map one.rest Exit (Timing ∷ Stdin ∷ Stdout ∷ Stderr ∷ Ttyin ∷ Ttyout ∷ []) one.others in
    let three = split_map two.rest Timing (Stdin ∷ Stdout ∷ Stderr ∷ Ttyin ∷ Ttyout ∷ []) two.others in
    let four = split_map three.rest Stdin (Stdout ∷ Stderr ∷ Ttyin ∷ Ttyout ∷ []) three.others in
    let five = split_map four.rest Stdout (Stderr ∷ Ttyin ∷ Ttyout ∷ []) four.others in
    let six = split_map five.rest Stderr (Ttyin ∷ Ttyout ∷ []) five.others in
    let seven = split_map six.rest Ttyin (Ttyout ∷ []) six.others in
    let eight = split_map seven.rest Ttyout [] seven.others in
    record {
      a = one.first;
      b = two.first;
      c = three.first;
      d = four.first;
      e = five.first;
      f = six.first;
      g = seven.first;
      h = eight.first;
      all = glue files one.first one.rest (two.first ∷ three.first ∷ four.first ∷ five.first ∷ six.first ∷ seven.first ∷ eight.first ∷ []) one.split (
          glue one.rest two.first two.rest (three.first ∷ four.first ∷ five.first ∷ six.first ∷ seven.first ∷ eight.first ∷ []) two.split (
          glue two.rest three.first three.rest (four.first ∷ five.first ∷ six.first ∷ seven.first ∷ eight.first ∷ []) three.split (
          glue three.rest four.first four.rest (five.first ∷ six.first ∷ seven.first ∷ eight.first ∷ []) four.split (
          glue four.rest five.first five.rest (six.first ∷ seven.first ∷ eight.first ∷ []) five.split (
          glue five.rest six.first six.rest (seven.first ∷ eight.first ∷ []) six.split (
          glue six.rest seven.first seven.rest (eight.first ∷ []) seven.split (
          glue seven.rest eight.first eight.rest [] eight.split (split_none eight.rest eight.others))))))));
      a_is = one.part_is;
      b_is = two.part_is;
      c_is = three.part_is;
      d_is = four.part_is;
      e_is = five.part_is;
      f_is = six.part_is;
      g_is = seven.part_is;
      h_is = eight.part_is;
    }

log_found : (P : FileView → Type 0) (files : List FileView) (log : IsLog files) → Each P (log.a ∷ log.b ∷ log.c ∷ log.d ∷ log.e ∷ log.f ∷ log.g ∷ log.h ∷ [])
    → (part : Part) → IsPart shape.Log part → IsFound P (log.a ∷ log.b ∷ log.c ∷ log.d ∷ log.e ∷ log.f ∷ log.g ∷ log.h ∷ []) part
log_found P files log each Head is = record { file = log.a; has = each.0; part_is = log.a_is; length_is = refl; staged_is = refl }
log_found P files log each Exit is = record { file = log.b; has = each.1.0; part_is = log.b_is; length_is = refl; staged_is = refl }
log_found P files log each Timing is = record { file = log.c; has = each.1.1.0; part_is = log.c_is; length_is = refl; staged_is = refl }
log_found P files log each Stdin is = record { file = log.d; has = each.1.1.1.0; part_is = log.d_is; length_is = refl; staged_is = refl }
log_found P files log each Stdout is = record { file = log.e; has = each.1.1.1.1.0; part_is = log.e_is; length_is = refl; staged_is = refl }
log_found P files log each Stderr is = record { file = log.f; has = each.1.1.1.1.1.0; part_is = log.f_is; length_is = refl; staged_is = refl }
log_found P files log each Ttyin is = record { file = log.g; has = each.1.1.1.1.1.1.0; part_is = log.g_is; length_is = refl; staged_is = refl }
log_found P files log each Ttyout is = record { file = log.h; has = each.1.1.1.1.1.1.1.0; part_is = log.h_is; length_is = refl; staged_is = refl }
log_found P files log each Lines is = elim is [ ]
log_found P files log each Id is = elim is [ ]
log_found P files log each Commit is = elim is [ ]
log_found P files log each Slots is = elim is [ ]

-- a shape of one part
one_found : (P : FileView → Type 0) (files : List FileView) (only part : Part) → map (λ f. f.part) files ≡ only ∷ [] → index_of only ≡ 0 → Each P files → part ≡ only → IsFound P files part
one_found P [] only part e place each is = absurd (let no : ⊥ = cc in no)
one_found P (file ∷ []) only part e place each is =
    subst (λ (p : Part). IsFound P (file ∷ []) p) (sym is) (record {
      file = file;
      has = each.0;
      part_is = cc;
      length_is = ap (λ (i : ℕ). slice_index (file.committed ∷ []) i) place;
      staged_is = ap (λ (i : ℕ). slice_index_or (file.staged ∷ []) i []) place;
    })
one_found P (file ∷ other ∷ files) only part e place each is = absurd (let no : ⊥ = cc in no)

-- what holds of each file holds of the file of a part
pub found : (P : FileView → Type 0) (s : Shape) (files : List FileView) → map (λ f. f.part) files ≡ parts_of s → Each P files → (part : Part) → IsPart s part → IsFound P files part
found P shape.Log files parts each part is =
    let log = is_log files parts in
    subst (λ (fs : List FileView). IsFound P fs part) (sym log.all) (log_found P files log (subst (λ (fs : List FileView). Each P fs) log.all each) part is)
found P shape.Lines files parts each part is = one_found P files Lines part parts refl each is
found P shape.Relay files parts each part is = one_found P files Id part parts refl each is

-- the parts of a log differ
log_differ : (files : List FileView) (log : IsLog files) → Differ (log.a ∷ log.b ∷ log.c ∷ log.d ∷ log.e ∷ log.f ∷ log.g ∷ log.h ∷ [])
log_differ files log = (
  (λ e. cc, (λ e. cc, (λ e. cc, (λ e. cc, (λ e. cc, (λ e. cc, (λ e. cc, tt))))))),
  (
    (λ e. cc, (λ e. cc, (λ e. cc, (λ e. cc, (λ e. cc, (λ e. cc, tt)))))),
    (
      (λ e. cc, (λ e. cc, (λ e. cc, (λ e. cc, (λ e. cc, tt))))),
      (
        (λ e. cc, (λ e. cc, (λ e. cc, (λ e. cc, tt)))),
        (
          (λ e. cc, (λ e. cc, (λ e. cc, tt))),
          (
            (λ e. cc, (λ e. cc, tt)),
            (
              (λ e. cc, tt),
              (
                tt,
                tt,
              ),
            ),
          ),
        ),
      ),
    ),
  ),
)

one_differ : (files : List FileView) (only : Part) → map (λ f. f.part) files ≡ only ∷ [] → Differ files
one_differ [] only e = tt
one_differ (file ∷ []) only e = (tt, tt)
one_differ (file ∷ other ∷ files) only e = absurd (let no : ⊥ = cc in no)

-- the parts of a shape differ
pub shape_differs : (s : Shape) (files : List FileView) → map (λ f. f.part) files ≡ parts_of s → Differ files
shape_differs shape.Log files parts = let log = is_log files parts in subst Differ (sym log.all) (log_differ files log)
shape_differs shape.Lines files parts = one_differ files Lines parts
shape_differs shape.Relay files parts = one_differ files Id parts

-- a part that is one of the shape's
is_part : (s : Shape) (file : FileView) (part : Part) → file.part ≡ part → IsPart s part → IsPart s file.part
is_part s file part e is = subst (λ (p : Part). IsPart s p) (sym e) is

log_parts : (files : List FileView) (log : IsLog files) → Each (λ file. IsPart shape.Log file.part) (log.a ∷ log.b ∷ log.c ∷ log.d ∷ log.e ∷ log.f ∷ log.g ∷ log.h ∷ [])
log_parts files log = (
  is_part shape.Log log.a Head log.a_is tt,
  (
    is_part shape.Log log.b Exit log.b_is tt,
    (
      is_part shape.Log log.c Timing log.c_is tt,
      (
        is_part shape.Log log.d Stdin log.d_is tt,
        (
          is_part shape.Log log.e Stdout log.e_is tt,
          (
            is_part shape.Log log.f Stderr log.f_is tt,
            (
              is_part shape.Log log.g Ttyin log.g_is tt,
              (is_part shape.Log log.h Ttyout log.h_is tt, tt),
            ),
          ),
        ),
      ),
    ),
  ),
)

one_part : (s : Shape) (files : List FileView) (only : Part) → map (λ f. f.part) files ≡ only ∷ [] → IsPart s only → Each (λ file. IsPart s file.part) files
one_part s [] only e is = tt
one_part s (file ∷ []) only e is = (is_part s file only (cc) is, tt)
one_part s (file ∷ other ∷ files) only e is = absurd (let no : ⊥ = cc in no)

-- the files of a shape are of its parts
pub shape_parts : (s : Shape) (files : List FileView) → map (λ f. f.part) files ≡ parts_of s → Each (λ file. IsPart s file.part) files
shape_parts shape.Log files parts = let log = is_log files parts in subst (λ (fs : List FileView). Each (λ file. IsPart shape.Log file.part) fs) (sym log.all) (log_parts files log)
shape_parts shape.Lines files parts = one_part shape.Lines files Lines parts refl
shape_parts shape.Relay files parts = one_part shape.Relay files Id parts refl

among_data : (owner : Owner) (s : Shape) (files : List FileView) → Each (λ file. IsPart s file.part) files → (g : FileId) → IsAmong owner files g → IsDataFile owner s g
among_data owner s [] each g among = elim among [ ]
among_data owner s (file ∷ files) each g among = elim among [ inl is ↦ (file.part, each.0, is) | inr there ↦ among_data owner s files each.1 g there ]

-- one of the files is a data file of the owner's bundle
pub among_is_data : (owner : Owner) (s : Shape) (files : List FileView) → map (λ f. f.part) files ≡ parts_of s → (g : FileId) → IsAmong owner files g → IsDataFile owner s g
among_is_data owner s files parts = among_data owner s files (shape_parts s files parts)

-- each part's length stands at its place
pub eight_at : (s : Shape) (lengths : Part → ℕ) (part : Part) → IsPart s part → slice_index (eight s lengths) (index_of part) ≡ lengths part
eight_at shape.Log lengths Head is = refl
eight_at shape.Log lengths Exit is = refl
eight_at shape.Log lengths Timing is = refl
eight_at shape.Log lengths Stdin is = refl
eight_at shape.Log lengths Stdout is = refl
eight_at shape.Log lengths Stderr is = refl
eight_at shape.Log lengths Ttyin is = refl
eight_at shape.Log lengths Ttyout is = refl
eight_at shape.Log lengths Lines is = elim is [ ]
eight_at shape.Log lengths Id is = elim is [ ]
eight_at shape.Log lengths Commit is = elim is [ ]
eight_at shape.Log lengths Slots is = elim is [ ]
eight_at shape.Lines lengths part is = subst (λ (p : Part). slice_index (eight shape.Lines lengths) (index_of p) ≡ lengths p) (sym is) refl
eight_at shape.Relay lengths part is = subst (λ (p : Part). slice_index (eight shape.Relay lengths) (index_of p) ≡ lengths p) (sym is) refl

-- once what is staged is committed, this many bytes are, and nothing is staged
pub commit_lengths : (files : List FileView) (i : ℕ) → slice_index (map (λ f. f.committed) (map commit_file files)) i ≡ slice_index (map (λ f. f.committed) files) i + length (slice_index_or (map (λ f. f.staged) files) i [])
commit_lengths [] i = refl
commit_lengths (file ∷ files) zero = refl
commit_lengths (file ∷ files) (suc i) = commit_lengths files i

pub commit_staged : (files : List FileView) (i : ℕ) → slice_index_or (map (λ f. f.staged) (map commit_file files)) i [] ≡ []
commit_staged [] i = refl
commit_staged (file ∷ files) zero = refl
commit_staged (file ∷ files) (suc i) = commit_staged files i

pub commit_parts : (files : List FileView) → map (λ f. f.part) (map commit_file files) ≡ map (λ f. f.part) files
commit_parts [] = refl
commit_parts (file ∷ files) = ap (λ (l : List Part). file.part ∷ l) (commit_parts files)

abbrev staged_at : List FileView → Part → List ℕ
staged_at files part = slice_index_or (map (λ f. f.staged) files) (index_of part) []

-- each file's staged bytes stand at its part's place
log_staged : (files : List FileView) (log : IsLog files) → Each (λ file. staged_at (log.a ∷ log.b ∷ log.c ∷ log.d ∷ log.e ∷ log.f ∷ log.g ∷ log.h ∷ []) file.part ≡ file.staged) (log.a ∷ log.b ∷ log.c ∷ log.d ∷ log.e ∷ log.f ∷ log.g ∷ log.h ∷ [])
log_staged files log =
    let all : List FileView = log.a ∷ log.b ∷ log.c ∷ log.d ∷ log.e ∷ log.f ∷ log.g ∷ log.h ∷ [] in (
      ap (staged_at all) log.a_is,
      (
        ap (staged_at all) log.b_is,
        (
          ap (staged_at all) log.c_is,
          (
            ap (staged_at all) log.d_is,
            (
              ap (staged_at all) log.e_is,
              (
                ap (staged_at all) log.f_is,
                (
                  ap (staged_at all) log.g_is,
                  (ap (staged_at all) log.h_is, tt),
                ),
              ),
            ),
          ),
        ),
      ),
    )

one_staged : (files : List FileView) (only : Part) → map (λ f. f.part) files ≡ only ∷ [] → index_of only ≡ 0 → Each (λ file. staged_at files file.part ≡ file.staged) files
one_staged [] only e place = tt
one_staged (file ∷ []) only e place =
    let is : file.part ≡ only = cc in
    (ap (λ (i : ℕ). slice_index_or (file.staged ∷ []) i []) (ap index_of is ∙ place), tt)
one_staged (file ∷ other ∷ files) only e place = absurd (let no : ⊥ = cc in no)

shape_staged : (s : Shape) (files : List FileView) → map (λ f. f.part) files ≡ parts_of s → Each (λ file. staged_at files file.part ≡ file.staged) files
shape_staged shape.Log files parts =
    let log = is_log files parts in
    subst (λ (fs : List FileView). Each (λ file. staged_at fs file.part ≡ file.staged) fs) (sym log.all) (log_staged files log)
shape_staged shape.Lines files parts = one_staged files Lines parts refl
shape_staged shape.Relay files parts = one_staged files Id parts refl

none_among : (owner : Owner) (all files : List FileView) (part : Part) → Each (λ file. staged_at all file.part ≡ file.staged) files → staged_at all part ≡ [] → IsStagedAmong owner files (file_of owner part) → ⊥
none_among owner all [] part each none among = among
none_among owner all (file ∷ files) part each none among = elim among [
  | inl here ↦ here.1 (sym each.0 ∙ ap (λ (f : FileId). staged_at all f.part) (sym here.0) ∙ none)
  | inr there ↦ none_among owner all files part each.1 none there
]

-- of a part of which nothing is staged, nothing is written
pub not_staged : (owner : Owner) (s : Shape) (files : List FileView) → map (λ f. f.part) files ≡ parts_of s → (part : Part) → staged_at files part ≡ [] → IsStagedAmong owner files (file_of owner part) → ⊥
not_staged owner s files parts part none = none_among owner files files part (shape_staged s files parts) none

-- the lengths of the next entry
abbrev next_of : List FileView → Part → ℕ
next_of files part = slice_index (map (λ f. f.committed) files) (index_of part) + length (slice_index_or (map (λ f. f.staged) files) (index_of part) [])

one_lengths : (s : Shape) (files : List FileView) (only : Part) → parts_of s ≡ only ∷ [] → index_of only ≡ 0 → map (λ f. f.part) files ≡ only ∷ []
    → map (λ f. f.committed + length f.staged) files ++ replicate (8 - length files) 0 ≡ eight s (next_of files)
one_lengths s [] only shape place e = absurd (let none : ⊥ = cc in none)
one_lengths s (file ∷ []) only shape place e =
    subst (λ (ps : List Part). (file.committed + length file.staged) ∷ replicate 7 0 ≡ map (next_of (file ∷ [])) ps ++ replicate (8 - length ps) 0) (sym shape)
    (ap (λ (i : ℕ). (slice_index (file.committed ∷ []) i + length (slice_index_or (file.staged ∷ []) i [])) ∷ replicate 7 0) (sym place))
one_lengths s (file ∷ other ∷ files) only shape place e = absurd (let none : ⊥ = cc in none)

-- are those of its files, and 0 where there is none
pub shape_lengths : (s : Shape) (files : List FileView) → map (λ f. f.part) files ≡ parts_of s
    → map (λ f. f.committed + length f.staged) files ++ replicate (8 - length files) 0 ≡ eight s (λ part. slice_index (map (λ f. f.committed) files) (index_of part) + length (slice_index_or (map (λ f. f.staged) files) (index_of part) []))
shape_lengths shape.Log files parts =
    let log = is_log files parts in
    subst (λ (fs : List FileView). map (λ f. f.committed + length f.staged) fs ++ replicate (8 - length fs) 0 ≡ eight shape.Log (next_of fs)) (sym log.all) refl
shape_lengths shape.Lines files parts = one_lengths shape.Lines files Lines refl refl parts
shape_lengths shape.Relay files parts = one_lengths shape.Relay files Id refl refl parts

-- what is told of each file of the shape, for a part of it
pub on_part : (s : Shape) (bytes : Part → List ℕ) (part : Part) → IsPart s part → on_shape s bytes part ≡ bytes part
unfolding on_shape
on_part shape.Log bytes Head is = refl
on_part shape.Log bytes Exit is = refl
on_part shape.Log bytes Timing is = refl
on_part shape.Log bytes Stdin is = refl
on_part shape.Log bytes Stdout is = refl
on_part shape.Log bytes Stderr is = refl
on_part shape.Log bytes Ttyin is = refl
on_part shape.Log bytes Ttyout is = refl
on_part shape.Log bytes Lines is = elim is [ ]
on_part shape.Log bytes Id is = elim is [ ]
on_part shape.Log bytes Commit is = elim is [ ]
on_part shape.Log bytes Slots is = elim is [ ]
on_part shape.Lines bytes part is = subst (λ (p : Part). on_shape shape.Lines bytes p ≡ bytes p) (sym is) refl
on_part shape.Relay bytes part is = subst (λ (p : Part). on_shape shape.Relay bytes p ≡ bytes p) (sym is) refl

same_at : (s : Shape) (a b : Part → List ℕ) → ((part : Part) → IsPart s part → a part ≡ b part) → (part : Part) → on_shape s a part ≡ on_shape s b part
unfolding on_shape
same_at shape.Log a b same Lines = refl
same_at shape.Log a b same Id = refl
same_at shape.Log a b same Commit = refl
same_at shape.Log a b same Slots = refl
same_at shape.Log a b same Head = same Head tt
same_at shape.Log a b same Exit = same Exit tt
same_at shape.Log a b same Timing = same Timing tt
same_at shape.Log a b same Stdin = same Stdin tt
same_at shape.Log a b same Stdout = same Stdout tt
same_at shape.Log a b same Stderr = same Stderr tt
same_at shape.Log a b same Ttyin = same Ttyin tt
same_at shape.Log a b same Ttyout = same Ttyout tt
same_at shape.Lines a b same Lines = same Lines refl
same_at shape.Lines a b same part = refl
same_at shape.Relay a b same Id = same Id refl
same_at shape.Relay a b same part = refl

-- and the same bytes of each of its parts are the same of all
pub on_same : (s : Shape) (a b : Part → List ℕ) → ((part : Part) → IsPart s part → a part ≡ b part) → on_shape s a ≡ on_shape s b
on_same s a b same i part = same_at s a b same part i

-- what holds of each part of the list holds of a part of the shape
each_found : (P : Part → Type 0) (parts : List Part) → EachPart P parts → (owner : Owner) (part : Part) → IsOneOf owner parts (file_of owner part) → P part
each_found P [] each owner part is = elim is [ ]
each_found P (first ∷ parts) each owner part is = elim is [
  | inl here ↦ subst P (sym (ap (λ (f : FileId). f.part) here)) each.0
  | inr there ↦ each_found P parts each.1 owner part there
]

-- a shape's part is one of its parts
pub part_one_of : (owner : Owner) (s : Shape) (part : Part) → IsPart s part → IsOneOf owner (parts_of s) (file_of owner part)
part_one_of owner shape.Log Head is = inl refl
part_one_of owner shape.Log Exit is = inr (inl refl)
part_one_of owner shape.Log Timing is = inr (inr (inl refl))
part_one_of owner shape.Log Stdin is = inr (inr (inr (inl refl)))
part_one_of owner shape.Log Stdout is = inr (inr (inr (inr (inl refl))))
part_one_of owner shape.Log Stderr is = inr (inr (inr (inr (inr (inl refl)))))
part_one_of owner shape.Log Ttyin is = inr (inr (inr (inr (inr (inr (inl refl))))))
part_one_of owner shape.Log Ttyout is = inr (inr (inr (inr (inr (inr (inr (inl refl)))))))
part_one_of owner shape.Log Lines is = elim is [ ]
part_one_of owner shape.Log Id is = elim is [ ]
part_one_of owner shape.Log Commit is = elim is [ ]
part_one_of owner shape.Log Slots is = elim is [ ]
part_one_of owner shape.Lines part is = inl (ap (file_of owner) is)
part_one_of owner shape.Relay part is = inl (ap (file_of owner) is)

pub each_part : (P : Part → Type 0) (owner : Owner) (s : Shape) → EachPart P (parts_of s) → (part : Part) → IsPart s part → P part
each_part P owner s each part is = each_found P (parts_of s) each owner part (part_one_of owner s part is)

-- and one of its parts is the shape's
pub one_of_is_data : (owner : Owner) (s : Shape) (f : FileId) → IsOneOf owner (parts_of s) f → IsDataFile owner s f
one_of_is_data owner shape.Log f is = elim is [
  | inl e ↦ (Head, tt, e)
  | inr (inl e) ↦ (Exit, tt, e)
  | inr (inr (inl e)) ↦ (Timing, tt, e)
  | inr (inr (inr (inl e))) ↦ (Stdin, tt, e)
  | inr (inr (inr (inr (inl e)))) ↦ (Stdout, tt, e)
  | inr (inr (inr (inr (inr (inl e))))) ↦ (Stderr, tt, e)
  | inr (inr (inr (inr (inr (inr (inl e)))))) ↦ (Ttyin, tt, e)
  | inr (inr (inr (inr (inr (inr (inr (inl e))))))) ↦ (Ttyout, tt, e)
  | inr (inr (inr (inr (inr (inr (inr (inr none))))))) ↦ elim none [ ]
]
one_of_is_data owner shape.Lines f is = elim is [ inl e ↦ (Lines, refl, e) | inr none ↦ elim none [ ] ]
one_of_is_data owner shape.Relay f is = elim is [ inl e ↦ (Id, refl, e) | inr none ↦ elim none [ ] ]

-- no part of the list is this one
none_of : (owner : Owner) (part : Part) (parts : List Part) → EachPart (λ other. other ≢ part) parts → IsOneOf owner parts (file_of owner part) → ⊥
none_of owner part [] each is = is
none_of owner part (first ∷ parts) each is = elim is [
  | inl here ↦ each.0 (sym (ap (λ (f : FileId). f.part) here))
  | inr there ↦ none_of owner part parts each.1 there
]

-- the parts of a shape are distinct
pub shape_distinct : (owner : Owner) (s : Shape) → AreDistinct owner (parts_of s)
shape_distinct owner shape.Log = (
  none_of owner Head (Exit ∷ Timing ∷ Stdin ∷ Stdout ∷ Stderr ∷ Ttyin ∷ Ttyout ∷ []) (λ e. cc, (λ e. cc, (λ e. cc, (λ e. cc, (λ e. cc, (λ e. cc, (λ e. cc, tt))))))),
  (
    none_of owner Exit (Timing ∷ Stdin ∷ Stdout ∷ Stderr ∷ Ttyin ∷ Ttyout ∷ []) (λ e. cc, (λ e. cc, (λ e. cc, (λ e. cc, (λ e. cc, (λ e. cc, tt)))))),
    (
      none_of owner Timing (Stdin ∷ Stdout ∷ Stderr ∷ Ttyin ∷ Ttyout ∷ []) (λ e. cc, (λ e. cc, (λ e. cc, (λ e. cc, (λ e. cc, tt))))),
      (
        none_of owner Stdin (Stdout ∷ Stderr ∷ Ttyin ∷ Ttyout ∷ []) (λ e. cc, (λ e. cc, (λ e. cc, (λ e. cc, tt)))),
        (
          none_of owner Stdout (Stderr ∷ Ttyin ∷ Ttyout ∷ []) (λ e. cc, (λ e. cc, (λ e. cc, tt))),
          (
            none_of owner Stderr (Ttyin ∷ Ttyout ∷ []) (λ e. cc, (λ e. cc, tt)),
            (
              none_of owner Ttyin (Ttyout ∷ []) (λ e. cc, tt),
              (
                none_of owner Ttyout [] tt,
                tt,
              ),
            ),
          ),
        ),
      ),
    ),
  ),
)
shape_distinct owner shape.Lines = (λ is. is, tt)
shape_distinct owner shape.Relay = (λ is. is, tt)

-- the journal's part after the parts of a list
module _ (owner : Owner) where
  some_more : (parts : List Part) (f : FileId) → IsOneOf owner parts f → IsOneOf owner (parts ++ (Slots ∷ [])) f
  some_more [] f is = elim is [ ]
  some_more (part ∷ parts) f is = elim is [ inl here ↦ inl here | inr there ↦ inr (some_more parts f there) ]

  last_more : (parts : List Part) → IsOneOf owner (parts ++ (Slots ∷ [])) (journal_of owner)
  last_more [] = inl refl
  last_more (part ∷ parts) = inr (last_more parts)

  one_of_more : (parts : List Part) (f : FileId) → IsOneOf owner (parts ++ (Slots ∷ [])) f → IsOneOf owner parts f ⊎ (f ≡ journal_of owner)
  one_of_more [] f is = elim is [ inl here ↦ inr here | inr none ↦ elim none [ ] ]
  one_of_more (part ∷ parts) f is = elim is [
    | inl here ↦ inl (inl here)
    | inr there ↦ elim (one_of_more parts f there) [ inl one ↦ inl (inr one) | inr last ↦ inr last ]
  ]

  distinct_more : (parts : List Part) → AreDistinct owner parts → (IsOneOf owner parts (journal_of owner) → ⊥) → AreDistinct owner (parts ++ (Slots ∷ []))
  distinct_more [] distinct other = (λ is. is, tt)
  distinct_more (part ∷ parts) distinct other = (
    λ is. elim (one_of_more parts (file_of owner part) is) [ inl there ↦ distinct.0 there | inr last ↦ other (inl (sym last)) ],
    distinct_more parts distinct.1 (λ there. other (inr there)),
  )

each_with_last : (P : Part → Type 0) (parts : List Part) → EachPart P (parts ++ (Slots ∷ [])) → EachPart P parts × P Slots
each_with_last P [] each = (tt, each.0)
each_with_last P (part ∷ parts) each = let others = each_with_last P parts each.1 in ((each.0, others.0), others.1)

-- the files that a making makes are the data files and the journal's
pub part_made : (owner : Owner) (s : Shape) (part : Part) → IsPart s part → IsOneOf owner (all_parts_of s) (file_of owner part)
part_made owner s part is = some_more owner (parts_of s) (file_of owner part) (part_one_of owner s part is)

pub journal_is_made : (owner : Owner) (s : Shape) → IsOneOf owner (all_parts_of s) (journal_of owner)
journal_is_made owner s = last_more owner (parts_of s)

pub made_is_writable : (owner : Owner) (s : Shape) (f : FileId) → IsOneOf owner (all_parts_of s) f → IsWritable owner s f
made_is_writable owner s f is = elim (one_of_more owner (parts_of s) f is) [ inl one ↦ inl (one_of_is_data owner s f one) | inr last ↦ inr last ]

pub all_distinct : (owner : Owner) (s : Shape) → AreDistinct owner (all_parts_of s)
all_distinct owner s = distinct_more owner (parts_of s) (shape_distinct owner s)
    (λ one. data_not_journal owner s (journal_of owner) (one_of_is_data owner s (journal_of owner) one) refl)

pub each_made : (P : Part → Type 0) (s : Shape) → EachPart P (all_parts_of s) → EachPart P (parts_of s) × P Slots
each_made P s each = each_with_last P (parts_of s) each

pub few_parts : (s : Shape) → length (all_parts_of s) ≤ 9
few_parts shape.Log = omega arith
few_parts shape.Lines = omega arith
few_parts shape.Relay = omega arith

-- a staged file of the list is one of the bundle's
pub staged_is_data : (owner : Owner) (s : Shape) (files : List FileView) → map (λ f. f.part) files ≡ parts_of s → (g : FileId) → IsStagedAmong owner files g
    → (part : Part) × IsPart s part × (staged_at files part ≢ []) × (g ≡ file_of owner part)
staged_is_data owner s files parts = among_staged files (shape_parts s files parts) (shape_staged s files parts) where
  among_staged : (fs : List FileView) → Each (λ file. IsPart s file.part) fs → Each (λ file. staged_at files file.part ≡ file.staged) fs → (g : FileId) → IsStagedAmong owner fs g
      → (part : Part) × IsPart s part × (staged_at files part ≢ []) × (g ≡ file_of owner part)
  among_staged [] each at g is = elim is [ ]
  among_staged (file ∷ fs) each at g is = elim is [
    | inl here ↦ (file.part, each.0, (λ none. here.1 (sym at.0 ∙ none)), here.0)
    | inr there ↦ among_staged fs each.1 at.1 g there
  ]

-- and a staged file of the bundle is one of the list
pub data_is_staged : (owner : Owner) (s : Shape) (files : List FileView) → map (λ f. f.part) files ≡ parts_of s → (part : Part) → IsPart s part → staged_at files part ≢ [] → IsStagedAmong owner files (file_of owner part)
data_is_staged owner s files parts part is some =
    let f = found (λ file. IsStagedAmong owner files (file_of owner file.part) ⊎ (file.staged ≡ [])) s files parts (all_staged files (λ g is. is)) part is in
    elim f.has [
      | inl staged ↦ subst (λ (p : Part). IsStagedAmong owner files (file_of owner p)) f.part_is staged
      | inr none ↦ absurd (some (f.staged_is ∙ none))
    ]
  where
    staged_or_not : (l : List ℕ) → (l ≡ []) ⊎ (l ≢ [])
    staged_or_not [] = inl refl
    staged_or_not (x ∷ xs) = inr (λ e. cc)

    all_staged : (fs : List FileView) → ((g : FileId) → IsStagedAmong owner fs g → IsStagedAmong owner files g) → Each (λ file. IsStagedAmong owner files (file_of owner file.part) ⊎ (file.staged ≡ [])) fs
    all_staged [] within = tt
    all_staged (file ∷ fs) within = (
      elim (staged_or_not file.staged) [ inl none ↦ inr none | inr some ↦ inl (within (file_of owner file.part) (inl (refl, some))) ],
      all_staged fs (λ g is. within g (inr is)),
    )
