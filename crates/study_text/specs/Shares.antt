-- What a study is held against, and which limit is nearest.
use Rattle.std.specs.Prelude.{ℕ, ◌*◌, Bool, false, not, ◌==◌, nat_lt, List, [], ◌∷◌, ◌++◌, length, slice_get, Option, option_and_then}
use Rattle.std.specs.List.{count_by, flat_map, list_any, position, sum_by}
use Rattle.vocab.specs.declared.kinds.Sort.TheVariants.{Profile}
use Rattle.vocab.specs.Formula.{body_of}
use Rattle.vocab.specs.Limits.{instance_count, atom_count}
use Rattle.vocab.specs.Size.{Extent, sort_count}
use Rattle.vocab.specs.Study.{Question}
use Rattle.vocab.specs.Titled.{Titled}
use Rattle.meaning.specs.declared.clauses.Origin.{Origin}
use Rattle.meaning.specs.declared.clauses.Origin.TheVariants.{Frame, Instance}
use Rattle.meaning.specs.StudyClauses.{Sourced}
use Rattle.clause_form.specs.Sources.{clauses_in, origins_in}
use Rattle.study_text.specs.declared.shares.Share.{Share}
use Rattle.study_text.specs.declared.shares.Share.TheVariants as share

-- ---- kept clauses

-- a clause comes from the axiom at a place
abbrev pub is_from : (place : ℕ) → Origin → Bool
is_from place (Frame p) = false
is_from place (Instance a k) = a == place

-- how many of the kept clauses come from the axiom at a place
abbrev pub kept_of : (place : ℕ) → List Sourced → ℕ
kept_of place kept = count_by (is_from place) (origins_in kept)

-- how many literals the kept clauses have
abbrev pub kept_literal_count : List Sourced → ℕ
kept_literal_count kept = sum_by length (clauses_in kept)

-- ---- limits

-- the count
abbrev pub share_count : Share → ℕ
share_count (share.Profiles count) = count
share_count (share.Instances name count) = count
share_count (share.Body name count) = count
share_count (share.Work name count) = count
share_count (share.Clauses count) = count
share_count (share.Literals count) = count

-- the limits of the bench
abbrev pub share_limit : Share → ℕ
share_limit (share.Profiles count) = 20000
share_limit (share.Instances name count) = 40000000
share_limit (share.Body name count) = 1000000
share_limit (share.Work name count) = 200000000
share_limit (share.Clauses count) = 4000000
share_limit (share.Literals count) = 60000000

-- what is limited of an axiom: its instances, the atoms of its body, and those of the whole
abbrev pub shares_of : Extent → Titled → List Share
shares_of size a =
    share.Instances a.name (instance_count size a.sentence)
    ∷ share.Body a.name (atom_count size (body_of a.sentence))
    ∷ share.Work a.name (atom_count size a.sentence) ∷ []

-- all that is limited of a study with these kept clauses
abbrev pub all_shares : Question → List Sourced → List Share
all_shares study kept =
    share.Profiles (sort_count study.size Profile) ∷ []
    ++ flat_map (shares_of study.size) study.axioms
    ++ share.Clauses (length kept) ∷ share.Literals (kept_literal_count kept) ∷ []

-- ---- the nearest

-- the first is a greater part of its limit than the second
unfoldable pub is_nearer : Share → Share → Bool
is_nearer s t = nat_lt (share_count t * share_limit s) (share_count s * share_limit t)

-- one of them is a greater part of its limit
abbrev pub is_passed : List Share → Share → Bool
is_passed shares s = list_any (λ t. is_nearer t s) shares

-- none of them is
unfoldable pub is_nearest : List Share → Share → Bool
is_nearest shares s = not (is_passed shares s)

-- the first of them of which this is so
abbrev pub nearest : List Share → Option Share
nearest shares = option_and_then (slice_get shares) (position (is_nearest shares) shares)
