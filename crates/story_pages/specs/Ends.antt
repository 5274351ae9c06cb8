-- The ends of lemmas: what they are against.
use Rattle.std.specs.Prelude.{ℕ, ◌+◌, ◌==◌, Bool, true, false, List, [], ◌++◌, codes, length, slice_get, slice_index, Option, Some, None, if◌then◌else◌}
use Rattle.std.specs.Fmt.{decimal}
use Rattle.std.specs.List.{flat_map}
use Rattle.vocab.specs.declared.kinds.Sort.{Sort}
use Rattle.vocab.specs.declared.kinds.Sort.TheVariants.{Voter, Alt, Ballot, Profile}
use Rattle.vocab.specs.declared.literals.Literal.{Literal}
use Rattle.vocab.specs.Formula.{prefix_of}
use Rattle.vocab.specs.Range.{below}
use Rattle.vocab.specs.Size.{Extent}
use Rattle.vocab.specs.Titled.{Titled}
use Rattle.meaning.specs.declared.stories.Reason.{Reason}
use Rattle.meaning.specs.declared.stories.Reason.TheVariants.{Axiom as ByAxiom, Outcome as ByOutcome, Lemma as ByLemma}
use Rattle.html.specs.Facts.{alternative_html, ballot_html, profile_html}
use Rattle.story_pages.specs.Sentences.{axiom_html, since_html}

-- what stands before a value
abbrev pub mark_html : ℕ → List ℕ
mark_html level = if level == 0 then codes " for " else codes ", "

abbrev pub voter_label : ℕ → List ℕ
voter_label i = codes "voter " ++ decimal (i + 1)

-- the reason is what is left at a profile
abbrev pub is_by_outcome : Reason → Bool
is_by_outcome (ByAxiom k values) = false
is_by_outcome (ByOutcome p) = true
is_by_outcome (ByLemma j) = false

-- an earlier claim that is contradicted
abbrev pub against_claim : ℕ → List ℕ
against_claim j = codes "against claim " ++ decimal (j + 1)

module _ (size : Extent) where
  -- a value of a sort
  abbrev pub ballot_value_html : ℕ → List ℕ
  ballot_value_html b = codes "ballot " ++ ballot_html size b

  abbrev pub profile_value_html : ℕ → List ℕ
  profile_value_html p = codes "profile " ++ profile_html size p

  abbrev pub value_html : Sort → ℕ → List ℕ
  value_html Voter i = voter_label i
  value_html Alt x = alternative_html x
  value_html Ballot b = ballot_value_html b
  value_html Profile p = profile_value_html p

  -- the value of the leading universal of a level
  abbrev pub valued_html : Option Sort → ℕ → ℕ → List ℕ
  valued_html None level value = []
  valued_html (Some s) level value = mark_html level ++ value_html s value

  abbrev pub value_at : List Sort → List ℕ → ℕ → List ℕ
  value_at sorts values level = valued_html (slice_get sorts level) level (slice_index values level)

  -- the values that an instance gives the leading universals of an axiom
  abbrev pub prefixed_html : List Sort → List ℕ → List ℕ
  prefixed_html sorts values = flat_map (value_at sorts values) (below (length values))

  abbrev pub values_html : Option Titled → List ℕ → List ℕ
  values_html None values = []
  values_html (Some a) values = prefixed_html (prefix_of a.sentence) values

  -- an instance of an axiom that is contradicted
  abbrev pub against_html : List Titled → ℕ → List ℕ → List ℕ
  against_html axioms k values = codes "against " ++ axiom_html axioms k ++ values_html (slice_get axioms k) values

  -- a profile at which no outcome is left
  abbrev pub nothing_left : ℕ → List ℕ
  nothing_left p = codes "nothing is left at " ++ profile_html size p

  -- the last reason of a lemma
  abbrev pub reason_html : List Titled → Reason → List ℕ
  reason_html axioms (ByAxiom k values) = against_html axioms k values
  reason_html axioms (ByOutcome p) = nothing_left p
  reason_html axioms (ByLemma j) = against_claim j

  -- what it rests on, and the last reason; where nothing is left at a profile, the claims are made there (`end_there` of `IsTellingRight`)
  abbrev pub end_html : List Titled → Reason → List Literal → List ℕ
  end_html axioms last rests = since_html size (is_by_outcome last) rests ++ reason_html axioms last
