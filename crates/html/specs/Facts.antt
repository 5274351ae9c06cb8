-- Facts in words. What is not of the size has no words.
use Rattle.std.specs.Prelude.{ℕ, ◌+◌, nat_lt, ◌==◌, List, [], ◌∷◌, ◌++◌, codes, if◌then◌else◌}
use Rattle.std.specs.List.{flat_map}
use Rattle.vocab.specs.declared.kinds.Kind.{Kind}
use Rattle.vocab.specs.declared.kinds.Kind.TheVariants.{Choice, Ranking, Sets}
use Rattle.vocab.specs.declared.kinds.Sort.TheVariants.{Profile, Ballot}
use Rattle.vocab.specs.declared.literals.Literal.{Literal}
use Rattle.vocab.specs.declared.literals.Literal.TheVariants.{Wins, Loses, Above}
use Rattle.vocab.specs.Literal.{profile_of}
use Rattle.vocab.specs.Size.{Extent, sort_count, outcome_count}
use Rattle.meaning.specs.Texts.{ballot_text, profile_text, outcome_text}

-- the letter of an alternative
abbrev pub letter_of : ℕ → ℕ
letter_of x = if nat_lt x 26 then 97 + x else 63

-- an alternative
abbrev pub alternative_html : ℕ → List ℕ
alternative_html x = codes "<b>" ++ letter_of x ∷ [] ++ codes "</b>"

-- the winner, and one that does not win
abbrev pub wins_words : Kind → List ℕ
wins_words Choice = codes " wins"
wins_words Ranking = codes " wins"
wins_words Sets = codes " is among the winners"

abbrev pub loses_words : Kind → List ℕ
loses_words Choice = codes " does not win"
loses_words Ranking = codes " does not win"
loses_words Sets = codes " is not among the winners"

-- what a literal says, without its profile
abbrev pub claim_html : Kind → Literal → List ℕ
claim_html kind (Wins x p) = alternative_html x ++ wins_words kind
claim_html kind (Loses x p) = alternative_html x ++ loses_words kind
claim_html kind (Above x y p) = alternative_html x ++ codes " above " ++ alternative_html y

-- between two ballots of a profile stands a dot (U+00B7), as UTF-8 has it
abbrev pub dotted : ℕ → List ℕ
dotted b = if b == 124 then 194 ∷ 183 ∷ [] else b ∷ []

module _ (size : Extent) where
  -- a profile among many: the voters' ballots, the first voter's first
  abbrev pub ballots_html : ℕ → List ℕ
  ballots_html p = if nat_lt p (sort_count size Profile) then flat_map dotted (profile_text size p) else []

  -- a profile by itself
  abbrev pub profile_html : ℕ → List ℕ
  profile_html p = if nat_lt p (sort_count size Profile) then codes "<code>" ++ flat_map dotted (profile_text size p) ++ codes "</code>" else []

  -- a ballot
  abbrev pub ballot_html : ℕ → List ℕ
  ballot_html b = if nat_lt b (sort_count size Ballot) then ballot_text size b else []

  -- an outcome
  abbrev pub outcome_html : ℕ → List ℕ
  outcome_html o = if nat_lt o (outcome_count size.kind size.alternatives) then outcome_text size o else []

  -- a fact
  abbrev pub fact_html : Literal → List ℕ
  fact_html l = claim_html size.kind l ++ codes " at " ++ profile_html (profile_of l)

  -- a fact, and a comma
  abbrev pub fact_comma : Literal → List ℕ
  fact_comma l = fact_html l ++ codes ", "
