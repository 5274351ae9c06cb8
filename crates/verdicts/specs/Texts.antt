-- Words, texts of values and literals, and what a text names. The texts of ballots, profiles and outcomes stand in crate meaning.
use Rattle.std.specs.Prelude.{ℕ, ◌+◌, ◌==◌, List, [], ◌∷◌, Option, Some, None, if◌then◌else◌}
use Rattle.std.specs.List.{flat_map, join_with_byte, slice_split}
use Rattle.std.specs.Str.{bytes_eq}
use Rattle.vocab.specs.declared.kinds.Kind.{Kind}
use Rattle.vocab.specs.declared.kinds.Kind.TheVariants.{Choice, Ranking, Sets}
use Rattle.vocab.specs.declared.kinds.Sort.{Sort}
use Rattle.vocab.specs.declared.kinds.Sort.TheVariants.{Voter, Alt, Ballot, Profile}
use Rattle.vocab.specs.declared.literals.Literal.{Literal}
use Rattle.vocab.specs.declared.literals.Literal.TheVariants.{Wins, Loses, Above}
use Rattle.vocab.specs.Size.{Extent, sort_count, outcome_count}
use Rattle.meaning.specs.Space.{below}
use Rattle.meaning.specs.Texts.{kind_text, letter, ballot_text, profile_text, outcome_text}
use Rattle.verdicts.specs.Numbers.{number_text}

-- words with one blank between each two
abbrev pub joined_words : List (List ℕ) → List ℕ
joined_words words = join_with_byte 32 words

-- the words of a line: what stands between its blanks, so that two blanks in a row have an empty word between them
abbrev pub words_of : List ℕ → List (List ℕ)
words_of line = slice_split (λ b. b == 32) line

-- the item of a list whose text this is: all reading of values is a search for the one that has the text
abbrev pub named_by : {A : Type 0} → (A → List ℕ) → List A → List ℕ → Option A
named_by text_of [] text = None
named_by text_of (a ∷ items) text = if bytes_eq (text_of a) text then Some a else named_by text_of items text

-- the kinds that a study file can name
abbrev pub kinds : List Kind
kinds = Choice ∷ Ranking ∷ Sets ∷ []

-- the kind of a word
abbrev pub read_kind : List ℕ → Option Kind
read_kind text = named_by kind_text kinds text

module _ (size : Extent) where
  -- a value of a sort: a voter is a number from 1, an alternative its letter
  abbrev pub value_text : Sort → ℕ → List ℕ
  value_text Voter i = number_text (i + 1)
  value_text Alt x = letter x ∷ []
  value_text Ballot b = ballot_text size b
  value_text Profile p = profile_text size p

  -- a literal: `x@PROFILE` where x wins, `!x@PROFILE` where it does not, and `x>y@PROFILE` where x stands above y
  abbrev pub literal_text : Literal → List ℕ
  literal_text (Wins x p) = letter x ∷ 64 ∷ profile_text size p
  literal_text (Loses x p) = 33 ∷ letter x ∷ 64 ∷ profile_text size p
  literal_text (Above x y p) = letter x ∷ 62 ∷ letter y ∷ 64 ∷ profile_text size p

  -- the literals that say whether an alternative wins at a profile, and those that compare two
  abbrev pub winners_at : ℕ → List Literal
  winners_at p = flat_map (λ x. Wins x p ∷ Loses x p ∷ []) (below size.alternatives)

  abbrev pub comparisons_at : ℕ → List Literal
  comparisons_at p = flat_map (λ x. flat_map (λ y. if x == y then [] else Above x y p ∷ []) (below size.alternatives)) (below size.alternatives)

  -- the literals of a kind at a profile
  abbrev pub literals_at : Kind → ℕ → List Literal
  literals_at Choice p = winners_at p
  literals_at Ranking p = comparisons_at p
  literals_at Sets p = winners_at p

  -- the literals of the size
  abbrev pub literals : List Literal
  literals = flat_map (literals_at size.kind) (below (sort_count size Profile))

  -- the profile of a text
  abbrev pub read_profile : List ℕ → Option ℕ
  read_profile text = named_by (profile_text size) (below (sort_count size Profile)) text

  -- the outcome of a text
  abbrev pub read_outcome : List ℕ → Option ℕ
  read_outcome text = named_by (outcome_text size) (below (outcome_count size.kind size.alternatives)) text

  -- the value of a sort that a text names
  abbrev pub read_value : Sort → List ℕ → Option ℕ
  read_value s text = named_by (value_text s) (below (sort_count size s)) text

  -- the literal of a text
  abbrev pub read_literal : List ℕ → Option Literal
  read_literal text = named_by literal_text literals text
