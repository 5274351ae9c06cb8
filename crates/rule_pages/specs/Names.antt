-- Rules that have a name: what each name means, and the name of a rule.
use Rattle.std.specs.Prelude.{ℕ, ◌==◌, nat_lt, Bool, false, ◌&&◌, List, take, reverse, slice_get, slice_index, Option, Some, None, option_map, if◌then◌else◌}
use Rattle.std.specs.List.{find, list_all}
use Rattle.std.specs.Option.{option_or}
use Rattle.std.specs.Str.{bytes_eq}
use Rattle.vocab.specs.declared.kinds.Kind.{Kind}
use Rattle.vocab.specs.declared.kinds.Kind.TheVariants.{Choice, Ranking, Sets}
use Rattle.vocab.specs.declared.kinds.Sort.TheVariants.{Profile}
use Rattle.vocab.specs.Range.{below}
use Rattle.vocab.specs.Size.{Extent, sort_count, outcome_count}
use Rattle.meaning.specs.Space.{casts_of, is_ballot}
use Rattle.meaning.specs.Texts.{ballot_text, outcome_text}
use Rattle.rule_pages.specs.declared.names.Role.{Role}
use Rattle.rule_pages.specs.declared.names.Role.TheVariants.{Decides, LastWins}
use Rattle.rule_pages.specs.declared.names.RuleName.{RuleName}
use Rattle.rule_pages.specs.declared.names.RuleName.TheVariants.{Always, Voter}

-- the letters of the outcome that an order of the alternatives gives: all of it where rules rank, and else its first alone
abbrev pub outcome_letters : Kind → List ℕ → List ℕ
outcome_letters Choice order = take 1 order
outcome_letters Ranking order = order
outcome_letters Sets order = take 1 order

-- the letters of an outcome are those that a voter's ballot gives by the voter's role: the ballot, or the ballot turned round
abbrev pub is_taken : Kind → Role → (ballot outcome : List ℕ) → Bool
is_taken kind Decides ballot outcome = bytes_eq outcome (outcome_letters kind ballot)
is_taken kind LastWins ballot outcome = bytes_eq outcome (outcome_letters kind (reverse ballot))

module _ (size : Extent) where
  -- the code is one of an outcome, and voter i casts a ballot which gives it by this role; the letters of an outcome are no other's
  abbrev pub is_by_ballot : Role → (outcome cast : ℕ) → Bool
  is_by_ballot role o c = is_ballot size c && is_taken size.kind role (ballot_text size c) (outcome_text size o)

  abbrev pub is_by_voter : Role → (i p o : ℕ) → Bool
  is_by_voter role i p o = nat_lt i size.voters && nat_lt o (outcome_count size.kind size.alternatives) && is_by_ballot role o (slice_index (casts_of size p) i)

  -- a rule of this name gives the outcome at the profile
  abbrev pub gives : RuleName → (p o : ℕ) → Bool
  gives (Always x) p o = o == x
  gives (Voter role i) p o = is_by_voter role i p o

  abbrev pub is_given : RuleName → ℕ → Option ℕ → Bool
  is_given name p None = false
  is_given name p (Some o) = gives name p o

  -- a rule has this name: at every profile it gives what a rule of this name does
  abbrev pub has_rule_name : List ℕ → RuleName → Bool
  has_rule_name table name = list_all (λ p. is_given name p (slice_get table p)) (below (sort_count size Profile))

  -- the name of a rule, if it has one: always the same outcome; else the first voter who decides; else the first whose last wins
  abbrev pub constant_name : List ℕ → Option RuleName
  constant_name table = if has_rule_name table (Always (slice_index table 0)) then Some (Always (slice_index table 0)) else None

  abbrev pub voter_name : List ℕ → Role → Option RuleName
  voter_name table role = option_map (Voter role) (find (λ i. has_rule_name table (Voter role i)) (below size.voters))

  abbrev pub name_of : List ℕ → Option RuleName
  name_of table = option_or (constant_name table) (option_or (voter_name table Decides) (voter_name table LastWins))
