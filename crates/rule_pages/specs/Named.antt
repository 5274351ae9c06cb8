-- The names of rules in words.
use Rattle.std.specs.Prelude.{ℕ, ◌+◌, List, [], ◌++◌, codes, Option, Some, None}
use Rattle.std.specs.Fmt.{decimal}
use Rattle.vocab.specs.declared.kinds.Kind.{Kind}
use Rattle.vocab.specs.declared.kinds.Kind.TheVariants.{Choice, Ranking, Sets}
use Rattle.vocab.specs.Size.{Extent}
use Rattle.html.specs.Facts.{outcome_html}
use Rattle.rule_pages.specs.declared.names.Role.{Role}
use Rattle.rule_pages.specs.declared.names.Role.TheVariants.{Decides, LastWins}
use Rattle.rule_pages.specs.declared.names.RuleName.{RuleName}
use Rattle.rule_pages.specs.declared.names.RuleName.TheVariants.{Always, Voter}
use Rattle.rule_pages.specs.Names.{name_of}

-- what stands before the number of a voter of a role, and what behind
abbrev pub before_voter : Kind → Role → List ℕ
before_voter Ranking LastWins = codes "the reverse of voter "
before_voter Ranking Decides = codes "voter "
before_voter Choice role = codes "voter "
before_voter Sets role = codes "voter "

abbrev pub behind_voter : Kind → Role → List ℕ
behind_voter kind Decides = codes " decides"
behind_voter Choice LastWins = codes "'s last wins"
behind_voter Ranking LastWins = codes "'s ranking"
behind_voter Sets LastWins = codes "'s last wins alone"

module _ (size : Extent) where
  -- a name
  abbrev pub name_words : RuleName → List ℕ
  name_words (Always x) = codes "always " ++ outcome_html size x
  name_words (Voter role i) = before_voter size.kind role ++ decimal (i + 1) ++ behind_voter size.kind role

  -- the name of a rule, behind a colon, if it has one
  abbrev pub named_html : Option RuleName → List ℕ
  named_html None = []
  named_html (Some name) = codes ": " ++ name_words name

  abbrev pub name_html : List ℕ → List ℕ
  name_html table = named_html (name_of size table)
