-- The title of a page: what the page says, once without marks and once with the names of axioms marked.
use Rattle.std.specs.Prelude.{ℕ, ◌+◌, ◌==◌, Bool, List, [], ◌++◌, codes, length, slice_get, Option, Some, None, if◌then◌else◌}
use Rattle.std.specs.Fmt.{decimal}
use Rattle.std.specs.List.{flat_map}
use Rattle.vocab.specs.Range.{below}
use Rattle.vocab.specs.Size.{Extent, ballot_count, has_all_ballots}
use Rattle.vocab.specs.Titled.{Titled}
use Rattle.verdicts.specs.Lines.{name_at}
use Rattle.verdicts.specs.declared.verdicts.Verdict.{Verdict}
use Rattle.verdicts.specs.declared.verdicts.Verdict.TheVariants.{Possible, Impossible, Undecided}
use Rattle.html.specs.Escapes.{escaped}
use Rattle.story_pages.specs.Sentences.{axiom_html}

-- ---- the size

-- what is counted, one or several
abbrev pub voter_noun : ℕ → List ℕ
voter_noun n = if n == 1 then codes " voter" else codes " voters"

abbrev pub alternative_noun : ℕ → List ℕ
alternative_noun m = if m == 1 then codes " alternative" else codes " alternatives"

-- voters and alternatives with their number
abbrev pub voters_html : ℕ → List ℕ
voters_html n = decimal n ++ voter_noun n

abbrev pub alternatives_html : ℕ → List ℕ
alternatives_html m = decimal m ++ alternative_noun m

module _ (size : Extent) where
  -- that voters may stay away, and that not all rankings may be cast
  abbrev pub away_html : List ℕ
  away_html = if size.absent then codes ", who may stay away," else []

  abbrev pub some_ballots_html : List ℕ
  some_ballots_html = codes ", with " ++ decimal (ballot_count size) ++ codes " of the rankings as ballots,"

  abbrev pub domain_html : List ℕ
  domain_html = if has_all_ballots size then [] else some_ballots_html

  -- for whom a rule is
  abbrev pub for_html : List ℕ
  for_html =
      codes " for " ++ voters_html size.voters ++ away_html ++ codes " and "
      ++ alternatives_html size.alternatives ++ domain_html

-- ---- names

-- what stands before a name of some names
abbrev pub between : (place count : ℕ) → List ℕ
between place count = if place == 0 then [] else (if place + 1 == count then codes " and " else codes ", ")

module _ (marked : Bool) (axioms : List Titled) where
  -- the name of the axiom at a place of the study
  abbrev pub called_html : ℕ → List ℕ
  called_html k = if marked then axiom_html axioms k else escaped (name_at axioms k)

  abbrev pub listed_name : (count place k : ℕ) → List ℕ
  listed_name count place k = between place count ++ called_html k

  -- the names of the axioms at some places
  abbrev pub name_if_any : (count place : ℕ) → Option ℕ → List ℕ
  name_if_any count place None = []
  name_if_any count place (Some k) = listed_name count place k

  abbrev pub name_in : List ℕ → ℕ → List ℕ
  name_in places place = name_if_any (length places) place (slice_get places place)

  abbrev pub names_html : List ℕ → List ℕ
  names_html places = flat_map (name_in places) (below (length places))

  -- the names of all axioms of the study
  abbrev pub own_name : ℕ → ℕ → List ℕ
  own_name count k = listed_name count k k

  abbrev pub all_names : List ℕ
  all_names = flat_map (own_name (length axioms)) (below (length axioms))

  -- that a rule satisfies all axioms of the study, if there are some
  abbrev pub satisfying_html : List ℕ
  satisfying_html = codes " satisfies " ++ all_names

  abbrev pub asked_html : List ℕ
  asked_html = if length axioms == 0 then [] else satisfying_html

  -- ---- what a page says

  module _ (size : Extent) where
    -- that no rule satisfies some axioms
    abbrev pub none_html : List ℕ → List ℕ
    none_html core = codes "No rule" ++ for_html size ++ codes " satisfies " ++ names_html core

    -- that a rule satisfies all axioms of the study
    abbrev pub some_rule_html : List ℕ
    some_rule_html = codes "A rule" ++ for_html size ++ asked_html

    -- what a verdict says
    abbrev pub verdict_claim_html : Verdict → List ℕ
    verdict_claim_html (Possible table) = some_rule_html
    verdict_claim_html (Impossible core story witnesses) = none_html core
    verdict_claim_html Undecided = codes "No claim"
