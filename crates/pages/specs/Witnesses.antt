-- What shows that no axiom of a core can be left out, or that this is open.
use Rattle.std.specs.Prelude.{ℕ, List, [], ◌++◌, codes, length, slice_get, Option, Some}
use Rattle.std.specs.Fmt.{decimal}
use Rattle.std.specs.List.{flat_map}
use Rattle.vocab.specs.Range.{below}
use Rattle.vocab.specs.Size.{Extent}
use Rattle.vocab.specs.Titled.{Titled}
use Rattle.meaning.specs.declared.cores.Witness.{Witness}
use Rattle.meaning.specs.declared.cores.Witness.TheVariants.{Rule, Open}
use Rattle.rule_pages.specs.Named.{name_html}
use Rattle.rule_pages.specs.Rules.{rule_html}
use Rattle.story_pages.specs.Sentences.{axiom_html}

module _ (size : Extent) where
  -- the mark of an axiom of the core: a rule that satisfies the others, or that none was found
  abbrev pub mark_body_html : Witness → List ℕ
  mark_body_html (Rule table) = name_html size table ++ codes "</p>\n" ++ rule_html size table
  mark_body_html (Open limit) =
      codes " it is not known whether some rule satisfies the others: the search gave up after "
      ++ decimal limit ++ codes " conflicts.</p>\n"

  module _ (axioms : List Titled) where
    abbrev pub witness_html : ℕ → Witness → List ℕ
    witness_html k mark = codes "<div><p>Without " ++ axiom_html axioms k ++ mark_body_html mark ++ codes "</div>\n"

    abbrev pub witness_of : Option ℕ → Option Witness → List ℕ
    witness_of (Some k) (Some mark) = witness_html k mark
    witness_of _ _ = []

    abbrev pub witness_at : List ℕ → List Witness → ℕ → List ℕ
    witness_at core witnesses place = witness_of (slice_get core place) (slice_get witnesses place)

    -- the marks of a core
    abbrev pub witnesses_html : List ℕ → List Witness → List ℕ
    witnesses_html core witnesses =
        codes "<h2>Without one of the axioms: a rule that satisfies the others</h2>\n<div class=w>\n"
        ++ flat_map (witness_at core witnesses) (below (length witnesses)) ++ codes "</div>\n"
