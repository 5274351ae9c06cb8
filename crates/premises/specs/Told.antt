-- The lemmas of a story that are told so far.
use Rattle.std.specs.Prelude.{◌≡◌, ℕ, List, take, slice_get, Some}
use Rattle.vocab.specs.declared.literals.Literal.{Literal}
use Rattle.vocab.specs.Size.{Extent}
use Rattle.vocab.specs.Titled.{Titled}
use Rattle.meaning.specs.declared.stories.Lemma.{Lemma}
use Rattle.tellings.specs.declared.tellings.Telling.{Telling}
use Rattle.tellings.specs.Tellings.{IsTellingRight}

-- each telling tells its lemma by the lemmas before it
abbrev pub AreTold : Extent → List Titled → List ℕ → List Lemma → List Literal → List Telling → Type 0
AreTold size axioms core story forced tellings =
    (j : ℕ) (lemma : Lemma) (telling : Telling) →
    slice_get story j ≡ Some lemma → slice_get tellings j ≡ Some telling →
    IsTellingRight size axioms core (take j story) forced lemma telling
