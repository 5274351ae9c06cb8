-- What holds of the conditions: the statement of the law, which is proved as the contract of a function of its name in src/laws.rt.
use Rattle.std.specs.Prelude.{ℕ, nat_lt, List, IsTrue}
use Rattle.std.specs.Cmp.Lexicographic.{pointwise}
use Rattle.vocab.specs.Formula.{body_of}
use Rattle.vocab.specs.Limits.{bases_of}
use Rattle.vocab.specs.Size.{Extent}
use Rattle.vocab.specs.Study.{is_sentence}
use Rattle.vocab.specs.Titled.{Titled}
use Rattle.worlds.specs.Conditions.{IsFormulaAt}

-- the body of a sentence can be evaluated where there is one value in range for each leading universal
abbrev pub BodiesHaveValues : Type 0
BodiesHaveValues = (size : Extent) (a : Titled) → IsTrue (is_sentence size a) → (values : List ℕ) → IsTrue (pointwise nat_lt values (bases_of size a.sentence)) →
    IsFormulaAt size (body_of a.sentence) values
