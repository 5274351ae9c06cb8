-- The core of a sharp verdict names axioms of the study.
use Rattle.std.proofs.Common.{◌≡◌, true, List, length, arith, lt-ltb}
use Rattle.std.specs.Prelude.{nat_lt}
use Rattle.lists.proofs.TestLaws.{all_kept}
use Rattle.vocab.specs.Study.{Question}
use Rattle.meaning.specs.Space.{below}
use Rattle.meaning.specs.declared.stories.Lemma.{Lemma}
use Rattle.meaning.proofs.SpaceLaws.{all_from}
use Rattle.story.specs.Conditions.{has_places}
use Rattle.sharp_verdicts.specs.Instances.{core_of}

pub core_is_there : (study : Question) (story : List Lemma) → has_places study.axioms (core_of study story) ≡ true
core_is_there study story =
    all_kept (λ k. nat_lt k (length study.axioms)) _ (below (length study.axioms))
    (all_from (λ k. nat_lt k (length study.axioms)) (length study.axioms) 0 (λ k low high. lt-ltb k (length study.axioms) (omega (arith, high))))
