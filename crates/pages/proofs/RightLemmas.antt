-- The parts of a right impossibility.
use Rattle.std.proofs.Common.{◌≡◌, ℕ, true, List, length}
use Rattle.std.specs.Cmp.Lexicographic.{pointwise}
use Rattle.std.proofs.lemmas.Bool.{and_parts}
use Rattle.vocab.specs.Study.{Question}
use Rattle.meaning.specs.declared.cores.Witness.{Witness}
use Rattle.meaning.specs.declared.stories.Lemma.{Lemma}
use Rattle.meaning.specs.Cores.{is_core_from, is_core_right, is_witness}
use Rattle.meaning.specs.Stories.{is_story}
use Rattle.meaning.proofs.CoreLaws.{core_in_range}
use Rattle.story.specs.Conditions.{has_places}
use Rattle.verdicts.specs.Report.{is_right}
use Rattle.verdicts.specs.declared.verdicts.Verdict.TheVariants.{Impossible}

-- its core names axioms of the study, and its story is accepted
pub right_parts : (study : Question) (core : List ℕ) (story : List Lemma) (witnesses : List Witness) → is_right study (Impossible core story witnesses) ≡ true →
    (has_places study.axioms core ≡ true) × (is_story study.size study.axioms core story ≡ true)
right_parts study core story witnesses h =
    let p = and_parts (is_story study.size study.axioms core story) (is_core_right study.size study.axioms study.conflicts core witnesses) h in
    let q = and_parts (is_core_from 0 (length study.axioms) core) (pointwise (is_witness study.size study.axioms study.conflicts core) core witnesses) p.1 in
    (core_in_range 0 (length study.axioms) core q.0, p.0)
