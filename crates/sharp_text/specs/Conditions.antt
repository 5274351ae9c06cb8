-- Sharp verdicts that have a text.
use Rattle.std.specs.Prelude.{Bool, ◌&&◌, nat_lt, length}
use Rattle.std.specs.List.{list_all}
use Rattle.std.specs.Cmp.Lexicographic.{pointwise}
use Rattle.vocab.specs.Study.{Question}
use Rattle.meaning.specs.declared.cores.Witness.{Witness}
use Rattle.verdicts.specs.Report.{is_lemma_text, is_witness_text}
use Rattle.sharp_verdicts.specs.declared.instances.Cited.{Cited}
use Rattle.sharp_verdicts.specs.Instances.{is_present}
use Rattle.sharp_verdicts.specs.Right.{Pointed}

module _ (study : Question) where
  -- the study has the instance, and its mark is a rule of the size or open
  abbrev pub is_mark_text : Cited → Witness → Bool
  is_mark_text c mark = is_present study c && is_witness_text study c.«axiom» mark

  -- all that a sharp verdict names is in range, and it has one mark for each of its instances
  abbrev pub has_sharp_text : Pointed → Bool
  has_sharp_text v = list_all (λ k. nat_lt k (length study.axioms)) v.core && list_all (is_lemma_text study) v.story && pointwise is_mark_text v.instances v.marks
