-- An axiom of a study is a sentence within the limits.
use Rattle.std.proofs.Common.{◌≡◌, ℕ, ◌≤◌, true, ◌&&◌, [], Some}
use Rattle.std.specs.Prelude.{nat_le, slice_get}
use Rattle.std.proofs.lemmas.Bool.{and_parts, leb-true}
use Rattle.lists.proofs.TestLaws.{all_get}
use Rattle.vocab.specs.Formula.{body_of, quantifier_depth}
use Rattle.vocab.specs.Limits.{atom_count, depth, instance_count, is_within_limits}
use Rattle.vocab.specs.Sorted.{is_sorted}
use Rattle.vocab.specs.Study.{Question, IsStudy, is_sentence}
use Rattle.vocab.specs.Titled.{Titled}

module _ (study : Question) (place : ℕ) (a : Titled) (is : IsStudy study) (at : slice_get study.axioms place ≡ Some a) where
  pub sentence_at : is_sentence study.size a ≡ true
  sentence_at = all_get (is_sentence study.size) study.axioms place a is.sentences at

  -- 12 quantifiers may stand within one another
  pub shallow_at : quantifier_depth a.sentence ≤ 12
  shallow_at = leb-true _ _ (and_parts (is_sorted study.size [] a.sentence) (nat_le (quantifier_depth a.sentence) 12) sentence_at).1

  within : is_within_limits study.size a.sentence ≡ true
  within = all_get (λ (x : Titled). is_within_limits study.size x.sentence) study.axioms place a is.limits at

  before_whole : (nat_le (depth a.sentence) 64 && nat_le (instance_count study.size a.sentence) 40000000 && nat_le (atom_count study.size (body_of a.sentence)) 1000000) ≡ true
  before_whole = (and_parts _ (nat_le (atom_count study.size a.sentence) 200000000) within).0

  before_body : (nat_le (depth a.sentence) 64 && nat_le (instance_count study.size a.sentence) 40000000) ≡ true
  before_body = (and_parts _ (nat_le (atom_count study.size (body_of a.sentence)) 1000000) before_whole).0

  -- there are at most 40,000,000 instances, 1,000,000 atoms of the body, and 200,000,000 of the whole
  pub few_at : instance_count study.size a.sentence ≤ 40000000
  few_at = leb-true _ _ (and_parts (nat_le (depth a.sentence) 64) (nat_le (instance_count study.size a.sentence) 40000000) before_body).1

  pub body_at : atom_count study.size (body_of a.sentence) ≤ 1000000
  body_at = leb-true _ _ (and_parts _ (nat_le (atom_count study.size (body_of a.sentence)) 1000000) before_whole).1

  pub whole_at : atom_count study.size a.sentence ≤ 200000000
  whole_at = leb-true _ _ (and_parts _ (nat_le (atom_count study.size a.sentence) 200000000) within).1
