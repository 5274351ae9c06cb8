-- What a right sharp verdict names is in range.
use Rattle.std.proofs.Common.{◌≡◌, refl, sym, subst, true, ◌&&◌, List, [], ◌∷◌, length, true≢false}
use Rattle.std.specs.Prelude.{nat_lt}
use Rattle.std.specs.List.{list_all}
use Rattle.std.specs.Cmp.Lexicographic.{pointwise}
use Rattle.std.proofs.lemmas.Bool.{and_parts, and_from}
use Rattle.vocab.specs.Study.{Question}
use Rattle.meaning.specs.declared.cores.Witness.{Witness}
use Rattle.meaning.specs.declared.cores.Witness.TheVariants.{Rule, Open}
use Rattle.meaning.specs.Truth.{is_rule}
use Rattle.verdicts.specs.declared.verdicts.Verdict.TheVariants.{Impossible}
use Rattle.verdicts.specs.Laws.{IsReportable}
use Rattle.verdicts.specs.Report.{is_lemma_text, is_witness_text}
use Rattle.verdicts.proofs.RightLaws.{right_has_text}
use Rattle.sharp_verdicts.specs.declared.instances.Cited.{Cited}
use Rattle.sharp_verdicts.specs.Instances.{is_present, instances_of, others_than, is_true_of}
use Rattle.sharp_verdicts.specs.Right.{Pointed, IsSharpRight, is_mark}
use Rattle.sharp_laws.proofs.MarkLaws.{listed_present}
use Rattle.sharp_laws.proofs.RunLaws.{opens, open_is_right, right_places}
use Rattle.sharp_text.specs.Conditions.{is_mark_text, has_sharp_text}
use Rattle.lists.proofs.Members.{all_in}

module _ (study : Question) where
  rule_or_open : (whole : List Cited) (c : Cited) (m : Witness) → is_mark study whole c m ≡ true → is_witness_text study c.«axiom» m ≡ true
  rule_or_open whole c (Rule table) h = (and_parts (is_rule study.size table) (list_all (is_true_of study table) (others_than whole c)) h).0
  rule_or_open whole c (Open limit) h = refl

  marks_have_texts : (whole cs : List Cited) (marks : List Witness) → pointwise (is_mark study whole) cs marks ≡ true → list_all (is_present study) cs ≡ true → pointwise (is_mark_text study) cs marks ≡ true
  marks_have_texts whole [] [] h k = refl
  marks_have_texts whole [] (m ∷ marks) h k = absurd (true≢false (sym h))
  marks_have_texts whole (c ∷ cs) [] h k = absurd (true≢false (sym h))
  marks_have_texts whole (c ∷ cs) (m ∷ marks) h k =
      let p = and_parts (is_mark study whole c m) (pointwise (is_mark study whole) cs marks) h in
      let q = and_parts (is_present study c) (list_all (is_present study) cs) k in
      and_from _ _ (and_from _ _ q.0 (rule_or_open whole c m p.0)) (marks_have_texts whole cs marks p.1 q.1)

-- each right sharp verdict has a text
pub sharp_has_text : (study : Question) → IsReportable study → (v : Pointed) → IsSharpRight study v → has_sharp_text study v ≡ true
sharp_has_text study ok v right =
    let open_right = open_is_right study v.core v.story right.accepted (right_places study ok v right) in
    let told = right_has_text study ok (Impossible v.core v.story (opens study v.core)) open_right in
    let p = and_parts ((nat_lt 0 (length v.story) && list_all (is_lemma_text study) v.story) && list_all (λ k. nat_lt k (length study.axioms)) v.core) (pointwise (is_witness_text study) v.core (opens study v.core)) told in
    let q = and_parts (nat_lt 0 (length v.story) && list_all (is_lemma_text study) v.story) (list_all (λ k. nat_lt k (length study.axioms)) v.core) p.0 in
    let present : list_all (is_present study) v.instances ≡ true =
    subst (λ (cs : List Cited). list_all (is_present study) cs ≡ true) (sym right.instances) (all_in (is_present study) (instances_of study v.story) (listed_present study v.story)) in
    and_from _ _ (and_from _ _ q.1 (and_parts (nat_lt 0 (length v.story)) (list_all (is_lemma_text study) v.story) q.0).1) (marks_have_texts study v.instances v.instances v.marks right.marks present)
