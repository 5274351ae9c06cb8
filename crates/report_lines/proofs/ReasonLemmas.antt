-- Values of leading universals, and reasons.
use Rattle.std.proofs.Common.{◌≡◌, ◌≤◌, zero, suc, subst, refl, sym, ap, ap₂, ◌∙◌, ℕ, false, Option, Some, None, option_map, option_and_then, List, [], ◌∷◌, ◌++◌, length, append_assoc, true≢false, IsTrue, leb-true}
use Rattle.std.specs.Prelude.{◌==◌, nat_le, slice_get}
use Rattle.std.specs.List.{list_all}
use Rattle.std.proofs.lemmas.Bool.{and_parts}
use Rattle.vocab.specs.declared.kinds.Sort.{Sort}
use Rattle.vocab.specs.Formula.{quantifier_depth}
use Rattle.vocab.specs.Size.{Extent}
use Rattle.vocab.specs.Sorted.{is_sorted}
use Rattle.vocab.specs.Study.{Question, is_sentence}
use Rattle.vocab.specs.Titled.{Titled}
use Rattle.verdicts.specs.Texts.{read_value}
use Rattle.verdicts.specs.Reading.{read_values}
use Rattle.report_lines.specs.Rest.{words_after}
use Rattle.report_lines.proofs.WordLemmas.{cut}

module _ (study : Question) where
  -- values that are held, and those of the words that are left
  pub values_more : (sorts others : List Sort) (s : Sort) (words more : List (List ℕ)) (word : List ℕ) (v : ℕ) (held : List ℕ) → sorts ≡ s ∷ others → words ≡ word ∷ more → Some v ≡ read_value study.size s word
      → option_map (λ values. held ++ values) (read_values study sorts words) ≡ option_map (λ values. (held ++ v ∷ []) ++ values) (read_values study others more)
  values_more sorts others s words more word v held e h t =
      ap₂ (λ ss ws. option_map (λ values. held ++ values) (read_values study ss ws)) e h
      ∙ ap (λ r. option_map (λ values. held ++ values) (option_and_then (λ v. option_map (λ values. v ∷ values) (read_values study others more)) r)) (sym t)
      ∙ joined (read_values study others more)
    where
      joined : (o : Option (List ℕ)) → option_map (λ values. held ++ values) (option_map (λ values. v ∷ values) o) ≡ option_map (λ values. (held ++ v ∷ []) ++ values) o
      joined None = refl
      joined (Some values) = ap Some (sym (append_assoc held (v ∷ []) values))

  -- no sort is left, but a word
  pub values_left : (sorts : List Sort) (left held : List ℕ) → sorts ≡ [] → (length left == 0) ≡ false → option_map (λ values. held ++ values) (read_values study sorts (words_after left)) ≡ None
  values_left sorts [] held e h = absurd (true≢false h)
  values_left sorts (c ∷ text) held e h = ap₂ (λ ss ws. option_map (λ values. held ++ values) (read_values study ss ws)) e (cut text)

-- a sentence of a study is not deep
pub few_quantifiers : (size : Extent) (axioms : List Titled) (k : ℕ) (a : Titled) → IsTrue (list_all (is_sentence size) axioms) → slice_get axioms k ≡ Some a → quantifier_depth a.sentence ≤ 12
few_quantifiers size [] k a h e = absurd (cc)
few_quantifiers size (b ∷ axioms) zero a h e =
    let p = and_parts (is_sentence size b) (list_all (is_sentence size) axioms) h in
    let q = and_parts (is_sorted size [] b.sentence) (nat_le (quantifier_depth b.sentence) 12) p.0 in
    let same : b ≡ a = cc in
    subst (λ (t : Titled). quantifier_depth t.sentence ≤ 12) same (leb-true (quantifier_depth b.sentence) 12 q.1)
few_quantifiers size (b ∷ axioms) (suc k) a h e = few_quantifiers size axioms k a (and_parts (is_sentence size b) (list_all (is_sentence size) axioms) h).1 e
