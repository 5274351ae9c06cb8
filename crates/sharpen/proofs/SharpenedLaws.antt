-- What sharpening comes to is right.
use Rattle.std.proofs.Common.{◌≡◌, refl, sym, ◌∙◌, ap, subst, ℕ, suc, ◌<◌, Bool, true, List, [], ◌∷◌, map, length, All, true≢false}
use Rattle.std.specs.Cmp.Lexicographic.{pointwise}
use Rattle.std.specs.List.{list_all}
use Rattle.std.proofs.lemmas.Bool.{and_parts}
use Rattle.vocab.specs.Study.{Question, IsStudy}
use Rattle.meaning.specs.declared.cores.Witness.{Witness}
use Rattle.meaning.specs.declared.stories.Lemma.{Lemma}
use Rattle.meaning.specs.Cores.{is_core_from, is_witness}
use Rattle.meaning.specs.Stories.{is_story}
use Rattle.core_reduce.specs.declared.answers.Reduced.{Reduced}
use Rattle.sharp_verdicts.specs.declared.instances.Cited.{Cited}
use Rattle.sharp_verdicts.specs.declared.sharp.Sharp.{Sharp}
use Rattle.sharp_verdicts.specs.Derived.{axioms_from, derived_study}
use Rattle.sharp_verdicts.specs.Instances.{is_present, instances_of, core_of}
use Rattle.sharp_verdicts.specs.Sharpened.{IsSharpened}
use Rattle.instance_studies.proofs.StudyLaws.{length_from}
use Rattle.instance_stories.specs.Codes.{AreRisingInstances}
use Rattle.instance_stories.specs.Named.{story_named}
use Rattle.instance_stories.proofs.NamedLaws.{named_accepted}
use Rattle.instance_cores.specs.Cores.{IsReducedTo}
use Rattle.sharpen.specs.Marks.{derived_instance, marks_kept}
use Rattle.sharpen.proofs.MarkLaws.{core_within, marks_right, evidence_right, told_same}

module _ (study : Question) (instances : List Cited) (reduced : Reduced) (right : IsReducedTo (derived_study study instances) reduced) where
  core_from : is_core_from 0 (length instances) reduced.refutation.core ≡ true
  core_from =
      let p = and_parts (is_core_from 0 (length (axioms_from study 0 instances)) reduced.refutation.core) (pointwise (is_witness study.size (axioms_from study 0 instances) study.conflicts reduced.refutation.core) reduced.refutation.core reduced.refutation.witnesses) right.refutation.core in
      subst (λ (n : ℕ). is_core_from 0 n reduced.refutation.core ≡ true) (length_from study 0 instances) p.0

  have_witnesses : pointwise (is_witness study.size (axioms_from study 0 instances) study.conflicts reduced.refutation.core) reduced.refutation.core reduced.refutation.witnesses ≡ true
  have_witnesses = (and_parts (is_core_from 0 (length (axioms_from study 0 instances)) reduced.refutation.core) (pointwise (is_witness study.size (axioms_from study 0 instances) study.conflicts reduced.refutation.core) reduced.refutation.core reduced.refutation.witnesses) right.refutation.core).1

  pub is_within : All (λ k. k < length instances) reduced.refutation.core
  is_within = core_within (length instances) reduced.refutation.core core_from

  same_length : (t : ℕ → Witness → Bool) (ks : List ℕ) (ws : List Witness) → pointwise t ks ws ≡ true → length ws ≡ length ks
  same_length t [] [] h = refl
  same_length t [] (w ∷ ws) h = absurd (true≢false (sym h))
  same_length t (k ∷ ks) [] h = absurd (true≢false (sym h))
  same_length t (k ∷ ks) (w ∷ ws) h = ap suc (same_length t ks ws (and_parts (t k w) (pointwise t ks ws) h).1)

  pub as_many : length reduced.refutation.witnesses ≡ length reduced.refutation.core
  as_many = same_length (is_witness study.size (axioms_from study 0 instances) study.conflicts reduced.refutation.core) reduced.refutation.core reduced.refutation.witnesses have_witnesses

  module _ (taken : IsStudy study) (present : list_all (is_present study) instances ≡ true) (rising : AreRisingInstances instances) (told : List Lemma)
      (accepted : is_story study.size (axioms_from study 0 instances) reduced.refutation.core told ≡ true) where
    abbrev story : List Lemma
    story = story_named study instances told

    abbrev listed : List Cited
    listed = instances_of study story

    abbrev marks : List Witness
    marks = marks_kept listed (map (derived_instance instances) reduced.refutation.core) reduced.refutation.witnesses

    abbrev sharp : Sharp
    sharp = record { core = core_of study story; story = story; instances = listed; marks = marks; derived = instances; logs = reduced.logs }

    is_sharpened : IsSharpened study sharp
    is_sharpened =
        let same = told_same study taken instances present rising study.size (axioms_from study 0 instances) reduced.refutation.core told core_from accepted in
        record {
          right = record {
            accepted = named_accepted study instances reduced.refutation.core told present accepted;
            core = refl;
            instances = refl;
            marks = marks_right study instances present listed reduced.refutation.core reduced.refutation.witnesses is_within same have_witnesses;
          };
          derived = present;
          logs = right.logs;
          evidence = evidence_right (derived_study study instances) instances rising reduced.logs listed reduced.refutation.core is_within same reduced.refutation.witnesses right.refutation.logged;
        }

    pub sharpened_as : (s : Sharp) → s.story ≡ story → s.core ≡ core_of study s.story → s.instances ≡ instances_of study s.story
        → s.marks ≡ marks_kept s.instances (map (derived_instance instances) reduced.refutation.core) reduced.refutation.witnesses → s.derived ≡ instances → s.logs ≡ reduced.logs → IsSharpened study s
    sharpened_as s story_is core_is instances_is marks_is derived_is logs_is =
        let core_same : s.core ≡ core_of study story = core_is ∙ ap (core_of study) story_is in
        let instances_same : s.instances ≡ listed = instances_is ∙ ap (instances_of study) story_is in
        let marks_same : s.marks ≡ marks = marks_is ∙ ap (λ (xs : List Cited). marks_kept xs (map (derived_instance instances) reduced.refutation.core) reduced.refutation.witnesses) instances_same in
        let whole : s ≡ sharp = λ i. record { core = core_same i; story = story_is i; instances = instances_same i; marks = marks_same i; derived = derived_is i; logs = logs_is i } in
        subst (IsSharpened study) (sym whole) is_sharpened
