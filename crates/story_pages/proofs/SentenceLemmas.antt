-- What sentences and cells have.
use Rattle.std.proofs.Common.{◌≡◌, refl, sym, ◌∙◌, subst, ℕ, ◌<◌, Bool, true, false, List, [], ◌∷◌, ◌++◌, ◌&&◌, if◌then◌else◌, codes, length, arith, Some, slice_get, nat_lt, eq-eqb, eqb-true, true≢false}
use Rattle.std.specs.List.{flat_map}
use Rattle.std.proofs.lemmas.Bool.{and_parts}
use Rattle.std.proofs.lemmas.Option.{slice_get_within}
use Rattle.lists.proofs.TestLaws.{all_get}
use Rattle.vocab.specs.declared.literals.Literal.{Literal}
use Rattle.vocab.specs.Literal.{opposite_of, profile_of}
use Rattle.vocab.specs.Size.{Extent}
use Rattle.vocab.specs.Titled.{Titled}
use Rattle.meaning.specs.Literals.{is_literal}
use Rattle.meaning.specs.Stories.{refutes}
use Rattle.meaning.specs.declared.stories.Lemma.{Lemma}
use Rattle.meaning.specs.declared.stories.Reason.{Reason}
use Rattle.meaning.specs.declared.stories.Reason.TheVariants.{Axiom as ByAxiom, Outcome as ByOutcome, Lemma as ByLemma}
use Rattle.meaning.specs.declared.stories.StoryStep.{StoryStep}
use Rattle.tellings.specs.Tellings.{by_of, is_by, says_step, stand_there}
use Rattle.tellings.specs.declared.tellings.By.{By}
use Rattle.tellings.specs.declared.tellings.By.TheVariants.{Axiom, Outcome, Lemma as Earlier}
use Rattle.tellings.specs.declared.tellings.Placed.{Placed}
use Rattle.tellings.specs.declared.tellings.Sentence.{Sentence}
use Rattle.story_pages.specs.Claims.{said_html, facts_html, alone_claims_html, stated_facts_html}
use Rattle.story_pages.specs.Ends.{is_by_outcome}
use Rattle.story_pages.specs.Known.{grey_mark, grey_numbered_mark, supposed_mark, forced_mark, numbered_mark, stated_mark, known_html}
use Rattle.story_pages.specs.Sentences.{axiom_html, facts_fold, is_left_at, is_left_there, says_there, there_html, many_html, facts_or_many_html, rests_html, grounds_html, since_html, given_html, given_by, by_axiom_html, by_outcome_html, by_html}
use Rattle.story_pages.specs.Laws.{StandsIn, IsFactSaid, IsRestSaid, IsStated, NamesFacts, SentencesNameFacts, ClaimsStandThere, EndsNameFacts, SentencesStateFacts, CellsHaveFacts}
use Rattle.story_pages.proofs.StandLemmas.{whole, in_front, behind, between, within, in_map, is_some}
use Rattle.story_pages.proofs.SaidLemmas.{fact_said, claim_said, stated_said}

said_in : (size : Extent) (l : Literal) (one two : List ℕ) → IsFactSaid size l one → StandsIn one two → IsFactSaid size l two
said_in size l one two s t = record { count = s.count; profiles = s.profiles; claim = within _ one two s.claim t; profile = s.profile }

-- ---- what a sentence rests on

module _ (size : Extent) (rests : List Literal) where
  abbrev facts : List ℕ
  facts = facts_html size rests

  facts_named : StandsIn facts (facts_or_many_html size rests)
  facts_named = cases (nat_lt 30 (length rests))
    where
      cases : (b : Bool) → StandsIn facts (if b then many_html size rests else facts)
      cases true = between facts (facts_fold (length rests)) facts (codes "</details>") (whole facts)
      cases false = whole facts

  module _ (k : ℕ) (l : Literal) (at : slice_get rests k ≡ Some l) where
    there_are : 0 < length rests
    there_are = omega (arith, slice_get_within rests k l at)

    since_some : (there : Bool) → since_html size there rests ≡ grounds_html size there rests
    since_some there = rw (is_some (length rests) there_are) refl

    rests_stand : (there : Bool) → StandsIn (rests_html size there rests) (since_html size there rests)
    rests_stand there =
        subst (λ t. StandsIn (rests_html size there rests) t) (sym (since_some there))
        (between (rests_html size there rests) (codes "<div class=s>since ") (rests_html size there rests) (codes "</div>, ") (whole (rests_html size there rests)))

    module _ (ours : is_literal size l ≡ true) (text : List ℕ) where
      fact_named : StandsIn (facts_or_many_html size rests) text → IsFactSaid size l text
      fact_named s = said_in size l facts text (fact_said size rests k l at ours) (within facts (facts_or_many_html size rests) text facts_named s)

      is_named : (there : Bool) → StandsIn (rests_html size there rests) text → IsRestSaid size there l text
      is_named true s =
          within (said_html size l) (there_html size rests) text
          (in_front (said_html size l) (alone_claims_html size rests) (codes " there") (claim_said size rests k l at ours)) s
      is_named false s = fact_named s

  front_names : (there : Bool) → NamesFacts size there rests
  front_names there k l at ours = is_named k l at ours (since_html size there rests) there (rests_stand k l at there)

pub names : SentencesNameFacts
names size steps number sentence = front_names size sentence.rests (says_there sentence.by steps number)

pub ends : EndsNameFacts
ends size last rests = front_names size rests (is_by_outcome last)

-- ---- where claims stand

-- a reason that is what is left at the profile of a fact
at_its_profile : (rests : List Literal) (l : Literal) (reason : Reason) → is_left_at (profile_of l) reason ≡ true → stand_there rests reason ≡ true →
    stand_there rests (ByOutcome (profile_of l)) ≡ true
at_its_profile rests l (ByAxiom k values) left there = absurd (true≢false (sym left))
at_its_profile rests l (ByOutcome p) left there =
    subst (λ (q : ℕ). stand_there rests (ByOutcome q) ≡ true) (sym (eqb-true (profile_of l) p left)) there
at_its_profile rests l (ByLemma j) left there = absurd (true≢false (sym left))

-- a step of a sentence that says "there"
its_profile : (by : By) (steps : List Placed) (k : ℕ) (placed : Placed) → slice_get steps k ≡ Some placed → says_there by steps placed.sentence ≡ true →
    is_left_at (profile_of placed.step.literal) placed.step.reason ≡ true
its_profile (Axiom a) steps k placed at there = absurd (true≢false (sym there))
its_profile Outcome steps k placed at there = sym here ∙ all_get (is_left_there placed.sentence) steps k placed there at
  where
    here : is_left_there placed.sentence placed ≡ is_left_at (profile_of placed.step.literal) placed.step.reason
    here = rw (eq-eqb placed.sentence placed.sentence refl) refl
its_profile Earlier steps k placed at there = absurd (true≢false (sym there))

module _ (size : Extent) (axioms : List Titled) (core : List ℕ) (earlier : List Lemma) where
  said_there : (sentence : Sentence) (step : StoryStep) → says_step size axioms core earlier (Some sentence) step ≡ true → stand_there sentence.rests step.reason ≡ true
  said_there sentence step h =
      let named_and_there = and_parts (is_by sentence.by (by_of step.reason) && stand_there sentence.rests step.reason)
      (refutes size axioms core earlier (sentence.rests ++ opposite_of step.literal ∷ []) step.reason) h in
      (and_parts (is_by sentence.by (by_of step.reason)) (stand_there sentence.rests step.reason) named_and_there.0).1

pub claims_stand : ClaimsStandThere
claims_stand size axioms core earlier passage k placed sentence at stands said there =
    at_its_profile sentence.rests placed.step.literal placed.step.reason (its_profile sentence.by passage.steps k placed at there)
    (said_there size axioms core earlier sentence placed.step
    (subst (λ o. says_step size axioms core earlier o placed.step ≡ true) stands
    (all_get (λ placed. says_step size axioms core earlier (slice_get passage.sentences placed.sentence) placed.step) passage.steps k placed said at)))

-- ---- what a sentence states

module _ (size : Extent) (axioms : List Titled) (steps : List Placed) (k : ℕ) (placed : Placed) (at : slice_get steps k ≡ Some placed)
    (ours : is_literal size placed.step.literal ≡ true) (text : List ℕ) where
  abbrev number : ℕ
  number = placed.sentence

  abbrev stated : List ℕ
  stated = stated_facts_html size steps number

  given_here : given_by size number placed ≡ given_html size placed
  given_here = rw (eq-eqb number number refl) refl

  is_stated : (by : By) → StandsIn (by_html size axioms steps number by) text → IsStated size by placed text
  is_stated (Axiom a) s =
      said_in size placed.step.literal stated text (stated_said size steps k placed at ours)
      (within stated (by_axiom_html size axioms steps number a) text (behind stated (codes "by " ++ axiom_html axioms a ++ codes ": ") stated (whole stated)) s)
  is_stated Outcome s =
      said_in size placed.step.literal stated text (stated_said size steps k placed at ours)
      (within stated (by_outcome_html size steps number) text (behind stated (codes "by what is left: ") stated (whole stated)) s)
  is_stated Earlier s =
      within (given_html size placed) (flat_map (given_by size number) steps) text
      (subst (λ t. StandsIn t (flat_map (given_by size number) steps)) given_here (in_map (given_by size number) steps k placed at)) s

pub states : SentencesStateFacts
states size axioms steps by k placed at ours =
    let text = by_html size axioms steps placed.sentence by in is_stated size axioms steps k placed at ours text by (whole text)

-- ---- what a cell has

module _ (suppose : List Literal) (forced steps : List Placed) (p : ℕ) where
  abbrev first : List ℕ
  first = flat_map (supposed_mark p) suppose

  abbrev second : List ℕ
  second = flat_map (forced_mark p) forced

  abbrev third : List ℕ
  third = flat_map (stated_mark p) steps

  in_first : (part : List ℕ) → StandsIn part first → StandsIn part (known_html suppose forced steps p)
  in_first part s = in_front part (first ++ second) third (in_front part first second s)

  in_second : (part : List ℕ) → StandsIn part second → StandsIn part (known_html suppose forced steps p)
  in_second part s = in_front part (first ++ second) third (behind part first second s)

  in_third : (part : List ℕ) → StandsIn part third → StandsIn part (known_html suppose forced steps p)
  in_third part s = behind part (first ++ second) third s

grey_here : (l : Literal) → supposed_mark (profile_of l) l ≡ grey_mark l
grey_here l = rw (eq-eqb (profile_of l) (profile_of l) refl) refl

forced_here : (placed : Placed) → forced_mark (profile_of placed.step.literal) placed ≡ grey_numbered_mark placed
forced_here placed = rw (eq-eqb (profile_of placed.step.literal) (profile_of placed.step.literal) refl) refl

numbered_here : (placed : Placed) → stated_mark (profile_of placed.step.literal) placed ≡ numbered_mark placed
numbered_here placed = rw (eq-eqb (profile_of placed.step.literal) (profile_of placed.step.literal) refl) refl

pub cells : CellsHaveFacts
cells suppose forced steps = record {
  supposed = λ k l at. in_first suppose forced steps (profile_of l) (grey_mark l)
      (subst (λ t. StandsIn t (flat_map (supposed_mark (profile_of l)) suppose)) (grey_here l) (in_map (supposed_mark (profile_of l)) suppose k l at));
  given = λ k placed at. in_second suppose forced steps (profile_of placed.step.literal) (grey_numbered_mark placed)
      (subst (λ t. StandsIn t (flat_map (forced_mark (profile_of placed.step.literal)) forced)) (forced_here placed)
      (in_map (forced_mark (profile_of placed.step.literal)) forced k placed at));
  stated = λ k placed at. in_third suppose forced steps (profile_of placed.step.literal) (numbered_mark placed)
      (subst (λ t. StandsIn t (flat_map (stated_mark (profile_of placed.step.literal)) steps)) (numbered_here placed)
      (in_map (stated_mark (profile_of placed.step.literal)) steps k placed at));
}
