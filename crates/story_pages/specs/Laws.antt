-- What holds of a story on a page. Each is the contract of a function of the same name in src/laws.rt.
use Rattle.std.specs.Prelude.{◌≡◌, ℕ, ◌+◌, ◌<◌, Bool, true, false, List, [], ◌∷◌, ◌++◌, IsTrue, codes, length, slice_get, Some}
use Rattle.vocab.specs.declared.literals.Literal.{Literal}
use Rattle.vocab.specs.Literal.{profile_of}
use Rattle.vocab.specs.Size.{Extent}
use Rattle.vocab.specs.Titled.{Titled}
use Rattle.meaning.specs.Literals.{is_literal}
use Rattle.meaning.specs.declared.stories.Lemma.{Lemma}
use Rattle.meaning.specs.declared.stories.Reason.{Reason}
use Rattle.meaning.specs.declared.stories.Reason.TheVariants.{Outcome as ByOutcome}
use Rattle.tellings.specs.Tellings.{are_said, stand_there, names_lemma, namers, is_shallow, greatest_depth, IsStoryTold}
use Rattle.tellings.specs.declared.tellings.By.{By}
use Rattle.tellings.specs.declared.tellings.By.TheVariants.{Axiom, Outcome, Lemma as Earlier}
use Rattle.tellings.specs.declared.tellings.Sentence.{Sentence}
use Rattle.tellings.specs.declared.tellings.Placed.{Placed}
use Rattle.tellings.specs.declared.tellings.Passage.{Passage}
use Rattle.tellings.specs.declared.tellings.Telling.{Telling}
use Rattle.tellings.specs.declared.tellings.StoryTelling.{StoryTelling}
use Rattle.story_pages.specs.Claims.{some_html, at_html, said_html}
use Rattle.story_pages.specs.Ends.{is_by_outcome, end_html}
use Rattle.story_pages.specs.Homes.{story_html}
use Rattle.story_pages.specs.Known.{grey_mark, grey_numbered_mark, numbered_mark, known_html}
use Rattle.story_pages.specs.Lemmas.{claimed_html, suppose_html, table_html}
use Rattle.story_pages.specs.Sentences.{says_there, since_html, given_html, by_html, sentence_at}

-- a text stands in another
pub record StandsIn (part whole : List ℕ) : Type 0 where
  pub before : List ℕ
  pub after : List ℕ
  pub is : whole ≡ before ++ (part ++ after)

-- the claim of a fact is said in a text, and the fact's profile stands among those where it is made
pub record IsFactSaid (size : Extent) (fact : Literal) (text : List ℕ) : Type 0 where
  pub count : ℕ
  pub profiles : List ℕ
  pub claim : StandsIn (some_html size fact count profiles) text
  pub profile : StandsIn (at_html size count fact) profiles

module _ (size : Extent) where
  -- a fact that is rested on is said; its claim alone, where the claims are made "there"
  abbrev pub IsRestSaid : Bool → Literal → List ℕ → Type 0
  IsRestSaid true fact text = StandsIn (said_html size fact) text
  IsRestSaid false fact text = IsFactSaid size fact text

  -- the fact of a step is said; by an earlier claim with the claim's number
  abbrev pub IsStated : By → Placed → List ℕ → Type 0
  IsStated (Axiom k) placed text = IsFactSaid size placed.step.literal text
  IsStated Outcome placed text = IsFactSaid size placed.step.literal text
  IsStated Earlier placed text = StandsIn (given_html size placed) text

  -- what stands behind "since" names each fact that is rested on, however many these are
  abbrev pub NamesFacts : Bool → List Literal → Type 0
  NamesFacts there rests = (k : ℕ) (fact : Literal) → slice_get rests k ≡ Some fact →
      IsTrue (is_literal size fact) → IsRestSaid there fact (since_html size there rests)

-- each sentence names in front what it rests on (`sentence_html` is `since_html`, and then `by_html`)
abbrev pub SentencesNameFacts : Type 0
SentencesNameFacts = (size : Extent) (steps : List Placed) (number : ℕ) (sentence : Sentence) →
    NamesFacts size (says_there sentence.by steps number) sentence.rests

-- where a sentence that is told right says claims "there", each claim that it rests on stands among the facts
-- that it rests on of the profile of each fact that it states
abbrev pub ClaimsStandThere : Type 0
ClaimsStandThere =
    (size : Extent) (axioms : List Titled) (core : List ℕ) (earlier : List Lemma) (passage : Passage) (k : ℕ)
    (placed : Placed) (sentence : Sentence) → slice_get passage.steps k ≡ Some placed →
    slice_get passage.sentences placed.sentence ≡ Some sentence →
    IsTrue (are_said size axioms core earlier passage) →
    IsTrue (says_there sentence.by passage.steps placed.sentence) →
    IsTrue (stand_there sentence.rests (ByOutcome (profile_of placed.step.literal)))

-- the end of a lemma names in front what its last reason rests on
abbrev pub EndsNameFacts : Type 0
EndsNameFacts = (size : Extent) (last : Reason) (rests : List Literal) → NamesFacts size (is_by_outcome last) rests

-- each step is stated by its sentence, behind that
abbrev pub SentencesStateFacts : Type 0
SentencesStateFacts =
    (size : Extent) (axioms : List Titled) (steps : List Placed) (by : By) (k : ℕ) (placed : Placed) →
    slice_get steps k ≡ Some placed → IsTrue (is_literal size placed.step.literal) →
    IsStated size by placed (by_html size axioms steps placed.sentence by)

-- the cell of a profile has what is supposed, forced and stated there
pub record HasKnown (suppose : List Literal) (forced steps : List Placed) : Type 0 where
  pub supposed : (k : ℕ) (l : Literal) → slice_get suppose k ≡ Some l →
      StandsIn (grey_mark l) (known_html suppose forced steps (profile_of l))
  pub given : (k : ℕ) (placed : Placed) → slice_get forced k ≡ Some placed →
      StandsIn (grey_numbered_mark placed) (known_html suppose forced steps (profile_of placed.step.literal))
  pub stated : (k : ℕ) (placed : Placed) → slice_get steps k ≡ Some placed →
      StandsIn (numbered_mark placed) (known_html suppose forced steps (profile_of placed.step.literal))

abbrev pub CellsHaveFacts : Type 0
CellsHaveFacts = (suppose : List Literal) (forced steps : List Placed) → HasKnown suppose forced steps

-- each sentence of facts that are forced stands on the page
abbrev pub ForcedFactsStand : Type 0
ForcedFactsStand =
    (size : Extent) (axioms : List Titled) (story : List Lemma) (told : StoryTelling) (k : ℕ) →
    k < length told.forced.sentences →
    StandsIn (sentence_at size axioms told.forced k) (story_html size axioms story told)

-- all that is told of the lemma at a place stands in a text: where it supposes something, its claim with its
-- number; what it supposes, its sentences, what it is against, its table
pub record IsLemmaWritten (size : Extent) (axioms : List Titled) (forced : List Placed) (j : ℕ) (lemma : Lemma)
    (telling : Telling) (text : List ℕ) : Type 0 where
  pub claimed : 0 < length lemma.suppose → StandsIn (claimed_html size (j + 1) lemma.suppose) text
  pub supposed : StandsIn (suppose_html size lemma.suppose) text
  pub sentences : (k : ℕ) → k < length telling.passage.sentences →
      StandsIn (sentence_at size axioms telling.passage k) text
  pub ending : StandsIn (end_html size axioms lemma.last telling.end) text
  pub table : StandsIn (table_html size forced lemma telling) text

-- each lemma of a story that is told right stands on the page, by itself or within another
abbrev pub LemmasStand : Type 0
LemmasStand =
    (size : Extent) (axioms : List Titled) (core : List ℕ) (story : List Lemma) (told : StoryTelling) →
    IsStoryTold size axioms core story told → (j : ℕ) (lemma : Lemma) (telling : Telling) →
    slice_get story j ≡ Some lemma → slice_get told.lemmas j ≡ Some telling →
    IsLemmaWritten size axioms told.forced.steps j lemma telling (story_html size axioms story told)

-- a text stands in the item of a sentence, in front of it
pub record StandsInItem (part sentence page : List ℕ) : Type 0 where
  pub held : List ℕ
  pub first : StandsIn part held
  pub item : StandsIn (codes "<li>" ++ held ++ sentence ++ codes "</li>\n") page

-- all that is told of the lemma at a place stands where another uses it: in front of the sentence that names it,
-- or of the end, where the last reason does
pub record StandsWhereUsed (size : Extent) (axioms : List Titled) (forced : List Placed) (j : ℕ) (lemma : Lemma)
    (telling : Telling) (user : Lemma) (how : Telling) (page : List ℕ) : Type 0 where
  pub text : List ℕ
  pub written : IsLemmaWritten size axioms forced j lemma telling text
  pub by_step : (k : ℕ) (placed : Placed) → slice_get how.passage.steps k ≡ Some placed →
      IsTrue (names_lemma j placed.step.reason) →
      StandsInItem text (sentence_at size axioms how.passage placed.sentence) page
  pub by_last : IsTrue (names_lemma j user.last) →
      StandsIn (text ++ codes "<div class=e>" ++ end_html size axioms user.last how.end) page

-- each lemma of a story that is told right and that is named once in all stands where it is used, if the one that
-- uses it does not itself stand as deep as lemmas may
abbrev pub LemmasStandWhereUsed : Type 0
LemmasStandWhereUsed =
    (size : Extent) (axioms : List Titled) (core : List ℕ) (story : List Lemma) (told : StoryTelling) →
    IsStoryTold size axioms core story told → (j m : ℕ) (lemma : Lemma) (telling : Telling) (user : Lemma)
    (how : Telling) → slice_get story j ≡ Some lemma → slice_get told.lemmas j ≡ Some telling →
    slice_get story m ≡ Some user → slice_get told.lemmas m ≡ Some how → namers story told.lemmas j ≡ m ∷ [] →
    IsTrue (is_shallow told.homes greatest_depth m) →
    StandsWhereUsed size axioms told.forced.steps j lemma telling user how (story_html size axioms story told)
