-- Facts that are said on a page.
use Rattle.std.proofs.Common.{◌≡◌, refl, sym, subst, ℕ, ◌<◌, ◌==◌, true, List, Some, slice_get, nat_lt, count_by, ltb-true, eq-eqb, true≢false, ◌&&◌, not}
use Rattle.std.specs.List.{flat_map}
use Rattle.std.proofs.lemmas.Bool.{and_parts, and_from}
use Rattle.vocab.specs.declared.kinds.Kind.{Kind}
use Rattle.vocab.specs.declared.kinds.Kind.TheVariants.{Choice, Ranking, Sets}
use Rattle.vocab.specs.declared.literals.Literal.{Literal}
use Rattle.vocab.specs.declared.literals.Literal.TheVariants.{Wins, Loses, Above}
use Rattle.vocab.specs.Range.{below}
use Rattle.vocab.specs.Size.{Extent}
use Rattle.meaning.specs.Literals.{is_literal, is_literal_of}
use Rattle.tellings.specs.declared.tellings.Placed.{Placed}
use Rattle.story_pages.specs.Claims.{is_alike, is_stated, winning_html, above_html, claims_html, some_html, phrase_html, at_html, said_html, listed_html, held_html, facts_html, alone_html, alone_claims_html, placed_html, stated_html, stated_facts_html}
use Rattle.story_pages.specs.Laws.{StandsIn, IsFactSaid}
use Rattle.story_pages.proofs.StandLemmas.{whole, in_front, behind, within, in_map, in_below, some_pass, is_some}

-- the claim of a fact, at the first profile
abbrev pub bare : Literal → Literal
bare (Wins x p) = Wins x 0
bare (Loses x p) = Loses x 0
bare (Above x y p) = Above x y 0

pub bare_alike : (l : Literal) → is_alike (bare l) l ≡ true
bare_alike (Wins x p) = eq-eqb x x refl
bare_alike (Loses x p) = eq-eqb x x refl
bare_alike (Above x y p) = and_from (x == x) (y == y) (eq-eqb x x refl) (eq-eqb y y refl)

bare_some : (size : Extent) (l : Literal) (count : ℕ) (profiles : List ℕ) → some_html size (bare l) count profiles ≡ some_html size l count profiles
bare_some size (Wins x p) count profiles = refl
bare_some size (Loses x p) count profiles = refl
bare_some size (Above x y p) count profiles = refl

bare_said : (size : Extent) (l : Literal) → said_html size (bare l) ≡ said_html size l
bare_said size (Wins x p) = refl
bare_said size (Loses x p) = refl
bare_said size (Above x y p) = refl

-- what is said of the claim of each literal of a size
module _ (size : Extent) (phrase : Literal → List ℕ) where
  abbrev n : ℕ
  n = size.alternatives

  wins_said : (x : ℕ) → nat_lt x n ≡ true → StandsIn (phrase (Wins x 0)) (flat_map (winning_html phrase) (below n))
  wins_said x h =
      within (phrase (Wins x 0)) (winning_html phrase x) _ (in_front (phrase (Wins x 0)) (phrase (Wins x 0)) (phrase (Loses x 0)) (whole (phrase (Wins x 0))))
      (in_below (winning_html phrase) n x (ltb-true x n h))

  loses_said : (x : ℕ) → nat_lt x n ≡ true → StandsIn (phrase (Loses x 0)) (flat_map (winning_html phrase) (below n))
  loses_said x h =
      within (phrase (Loses x 0)) (winning_html phrase x) _ (behind (phrase (Loses x 0)) (phrase (Wins x 0)) (phrase (Loses x 0)) (whole (phrase (Loses x 0))))
      (in_below (winning_html phrase) n x (ltb-true x n h))

  above_said : (x y : ℕ) → nat_lt x n ≡ true → nat_lt y n ≡ true → StandsIn (phrase (Above x y 0)) (flat_map (above_html n phrase) (below n))
  above_said x y h i =
      within (phrase (Above x y 0)) (above_html n phrase x) _ (in_below (λ z. phrase (Above x z 0)) n y (ltb-true y n i))
      (in_below (above_html n phrase) n x (ltb-true x n h))

  phrase_said : (k : Kind) (l : Literal) → is_literal_of size k l ≡ true → StandsIn (phrase (bare l)) (claims_html n phrase k)
  phrase_said Choice (Wins x p) h = wins_said x (and_parts (nat_lt x n) _ h).0
  phrase_said Choice (Loses x p) h = loses_said x (and_parts (nat_lt x n) _ h).0
  phrase_said Choice (Above x y p) h = absurd (true≢false (sym h))
  phrase_said Ranking (Wins x p) h = absurd (true≢false (sym h))
  phrase_said Ranking (Loses x p) h = absurd (true≢false (sym h))
  phrase_said Ranking (Above x y p) h =
      let q = and_parts (nat_lt x n && nat_lt y n && not (x == y)) _ h in
      let r = and_parts (nat_lt x n && nat_lt y n) (not (x == y)) q.0 in
      let both = and_parts (nat_lt x n) (nat_lt y n) r.0 in
      above_said x y both.0 both.1
  phrase_said Sets (Wins x p) h = wins_said x (and_parts (nat_lt x n) _ h).0
  phrase_said Sets (Loses x p) h = loses_said x (and_parts (nat_lt x n) _ h).0
  phrase_said Sets (Above x y p) h = absurd (true≢false (sym h))

-- a phrase of a claim that is made at least once
some_phrase : (size : Extent) (l : Literal) (count : ℕ) (profiles : List ℕ) → 0 < count → phrase_html size (bare l) count profiles ≡ some_html size l count profiles
some_phrase size l count profiles h = rw (is_some count h) (bare_some size l count profiles)

-- facts in a list are said
module _ (size : Extent) (facts : List Literal) (k : ℕ) (l : Literal) (at : slice_get facts k ≡ Some l) (ours : is_literal size l ≡ true) where
  abbrev count : ℕ
  count = count_by (is_alike (bare l)) facts

  abbrev profiles : List ℕ
  profiles = flat_map (listed_html size count (bare l)) facts

  made : 0 < count
  made = some_pass (is_alike (bare l)) facts k l at (bare_alike l)

  listed : listed_html size count (bare l) l ≡ at_html size count l
  listed = rw (bare_alike l) refl

  pub fact_said : IsFactSaid size l (facts_html size facts)
  fact_said = record {
    count = count;
    profiles = profiles;
    claim = subst (λ t. StandsIn t (facts_html size facts)) (some_phrase size l count profiles made) (phrase_said size (held_html size facts) size.kind l ours);
    profile = subst (λ t. StandsIn t profiles) listed (in_map (listed_html size count (bare l)) facts k l at);
  }

  alone : alone_html size facts (bare l) ≡ said_html size l
  alone = rw (is_some count made) (bare_said size l)

  pub claim_said : StandsIn (said_html size l) (alone_claims_html size facts)
  claim_said = subst (λ t. StandsIn t (alone_claims_html size facts)) alone (phrase_said size (alone_html size facts) size.kind l ours)

-- facts that a sentence states are said
module _ (size : Extent) (steps : List Placed) (k : ℕ) (placed : Placed) (at : slice_get steps k ≡ Some placed) (ours : is_literal size placed.step.literal ≡ true) where
  abbrev l : Literal
  l = placed.step.literal

  abbrev number : ℕ
  number = placed.sentence

  abbrev times : ℕ
  times = count_by (is_stated number (bare l)) steps

  abbrev places : List ℕ
  places = flat_map (placed_html size times number (bare l)) steps

  stated_by : is_stated number (bare l) placed ≡ true
  stated_by = and_from (placed.sentence == number) (is_alike (bare l) l) (eq-eqb number number refl) (bare_alike l)

  stated_once : 0 < times
  stated_once = some_pass (is_stated number (bare l)) steps k placed at stated_by

  placed_at : placed_html size times number (bare l) placed ≡ at_html size times l
  placed_at = rw stated_by refl

  pub stated_said : IsFactSaid size l (stated_facts_html size steps number)
  stated_said = record {
    count = times;
    profiles = places;
    claim = subst (λ t. StandsIn t (stated_facts_html size steps number)) (some_phrase size l times places stated_once)
        (phrase_said size (stated_html size steps number) size.kind l ours);
    profile = subst (λ t. StandsIn t places) placed_at (in_map (placed_html size times number (bare l)) steps k placed at);
  }
