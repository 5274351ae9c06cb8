-- Facts, claim by claim: each claim, as `a wins`, is said once, with the profiles where it is made.
use Rattle.std.specs.Prelude.{ℕ, nat_lt, ◌==◌, Bool, false, ◌&&◌, List, [], ◌++◌, codes, count_by, if◌then◌else◌}
use Rattle.std.specs.Fmt.{decimal}
use Rattle.std.specs.List.{flat_map}
use Rattle.vocab.specs.declared.kinds.Kind.{Kind}
use Rattle.vocab.specs.declared.kinds.Kind.TheVariants.{Choice, Ranking, Sets}
use Rattle.vocab.specs.declared.literals.Literal.{Literal}
use Rattle.vocab.specs.declared.literals.Literal.TheVariants.{Wins, Loses, Above}
use Rattle.vocab.specs.Literal.{profile_of}
use Rattle.vocab.specs.Range.{below}
use Rattle.vocab.specs.Size.{Extent}
use Rattle.tellings.specs.declared.tellings.Placed.{Placed}
use Rattle.html.specs.Facts.{claim_html, ballots_html, profile_html}

-- two literals claim the same, each of its own profile
abbrev pub is_alike : Literal → Literal → Bool
is_alike (Wins x p) (Wins y q) = x == y
is_alike (Loses x p) (Loses y q) = x == y
is_alike (Above x y p) (Above v w q) = x == v && y == w
is_alike _ _ = false

-- the sentence of a number states such a fact by this step
abbrev pub is_stated : ℕ → Literal → Placed → Bool
is_stated number head placed = placed.sentence == number && is_alike head placed.step.literal

-- what is said of an alternative that wins, or does not
abbrev pub winning_html : (Literal → List ℕ) → ℕ → List ℕ
winning_html phrase x = phrase (Wins x 0) ++ phrase (Loses x 0)

module _ (alternatives : ℕ) (phrase : Literal → List ℕ) where
  -- of one alternative that stands above another
  abbrev pub above_html : ℕ → List ℕ
  above_html x = flat_map (λ y. phrase (Above x y 0)) (below alternatives)

  -- of each claim that the literals of a kind can make
  abbrev pub claims_html : Kind → List ℕ
  claims_html Choice = flat_map (winning_html phrase) (below alternatives)
  claims_html Ranking = flat_map above_html (below alternatives)
  claims_html Sets = flat_map (winning_html phrase) (below alternatives)

-- the profiles of more than six facts are folded
abbrev pub unfolded_html : ℕ → List ℕ
unfolded_html count = codes " <details><summary>" ++ decimal count ++ codes " profiles</summary><code>"

abbrev pub begin_fold_html : ℕ → List ℕ
begin_fold_html count = if nat_lt 6 count then unfolded_html count else []

abbrev pub end_fold_html : ℕ → List ℕ
end_fold_html count = if nat_lt 6 count then codes "</code></details></div>" else codes "</div>"

module _ (size : Extent) where
  -- a claim that is made so often, with the profiles
  abbrev pub start_html : Literal → ℕ → List ℕ
  start_html head count = codes "<div>" ++ claim_html size.kind head ++ codes " at" ++ begin_fold_html count

  abbrev pub some_html : Literal → ℕ → List ℕ → List ℕ
  some_html head count profiles = start_html head count ++ profiles ++ end_fold_html count

  abbrev pub phrase_html : Literal → ℕ → List ℕ → List ℕ
  phrase_html head count profiles = if count == 0 then [] else some_html head count profiles

  -- a profile, by itself or in a fold
  abbrev pub profile_or_ballots_html : ℕ → ℕ → List ℕ
  profile_or_ballots_html count p = if nat_lt 6 count then ballots_html size p else profile_html size p

  -- the profile of a fact, of so many that make a claim
  abbrev pub at_html : ℕ → Literal → List ℕ
  at_html count l = codes " " ++ profile_or_ballots_html count (profile_of l)

  -- ---- facts in a list

  -- the profile of a fact that makes a claim
  abbrev pub listed_html : ℕ → Literal → Literal → List ℕ
  listed_html count head l = if is_alike head l then at_html count l else []

  -- the facts that make a claim, which are so many
  abbrev pub some_held : List Literal → Literal → ℕ → List ℕ
  some_held facts head count = phrase_html head count (flat_map (listed_html count head) facts)

  abbrev pub held_html : List Literal → Literal → List ℕ
  held_html facts head = some_held facts head (count_by (is_alike head) facts)

  -- facts, claim by claim
  abbrev pub facts_html : List Literal → List ℕ
  facts_html facts = claims_html size.alternatives (held_html facts) size.kind

  -- a claim alone, and all claims of facts
  abbrev pub said_html : Literal → List ℕ
  said_html head = codes "<div>" ++ claim_html size.kind head ++ codes "</div>"

  abbrev pub alone_html : List Literal → Literal → List ℕ
  alone_html facts head = if count_by (is_alike head) facts == 0 then [] else said_html head

  abbrev pub alone_claims_html : List Literal → List ℕ
  alone_claims_html facts = claims_html size.alternatives (alone_html facts) size.kind

  -- ---- facts that a sentence states

  -- the profile of a step by which the sentence of a number states such a fact
  abbrev pub placed_html : (count number : ℕ) → Literal → Placed → List ℕ
  placed_html count number head placed = if is_stated number head placed then at_html count placed.step.literal else []

  -- the facts by which the sentence makes a claim, which are so many
  abbrev pub some_stated : List Placed → ℕ → Literal → ℕ → List ℕ
  some_stated steps number head count = phrase_html head count (flat_map (placed_html count number head) steps)

  abbrev pub stated_html : List Placed → ℕ → Literal → List ℕ
  stated_html steps number head = some_stated steps number head (count_by (is_stated number head) steps)

  -- all facts that the sentence states, claim by claim
  abbrev pub stated_facts_html : List Placed → ℕ → List ℕ
  stated_facts_html steps number = claims_html size.alternatives (stated_html steps number) size.kind
