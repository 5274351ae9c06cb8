-- When a voter gains by another ballot from a rule that gives sets: Kelly, "Strategy-proofness and social choice functions
-- without singlevaluedness" (1977).
use Rattle.std.specs.Prelude.{ℕ, Bool, not, ◌&&◌, ◌||◌, ◌==◌, List, map, slice_index, Option}
use Rattle.std.specs.List.{find, flat_map, list_all}
use Rattle.vocab.specs.declared.kinds.Sort.TheVariants.{Ballot, Profile}
use Rattle.vocab.specs.Size.{Extent, sort_count}
use Rattle.meaning.specs.Space.{below, casts_of, is_ballot, prefers, with_ballot}
use Rattle.meaning.specs.Subsets.{elements}
use Rattle.choice_sets.specs.declared.gains.Manipulation.{Manipulation}

module _ (size : Extent) where
  -- a voter at a profile with each ballot, the one that is cast there among them
  abbrev pub of_voter : ℕ → ℕ → List Manipulation
  of_voter p i = map (λ b. record { profile = p; voter = i; ballot = b }) (below (sort_count size Ballot))

  -- those of all voters at a profile, by voter
  abbrev pub of_profile : ℕ → List Manipulation
  of_profile p = flat_map (of_voter p) (below size.voters)

  -- all, by profile
  abbrev pub manipulations : List Manipulation
  manipulations = flat_map of_profile (below (sort_count size Profile))

  -- each of some alternatives is each of some others, or stands above it in voter i's ballot at p
  abbrev pub are_as_good : (i p : ℕ) → (ys xs : List ℕ) → Bool
  are_as_good i p ys xs = list_all (λ y. list_all (λ x. y == x || prefers size i y x p) xs) ys

  module _ (table : List ℕ) where
    -- the outcome at a profile
    abbrev pub outcome_at : ℕ → ℕ
    outcome_at p = slice_index table p

    -- the profile with the other ballot
    abbrev pub changed : Manipulation → ℕ
    changed m = with_ballot size m.profile m.voter m.ballot

    -- the voter gains: is not absent at the profile, and gets another set, each element of which is each element of the
    -- set in its place, or stands above it in the voter's own ballot
    abbrev pub gains : Manipulation → Bool
    gains m =
        is_ballot size (slice_index (casts_of size m.profile) m.voter) && not (outcome_at (changed m) == outcome_at m.profile)
        && are_as_good m.voter m.profile (elements size.alternatives (outcome_at (changed m))) (elements size.alternatives (outcome_at m.profile))

    -- the first manipulation by which its voter gains
    abbrev pub first_gain : Option Manipulation
    first_gain = find gains manipulations
