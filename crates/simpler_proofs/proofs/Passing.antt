-- Clauses that pass tests.
use Rattle.std.proofs.Common.{subst, ◌≡◌, ℕ, ◌<◌, ◌≤◌, ◌&&◌, inl, inr, Bool, true, List, [], ◌∷◌, length, get_or, sym, refl, arith, leb-true, Option, Some, None}
use Rattle.std.specs.Prelude.{IfSome, nat_le}
use Rattle.std.specs.List.{list_all, list_any}
use Rattle.std.proofs.lemmas.Bool.{and_from, and_parts, le-leb, or_cases, or_right}
use Rattle.std.proofs.lemmas.List.Folds.{list_any_at}
use Rattle.std.proofs.lemmas.List.Sums.{AllPass-from_list_all, list_all-from_AllPass}
use Rattle.lists.proofs.TestLaws.{all_read}
use Rattle.cnf.specs.Signed.{Signed}
use Rattle.cnf.specs.Sat.{Clause, contains_clause, has_lit}
use Rattle.cnf.specs.Trimmed.{is_empty_clause}
use Rattle.cnf.proofs.LitLaws.{all_members}
use Rattle.cnf.specs.Fresh.{AreOver, added_by, is_over}
use Rattle.cnf.specs.declared.derivations.Line.{Line}
use Rattle.simpler_proofs.specs.Made.{EachPasses, is_pair, is_part, is_part_of, has_at_most}

-- what is added at level 0 is empty
pub over_propagated : (n m : ℕ) (lines more : List Line) → m ≡ n → AreOver n lines → ((test : Clause → Bool) → test [] ≡ true → EachPasses test lines → EachPasses test more) → AreOver m more
over_propagated n m lines more same over passes = subst (λ (v : ℕ). AreOver v more) (sym same) (passes (is_over n) refl over)

-- a test of each clause is one of the clause at a place
pub each_at : (test : Clause → Bool) (lines : List Line) (i : ℕ) (d : Line) → EachPasses test lines → i < length lines → test (added_by (get_or lines i d).step) ≡ true
each_at test lines i d h lt = all_read (λ (l : Line). test (added_by l.step)) lines i d lt h

-- a clause of which each literal is one of a given line's, and which has no more of them
part_of : (given : List Line) (i : ℕ) (d : Line) (part : Clause) → i < length given → length part ≤ length (added_by (get_or given i d).step) →
    ((pass : Signed → Bool) → list_all pass (added_by (get_or given i d).step) ≡ true → list_all pass part ≡ true) → is_part_of given part ≡ true
part_of given i d part lt few h =
    let whole : Clause = added_by (get_or given i d).step in
    let contained : contains_clause whole part ≡ true = h (has_lit whole) (all_members (has_lit whole) whole (λ k e. e)) in
    or_right (is_empty_clause part) _ (list_any_at (λ (g : Line). is_part (added_by g.step) part) given i d lt (and_from _ _ contained (le-leb (length part) (length whole) few)))

-- each part of a clause passes a test: a clause that is no longer, and of no other literals
abbrev pub PartsPass : (Clause → Bool) → Clause → Type 0
PartsPass test clause = (part : Clause) → length part ≤ length clause → ((pass : Signed → Bool) → list_all pass clause ≡ true → list_all pass part ≡ true) → test part ≡ true

-- what is left of a clause is added
pub over_left : (n m : ℕ) (lines more : List Line) (clause : Clause) → m ≡ n → is_over n clause ≡ true → AreOver n lines → ((test : Clause → Bool) → PartsPass test clause → EachPasses test lines → EachPasses test more) → AreOver m more
over_left n m lines more clause same in_range over passes = subst (λ (v : ℕ). AreOver v more) (sym same)
    (passes (is_over n) (λ part few h. h (λ (l : Signed). nat_le 1 l.variable && nat_le l.variable n) in_range) over)

-- what is left of a clause with few literals
pub short_left : (most : ℕ) (lines more : List Line) (clause : Clause) → length clause ≤ most → EachPasses (has_at_most most) lines → ((test : Clause → Bool) → PartsPass test clause → EachPasses test lines → EachPasses test more) → EachPasses (has_at_most most) more
short_left most lines more clause short h passes = passes (has_at_most most) (λ part few _. le-leb _ _ (omega (arith, few, short))) h

-- what is left of the clause of a given line
pub parts_left : (given lines more : List Line) (i : ℕ) (d : Line) (clause : Clause) → i < length given → added_by (get_or given i d).step ≡ clause → EachPasses (is_part_of given) lines →
    ((test : Clause → Bool) → PartsPass test clause → EachPasses test lines → EachPasses test more) → EachPasses (is_part_of given) more
parts_left given lines more i d clause lt at h passes = passes (is_part_of given)
    (subst (PartsPass (is_part_of given)) at (λ part few all. part_of given i d part lt few all)) h

-- a part of a clause of at most two literals has at most two
pair_of_part : (whole part : Clause) → is_pair whole ≡ true → is_part whole part ≡ true → is_pair part ≡ true
pair_of_part whole part pair h =
    let few : length whole ≤ 2 = leb-true (length whole) 2 pair in
    let fewer : length part ≤ length whole = leb-true (length part) (length whole) (and_parts (contains_clause whole part) (nat_le (length part) (length whole)) h).1 in
    le-leb (length part) 2 (omega (arith, few, fewer))

pair_of_some : (given : List Line) (clause : Clause) → EachPasses is_pair given → list_any (λ (g : Line). is_part (added_by g.step) clause) given ≡ true → is_pair clause ≡ true
pair_of_some [] clause h e = absurd (cc)
pair_of_some (g ∷ gs) clause h e =
    let split = and_parts (is_pair (added_by g.step)) (list_all (λ (l : Line). is_pair (added_by l.step)) gs) h in
    elim (or_cases (is_part (added_by g.step) clause) (list_any (λ (l : Line). is_part (added_by l.step) clause) gs) e) [
      | inl here ↦ pair_of_part (added_by g.step) clause split.0 here
      | inr there ↦ pair_of_some gs clause split.1 there
    ]

pair_of_given : (given : List Line) (clause : Clause) → EachPasses is_pair given → is_part_of given clause ≡ true → is_pair clause ≡ true
pair_of_given given [] h e = refl
pair_of_given given (l ∷ ls) h e = pair_of_some given (l ∷ ls) h e

-- parts of clauses of at most two literals have no more
pub pairs_of_parts : (given lines : List Line) → EachPasses is_pair given → EachPasses (is_part_of given) lines → EachPasses is_pair lines
pairs_of_parts given lines h parts = list_all-from_AllPass (λ (l : Line). is_pair (added_by l.step)) lines (λ k d lt.
    pair_of_given given (added_by (get_or lines k d).step) h (AllPass-from_list_all (λ (l : Line). is_part_of given (added_by l.step)) lines parts k d lt))

pub pairs_made : (o : Option (List Line)) (given : List Line) → EachPasses is_pair given → IfSome o (EachPasses (is_part_of given)) → IfSome o (EachPasses is_pair)
pairs_made None given h p = tt
pairs_made (Some lines) given h p = pairs_of_parts given lines h p

-- a test that the trimmed derivation has from the one it was made of
pub passes_made : (o : Option (List Line)) (test : Clause → Bool) (lines : List Line) → EachPasses test lines → IfSome o (λ new. (t : Clause → Bool) → EachPasses t lines → EachPasses t new) → IfSome o (EachPasses test)
passes_made None test lines h p = tt
passes_made (Some new) test lines h p = p test h
