-- Each number has exactly one study.
use Rattle.std.proofs.Common.{◌≡◌, ◌≤◌, refl, sym, subst, ℕ, zero, suc, List, [], ◌∷◌, length, take, Bool, true, false, cond, Ok, arith, lit≤, lit<}
use Rattle.std.specs.Prelude.{◌+◌, ◌/◌, ◌%◌, ◌==◌}
use Rattle.std.specs.List.{AllByRecursion}
use Rattle.vocab.specs.declared.kinds.Kind.{Kind}
use Rattle.vocab.specs.declared.kinds.Kind.TheVariants.{Choice, Ranking}
use Rattle.vocab.specs.NamedDepth.{named_depth, quantifiers}
use Rattle.vocab.specs.NamedTree.{NamedTree}
use Rattle.vocab.specs.Size.{Extent, IsSize, full_size}
use Rattle.vocab.specs.Study.{Question}
use Rattle.syntax.specs.Canonical.{canonical_text}
use Rattle.syntax.specs.Sentence.{IsSentence}
use Rattle.syntax.proofs.RoundTrip.{tree_lexemes, writable_read}
use Rattle.sorts.specs.Answers.{answer_of}
use Rattle.sorts.specs.Scope.{sort_in}
use Rattle.sorts.specs.Symbols.{predicate_of, function_of}
use Rattle.axiom_library.specs.Library.{Entry, choice, ranking}
use Rattle.axiom_library.proofs.Trees as trees
use Rattle.axiom_library.proofs.Writing.{is_writable, writable_by_test}
use Rattle.study.proofs.Fitting.{Fits, is_fit, fits_by, AreFit, none_fit, more_fit, study_given}
use Rattle.study.proofs.OneAnswer.{one_of_listing}
use Rattle.study.proofs.AnswerSizes.{answer_size}
use Rattle.samples.specs.Sample.{sample_kind, sample_entries, entries_by, sample_listing, IsSampleStudy, SamplesAreStudies}

-- ---- the axioms of numbers, at each of their sizes

-- at the sizes of two and of three voters
record FitsBoth (kind : Kind) (e : Entry) : Type 0 where
  of_two : Fits (full_size kind 2 3) e
  of_three : Fits (full_size kind 3 3) e

fits : (kind : Kind) (e : Entry) (f : NamedTree) → canonical_text f ≡ e.text → is_writable f ≡ true → length (tree_lexemes f []) ≤ 600 → named_depth f ≤ 64 → quantifiers f ≤ 12
    → is_fit (full_size kind 2 3) (answer_of (full_size kind 2 3) f) ≡ true → is_fit (full_size kind 3 3) (answer_of (full_size kind 3 3) f) ≡ true → FitsBoth kind e
fits kind e f same writable few shallow few_variables two three =
    let reads : IsSentence e.text f = subst (λ t. IsSentence t f) same (writable_read f (writable_by_test f writable) few shallow few_variables) in
    record { of_two = fits_by (full_size kind 2 3) e f _ reads refl two; of_three = fits_by (full_size kind 3 3) e f _ reads refl three }

choices_fit : AllByRecursion (FitsBoth Choice) (take 9 choice)
unfolding choice answer_of sort_in predicate_of function_of
choices_fit = (
  fits Choice _ trees.unanimity refl refl (lit≤ tt) (lit≤ tt) (lit≤ tt) refl refl,
  (
    fits Choice _ trees.pareto refl refl (lit≤ tt) (lit≤ tt) (lit≤ tt) refl refl,
    (
      fits Choice _ trees.onto refl refl (lit≤ tt) (lit≤ tt) (lit≤ tt) refl refl,
      (
        fits Choice _ trees.non_dictatorship refl refl (lit≤ tt) (lit≤ tt) (lit≤ tt) refl refl,
        (
          fits Choice _ trees.strategyproof refl refl (lit≤ tt) (lit≤ tt) (lit≤ tt) refl refl,
          (
            fits Choice _ trees.maskin refl refl (lit≤ tt) (lit≤ tt) (lit≤ tt) refl refl,
            (
              fits Choice _ trees.condorcet refl refl (lit≤ tt) (lit≤ tt) (lit≤ tt) refl refl,
              (
                fits Choice _ trees.anonymity refl refl (lit≤ tt) (lit≤ tt) (lit≤ tt) refl refl,
                (
                  fits Choice _ trees.neutrality refl refl (lit≤ tt) (lit≤ tt) (lit≤ tt) refl refl,
                  tt,
                ),
              ),
            ),
          ),
        ),
      ),
    ),
  ),
)

rankings_fit : AllByRecursion (FitsBoth Ranking) (take 5 ranking)
unfolding ranking answer_of sort_in predicate_of function_of
rankings_fit = (
  fits Ranking _ trees.pareto_of_rankings refl refl (lit≤ tt) (lit≤ tt) (lit≤ tt) refl refl,
  (
    fits Ranking _ trees.independence_of_rankings refl refl (lit≤ tt) (lit≤ tt) (lit≤ tt) refl refl,
    (
      fits Ranking _ trees.non_dictatorship_of_rankings refl refl (lit≤ tt) (lit≤ tt) (lit≤ tt) refl refl,
      (
        fits Ranking _ trees.anonymity_of_rankings refl refl (lit≤ tt) (lit≤ tt) (lit≤ tt) refl refl,
        (
          fits Ranking _ trees.neutrality_of_rankings refl refl (lit≤ tt) (lit≤ tt) (lit≤ tt) refl refl,
          tt,
        ),
      ),
    ),
  ),
)

-- ---- those that a number chooses

-- they fit, as all do
chosen_fit : (size : Extent) (digits : ℕ) (entries : List Entry) → AllByRecursion (Fits size) entries → AreFit size (entries_by digits entries)
chosen_fit size digits [] all = none_fit size
chosen_fit size digits (e ∷ entries) all = by_digit (digits % 2 == 1) (chosen_fit size (digits / 2) entries all.1)
  where
    by_digit : (b : Bool) → AreFit size (entries_by (digits / 2) entries) → AreFit size (cond b (e ∷ entries_by (digits / 2) entries) (entries_by (digits / 2) entries))
    by_digit true rest = more_fit size e _ all.0 rest
    by_digit false rest = rest

-- ---- the study of a number

-- the size of two or three voters is one
sample_size : (kind : Kind) (more : ℕ) → more ≤ 1 → IsSize (full_size kind (2 + more) 3)
sample_size kind zero low = record {
  some_voter = lit≤ tt;
  few_voters = lit≤ tt;
  some_alternative = lit≤ tt;
  few_alternatives = lit≤ tt;
  some_ballot = lit≤ tt;
  no_other_ballot = lit< tt;
  few_profiles = lit≤ tt;
}
sample_size kind (suc zero) low = record {
  some_voter = lit≤ tt;
  few_voters = lit≤ tt;
  some_alternative = lit≤ tt;
  few_alternatives = lit≤ tt;
  some_ballot = lit≤ tt;
  no_other_ballot = lit< tt;
  few_profiles = lit≤ tt;
}
sample_size kind (suc (suc more)) low = absurd (omega (arith, low))

-- a number has at most one study
pub samples_once : (n : ℕ) (a b : Question) → IsSampleStudy n a → IsSampleStudy n b → a ≡ b
samples_once n a b h k = let same = one_of_listing (sample_listing n) (Ok a) (Ok b) h k in cc

-- it is at a size
pub samples_sized : (n : ℕ) (study : Question) → IsSampleStudy n study → IsSize study.size
samples_sized n study sample = subst IsSize (sym (answer_size (sample_listing n) study sample)) (sample_size (sample_kind n) (n / 2 % 2) (omega arith))

two_fit : (kind : Kind) (entries : List Entry) → AllByRecursion (FitsBoth kind) entries → AllByRecursion (Fits (full_size kind 2 3)) entries
two_fit kind [] all = tt
two_fit kind (e ∷ entries) all = (all.0.of_two, two_fit kind entries all.1)

three_fit : (kind : Kind) (entries : List Entry) → AllByRecursion (FitsBoth kind) entries → AllByRecursion (Fits (full_size kind 3 3)) entries
three_fit kind [] all = tt
three_fit kind (e ∷ entries) all = (all.0.of_three, three_fit kind entries all.1)

-- by how many voters there are beyond two
by_voters : (kind : Kind) (entries : List Entry) → AllByRecursion (FitsBoth kind) entries → (more : ℕ) → more ≤ 1 → AllByRecursion (Fits (full_size kind (2 + more) 3)) entries
by_voters kind entries all zero low = two_fit kind entries all
by_voters kind entries all (suc zero) low = three_fit kind entries all
by_voters kind entries all (suc (suc more)) low = absurd (omega (arith, low))

by_kind : (choose : Bool) → let kind : Kind = cond choose Choice Ranking in AllByRecursion (FitsBoth kind) (sample_entries kind)
by_kind true = choices_fit
by_kind false = rankings_fit

pub samples_given : SamplesAreStudies
samples_given n =
    let all = by_voters (sample_kind n) (sample_entries (sample_kind n)) (by_kind (n % 2 == 0)) (n / 2 % 2) (omega arith) in
    let size = full_size (sample_kind n) (2 + n / 2 % 2) 3 in
    let given = study_given size 20000 _ (chosen_fit size (n / 4) (sample_entries (sample_kind n)) all) in
    (given.0, given.1, λ other h. samples_once n other given.0 h given.1)
