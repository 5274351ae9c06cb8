-- The sentence `strategyproof` of set-valued rules says that no voter gains.
use Rattle.std.proofs.Common.{◌≡◌, refl, sym, ◌∙◌, ap, subst, ℕ, ◌-◌, ◌^◌, ◌<◌, ◌≤◌, Bool, true, false, not, ◌&&◌, ◌||◌, List, [], Ok, Result, arith, ltb-false, ◌↔◌}
use Rattle.std.specs.Prelude.{◌==◌, slice_index, IsTrue}
use Rattle.std.specs.Bool.{beq}
use Rattle.std.specs.List.{list_all}
use Rattle.std.proofs.lemmas.Option.{slice_get_past}
use Rattle.vocab.specs.declared.kinds.Kind.{Kind}
use Rattle.vocab.specs.declared.kinds.Kind.TheVariants.{Sets}
use Rattle.vocab.specs.declared.kinds.Sort.TheVariants.{Ballot, Profile}
use Rattle.vocab.specs.NamedTree.{NamedTree}
use Rattle.vocab.specs.Size.{Extent, IsSize, ballot_count, ballot_places, outcome_count, sort_count}
use Rattle.meaning.specs.Space.{below, casts_of, is_above, is_ballot, prefers, ranking_at, with_ballot}
use Rattle.meaning.specs.Truth.{is_rule, wins_in}
use Rattle.meaning.proofs.SpaceLaws.{all_at, all_from, some_profile}
use Rattle.meaning.proofs.StoryLaws.{outcome_in_range}
use Rattle.syntax.proofs.OneAnswer.{one_answer}
use Rattle.sorts.specs.NamedTruth.{is_named_true}
use Rattle.sorts.specs.Symbols.{function_of, predicate_of}
use Rattle.axiom_library.specs.Library.{sets}
use Rattle.axiom_library.proofs.Reading.{strategyproof_of_sets_read}
use Rattle.axiom_library.proofs.Trees.{strategyproof_of_sets}
use Rattle.choice_sets.specs.Laws.{HasNoGain, IsStrategyproofOfSets}
use Rattle.choice_sets.proofs.GainLaws.{no_gain, sentence}

module _ (size : Extent) (table : List ℕ) where
  abbrev m : ℕ
  m = size.alternatives

  abbrev outcome : ℕ → ℕ
  outcome p = slice_index table p

  -- what the sentence says at a profile, of a voter and a ballot, of a rule of a kind
  abbrev says : Kind → ℕ → ℕ → ℕ → Bool
  says k p i b =
      let q = with_ballot size p i b in
      list_all (λ z.
      not (list_all (λ x. list_all (λ y. not (wins_in k (outcome p) x && wins_in k (outcome q) y) || (x == y || prefers size i y x p)) (below m)) (below m))
      || beq (wins_in k (outcome p) z) (wins_in k (outcome q) z)) (below m)

  abbrev says_all : Kind → Bool
  says_all k = list_all (λ p. list_all (λ i. list_all (says k p i) (below (sort_count size Ballot))) (below size.voters)) (below (sort_count size Profile))

  named : is_named_true size table [] strategyproof_of_sets ≡ says_all size.kind
  unfolding function_of predicate_of
  named = refl

  -- an absent voter has nothing above anything
  absent : (i p : ℕ) → is_ballot size (slice_index (casts_of size p) i) ≡ false → (y x : ℕ) → prefers size i y x p ≡ false
  absent i p h y x =
      let c = slice_index (casts_of size p) i in
      let past : ballot_count size ≤ c = ltb-false c (ballot_count size) h in
      ap (λ o. is_above (ranking_at m o) y x) (slice_get_past (ballot_places size) c past)

  module _ (is : IsSize size) (gives_sets : size.kind ≡ Sets) (rule : is_rule size table ≡ true) where
    code_in : (p : ℕ) → outcome p < 2 ^ m - 1
    code_in p = subst (λ k. outcome p < outcome_count k m) gives_sets (outcome_in_range size table rule (some_profile size is) p)

    gain_none : says_all Sets ≡ true → HasNoGain size table
    gain_none h g in_size =
        let q = with_ballot size g.profile g.voter g.ballot in
        let at_p = all_at (λ p. list_all (λ i. list_all (says Sets p i) (below (sort_count size Ballot))) (below size.voters)) (sort_count size Profile) 0 g.profile h (omega arith) (omega (arith, in_size.profile)) in
        let at_i = all_at (λ i. list_all (says Sets g.profile i) (below (sort_count size Ballot))) size.voters 0 g.voter at_p (omega arith) (omega (arith, in_size.voter)) in
        let at_b = all_at (says Sets g.profile g.voter) (sort_count size Ballot) 0 g.ballot at_i (omega arith) (omega (arith, in_size.ballot)) in
        no_gain m (λ y x. prefers size g.voter y x g.profile) (outcome g.profile) (outcome q) (code_in g.profile) (code_in q) (is_ballot size (slice_index (casts_of size g.profile) g.voter)) at_b

    sentence_from : HasNoGain size table → says_all Sets ≡ true
    sentence_from h =
        all_from _ (sort_count size Profile) 0 (λ p low in_p. all_from _ size.voters 0 (λ i low' in_i. all_from _ (sort_count size Ballot) 0 (λ b low'' in_b.
        let q = with_ballot size p i b in
        sentence m (λ y x. prefers size i y x p) (outcome p) (outcome q) (code_in p) (code_in q) (is_ballot size (slice_index (casts_of size p) i)) (absent i p)
        (h (record { profile = p; voter = i; ballot = b }) (record { profile = omega (arith, in_p); voter = omega (arith, in_i); ballot = omega (arith, in_b) })))))

    tree_says : IsTrue (is_named_true size table [] strategyproof_of_sets) ↔ HasNoGain size table
    tree_says = (
      λ h. gain_none (sym (named ∙ ap says_all gives_sets) ∙ h),
      λ h. named ∙ ap says_all gives_sets ∙ sentence_from h,
    )

ok_once : {A E : Type 0} {x y : A} → Path (Result A E) (Ok x) (Ok y) → x ≡ y
ok_once e = cc

-- the library's text reads as one tree
the_tree : (f : NamedTree) → IsStrategyproofOfSets f → strategyproof_of_sets ≡ f
unfolding sets
the_tree f reads = ok_once (one_answer _ (Ok strategyproof_of_sets) (Ok f) strategyproof_of_sets_read reads)

pub strategyproof_says : (size : Extent) → IsSize size → size.kind ≡ Sets → (table : List ℕ) → IsTrue (is_rule size table) →
    (f : NamedTree) → IsStrategyproofOfSets f → IsTrue (is_named_true size table [] f) ↔ HasNoGain size table
strategyproof_says size is gives_sets table rule f reads =
    subst (λ (tree : NamedTree). IsTrue (is_named_true size table [] tree) ↔ HasNoGain size table) (the_tree f reads) (tree_says size table is gives_sets rule)
