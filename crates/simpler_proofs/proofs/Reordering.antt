-- Lines with the hints of given ones in some order.
use Rattle.std.proofs.Common.{subst, ◌≡◌, ◌∙◌, ℕ, ◌<◌, inl, inr, Bool, true, List, [], ◌++◌, map, length, get_or, sym, ap, refl}
use Rattle.std.specs.Prelude.{All}
use Rattle.std.proofs.lemmas.List.{get_or-map, length-map, ext_get_or}
use Rattle.std.proofs.lemmas.List.Sorted.{IsPermutation-refl}
use Rattle.std.proofs.lemmas.List.Sums.{AllPass-from_list_all, list_all-from_AllPass}
use Rattle.cnf.specs.Sat.{Clause}
use Rattle.cnf.specs.Fresh.{AreOver, added_by, is_over}
use Rattle.cnf.specs.declared.derivations.Line.{Line}
use Rattle.cnf.specs.declared.derivations.Step.{Step}
use Rattle.cnf.specs.declared.derivations.Step.TheVariants.{Add, Drop}
use Rattle.line_hints.specs.Ids.{all_added}
use Rattle.simpler_proofs.specs.Made.{ArePaired, EachPasses, AreSimpler, HasHintsOf, AreReordered, NamesEach, is_single, is_pair, is_part_of}
use Rattle.simpler_proofs.proofs.Named.{named_reordered}

-- a step has its own hints
has_own_hints : (s : Step) → HasHintsOf s s
has_own_hints (Add id clause hints) = (refl, refl, IsPermutation-refl hints)
has_own_hints (Drop ids) = refl

-- lines in the order in which they are
pub same_order : (lines : List Line) → AreReordered lines lines
same_order lines = record { count = refl; each = λ k d lt. has_own_hints (get_or lines k d).step }

-- the added clause is the same
same_clause : (s t : Step) → HasHintsOf s t → added_by t ≡ added_by s
same_clause (Add id clause hints) (Add k same order) h = h.1
same_clause (Add id clause hints) (Drop ids) h = absurd h
same_clause (Drop ids) t h = ap added_by h

-- a test that each added clause passes
pub passing_reordered : (test : Clause → Bool) (given lines : List Line) → AreReordered given lines → EachPasses test given → EachPasses test lines
passing_reordered test given lines same h =
    let passes : (l : Line) → Bool = λ l. test (added_by l.step) in
    list_all-from_AllPass passes lines (λ k d lt.
    let within : k < length given = subst (λ (n : ℕ). k < n) same.count lt in
    subst (λ (c : Clause). test c ≡ true) (sym (same_clause (get_or given k d).step (get_or lines k d).step (same.each k d within)))
    (AllPass-from_list_all passes given h k d within))

-- the variables are as before
pub over_reordered : (n : ℕ) (given lines : List Line) → AreReordered given lines → AreOver n given → AreOver n lines
over_reordered n given lines same h = passing_reordered (is_over n) given lines same h

-- the same clauses are added
same_added : (given lines : List Line) → AreReordered given lines → all_added lines ≡ all_added given
same_added given lines same =
    let f : Line → Clause = λ l. added_by l.step in
    let d : Line = record { at = 0; step = Drop [] } in
    let count : length (map f lines) ≡ length (map f given) = length-map lines f ∙ same.count ∙ sym (length-map given f) in
    ext_get_or [] (map f lines) (map f given) count (λ i lt.
    let here : i < length lines = subst (λ (n : ℕ). i < n) (length-map lines f) lt in
    let there : i < length given = subst (λ (n : ℕ). i < n) same.count here in
    get_or-map f lines i d [] here ∙ same_clause (get_or given i d).step (get_or lines i d).step (same.each i d there) ∙ sym (get_or-map f given i d [] there))

-- each literal is needed as before
pub paired_reordered : (clauses : List Clause) (given lines : List Line) → AreReordered given lines → ArePaired clauses given → ArePaired clauses lines
paired_reordered clauses given lines same h = record {
  pairs = passing_reordered is_pair given lines same h.pairs;
  needed = subst (λ (added : List Clause). All (λ line. NamesEach (clauses ++ added) line.step) lines) (sym (same_added given lines same)) (λ k d lt.
      let within : k < length given = subst (λ (n : ℕ). k < n) same.count lt in
      named_reordered (clauses ++ all_added given) (get_or given k d).step (get_or lines k d).step (same.each k d within) (h.needed k d within));
}

-- and so are the clauses simpler
pub simpler_reordered : (clauses : List Clause) (old given lines : List Line) → AreReordered given lines → AreSimpler clauses old given → AreSimpler clauses old lines
simpler_reordered clauses old given lines same (inl h) = inl (passing_reordered is_single given lines same h)
simpler_reordered clauses old given lines same (inr (inl h)) = inr (inl (paired_reordered clauses given lines same h))
simpler_reordered clauses old given lines same (inr (inr h)) = inr (inr (passing_reordered (is_part_of old) given lines same h))
