-- Of an outcome exactly one of a literal of the size and its opposite holds.
use Rattle.std.proofs.Common.{◌<◌, Bool, List, arith, eq-eqb, false, le-ltb, ltb-true, not, refl, sym, true, true≢false, ℕ, ◌≡◌}
use Rattle.std.proofs.lemmas.Bool.{both_ways}
use Rattle.vocab.specs.Literal.{opposite_of}
use Rattle.vocab.specs.Size.{Extent, outcome_count}
use Rattle.vocab.specs.declared.kinds.Kind.{Kind}
use Rattle.vocab.specs.declared.kinds.Kind.TheVariants.{Choice, Ranking, Sets}
use Rattle.vocab.specs.declared.literals.Literal.{Literal}
use Rattle.vocab.specs.declared.literals.Literal.TheVariants.{Above, Loses, Wins}
use Rattle.meaning.specs.Literals.{is_literal_of, is_of_winner}
use Rattle.meaning.specs.Space.{is_above, place, ranking}
use Rattle.meaning.specs.Truth.{holds_in, wins_in}
use Rattle.meaning.proofs.LiteralLaws.{ranking_in}
use Rattle.meaning.proofs.SpaceLaws.{one_is_above, ranking-contains}

winners_differ : (size : Extent) (k : Kind) (o : ℕ) (l : Literal) → is_of_winner size l ≡ true → holds_in size k o (opposite_of l) ≡ not (holds_in size k o l)
winners_differ size k o (Wins x p) h = refl
winners_differ size k o (Loses x p) h = elim (wins_in k o x) as (λ b. b ≡ not (not b)) [ true ↦ refl | false ↦ refl ]
winners_differ size k o (Above x y p) h = absurd (true≢false (sym h))

pub opposites_differ : (size : Extent) (k : Kind) (o : ℕ) → o < outcome_count k size.alternatives → (l : Literal) → is_literal_of size k l ≡ true → holds_in size k o (opposite_of l) ≡ not (holds_in size k o l)
opposites_differ size Choice o in_o l h = winners_differ size Choice o l h
opposites_differ size Ranking o in_o (Wins x p) h = absurd (true≢false (sym h))
opposites_differ size Ranking o in_o (Loses x p) h = absurd (true≢false (sym h))
opposites_differ size Ranking o in_o (Above x y p) h = cases (is_above r x y) refl
  where
    m : ℕ
    m = size.alternatives

    r : List ℕ
    r = ranking size.alternatives o

    cases : (b : Bool) → is_above r x y ≡ b → is_above r y x ≡ not b
    cases true e = let lt = ltb-true (place r x) (place r y) e in le-ltb (place r y) (place r x) (omega (arith, lt))
    cases false e =
        let a = ranking_in size x y p h in
        one_is_above r y x (λ q. both_ways _ a.2 (eq-eqb x y (sym q))) (ranking-contains m y o a.1 in_o) (ranking-contains m x o a.0 in_o) e
opposites_differ size Sets o in_o l h = winners_differ size Sets o l h
