use Rattle.std.proofs.Common.{◌≡◌, ◌∙◌, ◌+◌, ◌++◌, ◌∷◌, [], ◌/◌, ◌^◌, ℕ, true, false, sym, ap, ap₂, refl, cond, Bool, bit_and, filter, set, arith}
use Rattle.vocab.proofs.Ranges.{kept-more, counted-passed, counted-failed, set-from, unset-from}
use Rattle.vocab.specs.InPlace.{padded}
use Rattle.vocab.specs.Range.{below}
use Rattle.vocab.specs.Size.{is_digit_set}
use Rattle.meaning.proofs.BallotLaws.{all_listed}
use Rattle.profiles.proofs.DigitPlaces.{padded-more}
use Rattle.profiles.proofs.space.places_of.Goals as goal
use Rattle.profiles.proofs.space.places_of.Goals.{then-ballots-place-eq1, else-ballots-place-eq1}
use Rattle.std.proofs.lemmas.List.{append-nil}
use Rattle.meaning.proofs.SpaceLaws.{factorial_small}

pub loop-place-init : goal.loop-place-init
loop-place-init c = record { counted = refl; few = omega arith; places = refl }

pub bounds-places-count : goal.bounds-places-count
bounds-places-count c = omega (arith, c.loop-place.invariant.few, c.loop-place-test.true)

pub overflow_add-count : goal.overflow_add-count
overflow_add-count c = omega (arith, c.loop-place.invariant.few, c.loop-place-test.true)

pub loop-place-preserved : goal.loop-place-preserved
loop-place-preserved c = elim c.if-ballots-place-eq1.branch [
  | then-ballots-place-eq1 w ↦
      let t : ℕ → Bool = is_digit_set c.args.size.ballots in
      let passes : is_digit_set c.args.size.ballots c.loop-place.place ≡ true = set-from c.args.size.ballots c.loop-place.place (ap (λ n. bit_and (n / 2 ^ c.loop-place.place) 1) (sym c.ballots-ballots.ensures) ∙ w.if-ballots-place-eq1.true) in
      let before = filter (is_digit_set c.args.size.ballots) (below c.loop-place.place) in
      let after : filter (is_digit_set c.args.size.ballots) (below (c.loop-place.place + 1)) ≡ before ++ c.loop-place.place ∷ [] = kept-more (is_digit_set c.args.size.ballots) c.loop-place.place ∙ ap (λ b. before ++ cond b (c.loop-place.place ∷ []) []) passes in
      record {
        counted = w.count-is ∙ ap (λ n. n + 1) c.loop-place.invariant.counted ∙ sym (counted-passed (is_digit_set c.args.size.ballots) c.loop-place.place passes);
        few = omega (arith, w.count-is, c.loop-place.invariant.few);
        places = w.places-is ∙ ap₂ (λ ps k. set ps k c.loop-place.place) c.loop-place.invariant.places c.loop-place.invariant.counted
            ∙ padded-more before 120 c.loop-place.place (omega (arith, c.loop-place.invariant.counted, c.loop-place.invariant.few, c.loop-place-test.true)) ∙ ap (padded 120) (sym after);
      }
  | else-ballots-place-eq1 w ↦
      let fails : is_digit_set c.args.size.ballots c.loop-place.place ≡ false = unset-from c.args.size.ballots c.loop-place.place (λ e. w.if-ballots-place-eq1.false (ap (λ n. bit_and (n / 2 ^ c.loop-place.place) 1) c.ballots-ballots.ensures ∙ e)) in
      let before = filter (is_digit_set c.args.size.ballots) (below c.loop-place.place) in
      let after : filter (is_digit_set c.args.size.ballots) (below (c.loop-place.place + 1)) ≡ before = kept-more (is_digit_set c.args.size.ballots) c.loop-place.place ∙ ap (λ b. before ++ cond b (c.loop-place.place ∷ []) []) fails ∙ append-nil before in
      record {
        counted = w.count-is ∙ c.loop-place.invariant.counted ∙ sym (counted-failed (is_digit_set c.args.size.ballots) c.loop-place.place fails);
        few = omega (arith, w.count-is, c.loop-place.invariant.few);
        places = w.places-is ∙ c.loop-place.invariant.places ∙ ap (padded 120) (sym after);
      }
]

pub returns : goal.returns
returns c =
    let whole : c.loop-place.place ≡ 120 = omega (arith, c.loop-place-test.false, c.loop-place.auto.place-end) in
    c.loop-place.invariant.places ∙ ap (λ k. padded 120 (filter (is_digit_set c.args.size.ballots) (below k))) whole
    ∙ ap (padded 120) (all_listed c.args.size 120 c.requires (factorial_small c.args.size.alternatives c.requires.few_alternatives))
