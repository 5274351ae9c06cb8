use Rattle.std.proofs.Common.{◌≡◌, ◌<◌, ◌∙◌, ◌+◌, ◌/◌, ◌%◌, ap, ap₂, ℕ, cond, get_or, arith}
use Rattle.std.specs.Prelude.{count_by}
use mir.Val.{bool_byte}
use Rattle.meaning.specs.Space.{better}
use Rattle.profiles.specs.Weights.{weights_of}
use Rattle.profiles.proofs.DigitChanges.{ballots_from, next_ballot_below, IsRest-next, count_next, byte_of, byte_small}
use Rattle.profiles.proofs.DigitPlaces.{below_product}
use Rattle.profiles.proofs.space.Space.majority.Goals as goal

pub loop-i-init : goal.loop-i-init
loop-i-init c = record { left = below_product c.args.self.now c.args.p c.requires.profile; some_above = omega arith; some_below = omega arith; above = omega arith; below = omega arith }

pub ranks-requires-clause-cast : goal.ranks-requires-clause-cast
ranks-requires-clause-cast c =
    let inner : c.loop-i.i < c.args.self.now.voters = omega arith in
    rw c.weight-weight.ensures.value (next_ballot_below c.args.self.now c.loop-i.i c.loop-i.rest c.voters-i-end.ensures.valid inner c.loop-i.invariant.left)

pub ranks-requires-in-loop-i-clause-cast : goal.ranks-requires-in-loop-i-clause-cast
ranks-requires-in-loop-i-clause-cast c =
    let inner : c.loop-i.i < c.args.self.now.voters = omega arith in
    rw c.weight-weight.ensures.value (next_ballot_below c.args.self.now c.loop-i.i c.loop-i.rest c.voters-i-end.ensures.valid inner c.loop-i.invariant.left)

pub loop-i-preserved : goal.loop-i-preserved
loop-i-preserved c =
    let inner : c.loop-i.i < c.args.self.now.voters = omega arith in
    let size = c.args.self.now in
    let cast = c.loop-i.rest / get_or (weights_of c.args.self.now) c.loop-i.i 0 in
    let says_above : bool_byte c.ranks.result ≡ cond (better size cast c.args.x c.args.y) 1 0 = byte_of c.ranks.result ∙ ap (λ b. cond b 1 0) (c.ranks.ensures ∙ ap (λ (w : ℕ). better c.args.self.now (c.loop-i.rest / w) c.args.x c.args.y) c.weight-weight.ensures.value) in
    let says_below : bool_byte c.ranks-in-loop-i.result ≡ cond (better size cast c.args.y c.args.x) 1 0 = byte_of c.ranks-in-loop-i.result ∙ ap (λ b. cond b 1 0) (c.ranks-in-loop-i.ensures ∙ ap (λ (w : ℕ). better c.args.self.now (c.loop-i.rest / w) c.args.y c.args.x) c.weight-weight.ensures.value) in
    record {
      left = rw c.weight-weight.ensures.value (IsRest-next c.args.self.now c.loop-i.i c.loop-i.rest c.voters-i-end.ensures.valid inner);
      some_above = omega (arith, byte_small c.ranks.result);
      some_below = omega (arith, byte_small c.ranks-in-loop-i.result);
      above = ap₂ (λ (k w : ℕ). c.loop-i.above + k + count_by (λ (b : ℕ). better size b c.args.x c.args.y) (ballots_from size (c.loop-i.i + 1) (c.loop-i.rest % w))) says_above c.weight-weight.ensures.value
          ∙ count_next (λ (b : ℕ). better size b c.args.x c.args.y) size c.loop-i.i c.loop-i.rest c.loop-i.above _ inner c.loop-i.invariant.above;
      below = ap₂ (λ (k w : ℕ). c.loop-i.below + k + count_by (λ (b : ℕ). better size b c.args.y c.args.x) (ballots_from size (c.loop-i.i + 1) (c.loop-i.rest % w))) says_below c.weight-weight.ensures.value
          ∙ count_next (λ (b : ℕ). better size b c.args.y c.args.x) size c.loop-i.i c.loop-i.rest c.loop-i.below _ inner c.loop-i.invariant.below;
    }
