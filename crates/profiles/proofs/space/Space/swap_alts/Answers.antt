use Rattle.std.proofs.Common.{◌≡◌, ◌+◌, ◌*◌, ◌≤◌, ap₂, ◌<◌, ◌/◌, ◌∙◌, sym, subst, ap, ℕ, get_or, arith}
use Rattle.vocab.specs.Size.{sort_count}
use Rattle.vocab.specs.declared.kinds.Sort.TheVariants.{Profile}
use Rattle.meaning.specs.Space.{cast_swapped, with_alts_swapped}
use Rattle.meaning.proofs.RangeLaws.{alts_swapped_below}
use Rattle.profiles.specs.Weights.{weights_of}
use Rattle.profiles.proofs.DigitChanges.{next_ballot_below, IsRest-next, number_next, number_done}
use Rattle.profiles.proofs.DigitPlaces.{below_product}
use Rattle.profiles.proofs.space.Space.swap_alts.Goals as goal

pub loop-i-init : goal.loop-i-init
loop-i-init c = record { left = below_product c.args.self.now c.args.p c.requires.profile; number = omega arith }

pub exchanged-requires-clause-cast : goal.exchanged-requires-clause-cast
exchanged-requires-clause-cast c =
    let inner : c.loop-i.i < c.args.self.now.voters = omega arith in
    rw c.weight-weight.ensures.value (next_ballot_below c.args.self.now c.loop-i.i c.loop-i.rest c.voters-i-end.ensures.valid inner c.loop-i.invariant.left)

pub exchanged-requires-clause-row : goal.exchanged-requires-clause-row
exchanged-requires-clause-row c = λ place l. rw c.alternatives.ensures at (c.exchanged_ballots-exchanged.ensures place (rw c.alternatives.ensures l)).1

pub loop-i-preserved : goal.loop-i-preserved
loop-i-preserved c =
    let inner : c.loop-i.i < c.args.self.now.voters = omega arith in
    record {
      left = rw c.weight-weight.ensures.value (IsRest-next c.args.self.now c.loop-i.i c.loop-i.rest c.voters-i-end.ensures.valid inner);
      number = rw (c.exchanged.ensures, c.weight-weight.ensures.value) (number_next (cast_swapped c.args.self.now c.args.x c.args.y) c.args.self.now c.loop-i.i c.loop-i.rest c.loop-i.swapped (with_alts_swapped c.args.self.now c.args.p c.args.x c.args.y) inner c.loop-i.invariant.number);
    }

-- what is added is part of a number that is a profile's
within : (a b c total : ℕ) → a + b + c ≡ total → total ≤ 20000 → a + b ≤ 20000
within a b c total e few = omega arith

pub overflow_mul-swapped : goal.overflow_mul-swapped
overflow_mul-swapped c =
    let size = c.args.self.now in
    let inner : c.loop-i.i < c.args.self.now.voters = omega arith in
    let w = get_or (weights_of c.args.self.now) c.loop-i.i 0 in
    let value : c.exchanged.result * c.weight-weight.result ≡ cast_swapped c.args.self.now c.args.x c.args.y (c.loop-i.rest / w) * w = ap₂ (λ (a b : ℕ). a * b) (c.exchanged.ensures ∙ ap (λ (v : ℕ). cast_swapped c.args.self.now c.args.x c.args.y (c.loop-i.rest / v)) c.weight-weight.ensures.value) c.weight-weight.ensures.value in
    let next = number_next (cast_swapped c.args.self.now c.args.x c.args.y) c.args.self.now c.loop-i.i c.loop-i.rest c.loop-i.swapped (with_alts_swapped c.args.self.now c.args.p c.args.x c.args.y) inner c.loop-i.invariant.number in
    let whole = alts_swapped_below c.args.self.now c.requires.all c.args.p c.args.x c.args.y c.requires.profile c.requires.x c.requires.y in
    let few = c.voters-i-end.ensures.few_profiles in
    let small = within c.loop-i.swapped (cast_swapped c.args.self.now c.args.x c.args.y (c.loop-i.rest / w) * w) _ _ next (omega arith) in
    omega (arith, small, value)

pub overflow_add-swapped : goal.overflow_add-swapped
overflow_add-swapped c =
    let size = c.args.self.now in
    let inner : c.loop-i.i < c.args.self.now.voters = omega arith in
    let w = get_or (weights_of c.args.self.now) c.loop-i.i 0 in
    let value : c.exchanged.result * c.weight-weight.result ≡ cast_swapped c.args.self.now c.args.x c.args.y (c.loop-i.rest / w) * w = ap₂ (λ (a b : ℕ). a * b) (c.exchanged.ensures ∙ ap (λ (v : ℕ). cast_swapped c.args.self.now c.args.x c.args.y (c.loop-i.rest / v)) c.weight-weight.ensures.value) c.weight-weight.ensures.value in
    let next = number_next (cast_swapped c.args.self.now c.args.x c.args.y) c.args.self.now c.loop-i.i c.loop-i.rest c.loop-i.swapped (with_alts_swapped c.args.self.now c.args.p c.args.x c.args.y) inner c.loop-i.invariant.number in
    let whole = alts_swapped_below c.args.self.now c.requires.all c.args.p c.args.x c.args.y c.requires.profile c.requires.x c.requires.y in
    let few = c.voters-i-end.ensures.few_profiles in
    let small = within c.loop-i.swapped (cast_swapped c.args.self.now c.args.x c.args.y (c.loop-i.rest / w) * w) _ _ next (omega arith) in
    omega (arith, small, value)

pub returns-clause-in_range : goal.returns-clause-in_range
returns-clause-in_range c =
    let all : c.loop-i.i ≡ c.args.self.now.voters = omega arith in
    let done = number_done (cast_swapped c.args.self.now c.args.x c.args.y) c.args.self.now c.loop-i.i c.loop-i.rest c.loop-i.swapped (with_alts_swapped c.args.self.now c.args.p c.args.x c.args.y) all c.loop-i.invariant.number in
    subst (λ (k : ℕ). k < sort_count c.args.self.now Profile) (sym done) (alts_swapped_below c.args.self.now c.requires.all c.args.p c.args.x c.args.y c.requires.profile c.requires.x c.requires.y)
