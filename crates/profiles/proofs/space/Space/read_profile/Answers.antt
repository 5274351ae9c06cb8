use Rattle.std.proofs.Common.{◌≡◌, true, ◌<◌, ◌∙◌, ◌+◌, ◌*◌, ◌^◌, ◌++◌, ℕ, get_or, sym, ap, subst, drop, length, arith, eqb-true, eq-eqb, true≢false}
use Rattle.vocab.specs.Size.{cast_count}
use Rattle.meaning.proofs.DigitLaws.{product-replicate}
use Rattle.meaning.specs.Space.{casts_of}
use Rattle.meaning.proofs.SpaceLaws.{cast_positive}
use Rattle.profiles.proofs.DigitPlaces.{IsListed, below_product, cast_below, lists_few}
use Rattle.meaning.specs.Texts.{profile_text}
use Rattle.profiles.proofs.DistinctTexts.{same_listed}
use Rattle.profiles.proofs.JoinLemmas.{barred}
use Rattle.profiles.proofs.ProfileTexts.{front_first, front_more, number_first, number_more, power_within, profile_front, follows_first, follows_next, follows_more, all_read, none_follow, texts_of}
use Rattle.profiles.proofs.space.Space.read_profile.Goals as goal

pub returns-in_default-clause-refused : goal.returns-in_default-clause-refused
returns-in_default-clause-refused c = λ p h e.
    let some : 0 < c.args.self.now.voters = omega arith in
    c.in_default.ensures (get_or (casts_of c.args.self.now p) 0 0) (barred (drop 1 (texts_of c.args.self.now p))) (cast_below c.args.self.now p 0 c.voters-voters.ensures.valid (below_product c.args.self.now p h) some) (e ∙ profile_front c.args.self.now p some)

pub loop-i-init : goal.loop-i-init
loop-i-init c =
    let some : 0 < c.args.self.now.voters = omega arith in
    record {
      small = number_first (cast_count c.args.self.now) c.in-Some.first c.in-Some.ensures.0;
      read = c.in-Some.ensures.1 ∙ ap (λ t. t ++ c.in-Some.after_first.now) (sym (front_first c.args.self.now c.in-Some.first));
      follows = λ p h e. follows_first c.args.self.now p c.in-Some.first c.args.text.now c.in-Some.after_first.now c.voters-voters.ensures.valid c.in-Some.ensures.1 e;
    }

pub returns-in_default-next_cast-clause-refused : goal.returns-in_default-next_cast-clause-refused
returns-in_default-next_cast-clause-refused c = λ p h e.
    let inner : c.loop-i._i < c.args.self.now.voters = omega arith in
    c.in_default-next_cast.ensures (get_or (casts_of c.args.self.now p) c.loop-i._i 0) (barred (drop (c.loop-i._i + 1) (texts_of c.args.self.now p))) (cast_below c.args.self.now p c.loop-i._i c.voters-voters.ensures.valid (below_product c.args.self.now p h) inner)
    (c.loop-i.invariant.follows p h e ∙ follows_next c.args.self.now p c.loop-i._i inner)

pub overflow_mul-profile : goal.overflow_mul-profile
overflow_mul-profile c =
    let f = cast_count c.args.self.now in
    let inner : c.loop-i._i < c.args.self.now.voters = omega arith in
    let more : c.loop-i.profile * f + c.in-Some-next_cast.cast < f ^ (c.loop-i._i + 1) = number_more f c.loop-i._i c.loop-i.profile c.in-Some-next_cast.cast c.loop-i.invariant.small c.in-Some-next_cast.ensures.0 in
    let within : c.loop-i.profile * f + c.in-Some-next_cast.cast < f ^ c.args.self.now.voters = power_within f c.loop-i._i c.args.self.now.voters _ inner (cast_positive c.args.self.now c.voters-voters.ensures.valid) more in
    let few = lists_few c.args.self.now in
    let lists = product-replicate c.args.self.now.voters (cast_count c.args.self.now) in
    rw c.cast_count-casts.ensures.value (omega arith)

pub overflow_add-profile : goal.overflow_add-profile
overflow_add-profile c =
    let f = cast_count c.args.self.now in
    let inner : c.loop-i._i < c.args.self.now.voters = omega arith in
    let more : c.loop-i.profile * f + c.in-Some-next_cast.cast < f ^ (c.loop-i._i + 1) = number_more f c.loop-i._i c.loop-i.profile c.in-Some-next_cast.cast c.loop-i.invariant.small c.in-Some-next_cast.ensures.0 in
    let within : c.loop-i.profile * f + c.in-Some-next_cast.cast < f ^ c.args.self.now.voters = power_within f c.loop-i._i c.args.self.now.voters _ inner (cast_positive c.args.self.now c.voters-voters.ensures.valid) more in
    let few = lists_few c.args.self.now in
    let lists = product-replicate c.args.self.now.voters (cast_count c.args.self.now) in
    rw c.cast_count-casts.ensures.value (omega arith)

pub loop-i-preserved : goal.loop-i-preserved
loop-i-preserved c =
    let inner : c.loop-i._i < c.args.self.now.voters = omega arith in
    let some : 0 < c.loop-i._i = omega arith in
    record {
      small = rw c.cast_count-casts.ensures.value (number_more (cast_count c.args.self.now) c.loop-i._i c.loop-i.profile c.in-Some-next_cast.cast c.loop-i.invariant.small c.in-Some-next_cast.ensures.0);
      read = rw c.cast_count-casts.ensures.value (front_more c.args.self.now c.loop-i._i c.loop-i.profile c.in-Some-next_cast.cast c.args.text.now c.loop-i.rest.now c.in-Some-next_cast.after.now some c.in-Some-next_cast.ensures.0 c.loop-i.invariant.small c.loop-i.invariant.read c.in-Some-next_cast.ensures.1);
      follows = λ p h e. follows_more c.args.self.now p c.loop-i._i c.in-Some-next_cast.cast c.loop-i.rest.now c.in-Some-next_cast.after.now c.voters-voters.ensures.valid inner c.in-Some-next_cast.ensures.1 (c.loop-i.invariant.follows p h e);
    }

pub returns-then-not-is_empty-clause-refused : goal.returns-then-not-is_empty-clause-refused
returns-then-not-is_empty-clause-refused c = λ p h e.
    let all : c.loop-i._i ≡ c.args.self.now.voters = omega arith in
    let empty : c.is_empty.result ≡ true = c.is_empty.ensures ∙ eq-eqb _ _ (none_follow c.args.self.now c.loop-i._i p c.loop-i.rest.now all (c.loop-i.invariant.follows p h e)) in
    true≢false (sym empty ∙ c.if-not-is_empty.true)

pub returns-else-profile-count-clause-refused : goal.returns-else-profile-count-clause-refused
returns-else-profile-count-clause-refused c = λ p h e.
    let all : c.loop-i._i ≡ c.args.self.now.voters = omega arith in
    let none : length c.loop-i.rest.now ≡ 0 = eqb-true _ _ (sym c.is_empty.ensures ∙ c.if-not-is_empty.false) in
    let text : c.args.text.now ≡ profile_text c.args.self.now c.loop-i.profile = all_read c.args.self.now c.loop-i._i c.loop-i.profile c.args.text.now c.loop-i.rest.now all none c.loop-i.invariant.read in
    let lists = product-replicate c.args.self.now.voters (cast_count c.args.self.now) in
    let power : c.loop-i.profile < cast_count c.args.self.now ^ c.args.self.now.voters = subst (λ (k : ℕ). c.loop-i.profile < cast_count c.args.self.now ^ k) all c.loop-i.invariant.small in
    let listed : IsListed c.args.self.now c.loop-i.profile = omega (arith, lists, power) in
    let same : p ≡ c.loop-i.profile = same_listed c.args.self.now c.voters-voters.ensures.valid p c.loop-i.profile (below_product c.args.self.now p h) listed (sym e ∙ text) in
    omega (arith, same, h, c.if-profile-count.false, c.count.ensures.value)
