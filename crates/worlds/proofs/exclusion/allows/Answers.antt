use Rattle.std.proofs.Common.{◌≡◌, sym, ◌∙◌, ap, subst, ℕ, ◌+◌, ◌*◌, ◌<◌, ◌≤◌, arith, true, false}
use Rattle.vocab.specs.declared.kinds.Sort.TheVariants.{Profile}
use Rattle.vocab.specs.Size.{Extent, sort_count}
use Rattle.cnf.specs.Signed.{Signed}
use Rattle.meaning.specs.Literals.{is_literal}
use Rattle.meaning.specs.Variables.{bits}
use Rattle.std.specs.List.{list_all}
use Rattle.worlds.proofs.ExclusionLemmas.{numbers_fit, is_failing, checked_more, checked_all, fails_there}
use Rattle.worlds.proofs.exclusion.allows.Goals as goal

pub variable_at-variable-requires : goal.variable_at-variable-requires
variable_at-variable-requires g c =
    let size : Extent = g.K.OutcomeKind.size c.args.known.now.kind.now in
    let fit : c.args.p * c.bits-bits.result ≤ 200000 = numbers_fit c.args.p c.bits-bits.result (sort_count size Profile) c.requires.profile c.kinds_have_sizes.ensures.few_profiles c.bits-bits.ensures.few in
    omega (arith, fit, c.bits-bits.ensures.few, c.loop-place-test.true)

pub returns-then-is_broken : goal.returns-then-is_broken
returns-then-is_broken g c =
    let size : Extent = g.K.OutcomeKind.size c.args.known.now.kind.now in
    let n : ℕ = bits size.kind size.alternatives in
    let v : c.new.result.variable ≡ c.args.p * n + c.loop-place.place + 1 =
    ap (λ (s : Signed). s.variable) c.new.ensures ∙ c.variable_at-variable.ensures.value ∙ ap (λ (b : ℕ). c.args.p * b + c.loop-place.place + 1) c.bits-bits.ensures.value in
    let small : c.loop-place.place < n = subst (λ (b : ℕ). c.loop-place.place < b) c.bits-bits.ensures.value c.loop-place-test.true in
    sym (fails_there size c.args.known.now.board.now.literals c.args.outcome c.args.p c.new.result (omega (arith, v)) (omega (arith, v, small)) (sym c.is_broken.ensures ∙ c.if-is_broken.true))

pub returns-then-is_broken-2 : goal.returns-then-is_broken-2
returns-then-is_broken-2 g c =
    let size : Extent = g.K.OutcomeKind.size c.args.known.now.kind.now in
    let n : ℕ = bits size.kind size.alternatives in
    let v : c.new-in-loop-place.result.variable ≡ c.args.p * n + c.loop-place.place + 1 =
    ap (λ (s : Signed). s.variable) c.new-in-loop-place.ensures ∙ c.variable_at-variable.ensures.value ∙ ap (λ (b : ℕ). c.args.p * b + c.loop-place.place + 1) c.bits-bits.ensures.value in
    let small : c.loop-place.place < n = subst (λ (b : ℕ). c.loop-place.place < b) c.bits-bits.ensures.value c.loop-place-test.true in
    sym (fails_there size c.args.known.now.board.now.literals c.args.outcome c.args.p c.new-in-loop-place.result (omega (arith, v)) (omega (arith, v, small)) (sym c.is_broken-in-loop-place.ensures ∙ c.if-is_broken-2.true))

pub loop-place-preserved : goal.loop-place-preserved
loop-place-preserved g c =
    let size : Extent = g.K.OutcomeKind.size c.args.known.now.kind.now in
    let n : ℕ = bits size.kind size.alternatives in
    let last : ℕ = c.args.p * n + c.loop-place.place in
    let v : c.variable_at-variable.result ≡ last + 1 = c.variable_at-variable.ensures.value ∙ ap (λ (b : ℕ). c.args.p * b + c.loop-place.place + 1) c.bits-bits.ensures.value in
    let upright : c.new.result ≡ record { variable = last + 1; positive = true } = c.new.ensures ∙ ap (λ (w : ℕ). record { variable = w; positive = true }) v in
    let turned : c.new-in-loop-place.result ≡ record { variable = last + 1; positive = false } = c.new-in-loop-place.ensures ∙ ap (λ (w : ℕ). record { variable = w; positive = false }) v in
    λ s low high m. checked_more size c.args.known.now.board.now.literals c.args.outcome c.args.p last c.loop-place.invariant
    (subst (λ (s : Signed). is_failing size c.args.known.now.board.now.literals c.args.outcome c.args.p s ≡ false) upright (sym c.is_broken.ensures ∙ c.if-is_broken.false))
    (subst (λ (s : Signed). is_failing size c.args.known.now.board.now.literals c.args.outcome c.args.p s ≡ false) turned (sym c.is_broken-in-loop-place.ensures ∙ c.if-is_broken-2.false))
    s low (omega (arith, high)) m

pub returns : goal.returns
returns g c =
    let size : Extent = g.K.OutcomeKind.size c.args.known.now.kind.now in
    let n : ℕ = bits size.kind size.alternatives in
    let ours : list_all (is_literal size) c.args.known.now.board.now.literals ≡ true = subst (λ (e : Extent). list_all (is_literal e) c.args.known.now.board.now.literals ≡ true) c.args.known.now.same c.as_slice-known.ensures.ours in
    let done : n ≤ c.loop-place.place = subst (λ (b : ℕ). b ≤ c.loop-place.place) c.bits-bits.ensures.value c.loop-place-test.false in
    sym (checked_all size c.args.known.now.board.now.literals c.args.outcome c.args.p ours (λ s low high m. c.loop-place.invariant s low (omega (arith, high, done)) m))
