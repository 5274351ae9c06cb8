-- How many outcomes a kind has.
use Rattle.std.proofs.Common.{refl, ℕ, ◌-◌, ◌^◌, ◌≤◌, arith, leb-true}
use Rattle.std.specs.Prelude.{nat_le}
use Rattle.vocab.specs.declared.kinds.Kind.{Kind}
use Rattle.vocab.specs.declared.kinds.Kind.TheVariants.{Choice, Ranking, Sets}
use Rattle.vocab.specs.Size.{outcome_count}
use Rattle.meaning.proofs.SpaceLaws.{all_at, factorial_small}

pub few_outcomes : (kind : Kind) (m : ℕ) → m ≤ 5 → outcome_count kind m ≤ 120
few_outcomes Choice m h = omega arith
few_outcomes Ranking m h = factorial_small m h
few_outcomes Sets m h = leb-true (2 ^ m - 1) 120 (all_at (λ n. nat_le (2 ^ n - 1) 120) 6 0 m refl (omega arith) (omega (arith, h)))
