-- Instance after instance of a block, of which some are told to be true whatever the rule.
use Rattle.std.proofs.Common.{◌≡◌, ◌∙◌, subst, ℕ, ◌+◌, true, List, [], inl, inr, arith}
use Rattle.std.proofs.lemmas.Bool.{cases_lt}
use Rattle.std.specs.Int.{bit_at}
use Rattle.vocab.specs.Formula.{body_of}
use Rattle.vocab.specs.Size.{Extent}
use Rattle.vocab.specs.Tree.{Tree}
use Rattle.meaning.specs.Instances.{instance_values, is_instance_true, AreInstancesTrue}
use Rattle.meaning.specs.StudyClauses.{instance_of}
use Rattle.meaning.specs.Truth.{holds}
use Rattle.meaning.specs.Written.{evaluate}
use Rattle.meaning.proofs.KleeneLaws.{Agrees, partial_agrees_by}
use Rattle.meaning.proofs.WrittenLaws.{truth_written}
use Rattle.lanes.specs.Lanes.{IsToldFrom}

-- what is known to be true whatever the rule is true of each
pub told_true : (size : Extent) (table : List ℕ) (sentence : Tree) (from word k : ℕ) → IsToldFrom size sentence from word → bit_at word k ≡ 1 → is_instance_true size table sentence (from + k) ≡ true
told_true size table sentence from word k told bit =
    let w = instance_of size sentence (from + k) in
    truth_written size table (body_of sentence) (instance_values size sentence (from + k))
    ∙ subst (Agrees (evaluate (holds size table) w)) (told k bit).1 (partial_agrees_by (holds size table) [] (λ l. tt) w)

-- one instance more
pub true_with : (size : Extent) (table : List ℕ) (sentence : Tree) (from n : ℕ) → AreInstancesTrue size table sentence from n → is_instance_true size table sentence n ≡ true → AreInstancesTrue size table sentence from (n + 1)
true_with size table sentence from n before this k low high = elim (cases_lt k n) [
  | inl less ↦ before k low less
  | inr le ↦ subst (λ i. is_instance_true size table sentence i ≡ true) (let e : n ≡ k = omega (arith, le, high) in e) this
]
