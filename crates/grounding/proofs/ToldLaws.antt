-- An instance that is told to be true has no clauses.
use Rattle.std.proofs.Common.{◌≡◌, ◌∙◌, ℕ, ◌+◌, List, [], ap, map}
use Rattle.std.specs.Int.{bit_at}
use Rattle.vocab.specs.Formula.{body_of}
use Rattle.vocab.specs.Size.{Extent}
use Rattle.vocab.specs.Tree.{Tree}
use Rattle.cnf.specs.Sat.{Clause}
use Rattle.meaning.specs.Clauses.{known_truth}
use Rattle.meaning.specs.declared.clauses.Counts.{Counts}
use Rattle.meaning.specs.declared.three.Three.TheVariants.{True}
use Rattle.meaning.specs.Instances.{instance_values}
use Rattle.meaning.specs.StudyClauses.{clauses_of, instance_of}
use Rattle.clause_form.proofs.KnownLaws.{plus_true}
use Rattle.clause_form.proofs.WeightLaws.{measure_true}
use Rattle.lanes.specs.Lanes.{HasKnownPremise, IsPremiseToldFrom, IsToldFrom}
use Rattle.grounding.specs.Parts.{with_origin}
use Rattle.grounding.specs.Pieces.{measure_at, rows_at, sources_at}

module _ (size : Extent) (sentence : Tree) (from k word : ℕ) (told : IsToldFrom size sentence from word) (bit : bit_at word k ≡ 1) where
  known : known_truth (instance_of size sentence (from + k)) ≡ True
  known = (told k bit).1

  told_rows : rows_at size sentence (from + k) ≡ []
  told_rows = ap (clauses_of size) (plus_true (instance_of size sentence (from + k)) known)

  pub told_sources : (base : ℕ) → sources_at size sentence base (from + k) ≡ []
  told_sources base = ap (λ (rows : List Clause). map (λ (c : Clause). with_origin c (base + (from + k))) rows) told_rows

  pub told_measure : (c : Counts) → c ≡ record { clauses = 0; literals = 0 } → c ≡ measure_at size sentence (from + k)
  told_measure c e = e ∙ measure_true (instance_of size sentence (from + k)) known

-- an instance whose left side is told to be true is an implication with such a side
pub told_premise : (size : Extent) (sentence : Tree) (from k word : ℕ) → IsPremiseToldFrom size sentence from word → bit_at word k ≡ 1 → HasKnownPremise size (body_of sentence) (instance_values size sentence (from + k))
told_premise size sentence from k word told bit = (told k bit).1
