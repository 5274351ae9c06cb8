-- Cores: axioms by their places, and for each of them a rule that satisfies the others. That no rule satisfies all of them is said by a
-- story (`Stories`), and not here.
use Rattle.std.specs.Prelude.{ℕ, Bool, true, not, ◌&&◌, ◌==◌, ◌+◌, nat_lt, List, [], ◌∷◌, length, filter}
use Rattle.std.specs.Cmp.Lexicographic.{pointwise}
use Rattle.vocab.specs.Titled.{Titled}
use Rattle.vocab.specs.Size.{Extent}
use Rattle.meaning.specs.declared.cores.Witness.{Witness}
use Rattle.meaning.specs.declared.cores.Witness.TheVariants.{Rule, Open}
use Rattle.meaning.specs.Truth.{satisfies}

-- places from one number up to another, each once and in order
abbrev pub is_core_from : ℕ → ℕ → List ℕ → Bool
is_core_from from end [] = true
is_core_from from end (k ∷ core) = not (nat_lt k from) && nat_lt k end && is_core_from (k + 1) end core

module _ (size : Extent) (axioms : List Titled) (conflicts : ℕ) where
  -- a witness for an axiom of the core: a rule that satisfies the core without it, or an open mark with the limit of the study
  abbrev pub is_witness : List ℕ → ℕ → Witness → Bool
  is_witness core k (Rule table) = satisfies size axioms (filter (λ c. not (c == k)) core) table
  is_witness core k (Open limit) = limit == conflicts

  -- a core is right, as far as its form and its witnesses go: it names axioms of the study, each once and in order, and each has its witness
  abbrev pub is_core_right : List ℕ → List Witness → Bool
  is_core_right core witnesses = is_core_from 0 (length axioms) core && pointwise (is_witness core) core witnesses
