-- A bound of the counts of all instances of an axiom.
use Rattle.std.specs.Prelude.{◌≡◌, ℕ, ◌+◌, ◌*◌, IsFalse}
use Rattle.vocab.specs.Study.{Question}
use Rattle.meaning.specs.declared.clauses.Counts.{Counts}
use Rattle.clause_form.specs.Bounds.{IsWithin}
use Rattle.sharp_verdicts.specs.Instances.{count_at}
use Rattle.sharp_verdicts.specs.Totals.{counts_of_instance, passes_clause_limits}
use Rattle.instance_totals.specs.Sums.{instance_at}

-- some counts, and after them as many as the instances of the axiom at a place have at most, pass no limit
pub record HasRoomFor (study : Question) (place : ℕ) (before after : Counts) : Type 0 where
  pub most : Counts
  pub each : (n : ℕ) → IsWithin (counts_of_instance study (instance_at place n)) most
  pub clauses : after.clauses ≡ before.clauses + count_at study place * most.clauses
  pub literals : after.literals ≡ before.literals + count_at study place * most.literals
  pub few : IsFalse (passes_clause_limits after)
