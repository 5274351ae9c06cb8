-- How many clauses the frames of a study and all instances have together, and when these pass the limits of a list.
use Rattle.std.specs.Prelude.{◌≡◌, ◌+◌, ◌≤◌, ◌||◌, Bool, nat_lt, None, List, [], length, sum_by, slice_get}
use Rattle.std.specs.Option.{option_map_or}
use Rattle.vocab.specs.Study.{Question}
use Rattle.vocab.specs.Titled.{Titled}
use Rattle.meaning.specs.declared.clauses.Counts.{Counts}
use Rattle.meaning.specs.StudyClauses.{clauses_for}
use Rattle.clause_form.specs.Refusals.{counts_at, first_wide}
use Rattle.search_logs.specs.Spent.{all_places}
use Rattle.sharp_verdicts.specs.declared.instances.Cited.{Cited}
use Rattle.sharp_verdicts.specs.Instances.{all_instances}

-- more than 4,000,000 clauses, or more than 60,000,000 literals
abbrev pub passes_clause_limits : Counts → Bool
passes_clause_limits counts = nat_lt 4000000 counts.clauses || nat_lt 60000000 counts.literals

module _ (study : Question) where
  -- the counts of an instance, before anything is left out
  abbrev pub counts_of_instance : Cited → Counts
  counts_of_instance c = option_map_or (λ (a : Titled). counts_at study.size study.axioms a.sentence c.number) (slice_get study.axioms c.«axiom») (record { clauses = 0; literals = 0 })

  -- the clauses of the frames together with the counts of some instances
  abbrev pub total_of : List Cited → Counts
  total_of instances = record {
    clauses = length (clauses_for study.size study.axioms []) + sum_by (λ c. (counts_of_instance c).clauses) instances;
    literals = sum_by length (clauses_for study.size study.axioms []) + sum_by (λ c. (counts_of_instance c).literals) instances;
  }

  -- the counts of the frames together with those of all instances
  abbrev pub total : Counts
  total = total_of (all_instances study)

  -- no instance of the study is too wide, and the frames with all instances are within the limits of a list of clauses
  pub record IsWithinTotal : Type 0 where
    pub narrow : first_wide study.size study.axioms (all_places study) ≡ None
    pub clauses : (total_of (all_instances study)).clauses ≤ 4000000
    pub literals : (total_of (all_instances study)).literals ≤ 60000000
