use Rattle.clause_form.proofs.BoundLaws.{known_as}
use Rattle.clause_form.proofs.bounds.atom_bound.Goals as goal

pub returns-in-Equal : goal.returns-in-Equal
returns-in-Equal c = λ env. rw c.in-Equal.is (known_as _)

pub returns-in-Prefers : goal.returns-in-Prefers
returns-in-Prefers c = λ env. rw c.in-Prefers.is (known_as _)

pub returns-in-Better : goal.returns-in-Better
returns-in-Better c = λ env. rw c.in-Better.is (known_as _)

pub returns-in-Casts : goal.returns-in-Casts
returns-in-Casts c = λ env. rw c.in-Casts.is (known_as _)

pub returns-in-Majority : goal.returns-in-Majority
returns-in-Majority c = λ env. rw c.in-Majority.is (known_as _)
