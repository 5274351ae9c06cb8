use Rattle.std.proofs.Common.{◌≡◌, ℕ, List, [], ◌∷◌, ◌++◌, length, map, subst, sym, ◌∙◌}
use Rattle.std.proofs.lemmas.List.{length-map}
use Rattle.vocab.specs.Size.{sort_count}
use Rattle.vocab.specs.Tree.{tree_of}
use Rattle.meaning.specs.Space.{below}
use Rattle.meaning.specs.Written.{Written, write_out}
use Rattle.meaning.proofs.SpaceLaws.{length-up_from}
use Rattle.clause_form.specs.Bounds.{IsBound}
use Rattle.clause_form.proofs.BoundLaws.{are_bounded}
use Rattle.clause_form.proofs.bounds.+bound_of.Goals as goal

pub returns-in-All : goal.returns-in-All
returns-in-All t c = λ env.
    let n = sort_count c.args.space.now c.in-All.sort in
    let parts : ℕ → Written = λ v. write_out c.args.space.now (tree_of c.in-All.f.value) (env ++ v ∷ []) in
    let len : length (map parts (below n)) ≡ c.values.result = length-map (below n) parts ∙ length-up_from 0 n ∙ sym c.values.ensures.count in
    let inner : (e : List ℕ) → IsBound c.bound_of-in-All.result (write_out c.args.space.now (tree_of c.in-All.f.value) e) =
    subst (λ t. (e : List ℕ) → IsBound c.bound_of-in-All.result (write_out c.args.space.now (tree_of t) e)) c.deref-in-All.ensures c.bound_of-in-All.ensures in
    rw c.in-All.is (c.all_of.ensures (map parts (below n)) len (are_bounded c.bound_of-in-All.result parts (below n) (λ v. inner (env ++ v ∷ []))))

pub returns-in-Exists : goal.returns-in-Exists
returns-in-Exists t c = λ env.
    let n = sort_count c.args.space.now c.in-Exists.sort in
    let parts : ℕ → Written = λ v. write_out c.args.space.now (tree_of c.in-Exists.f.value) (env ++ v ∷ []) in
    let len : length (map parts (below n)) ≡ c.values-in-Exists.result = length-map (below n) parts ∙ length-up_from 0 n ∙ sym c.values-in-Exists.ensures.count in
    let inner : (e : List ℕ) → IsBound c.bound_of-in-Exists.result (write_out c.args.space.now (tree_of c.in-Exists.f.value) e) =
    subst (λ t. (e : List ℕ) → IsBound c.bound_of-in-Exists.result (write_out c.args.space.now (tree_of t) e)) c.deref-in-Exists.ensures c.bound_of-in-Exists.ensures in
    rw c.in-Exists.is (c.some_of.ensures (map parts (below n)) len (are_bounded c.bound_of-in-Exists.result parts (below n) (λ v. inner (env ++ v ∷ []))))
