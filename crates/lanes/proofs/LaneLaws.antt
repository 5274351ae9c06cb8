-- What is told with one more value of a quantifier.
use Rattle.std.proofs.Common.{◌≡◌, subst, ap, ◌∙◌, ℕ, ◌+◌, ◌<◌, ◌≤◌, List, [], ◌∷◌, ◌++◌, length, length-append, arith}
use Rattle.vocab.specs.Range.{product}
use Rattle.vocab.specs.Size.{Extent}
use Rattle.vocab.specs.Tree.{Tree}
use Rattle.meaning.specs.Written.{write_out}
use Rattle.lanes.specs.Lanes.{IsPart, lane_values}
use Rattle.lanes.specs.Marks.{IsTold}
use Rattle.lanes.specs.declared.marks.Marks.{Marks}
use Rattle.lanes.specs.declared.plans.Part.{Part}
use Rattle.lanes.specs.declared.shapes.Shape.{Shape}
use Rattle.lanes.proofs.PlaceLaws.{lanes_more}

pub told_more : (size : Extent) (shape : Shape) (f : Tree) (first v : ℕ) (env e : List ℕ) (m : Marks) → e ≡ env ++ v ∷ [] → shape.outer + length shape.bases ≤ length env → (k : ℕ) (p : Part)
    → (IsPart size shape p f → shape.outer + length shape.bases ≤ length e → (k : ℕ) → first + k < product shape.bases → IsTold m k (write_out size f (lane_values shape first k e)))
    → IsPart size shape p f → first + k < product shape.bases → IsTold m k (write_out size f (lane_values shape first k env ++ v ∷ []))
told_more size shape f first v env e m more long k p told part l =
    let longer = length-append env (v ∷ []) in
    let before = told part (omega (arith, long, longer, ap length more)) k l in
    subst (λ x. IsTold m k (write_out size f x)) (ap (lane_values shape first k) more ∙ lanes_more shape first k v env long) before
