-- What small sentences resolve to is sound.
use Rattle.std.proofs.Common.{◌≡◌, ◌≤◌, List, [], ◌∷◌, true, Ok, refl, sym, subst}
use Rattle.std.proofs.lemmas.Bool.{and_from, le-leb}
use Rattle.std.specs.List.{list_all}
use Rattle.vocab.specs.Formula.{quantifier_depth}
use Rattle.vocab.specs.Limits as limits
use Rattle.vocab.specs.NamedTree.{NamedTree}
use Rattle.vocab.specs.Size.{Extent}
use Rattle.vocab.specs.Titled.{Titled}
use Rattle.vocab.specs.Tree.{Tree}
use Rattle.sorts.specs.declared.faults.SortFault.{SortFault}
use Rattle.sorts.specs.Answers.{first_or, answer_of}
use Rattle.sorts.specs.Faults.{faults}
use Rattle.sorts.specs.Laws.{HasShapeOf}
use Rattle.sorts.specs.Resolved.{resolved}
use Rattle.sorts.proofs.Answering.{has_shape}
use Rattle.study.specs.declared.faults.StudyFault.TheVariants as fault
use Rattle.study.specs.Refusing.{and_then, refused_as}
use Rattle.study.specs.Sentences.{Worded, resolved_one, resolved_all}
use Rattle.study.specs.Unresolved.{IsSmall, AreSmall, is_sound}
use Rattle.study.proofs.Listings.{came_from, known, ok_once}

none_first : (found : List SortFault) (t tree : Tree) → first_or found t ≡ Ok tree → (found ≡ []) × (t ≡ tree)
none_first [] t tree e = (refl, ok_once e)
none_first (first ∷ later) t tree e = absurd cc

-- a sentence that resolves has the shape of its tree
answer_shape : (size : Extent) (f : NamedTree) (tree : Tree) → answer_of size f ≡ Ok tree → HasShapeOf size [] f tree
unfolding answer_of
answer_shape size f tree e =
    let (none, same) = none_first (faults size [] f) (resolved size [] f) tree e in
    subst (λ t. HasShapeOf size [] f t) same (has_shape size [] f none)

sound_tree : (size : Extent) (w : Worded) (tree : Tree) → IsSmall w → HasShapeOf size [] w.sentence tree → is_sound size (record { name = w.name; sentence = tree }) ≡ true
sound_tree size w tree small shape =
    let few : quantifier_depth tree ≤ 12 = subst (λ n. n ≤ 12) (sym shape.quantified) small.few_quantifiers in
    let shallow : limits.depth tree ≤ 64 = subst (λ n. n ≤ 64) (sym shape.as_deep) small.shallow in
    and_from _ _ (and_from _ _ shape.sorted (le-leb (quantifier_depth tree) 12 few)) (le-leb (limits.depth tree) 64 shallow)

sound_one : (size : Extent) (w : Worded) (a : Titled) → IsSmall w → resolved_one size w ≡ Ok a → is_sound size a ≡ true
sound_one size w a small e =
    let one = came_from (λ tree. Ok (record { name = w.name; sentence = tree })) (refused_as (fault.Sort w.name) (answer_of size w.sentence)) a e in
    subst (λ x. is_sound size x ≡ true) (ok_once one.after) (sound_tree size w one.value small (answer_shape size w.sentence one.value (known (fault.Sort w.name) (answer_of size w.sentence) one.value one.first)))

-- what small sentences resolve to is sound
pub sound_all : (size : Extent) (ws : List Worded) (axioms : List Titled) → AreSmall ws → resolved_all size ws ≡ Ok axioms → list_all (is_sound size) axioms ≡ true
sound_all size [] axioms small e = subst (λ xs. list_all (is_sound size) xs ≡ true) (ok_once e) refl
sound_all size (w ∷ ws) axioms small e =
    let one = came_from (λ a. and_then (λ axioms. Ok (a ∷ axioms)) (resolved_all size ws)) (resolved_one size w) axioms e in
    let rest = came_from (λ axioms. Ok (one.value ∷ axioms)) (resolved_all size ws) axioms one.after in
    subst (λ xs. list_all (is_sound size) xs ≡ true) (ok_once rest.after) (and_from _ _ (sound_one size w one.value small.0 one.first) (sound_all size ws rest.value small.1 rest.first))
