-- The trees that the texts of the library read as.
use Rattle.std.proofs.Common.{[], ◌∷◌, codes}
use Rattle.vocab.specs.NamedTree as tree
use Rattle.vocab.specs.NamedTree.{NamedTree}
use Rattle.vocab.specs.NamedView.{arguments_of}
use Rattle.vocab.specs.declared.kinds.Sort.TheVariants.{Voter, Alt, Ballot, Profile}

abbrev pub unanimity : NamedTree
unanimity =
    let i = tree.Var (codes "i") in let p = tree.Var (codes "p") in let x = tree.Var (codes "x") in let y = tree.Var (codes "y") in
    tree.All (codes "p") Profile (tree.All (codes "x") Alt (tree.Implies (tree.All (codes "i") Voter (tree.All (codes "y") Alt (tree.Either (tree.Equal x y) (tree.Pred (codes "prefers") (arguments_of (i ∷ x ∷ y ∷ p ∷ [])))))) (tree.Pred (codes "wins") (arguments_of (x ∷ p ∷ [])))))

abbrev pub pareto : NamedTree
pareto =
    let i = tree.Var (codes "i") in let p = tree.Var (codes "p") in let x = tree.Var (codes "x") in let y = tree.Var (codes "y") in
    tree.All (codes "p") Profile (tree.All (codes "x") Alt (tree.All (codes "y") Alt (tree.Implies (tree.All (codes "i") Voter (tree.Pred (codes "prefers") (arguments_of (i ∷ x ∷ y ∷ p ∷ [])))) (tree.Not (tree.Pred (codes "wins") (arguments_of (y ∷ p ∷ [])))))))

abbrev pub onto : NamedTree
onto =
    let p = tree.Var (codes "p") in let x = tree.Var (codes "x") in
    tree.All (codes "x") Alt (tree.Exists (codes "p") Profile (tree.Pred (codes "wins") (arguments_of (x ∷ p ∷ []))))

abbrev pub non_dictatorship : NamedTree
non_dictatorship =
    let i = tree.Var (codes "i") in let p = tree.Var (codes "p") in let x = tree.Var (codes "x") in let y = tree.Var (codes "y") in
    tree.All (codes "i") Voter (tree.Exists (codes "p") Profile (tree.Exists (codes "x") Alt (tree.Exists (codes "y") Alt (tree.Both (tree.Pred (codes "prefers") (arguments_of (i ∷ y ∷ x ∷ p ∷ []))) (tree.Pred (codes "wins") (arguments_of (x ∷ p ∷ [])))))))

abbrev pub strategyproof : NamedTree
strategyproof =
    let b = tree.Var (codes "b") in let i = tree.Var (codes "i") in let p = tree.Var (codes "p") in let x = tree.Var (codes "x") in let y = tree.Var (codes "y") in
    tree.All (codes "p") Profile (tree.All (codes "i") Voter (tree.All (codes "b") Ballot (tree.All (codes "x") Alt (tree.All (codes "y") Alt (tree.Implies (tree.Both (tree.Pred (codes "wins") (arguments_of (x ∷ p ∷ []))) (tree.Pred (codes "wins") (arguments_of (y ∷ (tree.Call (codes "with") (arguments_of (p ∷ i ∷ b ∷ []))) ∷ [])))) (tree.Not (tree.Pred (codes "prefers") (arguments_of (i ∷ y ∷ x ∷ p ∷ [])))))))))

abbrev pub maskin : NamedTree
maskin =
    let i = tree.Var (codes "i") in let p = tree.Var (codes "p") in let q = tree.Var (codes "q") in let x = tree.Var (codes "x") in let y = tree.Var (codes "y") in
    tree.All (codes "p") Profile (tree.All (codes "q") Profile (tree.All (codes "x") Alt (tree.Implies (tree.Both (tree.Pred (codes "wins") (arguments_of (x ∷ p ∷ []))) (tree.All (codes "i") Voter (tree.All (codes "y") Alt (tree.Implies (tree.Pred (codes "prefers") (arguments_of (i ∷ x ∷ y ∷ p ∷ []))) (tree.Pred (codes "prefers") (arguments_of (i ∷ x ∷ y ∷ q ∷ []))))))) (tree.Pred (codes "wins") (arguments_of (x ∷ q ∷ []))))))

abbrev pub condorcet : NamedTree
condorcet =
    let p = tree.Var (codes "p") in let x = tree.Var (codes "x") in let y = tree.Var (codes "y") in
    tree.All (codes "p") Profile (tree.All (codes "x") Alt (tree.Implies (tree.All (codes "y") Alt (tree.Either (tree.Equal x y) (tree.Pred (codes "majority") (arguments_of (x ∷ y ∷ p ∷ []))))) (tree.Pred (codes "wins") (arguments_of (x ∷ p ∷ [])))))

abbrev pub anonymity : NamedTree
anonymity =
    let i = tree.Var (codes "i") in let j = tree.Var (codes "j") in let p = tree.Var (codes "p") in let x = tree.Var (codes "x") in
    tree.All (codes "p") Profile (tree.All (codes "i") Voter (tree.All (codes "j") Voter (tree.All (codes "x") Alt (tree.Same (tree.Pred (codes "wins") (arguments_of (x ∷ p ∷ []))) (tree.Pred (codes "wins") (arguments_of (x ∷ (tree.Call (codes "swap_voters") (arguments_of (p ∷ i ∷ j ∷ []))) ∷ [])))))))

abbrev pub neutrality : NamedTree
neutrality =
    let p = tree.Var (codes "p") in let x = tree.Var (codes "x") in let y = tree.Var (codes "y") in let z = tree.Var (codes "z") in
    tree.All (codes "p") Profile (tree.All (codes "x") Alt (tree.All (codes "y") Alt (tree.All (codes "z") Alt (tree.Same (tree.Pred (codes "wins") (arguments_of (z ∷ p ∷ []))) (tree.Pred (codes "wins") (arguments_of ((tree.Call (codes "swap") (arguments_of (x ∷ y ∷ z ∷ []))) ∷ (tree.Call (codes "swap_alts") (arguments_of (p ∷ x ∷ y ∷ []))) ∷ [])))))))

abbrev pub participation : NamedTree
participation =
    let b = tree.Var (codes "b") in let c = tree.Var (codes "c") in let i = tree.Var (codes "i") in let p = tree.Var (codes "p") in let x = tree.Var (codes "x") in let y = tree.Var (codes "y") in
    tree.All (codes "p") Profile (tree.All (codes "i") Voter (tree.All (codes "b") Ballot (tree.All (codes "x") Alt (tree.All (codes "y") Alt (tree.Implies (tree.Both (tree.Not (tree.Exists (codes "c") Ballot (tree.Pred (codes "casts") (arguments_of (i ∷ c ∷ p ∷ []))))) (tree.Both (tree.Pred (codes "wins") (arguments_of (x ∷ p ∷ []))) (tree.Pred (codes "wins") (arguments_of (y ∷ (tree.Call (codes "with") (arguments_of (p ∷ i ∷ b ∷ []))) ∷ []))))) (tree.Not (tree.Pred (codes "better") (arguments_of (b ∷ x ∷ y ∷ [])))))))))

abbrev pub condorcet_of_sets : NamedTree
condorcet_of_sets =
    let p = tree.Var (codes "p") in let x = tree.Var (codes "x") in let y = tree.Var (codes "y") in let z = tree.Var (codes "z") in
    tree.All (codes "p") Profile (tree.All (codes "x") Alt (tree.All (codes "z") Alt (tree.Implies (tree.All (codes "y") Alt (tree.Either (tree.Equal x y) (tree.Pred (codes "majority") (arguments_of (x ∷ y ∷ p ∷ []))))) (tree.Same (tree.Pred (codes "wins") (arguments_of (z ∷ p ∷ []))) (tree.Equal x z)))))

abbrev pub resolute : NamedTree
resolute =
    let p = tree.Var (codes "p") in let x = tree.Var (codes "x") in let y = tree.Var (codes "y") in
    tree.All (codes "p") Profile (tree.All (codes "x") Alt (tree.All (codes "y") Alt (tree.Implies (tree.Both (tree.Pred (codes "wins") (arguments_of (x ∷ p ∷ []))) (tree.Pred (codes "wins") (arguments_of (y ∷ p ∷ [])))) (tree.Equal x y))))

abbrev pub strategyproof_of_sets : NamedTree
strategyproof_of_sets =
    let b = tree.Var (codes "b") in let i = tree.Var (codes "i") in let p = tree.Var (codes "p") in let x = tree.Var (codes "x") in let y = tree.Var (codes "y") in let z = tree.Var (codes "z") in
    let changed = tree.Call (codes "with") (arguments_of (p ∷ i ∷ b ∷ [])) in
    tree.All (codes "p") Profile (tree.All (codes "i") Voter (tree.All (codes "b") Ballot (tree.All (codes "z") Alt (tree.Implies (tree.All (codes "x") Alt (tree.All (codes "y") Alt (tree.Implies (tree.Both (tree.Pred (codes "wins") (arguments_of (x ∷ p ∷ []))) (tree.Pred (codes "wins") (arguments_of (y ∷ changed ∷ [])))) (tree.Either (tree.Equal x y) (tree.Pred (codes "prefers") (arguments_of (i ∷ y ∷ x ∷ p ∷ []))))))) (tree.Same (tree.Pred (codes "wins") (arguments_of (z ∷ p ∷ []))) (tree.Pred (codes "wins") (arguments_of (z ∷ changed ∷ []))))))))

abbrev pub pareto_of_rankings : NamedTree
pareto_of_rankings =
    let i = tree.Var (codes "i") in let p = tree.Var (codes "p") in let x = tree.Var (codes "x") in let y = tree.Var (codes "y") in
    tree.All (codes "p") Profile (tree.All (codes "x") Alt (tree.All (codes "y") Alt (tree.Implies (tree.All (codes "i") Voter (tree.Pred (codes "prefers") (arguments_of (i ∷ x ∷ y ∷ p ∷ [])))) (tree.Pred (codes "ranks") (arguments_of (x ∷ y ∷ p ∷ []))))))

abbrev pub independence_of_rankings : NamedTree
independence_of_rankings =
    let i = tree.Var (codes "i") in let p = tree.Var (codes "p") in let q = tree.Var (codes "q") in let x = tree.Var (codes "x") in let y = tree.Var (codes "y") in
    tree.All (codes "p") Profile (tree.All (codes "q") Profile (tree.All (codes "x") Alt (tree.All (codes "y") Alt (tree.Implies (tree.All (codes "i") Voter (tree.Same (tree.Pred (codes "prefers") (arguments_of (i ∷ x ∷ y ∷ p ∷ []))) (tree.Pred (codes "prefers") (arguments_of (i ∷ x ∷ y ∷ q ∷ []))))) (tree.Same (tree.Pred (codes "ranks") (arguments_of (x ∷ y ∷ p ∷ []))) (tree.Pred (codes "ranks") (arguments_of (x ∷ y ∷ q ∷ []))))))))

abbrev pub non_dictatorship_of_rankings : NamedTree
non_dictatorship_of_rankings =
    let i = tree.Var (codes "i") in let p = tree.Var (codes "p") in let x = tree.Var (codes "x") in let y = tree.Var (codes "y") in
    tree.All (codes "i") Voter (tree.Exists (codes "p") Profile (tree.Exists (codes "x") Alt (tree.Exists (codes "y") Alt (tree.Both (tree.Pred (codes "prefers") (arguments_of (i ∷ x ∷ y ∷ p ∷ []))) (tree.Not (tree.Pred (codes "ranks") (arguments_of (x ∷ y ∷ p ∷ []))))))))

abbrev pub anonymity_of_rankings : NamedTree
anonymity_of_rankings =
    let i = tree.Var (codes "i") in let j = tree.Var (codes "j") in let p = tree.Var (codes "p") in let x = tree.Var (codes "x") in let y = tree.Var (codes "y") in
    tree.All (codes "p") Profile (tree.All (codes "i") Voter (tree.All (codes "j") Voter (tree.All (codes "x") Alt (tree.All (codes "y") Alt (tree.Same (tree.Pred (codes "ranks") (arguments_of (x ∷ y ∷ p ∷ []))) (tree.Pred (codes "ranks") (arguments_of (x ∷ y ∷ (tree.Call (codes "swap_voters") (arguments_of (p ∷ i ∷ j ∷ []))) ∷ []))))))))

abbrev pub neutrality_of_rankings : NamedTree
neutrality_of_rankings =
    let p = tree.Var (codes "p") in let w = tree.Var (codes "w") in let x = tree.Var (codes "x") in let y = tree.Var (codes "y") in let z = tree.Var (codes "z") in
    tree.All (codes "p") Profile (tree.All (codes "x") Alt (tree.All (codes "y") Alt (tree.All (codes "z") Alt (tree.All (codes "w") Alt (tree.Same (tree.Pred (codes "ranks") (arguments_of (z ∷ w ∷ p ∷ []))) (tree.Pred (codes "ranks") (arguments_of ((tree.Call (codes "swap") (arguments_of (x ∷ y ∷ z ∷ []))) ∷ (tree.Call (codes "swap") (arguments_of (x ∷ y ∷ w ∷ []))) ∷ (tree.Call (codes "swap_alts") (arguments_of (p ∷ x ∷ y ∷ []))) ∷ []))))))))
