use Rattle.std.proofs.Common.{◌∙◌, ◌++◌, ◌∷◌, [], ap, ℕ, Vec, Global}
use Rattle.instance_cores.proofs.CitingLaws.{not_here, origin_present, present_few, kept_same, kept_pushed}
use Rattle.instance_cores.proofs.citing.codes_of.Goals as goal
use Rattle.instance_cores.proofs.citing.codes_of.Goals.{in-Instance+in_ok-push, in_default}

pub code_of-requires-clause-axiom : goal.code_of-requires-clause-axiom
code_of-requires-clause-axiom c =
    (present_few c.args.study.now c.axioms-axioms.ensures.study (record { «axiom» = c.in-Instance.a; number = c.in-Instance.number })
    (origin_present c.args.study.now c.args.clauses.now c.loop-k.k c.in-Instance.a c.in-Instance.number c.requires.instances c.in-Instance.ensures)).0

pub code_of-requires-clause-number : goal.code_of-requires-clause-number
code_of-requires-clause-number c =
    (present_few c.args.study.now c.axioms-axioms.ensures.study (record { «axiom» = c.in-Instance.a; number = c.in-Instance.number })
    (origin_present c.args.study.now c.args.clauses.now c.loop-k.k c.in-Instance.a c.in-Instance.number c.requires.instances c.in-Instance.ensures)).1

pub loop-k-preserved : goal.loop-k-preserved
loop-k-preserved c = elim c.match-origin.branch [
  | in-Instance+in_ok-push w ↦
      kept_pushed c.args.study.now c.args.clauses.now c.args.flags.now c.loop-k.k c.loop-k.codes.items c.match-origin.codes.items (record { «axiom» = w.in-Instance.a; number = w.in-Instance.number }) c.loop-k.invariant
      (ap (λ (v : Vec ℕ Global). v.items) w.codes-is ∙ w.in_ok-push.ensures.items ∙ ap (λ (n : ℕ). c.loop-k.codes.items ++ n ∷ []) w.code_of.ensures)
      (origin_present c.args.study.now c.args.clauses.now c.loop-k.k w.in-Instance.a w.in-Instance.number c.requires.instances w.in-Instance.ensures)
      w.in-Instance.ensures
  | in_default w ↦
      kept_same c.args.study.now c.args.clauses.now c.args.flags.now c.loop-k.k c.loop-k.codes.items c.match-origin.codes.items c.loop-k.invariant (ap (λ (v : Vec ℕ Global). v.items) w.codes-is)
      (λ s a n e o f. not_here c.args.clauses.now c.loop-k.k c.origin.result s a n c.origin.ensures e o (w.in_default.not-Instance a n))
]
