use Rattle.std.proofs.Common.{◌≡◌, ◌∷◌, [], sym, subst}
use Rattle.std.proofs.lemmas.Result.{IfOk-weaker}
use Rattle.grounding.specs.Distinct.{Codes, HasSeen, items_of}
use Rattle.grounding.proofs.SeenLaws.{not_two, two_literals, with-other, with-pair}
use Rattle.grounding.proofs.distinct.Seen.is_new.Goals as goal

pub returns-then-clause-eq2-clause-seen : goal.returns-then-clause-eq2-clause-seen
returns-then-clause-eq2-clause-seen c =
    let clause = c.args.clause.now in
    let seen : Codes = (c.self.inside.pairs.keys, items_of c.self.inside.others.keys) in
    let two : clause ≡ c.index-clause-0.result ∷ c.index-clause-1.result ∷ [] =
    two_literals clause c.index-clause-0.result c.index-clause-1.result c.if-clause-eq2.true c.index-clause-0.is c.index-clause-1.is in
    IfOk-weaker c.is_new_pair.result _ _
    (λ x made before is.
    with-pair seen before (subst (λ (s : Codes). HasSeen s before) (sym c.self.view_is) is) c.index-clause-0.result c.index-clause-1.result c.literal_code.result c.literal_code-then-clause-eq2.result
    c.literal_code.ensures.code c.literal_code-then-clause-eq2.ensures.code clause two c.is_new_pair.new.pairs.keys made)
    c.is_new_pair.ensures.keys

pub returns-clause-seen : goal.returns-clause-seen
returns-clause-seen c =
    let clause = c.args.clause.now in
    let seen : Codes = (c.self.inside.pairs.keys, items_of c.self.inside.others.keys) in
    IfOk-weaker c.is_new_key.result _ _
    (λ x made before is.
    with-other seen before (subst (λ (s : Codes). HasSeen s before) (sym c.self.view_is) is) clause (not_two clause c.if-clause-eq2.false) (items_of c.is_new_key.new.others.keys) made)
    c.is_new_key.ensures.keys
