use Rattle.std.proofs.Common.{◌≡◌, ◌+◌, ◌++◌, ◌∙◌, ℕ, List, IsTrue, IsFalse, ap, ap₂, sym, map, append-nil, arith, subst}
use Rattle.vocab.specs.Formula.{body_of}
use Rattle.vocab.specs.Tree.{Tree, tree_of}
use Rattle.cnf.specs.Sat.{Clause}
use Rattle.meaning.specs.Clauses.{plus}
use Rattle.meaning.specs.Instances.{instance_values}
use Rattle.meaning.specs.StudyClauses.{Sourced, clauses_of, instance_of}
use Rattle.meaning.specs.Written.{write_out}
use Rattle.worlds.specs.Conditions.{IsFormulaAt}
use Rattle.clause_form.specs.Wide.{capped_counts, is_wide, numbered as numbered_rows}
use Rattle.lanes.specs.Lanes.{HasKnownPremise}
use Rattle.grounding.specs.Parts.{KeepSame, from_rows, with_origin}
use Rattle.grounding.specs.Pieces.{sources_at}
use Rattle.grounding.proofs.PartLaws.{same-of}
use Rattle.grounding.proofs.PieceLaws.{plain_numbered}
use Rattle.grounding.proofs.ToldLaws.{told_premise, told_sources}
use Rattle.grounding.proofs.parts.push_instance.Goals as goal

pub returns-then-is_told_at : goal.returns-then-is_told_at
returns-then-is_told_at g c =
    let piece = c.args.piece.now in
    let numbered = piece.numbered.now in
    let none = told_sources (g.K.OutcomeKind.size numbered.kind.now) numbered.named.now.sentence piece.from c.args.k piece.known.all piece.told (c.is_told_at.ensures c.if-is_told_at.true) numbered.base in
    same-of (sym (append-nil c.args.part.now) ∙ ap (λ (r : List Sourced). c.args.part.now ++ r) (sym none))

pub push_formula-requires-clause-fits : goal.push_formula-requires-clause-fits
push_formula-requires-clause-fits g c = λ κs out.
    let numbered = c.args.piece.now.numbered.now in
    let size = g.K.OutcomeKind.size numbered.kind.now in
    let values = c.values_at-values.result in
    let body : tree_of c.body.result.now ≡ body_of numbered.named.now.sentence = c.body.ensures ∙ ap body_of c.sentence.ensures in
    c.rest_of.ensures.fits size values (subst (λ (f : Tree). IsFormulaAt size f values) (sym body) c.values_at-values.ensures.fits)

pub push_formula-requires-clause-narrow : goal.push_formula-requires-clause-narrow
push_formula-requires-clause-narrow g c = λ κs out.
    let piece = c.args.piece.now in
    let numbered = piece.numbered.now in
    let size = g.K.OutcomeKind.size numbered.kind.now in
    let sentence = numbered.named.now.sentence in
    let number = piece.from + c.args.k in
    let values = c.values_at-values.result in
    let body : tree_of c.body.result.now ≡ body_of sentence = c.body.ensures ∙ ap body_of c.sentence.ensures in
    let known : IsTrue c.is_told_at-premise.result → HasKnownPremise size (tree_of c.body.result.now) values =
    λ t. subst (λ (v : List ℕ). HasKnownPremise size (tree_of c.body.result.now) v) (sym c.values_at-values.ensures.values)
    (subst (λ (f : Tree). HasKnownPremise size f (instance_values size sentence number)) (sym body) (told_premise size sentence piece.from c.args.k piece.known.premise piece.premise (c.is_told_at-premise.ensures t))) in
    let same : plus (write_out size (tree_of c.rest_of.result.now) values) ≡ plus (instance_of size sentence number) =
    c.rest_of.ensures.rows size values known ∙ ap₂ (λ (f : Tree) (v : List ℕ). plus (write_out size f v)) body c.values_at-values.ensures.values in
    subst (λ rows. IsFalse (is_wide (capped_counts rows))) (sym same) (numbered.narrow number (omega arith) (omega (arith, c.requires, piece.within)))

pub returns : goal.returns
returns g c =
    let piece = c.args.piece.now in
    let numbered = piece.numbered.now in
    let size = g.K.OutcomeKind.size numbered.kind.now in
    let sentence = numbered.named.now.sentence in
    let number = piece.from + c.args.k in
    let values = c.values_at-values.result in
    let body : tree_of c.body.result.now ≡ body_of sentence = c.body.ensures ∙ ap body_of c.sentence.ensures in
    let known : IsTrue c.is_told_at-premise.result → HasKnownPremise size (tree_of c.body.result.now) values =
    λ t. subst (λ (v : List ℕ). HasKnownPremise size (tree_of c.body.result.now) v) (sym c.values_at-values.ensures.values)
    (subst (λ (f : Tree). HasKnownPremise size f (instance_values size sentence number)) (sym body) (told_premise size sentence piece.from c.args.k piece.known.premise piece.premise (c.is_told_at-premise.ensures t))) in
    let same : plus (write_out size (tree_of c.rest_of.result.now) values) ≡ plus (instance_of size sentence number) =
    c.rest_of.ensures.rows size values known ∙ ap₂ (λ (f : Tree) (v : List ℕ). plus (write_out size f v)) body c.values_at-values.ensures.values in
    let rows : from_rows (numbered.base + number) (numbered_rows size (plus (write_out size (tree_of c.rest_of.result.now) values))) ≡ sources_at size sentence numbered.base number =
    ap (λ (cs : List Clause). map (λ (d : Clause). with_origin d (numbered.base + number)) cs) (plain_numbered size (plus (write_out size (tree_of c.rest_of.result.now) values)) ∙ ap (clauses_of size) same) in
    subst (λ (r : List Sourced). KeepSame c.push_formula.new.part (c.args.part.now ++ r)) rows c.in_ok-push_formula.ensures
