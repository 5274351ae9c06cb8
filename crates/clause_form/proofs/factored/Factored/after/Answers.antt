use Rattle.std.proofs.Common.{List, ◌++◌, ap, ap₂, reverse, sym, ◌∙◌}
use Rattle.cnf.specs.Sat.{Clause}
use Rattle.clause_form.specs.Factors.{each_joined, prefixed}
use Rattle.clause_form.proofs.FactorLaws.{each-one, prefixed-each}
use Rattle.clause_form.proofs.factored.Factored.after.Goals as goal

pub returns-then-len-eq1 : goal.returns-then-len-eq1
returns-then-len-eq1 c =
    each-one c.first.inside.prefix.items c.self.inside.prefix.items _ c.first.inside.rests c.self.inside.rests (sym c.len.ensures ∙ c.if-len-eq1.true)
    (c.in_ok-extend_by_both.ensures ∙ ap₂ (λ (u v : Clause). (c.self.inside.prefix.items ++ reverse u) ++ v) c.get.ensures c.as_slice.ensures.value)
    ∙ ap₂ each_joined c.first.view_is c.self.view_is

pub returns : goal.returns
returns c =
    ap₂ (λ (u : Clause) (v : List Clause). prefixed (reverse u) v) (c.in_ok-prefix.ensures ∙ c.as_slice-2.ensures.value) (c.in_ok-rests.ensures ∙ ap (each_joined c.first.inside.rests) c.in_ok-written.ensures)
    ∙ prefixed-each (reverse c.first.inside.prefix.items) c.first.inside.rests c.args.self
    ∙ ap (λ u. each_joined u c.args.self) c.first.view_is
