use Rattle.std.proofs.Common.{◌≡◌, sym, subst, ℕ, ◌+◌, ◌<◌, ◌≤◌, Bool, true, List, length, get_or}
use Rattle.std.specs.List.{list_all}
use Rattle.cnf.specs.declared.derivations.Line.{Line}
use Rattle.cnf.specs.Fresh.{added_by}
use Rattle.cnf.specs.Sat.{Clause}
use Rattle.cnf.specs.Trimmed.{is_cited_in}
use Rattle.lrat_check.specs.Ranges.{has_next}
use Rattle.lrat_check.specs.Trim.{trimmed}
use Rattle.lrat_check.proofs.TrimmingLaws.{if_ok, trimmed_added, trimmed_length, trimmed_next, trimmed_numbered}
use Rattle.lrat_check.proofs.CitedLaws.{no_new_input}
use Rattle.lrat_check.proofs.trimming.trim.Goals as goal

pub returns-clause-numbered : goal.returns-clause-numbered
returns-clause-numbered c =
    let clauses = c.args.clauses.now.clauses in
    let lines = c.args.derivation.now in
    if_ok (λ (made : List Line). made ≡ trimmed clauses lines) (λ (made : List Line). (k : ℕ) (line : Line) → k < length made → (get_or made k line).at ≡ k + 1) c.trim_lines.result
    (λ made is. subst (λ (ls : List Line). (k : ℕ) (line : Line) → k < length ls → (get_or ls k line).at ≡ k + 1) (sym is) (trimmed_numbered clauses lines))
    c.trim_lines.ensures

pub returns-clause-next : goal.returns-clause-next
returns-clause-next c =
    let clauses = c.args.clauses.now.clauses in
    let lines = c.args.derivation.now in
    if_ok (λ (made : List Line). made ≡ trimmed clauses lines) (λ (made : List Line). list_all has_next made ≡ true) c.trim_lines.result
    (λ made is. subst (λ (ls : List Line). list_all has_next ls ≡ true) (sym is) (trimmed_next clauses lines c.requires.few))
    c.trim_lines.ensures

pub returns-clause-no_new : goal.returns-clause-no_new
returns-clause-no_new c =
    let clauses = c.args.clauses.now.clauses in
    let lines = c.args.derivation.now in
    if_ok (λ (made : List Line). made ≡ trimmed clauses lines) (λ (made : List Line). (test : Clause → Bool) → list_all (λ (l : Line). test (added_by l.step)) lines ≡ true → list_all (λ (l : Line). test (added_by l.step)) made ≡ true) c.trim_lines.result
    (λ made is. subst (λ (ls : List Line). (test : Clause → Bool) → list_all (λ (l : Line). test (added_by l.step)) lines ≡ true → list_all (λ (l : Line). test (added_by l.step)) ls ≡ true) (sym is) (trimmed_added clauses lines))
    c.trim_lines.ensures

pub returns-clause-no_new_hint : goal.returns-clause-no_new_hint
returns-clause-no_new_hint c =
    let clauses = c.args.clauses.now.clauses in
    let lines = c.args.derivation.now in
    if_ok (λ (made : List Line). made ≡ trimmed clauses lines) (λ (made : List Line). (id : ℕ) → id ≤ length clauses → is_cited_in made id ≡ true → is_cited_in lines id ≡ true) c.trim_lines.result
    (λ made is. subst (λ (ls : List Line). (id : ℕ) → id ≤ length clauses → is_cited_in ls id ≡ true → is_cited_in lines id ≡ true) (sym is) (no_new_input clauses lines))
    c.trim_lines.ensures

pub returns-clause-no_more : goal.returns-clause-no_more
returns-clause-no_more c =
    let clauses = c.args.clauses.now.clauses in
    let lines = c.args.derivation.now in
    if_ok (λ (made : List Line). made ≡ trimmed clauses lines) (λ (made : List Line). length made ≤ length lines) c.trim_lines.result
    (λ made is. subst (λ (ls : List Line). length ls ≤ length lines) (sym is) (trimmed_length clauses lines))
    c.trim_lines.ensures
