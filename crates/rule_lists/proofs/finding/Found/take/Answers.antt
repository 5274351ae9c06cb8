use Rattle.std.proofs.Common.{◌≡◌, refl, sym, ◌∙◌, ap, subst, ℕ, ◌<◌, List, [], ◌∷◌, ◌++◌, Err}
use Rattle.std.specs.Prelude.{IsTrue}
use Rattle.vocab.specs.declared.kinds.Sort.TheVariants.{Profile}
use Rattle.vocab.specs.Size.{Extent, sort_count}
use Rattle.cnf.specs.Assignment.{value_of}
use Rattle.cnf.specs.ClauseList.{ClauseList}
use Rattle.cnf.specs.Sat.{Clause, is_satisfied}
use Rattle.meaning.specs.Variables.{variable_count}
use Rattle.outcomes.specs.Frames.{frame_clauses}
use Rattle.core_reduce.specs.Tables.{IsTableOf}
use Rattle.core_reduce.proofs.TableLaws.{frames_satisfied}
use Rattle.search_logs.specs.Spent.{all_places}
use Rattle.rule_lists.specs.Finding.{denial, AreFoundRules}
use Rattle.rule_lists.proofs.FoundLaws.{cut_by_room, found_more, next_rule, parts_satisfied, put_length}
use Rattle.rule_lists.proofs.finding.Found.take.Goals as goal

pub table_of-requires-clause-frames : goal.table_of-requires-clause-frames
table_of-requires-clause-frames g c κs within =
    let s = c.args.setting.now.study.now in
    let Framed : Extent → Type 0 = λ e. (p : ℕ) → p < sort_count e Profile → IsTrue (is_satisfied (value_of c.args.bits.now) (frame_clauses e p)) in
    let sat = parts_satisfied s c.axioms-axioms.ensures.study.sentences c.args.self.now.tables.items c.args.self.now.clauses.clauses c.requires.found (value_of c.args.bits.now) c.requires.satisfied in
    subst Framed c.args.setting.now.same (frames_satisfied s.size s.axioms (all_places s) (value_of c.args.bits.now) sat.0)

pub returns-in-Err-Full : goal.returns-in-Err-Full
returns-in-Err-Full g c =
    let s = c.args.setting.now.study.now in
    let count : c.variables.result ≡ variable_count s.size = c.variables.ensures.value ∙ ap variable_count (sym c.args.setting.now.same) in
    let is : c.as_slice.result.now ≡ denial (value_of c.args.bits.now) (variable_count s.size) = c.as_slice.ensures.value ∙ c.in_ok-clause.ensures ∙ ap (denial (value_of c.args.bits.now)) count in
    (refl, λ most. cut_by_room s c.axioms-axioms.ensures.study.sentences c.args.self.now.tables.items c.args.self.now.clauses.clauses c.requires.found c.args.self.now.clauses refl (value_of c.args.bits.now) c.as_slice.result.now is (c.push.ensures.full.0 (c.in-Err-Full.is ∙ ap Err c.in-Err-Full.field-0-is)))

pub put-requires-clause-fresh : goal.put-requires-clause-fresh
put-requires-clause-fresh g c =
    let s = c.args.setting.now.study.now in
    let of : IsTableOf s.size (value_of c.args.bits.now) (sort_count s.size Profile) c.in_ok-table.table = subst (λ (e : Extent). IsTableOf e (value_of c.args.bits.now) (sort_count e Profile) c.in_ok-table.table) (sym c.args.setting.now.same) c.in_ok-table.ensures in
    (next_rule s c.axioms-axioms.ensures.study.sentences c.args.self.now.tables.items c.args.self.now.clauses.clauses c.requires.found (value_of c.args.bits.now) c.requires.satisfied c.in_ok-table.table of).2

pub returns : goal.returns
returns g c =
    let s = c.args.setting.now.study.now in
    let v = value_of c.args.bits.now in
    let table : List ℕ = c.in_ok-table.table in
    let of : IsTableOf s.size v (sort_count s.size Profile) table = subst (λ (e : Extent). IsTableOf e v (sort_count e Profile) table) (sym c.args.setting.now.same) c.in_ok-table.ensures in
    let next = next_rule s c.axioms-axioms.ensures.study.sentences c.args.self.now.tables.items c.args.self.now.clauses.clauses c.requires.found v c.requires.satisfied table of in
    let count : c.variables.result ≡ variable_count s.size = c.variables.ensures.value ∙ ap variable_count (sym c.args.setting.now.same) in
    let is : c.as_slice.result.now ≡ denial v (variable_count s.size) = c.as_slice.ensures.value ∙ c.in_ok-clause.ensures ∙ ap (denial v) count in
    let clauses : c.push.new.self.clauses ≡ c.args.self.now.clauses.clauses ++ denial v (variable_count s.size) ∷ [] =
    ap (λ (l : ClauseList). l.clauses) c.in-Ok.ensures.ok ∙ ap (λ (d : Clause). c.args.self.now.clauses.clauses ++ d ∷ []) is in (
      subst (AreFoundRules s c.put.new.tables.items) (sym clauses)
          (found_more s c.axioms-axioms.ensures.study.sentences c.args.self.now.tables.items c.args.self.now.clauses.clauses c.requires.found v table next.0 next.1 c.put.new.tables.items c.in_ok-put.ensures.put c.in_ok-put.ensures.rising),
      put_length s c.axioms-axioms.ensures.study.sentences c.args.self.now.tables.items c.args.self.now.clauses.clauses c.requires.found table c.put.new.tables.items c.in_ok-put.ensures.put,
    )
