use Rattle.std.proofs.Common.{◌≡◌, ◌||◌, ℕ, true, false, List, [], ◌∷◌, ◌++◌, length, ap, ◌∙◌, sym, subst, arith, length-append, eq-eqb}
use Rattle.std.specs.Prelude.{◌==◌}
use Rattle.std.specs.List.{list_all, AllByRecursion}
use Rattle.std.proofs.lemmas.List.Quantifiers.{Any-push}
use Rattle.meaning.specs.declared.cores.Witness.{Witness}
use Rattle.meaning.specs.declared.cores.Witness.TheVariants.{Open}
use Rattle.meaning.specs.Cores.{is_core_from}
use Rattle.meaning.proofs.RankingLaws.{All-append}
use Rattle.search_logs.specs.declared.logs.SearchLog.{SearchLog}
use Rattle.search_logs.specs.Spent.{has_place, IsSpentLog, IsWithout}
use Rattle.core_reduce.specs.Reducing.{next_open, IsWitnessed, AreMarked}
use Rattle.core_reduce.proofs.CoreLaws.{core-filter, marked_more, marked_push, others_lack, others_rest}
use Rattle.core_reduce.proofs.reduction.with_mark.Goals as goal

pub returns : goal.returns
returns c =
    let s = c.args.study.now in
    let r = c.args.reduction in
    let h = c.requires.reducing in
    let k : ℕ = next_open r in
    let log : SearchLog = record { chosen = c.args.rest; lines = c.args.lines } in
    let logs : List SearchLog = r.logs ++ log ∷ [] in
    let logged : c.push.new.self ≡ logs = c.in_ok-push.ensures.ok in
    let w : Witness = Open c.conflicts.result in
    let items : c.push-2.new.self.items ≡ r.witnesses.items ++ w ∷ [] = c.in_ok-push-2.ensures.items in
    let long = ap length items ∙ length-append r.witnesses.items (w ∷ []) in
    let out : IsWithout s r.core k log = record {
      lacks = subst (λ (ps : List ℕ). has_place ps k ≡ false) (sym c.requires.rest) (others_lack k r.core);
      has_rest = subst (λ (ps : List ℕ). list_all (λ j. j == k || has_place ps j) r.core ≡ true) (sym c.requires.rest) (others_rest k r.core);
    } in
    let mark : IsWitnessed s logs r.core k w = record { witness = eq-eqb _ _ c.conflicts.ensures; evidence = Any-push (IsWithout s r.core k) r.logs log out } in
    let spent : IsSpentLog s log = record {
      chosen = subst (λ (ps : List ℕ). is_core_from 0 (length s.axioms) ps ≡ true) (sym c.requires.rest) (core-filter _ 0 (length s.axioms) r.core h.core);
      spent = c.requires.spent;
    } in
    record {
      reducing = record {
        core = h.core;
        clauses = h.clauses;
        trimmed = h.trimmed;
        over = h.over;
        few = h.few;
        marked =
            subst (λ (ls : List SearchLog). AreMarked s ls r.core r.core c.push-2.new.self.items) (sym logged)
            (subst (AreMarked s logs r.core r.core) (sym items) (marked_push s logs r.core r.core r.witnesses.items w (marked_more s r.logs log r.core r.core r.witnesses.items h.marked) c.requires.open mark));
        logs = subst (AllByRecursion (IsSpentLog s)) (sym logged) (All-append (IsSpentLog s) r.logs (log ∷ []) h.logs (spent, tt));
      };
      part = λ test t. t;
      fewer = omega (arith, long, c.requires.open);
    }
