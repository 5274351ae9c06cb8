use Rattle.std.proofs.Common.{◌≡◌, ◌<◌, ℕ, Bool, true, false, not, List, length, filter, set, ap, ◌∙◌, sym, subst, arith, get_or-set_same}
use Rattle.std.specs.Prelude.{slice_index, slice_index_or}
use Rattle.std.specs.List.{list_all}
use Rattle.lists.proofs.TestLaws.{all_kept}
use Rattle.cnf.specs.Fresh.{is_over}
use Rattle.meaning.specs.declared.cores.Witness.{Witness}
use Rattle.meaning.specs.Cores.{is_core_from}
use Rattle.meaning.specs.StudyClauses.{study_clauses}
use Rattle.meaning.specs.Variables.{variable_count}
use Rattle.clause_form.specs.Sources.{is_left}
use Rattle.clause_form.proofs.RestLaws.{rest_is_ground}
use Rattle.core_reduce.specs.Kept.{keeps}
use Rattle.core_reduce.specs.Reducing.{kept_marks, others, next_open, AreMarked, IsNext}
use Rattle.core_reduce.proofs.CoreLaws.{core-filter, filter-others, marked_part, marks_fewer, place_in_range}
use Rattle.core_reduce.proofs.reduction.Reduction.without.Goals as goal

pub leave_out-requires : goal.leave_out-requires
leave_out-requires c =
    let in_k = place_in_range (length c.args.study.now.axioms) c.args.self.core (length c.args.self.witnesses.items) c.requires.reducing.core c.requires.open in
    let n = c.len.ensures ∙ ap length c.axioms.ensures.axioms in
    omega (arith, in_k, c.requires.k, n, c.in_ok-focus.ensures.flags)

pub returns : goal.returns
returns c =
    let s = c.args.study.now in
    let r = c.args.self in
    let h = c.requires.reducing in
    let ws : List Witness = r.witnesses.items in
    let focus = c.in_ok-focus.ensures in
    let cited : List Bool = c.in_ok-focus.focus.gone.items in
    let gone : List Bool = c.leave_out.new.gone.items in
    let keep : ℕ → Bool = keeps gone in
    let in_core = place_in_range (length s.axioms) r.core (length ws) h.core c.requires.open in
    let n = c.len.ensures ∙ ap length c.axioms.ensures.axioms in
    let in_k : c.args.k < length cited = omega (arith, in_core, c.requires.k, n, focus.flags) in
    let core : c.in_ok-core.core ≡ filter keep r.core = c.in_ok-core.ensures ∙ ap (λ (b : List Bool). filter (keeps b) c.as_slice.result.now) c.as_slice-2.ensures.value ∙ ap (filter keep) c.as_slice.ensures in
    let marks : c.in_ok-marks.marks.items ≡ kept_marks keep r.core ws = c.in_ok-marks.ensures ∙ ap (λ (b : List Bool). kept_marks (keeps b) c.as_slice-3.result.now ws) c.as_slice-4.ensures.value ∙ ap (λ (ps : List ℕ). kept_marks keep ps ws) c.as_slice-3.ensures in
    let same : filter (keeps cited) (others c.args.k r.core) ≡ c.in_ok-core.core = filter-others cited c.args.k r.core in_k ∙ ap (λ (b : List Bool). filter (keeps b) r.core) (sym c.leave_out.ensures) ∙ sym core in
    let first : keep (slice_index r.core (length ws)) ≡ false =
    ap (λ (b : List Bool). not (slice_index_or b (next_open r) false)) c.leave_out.ensures
    ∙ ap (λ (j : ℕ). not (slice_index_or (set cited c.args.k true) j false)) (sym c.requires.k)
    ∙ ap not (get_or-set_same cited c.args.k true false in_k) in
    let fewer = marks_fewer keep r.core ws c.requires.open first in
    let long = ap length core in
    let long' = ap length marks in
    subst (IsNext s r) (sym c.into_reduction.ensures) record {
      reducing = record {
        core = subst (λ (ps : List ℕ). is_core_from 0 (length s.axioms) ps ≡ true) (sym core) (core-filter keep 0 (length s.axioms) r.core h.core);
        clauses =
            focus.clauses
            ∙ ap (filter (is_left (keeps cited))) c.requires.clauses
            ∙ rest_is_ground s.size s.axioms (keeps cited) (others c.args.k r.core)
            ∙ ap (study_clauses s.size s.axioms) same;
        trimmed = focus.trimmed;
        over = focus.no_new_clause (is_over (variable_count s.size)) c.requires.over;
        few = let less = focus.no_more in omega (arith, less, c.requires.few);
        marked =
            subst (λ (ps : List ℕ). AreMarked s r.logs ps ps c.in_ok-marks.marks.items) (sym core)
            (subst (AreMarked s r.logs (filter keep r.core) (filter keep r.core)) (sym marks) (marked_part s keep r.logs r.core r.core ws h.marked));
        logs = h.logs;
      };
      part = λ test t. subst (λ (ps : List ℕ). list_all test ps ≡ true) (sym core) (all_kept test keep r.core t);
      fewer = omega (arith, long, long', fewer, c.requires.open);
    }
