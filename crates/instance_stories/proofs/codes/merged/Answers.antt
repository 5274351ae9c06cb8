use Rattle.std.proofs.Common.{◌≡◌, ◌+◌, ◌∙◌, ◌∷◌, ◌++◌, [], List, ℕ, length, length-append, map, refl, ap, sym, subst, arith}
use Rattle.std.proofs.lemmas.List.{map-append}
use Rattle.std.specs.Prelude.{slice_index}
use Rattle.grounding.proofs.MergedLaws.{IsMerged, merged_new, merged_old}
use Rattle.instance_stories.specs.Codes.{code_of, HaveAxiomRoom}
use Rattle.instance_stories.proofs.AllInstances.{small_join}
use Rattle.instance_stories.proofs.codes.merged.Goals as goal
use Rattle.instance_stories.proofs.codes.merged.Goals.{then-code-last+in_ok-push, else-code-last}

pub loop-i-preserved : goal.loop-i-preserved
loop-i-preserved c =
    let code : ℕ = slice_index c.args.codes.now c.loop-i.i in
    elim c.if-code-last.branch [
      | then-code-last+in_ok-push w ↦
          let codes : map code_of c.if-code-last.instances ≡ map code_of c.loop-i.instances ++ code ∷ [] =
          ap (map code_of) (w.instances-is ∙ w.in_ok-push.ensures.ok) ∙ map-append code_of c.loop-i.instances (w.instance_of.result ∷ []) ∙ ap (λ (n : ℕ). map code_of c.loop-i.instances ++ n ∷ []) w.instance_of.ensures.code in
          let small = small_join c.loop-i.instances (w.instance_of.result ∷ []) c.loop-i.invariant.small (w.instance_of.ensures.small, tt) in
          record {
            merged = rw w.last-is (subst (λ (xs : List ℕ). IsMerged c.args.codes.now xs code (c.loop-i.i + 1)) (sym codes)
                (merged_new c.args.codes.now (map code_of c.loop-i.instances) c.loop-i.last c.loop-i.i c.requires.falls c.loop-i-test.true c.loop-i.invariant.merged _ refl w.if-code-last.true));
            small = subst HaveAxiomRoom (sym (w.instances-is ∙ w.in_ok-push.ensures.ok)) small;
            few = let more = ap length (w.instances-is ∙ w.in_ok-push.ensures.ok) ∙ length-append c.loop-i.instances (w.instance_of.result ∷ []) in let before = c.loop-i.invariant.few in omega (arith, more, before);
          }
      | else-code-last w ↦
          let low = c.requires.some c.loop-i.i 0 c.loop-i-test.true in
          record {
            merged = rw w.instances-is (rw w.last-is (merged_old c.args.codes.now (map code_of c.loop-i.instances) c.loop-i.last c.loop-i.i c.requires.falls c.loop-i-test.true c.loop-i.invariant.merged _ refl w.if-code-last.false (omega (arith, low))));
            small = subst HaveAxiomRoom (sym w.instances-is) c.loop-i.invariant.small;
            few = let same = ap length w.instances-is in let before = c.loop-i.invariant.few in omega (arith, same, before);
          }
    ]
