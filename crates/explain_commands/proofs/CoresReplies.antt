-- `cores`, as a command over a study, and what is replied with a map.
use Rattle.std.proofs.Common.{◌≡◌, sym, refl, subst, ℕ, List, [], ◌∷◌, length, Option, None, Some, arith}
use Rattle.std.specs.Prelude.{IsTrue}
use Rattle.std.specs.List.{list_all}
use Rattle.std.proofs.lemmas.Bool.{and_from, and_parts}
use Rattle.vocab.specs.Study.{Question}
use Rattle.meaning.proofs.CoreLaws.{core_in_range}
use Rattle.axiom_sets.specs.Sets.{is_set}
use Rattle.core_maps.specs.declared.answers.CoreMap.{CoreMap}
use Rattle.core_maps.specs.declared.answers.Ending.{Ending}
use Rattle.core_maps.specs.declared.answers.Ending.TheVariants.{Whole, Cut}
use Rattle.core_maps.specs.CoreMaps.{IsMapping}
use Rattle.map_text.specs.MapText.{HasNames, are_named, are_axiom_places, map_text}
use Rattle.answers.specs.Grounding.{clauses_fault, OverClauses, clauses_made}
use Rattle.answers.proofs.AmongLemmas.{found_among}
use Rattle.explain_words.specs.Words.{ExplainRequest, Cores}
use Rattle.explain_answers.specs.Cores.{IsMapped, cores_status, ending_status}
use Rattle.explain_answers.specs.Story.{bare_run}
use Rattle.explain_answers.specs.Call.{explain_statuses}
use Rattle.explain_parts.proofs.StudyReplies.{IsLow, IsStudyCommand, low_at, over_clauses}

-- `cores` is such a command
module _ (name : List ℕ) (workers : ℕ) where
  abbrev mapping : Option ExplainRequest
  mapping = Some (Cores name workers)

  mapped_low : (ending : Ending) (open_sets : List (List ℕ)) (status : ℕ) → status ≡ ending_status ending open_sets → IsLow mapping status
  mapped_low Cut open_sets status e = subst (IsLow mapping) (sym e) (low_at mapping 4 refl (omega arith))
  mapped_low Whole [] status e = subst (IsLow mapping) (sym e) (low_at mapping 0 refl (omega arith))
  mapped_low Whole (set ∷ open_sets) status e = subst (IsLow mapping) (sym e) (low_at mapping 4 refl (omega arith))

  pub cores_command : IsStudyCommand mapping name (λ study status text. OverClauses study (bare_run status) text (IsMapped study status text))
  cores_command = record {
    reads = record { one = refl; can_fail = found_among (explain_statuses mapping) 5 refl };
    into = λ files status text row. row;
    can_refuse = low_at mapping 3 refl (omega arith);
    ends = λ study status text. over_clauses mapping study status text (IsMapped study status text) (low_at mapping 3 refl (omega arith)) (λ is. mapped_low is.map.ending is.map.sets.open status is.ends);
  }

-- the places of sets of axioms are places of axioms
sets_named : (study : Question) (sets : List (List ℕ)) → IsTrue (list_all (is_set (length study.axioms)) sets) → are_named study sets
sets_named study [] h = refl
sets_named study (set ∷ sets) h =
    let p = and_parts (is_set (length study.axioms) set) (list_all (is_set (length study.axioms)) sets) h in
    and_from (are_axiom_places study set) (list_all (are_axiom_places study) sets) (core_in_range 0 (length study.axioms) set p.0) (sets_named study sets p.1)

-- those of a map of the study are
pub has_names : (study : Question) (map : CoreMap) → IsMapping study map → HasNames study map.sets
has_names study map right = record {
  impossible = sets_named study map.sets.impossible right.tidy.impossible;
  possible = sets_named study map.sets.possible right.tidy.possible;
  open_sets = sets_named study map.sets.open right.tidy.open_sets;
}

-- a right map is what is said
pub mapped : (study : Question) (map : CoreMap) → clauses_fault study ≡ None → IsMapping study map
    → OverClauses study (bare_run (cores_status map)) (map_text study map) (IsMapped study (cores_status map) (map_text study map))
mapped study map none right = clauses_made none (record { map = map; right = right; ends = refl; lines = refl })
