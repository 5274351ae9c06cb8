use Rattle.std.proofs.Common.{◌≡◌, ◌^◌, List, map, length, sym, ◌∙◌, ap, subst, All, arith, false, Bool, ℕ, suc}
use Rattle.std.specs.Prelude.{slice_index_or}
use Rattle.cnf.specs.declared.derivations.Line.{Line}
use Rattle.cnf.specs.Trimmed.{is_cited_in}
use Rattle.cnf.specs.Fresh.{added_by}
use Rattle.renumbering.specs.Renumbered.{ArePlacesUpTo, HasIdsBelow, renumbered_line}
use Rattle.renumbering.proofs.IdLaws.{ids_below}
use Rattle.renumbering.proofs.LineLemmas.{added_same, moved_trimmed}
use Rattle.renumbering.proofs.lines.renumber.Goals as goal

pub places_of-requires-clause-stand : goal.places_of-requires-clause-stand
places_of-requires-clause-stand c = λ j lt up.
    let flag : slice_index_or c.as_slice-2.result.now j false ≡ is_cited_in c.args.lines.now (suc j) =
    ap (λ (fs : List Bool). slice_index_or fs j false) c.as_slice-2.ensures.value ∙ c.in_ok-flags.ensures.cited j (omega (arith, lt, c.len.ensures.value)) ∙ ap (λ (ls : List Line). is_cited_in ls (suc j)) c.as_slice.ensures in
    c.requires.stand j lt (sym flag ∙ up)

pub new_lines-requires : goal.new_lines-requires
new_lines-requires c =
    subst (λ (ls : List Line). All (λ (line : Line). HasIdsBelow (2 ^ 63) line.step) ls) (sym c.as_slice-4.ensures)
    (ids_below c.args.old.now.clauses c.args.lines.now (2 ^ 63) (omega (arith, c.requires.few, c.len.ensures.limits.few_clauses)) c.requires.trimmed)

pub returns-clause-trimmed : goal.returns-clause-trimmed
returns-clause-trimmed c =
    let places = subst (λ (ps : List ℕ). ArePlacesUpTo c.args.old.now.clauses c.args.new.now.clauses c.as_slice-2.result.now (length c.args.old.now.clauses) ps) (sym c.as_slice-3.ensures.value) c.in_ok-places.ensures in
    moved_trimmed c.args.old.now.clauses c.args.new.now.clauses c.as_slice-2.result.now c.as_slice-3.result.now c.args.lines.now _ c.len-2.result c.requires.trimmed places
    (λ j lt cited.
    let flag : slice_index_or c.as_slice-2.result.now j false ≡ is_cited_in c.args.lines.now (suc j) =
    ap (λ (fs : List Bool). slice_index_or fs j false) c.as_slice-2.ensures.value ∙ c.in_ok-flags.ensures.cited j (omega (arith, lt, c.len.ensures.value)) ∙ ap (λ (ls : List Line). is_cited_in ls (suc j)) c.as_slice.ensures in
    flag ∙ cited)
    c.len-2.ensures.value
    (c.in_ok-moved.ensures ∙ ap (map (renumbered_line (length c.as_slice-3.result.now) c.len-2.result c.as_slice-3.result.now)) c.as_slice-4.ensures)

pub returns-clause-added : goal.returns-clause-added
returns-clause-added c =
    ap (map (λ (l : Line). added_by l.step)) (c.in_ok-moved.ensures ∙ ap (map (renumbered_line (length c.as_slice-3.result.now) c.len-2.result c.as_slice-3.result.now)) c.as_slice-4.ensures)
    ∙ added_same (length c.as_slice-3.result.now) c.len-2.result c.as_slice-3.result.now c.args.lines.now
