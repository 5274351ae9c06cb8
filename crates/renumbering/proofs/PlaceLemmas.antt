-- Clauses that have the same literals, place by place; and their places in another list, one after another.
use Rattle.std.proofs.Common.{◌≡◌, ℕ, ◌+◌, ◌<◌, ◌≤◌, ◌⊎◌, inl, inr, Bool, true, false, List, [], ◌∷◌, ◌++◌, length, length-append, Some, sym, ap, ◌∙◌, subst, arith}
use Rattle.std.specs.Prelude.{slice_get, slice_index, slice_index_or}
use Rattle.std.proofs.lemmas.Bool.{cases_lt}
use Rattle.std.proofs.lemmas.Option.{slice_get_within}
use Rattle.std.proofs.lemmas.List.{get_or_append_left}
use Rattle.std.proofs.Math.Seq.{get_or-append_seam}
use Rattle.cnf.specs.Signed.{Signed}
use Rattle.cnf.specs.Sat.{Clause}
use Rattle.renumbering.specs.Renumbered.{IsClausePlace, ArePlacesUpTo}

abbrev pub no_lit : Signed
no_lit = record { variable = 0; positive = true }

module _ (old new : List Clause) (flags : List Bool) (k : ℕ) (places : List ℕ) where
  -- one more place, which is right where the flag is up
  pub places_more : (more : List ℕ) (place : ℕ) → ArePlacesUpTo old new flags k places → more ≡ places ++ place ∷ [] → (slice_index_or flags k false ≡ true → IsClausePlace old new k place)
      → ArePlacesUpTo old new flags (k + 1) more
  places_more more place h e right = subst (ArePlacesUpTo old new flags (k + 1)) (sym e) (record {
    count = length-append places (place ∷ []) ∙ omega (arith, h.count);
    stand = λ j lt up. at j lt up (cases_lt j k);
  })
    where
      at : (j : ℕ) → j < k + 1 → slice_index_or flags j false ≡ true → (j < k) ⊎ (k ≤ j) → IsClausePlace old new j (slice_index (places ++ place ∷ []) j)
      at j lt up (inl a) = subst (IsClausePlace old new j) (sym (get_or_append_left places (place ∷ []) 0 j (omega (arith, a, h.count)))) (h.stand j a up)
      at j lt up (inr a) =
          let same : j ≡ k = omega (arith, lt, a) in
          let last : slice_index (places ++ place ∷ []) j ≡ place = (let end : j ≡ length places = omega (arith, same, h.count) in ap (slice_index (places ++ place ∷ [])) end ∙ get_or-append_seam places place [] 0) in
          subst (λ (i : ℕ). IsClausePlace old new i (slice_index (places ++ place ∷ []) j)) (sym same)
          (subst (IsClausePlace old new k) (sym last) (right (subst (λ (i : ℕ). slice_index_or flags i false ≡ true) same up)))

-- a clause that is found stands at its place
pub found_at : (old new : List Clause) (k place : ℕ) (clause : Clause) → slice_get old k ≡ Some clause → slice_get new place ≡ Some clause → IsClausePlace old new k place
found_at old new k place clause a b = record { within = slice_get_within new place clause b; same = b ∙ sym a }
