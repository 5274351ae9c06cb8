-- Values below counts, one more.
use Rattle.std.proofs.Common.{sym, subst, ℕ, ◌+◌, ◌<◌, List, [], ◌∷◌, ◌++◌, length, take, get_or}
use Rattle.std.proofs.lemmas.List.{take_more}
use Rattle.lanes.specs.Lanes.{AreBelow}

below_more : (vs cs : List ℕ) (v c : ℕ) → AreBelow vs cs → v < c → AreBelow (vs ++ v ∷ []) (cs ++ c ∷ [])
below_more [] [] v c h l = (l, tt)
below_more [] (d ∷ cs) v c h l = absurd h
below_more (u ∷ vs) [] v c h l = absurd h
below_more (u ∷ vs) (d ∷ cs) v c h l = (h.0, below_more vs cs v c h.1 l)

pub below_step : (vs cs : List ℕ) (k v : ℕ) → k < length cs → AreBelow vs (take k cs) → v < get_or cs k 0 → AreBelow (vs ++ v ∷ []) (take (k + 1) cs)
below_step vs cs k v h b l = subst (λ xs. AreBelow (vs ++ v ∷ []) xs) (sym (take_more cs k 0 h)) (below_more vs (take k cs) v (get_or cs k 0) b l)
