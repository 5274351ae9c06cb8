-- The watchers of each literal, as linked lists of nodes.
use Rattle.std.specs.Prelude.{◌≡◌, ◌≢◌, ℕ, zero, suc, ◌<◌, ◌≤◌, ◌==◌, min, List, [], ◌∷◌, length, All, AllPairs, Contains, slice_index, ◌⊎◌, if◌then◌else◌}

-- what contracts see: the owner of each node, the number of lists, the loose nodes in order, and for how many nodes there is room
pub record WatchersState : Type 0 where
  pub owners : List ℕ
  pub lists : ℕ
  pub loose : List ℕ
  pub room : ℕ

-- from this link the nodes follow in order, and then the end
abbrev pub IsChainFrom : List ℕ → ℕ → List ℕ → Type 0
IsChainFrom next link [] = link ≡ 18446744073709551615
IsChainFrom next link (n ∷ nodes) = (link ≡ n) × IsChainFrom next (slice_index next n) nodes

-- each node is in the chain of its owner, or loose; the loose nodes follow from a link of their own
pub record AreLinked (owners heads next : List ℕ) (cursor : ℕ) (loose : List ℕ) : Type 0 where
  pub chain : ℕ → List ℕ
  pub linked : (c : ℕ) → c < length heads → IsChainFrom next (slice_index heads c) (chain c)
  pub owned : (c : ℕ) → All (λ n. (n < length next) × (slice_index owners n ≡ c)) (chain c)
  pub chain_once : (c : ℕ) → AllPairs (λ a b. a ≢ b) (chain c)
  pub complete : (n : ℕ) → n < length next → Contains (chain (slice_index owners n)) n ⊎ Contains loose n
  pub rest : IsChainFrom next cursor loose
  pub in_range : All (λ n. n < length next) loose
  pub once : AllPairs (λ a b. a ≢ b) loose
  pub apart : (c : ℕ) → All (λ n. ¬ Contains (chain c) n) loose
  pub sizes : length owners ≡ length next

-- the nodes that follow from a link, at most this many
abbrev pub follow : List ℕ → ℕ → ℕ → List ℕ
follow next link zero = []
follow next link (suc fuel) = if link == 18446744073709551615 then [] else link ∷ follow next (slice_index next link) fuel

-- the room of two lists
abbrev pub room_of : ℕ → ℕ → ℕ
room_of a b = min a b

-- the loose nodes are those that follow from the cursor
pub record IsLinked (owners heads next : List ℕ) (cursor : ℕ) : Type 0 where
  pub linked : AreLinked owners heads next cursor (follow next cursor (length next))
  pub few : length next ≤ 18446744073709551615

-- the loose nodes are all those of a list, each once
pub record Detached (owners : List ℕ) (list : ℕ) (loose : List ℕ) : Type 0 where
  pub owned : All (λ n. (n < length owners) × (slice_index owners n ≡ list)) loose
  pub once : AllPairs (λ a b. a ≢ b) loose
  pub complete : (n : ℕ) → n < length owners → slice_index owners n ≡ list → Contains loose n
