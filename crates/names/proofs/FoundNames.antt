-- Look-ups after a name was put.
use Rattle.std.proofs.Common.{◌≡◌, ◌+◌, ℕ, cond, List, [], ◌∷◌, Bool, true, false, if◌then◌else◌, None, Some, Vec, refl, sym, ap, ◌∙◌}
use Rattle.std.proofs.lemmas.Bool.{true≢false}
use Rattle.std.specs.Cmp.Lexicographic.{bytes_decides, nat_list_eq_equiv}
use Rattle.std.specs.List.{position_from}
use Rattle.std.specs.Map.{lookup}
use Rattle.std.specs.Str.{bytes_eq}
use Rattle.std.specs.declared.alloc.Global.{Global}
use Rattle.indexmap.specs.IndexMap.{insert_entry}

abbrev Entry : Type 0
Entry = Vec ℕ Global × ℕ

-- a key is the bytes of a name
abbrev is_named : List ℕ → Vec ℕ Global → Bool
is_named name key = bytes_eq name key.items

abbrev same_key : Vec ℕ Global → Vec ℕ Global → Bool
same_key a b = bytes_eq a.items b.items

module _ (name : List ℕ) (key : Vec ℕ Global) (place : ℕ) where
  put_first : (e : Entry) (es : List Entry) (named : Bool) → is_named name key ≡ named → is_named name e.0 ≡ named
      → lookup (is_named name) ((e.0, place) ∷ es) ≡ (if is_named name key then Some place else lookup (is_named name) (e ∷ es))
  put_first e es true k h = rw (k, h) refl
  put_first e es false k h = rw (k, h) refl

  put_later : (e : Entry) (es more : List Entry) (named : Bool) → is_named name key ≡ named → (named ≡ true → is_named name e.0 ≡ false)
      → lookup (is_named name) more ≡ (if is_named name key then Some place else lookup (is_named name) es)
      → lookup (is_named name) (e ∷ more) ≡ (if is_named name key then Some place else lookup (is_named name) (e ∷ es))
  put_later e es more true k apart h = rw (apart refl, h, k) refl
  put_later e es more false k apart h = rw (h, k) refl

  -- after a key is put, its name has the new place, and each other name has what it had
  found_after : (es : List Entry) → lookup (is_named name) (insert_entry same_key es key place) ≡ (if is_named name key then Some place else lookup (is_named name) es)
  found_after [] = by (is_named name key)
    where
      by : (b : Bool) → cond b (Some place) None ≡ (if b then Some place else None)
      by true = refl
      by false = refl
  found_after (e ∷ es) = by (same_key key e.0) refl (found_after es)
    where
      by : (b : Bool) → same_key key e.0 ≡ b → lookup (is_named name) (insert_entry same_key es key place) ≡ (if is_named name key then Some place else lookup (is_named name) es)
          → lookup (is_named name) (if b then (e.0, place) ∷ es else e ∷ insert_entry same_key es key place) ≡ (if is_named name key then Some place else lookup (is_named name) (e ∷ es))
      by true same h = put_first e es (is_named name key) refl (ap (bytes_eq name) (sym ((bytes_decides key.items e.0.items).0 same)))
      by false other h = put_later e es (insert_entry same_key es key place) (is_named name key) refl (λ named. nat_list_eq_equiv.congr name key.items e.0.items named ∙ other) h

-- one more name, before the others
pub finds_one_more : (found : List Entry) (key : Vec ℕ Global) (place : ℕ) (put : List ℕ) (names : List (List ℕ)) → key.items ≡ put
    → ((name : List ℕ) → lookup (is_named name) found ≡ position_from (λ n. bytes_eq n name) (place + 1) names)
    → (name : List ℕ) → lookup (is_named name) (insert_entry same_key found key place) ≡ position_from (λ n. bytes_eq n name) place (put ∷ names)
finds_one_more found key place put names is finds name =
    found_after name key place found ∙ by (bytes_eq name key.items) (bytes_eq put name) (nat_list_eq_equiv.symm name key.items ∙ ap (λ n. bytes_eq n name) is) (finds name)
  where
    by : (a b : Bool) → a ≡ b → lookup (is_named name) found ≡ position_from (λ n. bytes_eq n name) (place + 1) names
        → (if a then Some place else lookup (is_named name) found) ≡ cond b (Some place) (position_from (λ n. bytes_eq n name) (place + 1) names)
    by true true h rest = refl
    by true false h rest = absurd (true≢false h)
    by false true h rest = absurd (true≢false (sym h))
    by false false h rest = rest
