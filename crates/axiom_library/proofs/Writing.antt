-- A test that each part of a tree without constants has a spelling.
use Rattle.std.proofs.Common.{◌≡◌, ◌≢◌, ℕ, List, length, Bool, true, false, not, ◌&&◌, nat_le, codes, sym, ◌∙◌}
use Rattle.std.proofs.lemmas.Bool.{and_parts, not-true, false≢true, leb-true}
use Rattle.std.proofs.lemmas.Slice.Eq.{bytes_eq-Decides}
use Rattle.std.specs.Str.{bytes_eq}
use Rattle.vocab.specs.Name.{has_name_shape}
use Rattle.vocab.specs.NamedTree as tree
use Rattle.vocab.specs.NamedTree.{NamedTermTree, NamedTermTrees, NamedTree}
use Rattle.syntax.specs.Grammar.{IsFree}
use Rattle.syntax.proofs.RoundTrip.{IsWord, IsWritableTerm, IsWritableList, AreWritable, IsWritable}

-- a name that may stand for a variable, a function or a predicate
abbrev pub is_free_word : List ℕ → Bool
is_free_word n = (not (bytes_eq n (codes "all")) && not (bytes_eq n (codes "some"))) && (has_name_shape n && nat_le (length n) 16)

abbrev mutual
  pub is_writable_term : NamedTermTree → Bool
  is_writable_term (tree.Var n) = is_free_word n
  is_writable_term (tree.Call n ts) = is_free_word n && is_writable_list ts
  is_writable_term p = false

  pub is_writable_list : NamedTermTrees → Bool
  is_writable_list tree.NoArguments = false
  is_writable_list (tree.Argument t ts) = is_writable_term t && are_writable ts

  pub are_writable : NamedTermTrees → Bool
  are_writable tree.NoArguments = true
  are_writable (tree.Argument t ts) = is_writable_term t && are_writable ts

abbrev pub is_writable : NamedTree → Bool
is_writable (tree.Pred n ts) = is_free_word n && is_writable_list ts
is_writable (tree.Equal s t) = is_writable_term s && is_writable_term t
is_writable (tree.Not f) = is_writable f
is_writable (tree.Both f g) = is_writable f && is_writable g
is_writable (tree.Either f g) = is_writable f && is_writable g
is_writable (tree.Implies f g) = is_writable f && is_writable g
is_writable (tree.Same f g) = is_writable f && is_writable g
is_writable (tree.All n s f) = is_free_word n && is_writable f
is_writable (tree.Exists n s f) = is_free_word n && is_writable f

other_text : (xs ys : List ℕ) → not (bytes_eq xs ys) ≡ true → xs ≢ ys
other_text xs ys h e = false≢true (sym (not-true _ h) ∙ (bytes_eq-Decides xs ys).1 e)

free_word : (n : List ℕ) → is_free_word n ≡ true → IsFree n × IsWord n
free_word n h =
    let (free, word) = and_parts (not (bytes_eq n (codes "all")) && not (bytes_eq n (codes "some"))) (has_name_shape n && nat_le (length n) 16) h in
    let (not_all, not_some) = and_parts (not (bytes_eq n (codes "all"))) (not (bytes_eq n (codes "some"))) free in
    let (shape, short) = and_parts (has_name_shape n) (nat_le (length n) 16) word in
    (record { not_all = other_text n _ not_all; not_some = other_text n _ not_some }, record { shape = shape; short = leb-true _ _ short })

mutual
  term_by_test : (t : NamedTermTree) → is_writable_term t ≡ true → IsWritableTerm t
  term_by_test (tree.Var n) h = free_word n h
  term_by_test (tree.Call n ts) h = let (w, more) = and_parts (is_free_word n) (is_writable_list ts) h in let (free, word) = free_word n w in (free, word, list_by_test ts more)
  term_by_test p h = absurd (false≢true h)

  list_by_test : (ts : NamedTermTrees) → is_writable_list ts ≡ true → IsWritableList ts
  list_by_test tree.NoArguments h = absurd (false≢true h)
  list_by_test (tree.Argument t ts) h = let (one, more) = and_parts (is_writable_term t) (are_writable ts) h in (term_by_test t one, all_by_test ts more)

  all_by_test : (ts : NamedTermTrees) → are_writable ts ≡ true → AreWritable ts
  all_by_test tree.NoArguments h = tt
  all_by_test (tree.Argument t ts) h = let (one, more) = and_parts (is_writable_term t) (are_writable ts) h in (term_by_test t one, all_by_test ts more)

two_by_test : (f g : NamedTree) → (is_writable f ≡ true → IsWritable f) → (is_writable g ≡ true → IsWritable g) → (is_writable f && is_writable g) ≡ true → IsWritable f × IsWritable g
two_by_test f g left right h = let (a, b) = and_parts (is_writable f) (is_writable g) h in (left a, right b)

bound_by_test : (n : List ℕ) (f : NamedTree) → (is_writable f ≡ true → IsWritable f) → (is_free_word n && is_writable f) ≡ true → IsFree n × IsWord n × IsWritable f
bound_by_test n f body h = let (w, rest) = and_parts (is_free_word n) (is_writable f) h in let (free, word) = free_word n w in (free, word, body rest)

-- a tree that passes the test is writable
pub writable_by_test : (f : NamedTree) → is_writable f ≡ true → IsWritable f
writable_by_test (tree.Pred n ts) h = let (w, more) = and_parts (is_free_word n) (is_writable_list ts) h in let (free, word) = free_word n w in (free, word, list_by_test ts more)
writable_by_test (tree.Equal s t) h = let (a, b) = and_parts (is_writable_term s) (is_writable_term t) h in (term_by_test s a, term_by_test t b)
writable_by_test (tree.Not f) h = writable_by_test f h
writable_by_test (tree.Both f g) h = two_by_test f g (writable_by_test f) (writable_by_test g) h
writable_by_test (tree.Either f g) h = two_by_test f g (writable_by_test f) (writable_by_test g) h
writable_by_test (tree.Implies f g) h = two_by_test f g (writable_by_test f) (writable_by_test g) h
writable_by_test (tree.Same f g) h = two_by_test f g (writable_by_test f) (writable_by_test g) h
writable_by_test (tree.All n s f) h = bound_by_test n f (writable_by_test f) h
writable_by_test (tree.Exists n s f) h = bound_by_test n f (writable_by_test f) h
