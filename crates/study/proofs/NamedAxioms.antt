-- What is listed has names: that of an axiom of the library, or that of a sentence of the study's own.
use Rattle.std.proofs.Common.{◌≡◌, ℕ, List, [], ◌∷◌, map, Bool, true, false, if◌then◌else◌, Option, None, Some, Result, Ok, Err, IsTrue, codes, refl, sym, subst}
use Rattle.std.proofs.lemmas.Bool.{and_from}
use Rattle.std.specs.List.{list_all, AllByRecursion}
use Rattle.std.specs.Option.{ok_or}
use Rattle.toml.specs.Data.{Data, string, table, Members, no_members, member, get_member}
use Rattle.vocab.specs.declared.kinds.Kind.{Kind}
use Rattle.vocab.specs.Name.{is_name}
use Rattle.vocab.specs.Titled.{Titled}
use Rattle.axiom_library.specs.Library.{Entry, text_among, text_under}
use Rattle.axiom_library.proofs.Entries.{under_name, text_readable}
use Rattle.study.specs.declared.drafts.Draft.{Draft}
use Rattle.study.specs.Document.{axioms_of, own_sentence, sentences_in, sentences_of, known_keys, head_of, draft_of}
use Rattle.study.specs.Listing.{or_own, named_entry, text_under_name, listed}
use Rattle.study.specs.Refusing.{and_then}
use Rattle.study.proofs.Listings.{came_from, ok_once}

-- each of some entries has a name
abbrev pub AreNamed : List Entry → Type 0
AreNamed entries = AllByRecursion (λ e. IsTrue (is_name e.name)) entries

own_if_name : (key text : List ℕ) (named : Bool) (e : Entry) → is_name key ≡ named → Path (Result Entry (List ℕ)) (if named then Ok (record { name = key; text = text }) else Err key) (Ok e) → IsTrue (is_name e.name)
own_if_name key text true e is h = subst (λ x. IsTrue (is_name x.name)) (ok_once h) is
own_if_name key text false e is h = absurd cc

own_named : (key : List ℕ) (value : Data) (e : Entry) → own_sentence key value ≡ Ok e → IsTrue (is_name e.name)
own_named key (string text) e h = own_if_name key text (is_name key) e refl h
own_named key _ e h = absurd cc

members_named : (members : Members) (own : List Entry) → sentences_in members ≡ Ok own → AreNamed own
members_named no_members own h = subst AreNamed (ok_once h) tt
members_named (member key value rest) own h =
    let one = came_from (λ e. and_then (λ own. Ok (e ∷ own)) (sentences_in rest)) (own_sentence key value) own h in
    let more = came_from (λ own. Ok (one.value ∷ own)) (sentences_in rest) own one.after in
    subst AreNamed (ok_once more.after) (own_named key value one.value one.first, members_named rest more.value more.first)

sentences_named : (value : Option Data) (own : List Entry) → sentences_of value ≡ Ok own → AreNamed own
sentences_named None own h = subst AreNamed (ok_once h) tt
sentences_named (Some (table members)) own h = members_named members own h
sentences_named (Some _) own h = absurd cc

-- the sentences of a draft have names
pub draft_named : (document : Members) (d : Draft) → draft_of document ≡ Ok d → AreNamed d.sentences
unfolding draft_of
draft_named document d e =
    let head = came_from _ (head_of document) d e in
    let axioms = came_from _ (ok_or (axioms_of (get_member (codes "axioms") document)) (codes "axioms")) d head.after in
    let sentences = came_from _ (sentences_of (get_member (codes "sentences") document)) d axioms.after in
    let others = came_from _ (known_keys document) d sentences.after in
    subst (λ (x : Draft). AreNamed x.sentences) (ok_once others.after) (sentences_named (get_member (codes "sentences") document) sentences.value sentences.first)

known_or_own : (kind : Kind) (own : List Entry) (name text : List ℕ) (known : Option (List ℕ)) → AreNamed own → text_under kind name ≡ known → or_own known (text_among own name) ≡ Some text → IsTrue (is_name name)
known_or_own kind own name text (Some library_text) named is h = (text_readable kind name library_text is).is_name
known_or_own kind own name text None named is h = under_name (λ n t. IsTrue (is_name n)) own named name text h

entry_if_text : (kind : Kind) (own : List Entry) (name : List ℕ) (text : Option (List ℕ)) (e : Entry) → AreNamed own → text_under_name kind own name ≡ text → named_entry name text ≡ Ok e → IsTrue (is_name e.name)
entry_if_text kind own name None e named is h = absurd cc
entry_if_text kind own name (Some text) e named is h =
    subst (λ x. IsTrue (is_name x.name)) (ok_once h) (known_or_own kind own name text (text_under kind name) named refl is)

-- what is listed has names
pub listed_named : (kind : Kind) (own : List Entry) (names : List (List ℕ)) (entries : List Entry) → AreNamed own → listed kind own names ≡ Ok entries → AreNamed entries
listed_named kind own [] entries named h = subst AreNamed (ok_once h) tt
listed_named kind own (name ∷ names) entries named h =
    let one = came_from (λ e. and_then (λ entries. Ok (e ∷ entries)) (listed kind own names)) (named_entry name (text_under_name kind own name)) entries h in
    let rest = came_from (λ entries. Ok (one.value ∷ entries)) (listed kind own names) entries one.after in
    subst AreNamed (ok_once rest.after) (entry_if_text kind own name (text_under_name kind own name) one.value named refl one.first, listed_named kind own names rest.value named rest.first)

-- axioms under the names of named entries have names
pub axioms_named : (entries : List Entry) (axioms : List Titled) → AreNamed entries → map (λ a. a.name) axioms ≡ map (λ e. e.name) entries → list_all (λ a. is_name a.name) axioms ≡ true
axioms_named entries [] named same = refl
axioms_named [] (a ∷ axioms) named same = absurd cc
axioms_named (e ∷ entries) (a ∷ axioms) named same =
    let first : a.name ≡ e.name = cc in
    let rest : map (λ a. a.name) axioms ≡ map (λ e. e.name) entries = cc in
    and_from _ _ (subst (λ n. IsTrue (is_name n)) (sym first) named.0) (axioms_named entries axioms named.1 rest)
