-- What holds of each entry of a library.
use Rattle.std.proofs.Common.{◌≡◌, ◌≢◌, Ok, Err, ℕ, zero, suc, List, [], ◌∷◌, Bool, true, false, if◌then◌else◌, Option, Some, None, IsTrue, slice_get, option_map, drop, ◌+◌, add-one, refl, sym, subst}
use Rattle.std.specs.Cmp.Lexicographic.{same_text}
use Rattle.std.specs.List.{AllByRecursion}
use Rattle.std.specs.Str.{bytes_eq}
use Rattle.std.proofs.lemmas.Option.{same_Some}
use Rattle.vocab.specs.Name.{is_name}
use Rattle.vocab.specs.declared.kinds.Kind.{Kind}
use Rattle.vocab.specs.declared.kinds.Kind.TheVariants.{Choice, Ranking, Sets}
use Rattle.vocab.specs.NamedTree.{NamedTree}
use Rattle.syntax.specs.declared.faults.SyntaxFault.{SyntaxFault}
use Rattle.syntax.specs.declared.faults.SyntaxFault.TheVariants as fault
use Rattle.syntax.specs.Sentence.{IsSentence, IsFault}
use Rattle.syntax.proofs.OneAnswer.{one_answer}
use Rattle.axiom_library.specs.Library.{Entry, choice, ranking, sets, library, text_among, text_under}
use Rattle.axiom_library.specs.Laws.{IsReadable}
use Rattle.axiom_library.proofs.Reading as reading
use Rattle.lists.proofs.PlaceLaws.{each_get}

here_or_later : (P : List ℕ → List ℕ → Type 0) (x : Entry) (name text : List ℕ) (later : Option (List ℕ)) → P x.name x.text → (later ≡ Some text → P name text)
    → (same : Bool) → bytes_eq x.name name ≡ same → (if same then Some x.text else later) ≡ Some text → P name text
here_or_later P x name text later here others true is at = subst (λ n. P n text) (same_text x.name name (sym is)) (subst (λ t. P x.name t) (same_Some _ _ at) here)
here_or_later P x name text later here others false is at = others at

-- what holds of each name and text holds of a name and the text under it
pub under_name : (P : List ℕ → List ℕ → Type 0) (entries : List Entry) → AllByRecursion (λ e. P e.name e.text) entries → (name text : List ℕ) → text_among entries name ≡ Some text → P name text
under_name P [] all name text found = absurd cc
under_name P (x ∷ entries) all name text found =
    here_or_later P x name text (text_among entries name) all.0 (λ later. under_name P entries all.1 name text later) (bytes_eq x.name name) refl found

choice_readable : AllByRecursion (λ e. IsReadable e.name e.text) choice
unfolding choice
choice_readable = (reading.unanimity, (reading.pareto, (reading.onto, (reading.non_dictatorship, (reading.strategyproof, (reading.maskin, (reading.condorcet, (reading.anonymity, (reading.neutrality, (reading.participation, tt))))))))))

ranking_readable : AllByRecursion (λ e. IsReadable e.name e.text) ranking
unfolding ranking
ranking_readable = (reading.pareto_of_rankings, (reading.independence_of_rankings, (reading.non_dictatorship_of_rankings, (reading.anonymity_of_rankings, (reading.neutrality_of_rankings, tt)))))

sets_readable : AllByRecursion (λ e. IsReadable e.name e.text) sets
unfolding sets
sets_readable = (reading.pareto, (reading.anonymity, (reading.neutrality, (reading.condorcet_of_sets, (reading.resolute, (reading.strategyproof_of_sets, tt))))))

pub all_readable : (kind : Kind) → AllByRecursion (λ e. IsReadable e.name e.text) (library kind)
all_readable Choice = choice_readable
all_readable Ranking = ranking_readable
all_readable Sets = sets_readable

-- each text under a name is readable
pub text_readable : (kind : Kind) (name text : List ℕ) → text_under kind name ≡ Some text → IsReadable name text
text_readable kind name text found = under_name IsReadable (library kind) (all_readable kind) name text found

-- the name at a place is one
pub name_shaped : (kind : Kind) (place : ℕ) (e : Entry) → slice_get (library kind) place ≡ Some e → IsReadable e.name e.text
name_shaped kind place e at = each_get (λ e. IsReadable e.name e.text) (library kind) place e (all_readable kind) at

choice_found : AllByRecursion (λ e. text_under Choice e.name ≡ Some e.text) choice
unfolding choice
choice_found = (refl, (refl, (refl, (refl, (refl, (refl, (refl, (refl, (refl, (refl, tt))))))))))

ranking_found : AllByRecursion (λ e. text_under Ranking e.name ≡ Some e.text) ranking
unfolding ranking
ranking_found = (refl, (refl, (refl, (refl, (refl, tt)))))

sets_found : AllByRecursion (λ e. text_under Sets e.name ≡ Some e.text) sets
unfolding sets
sets_found = (refl, (refl, (refl, (refl, (refl, (refl, tt))))))

-- each entry is found under its name
pub entry_found : (kind : Kind) (place : ℕ) (e : Entry) → slice_get (library kind) place ≡ Some e → text_under kind e.name ≡ Some e.text
entry_found Choice place e at = each_get (λ e. text_under Choice e.name ≡ Some e.text) choice place e choice_found at
entry_found Ranking place e at = each_get (λ e. text_under Ranking e.name ≡ Some e.text) ranking place e ranking_found at
entry_found Sets place e at = each_get (λ e. text_under Sets e.name ≡ Some e.text) sets place e sets_found at

-- the name that was found at a place is one
pub name_at_place : (kind : Kind) (place : ℕ) (bytes : List ℕ) → Some bytes ≡ option_map (λ e. e.name) (slice_get (library kind) place) → IsTrue (is_name bytes)
name_at_place kind place bytes found = named_at (slice_get (library kind) place) refl found
  where
    named_at : (entry : Option Entry) → slice_get (library kind) place ≡ entry → Some bytes ≡ option_map (λ e. e.name) entry → IsTrue (is_name bytes)
    named_at None at e = absurd cc
    named_at (Some e) at same = subst (λ n. IsTrue (is_name n)) (sym (same_Some _ _ same)) (name_shaped kind place e at).is_name

-- the text at a place whose name is sought
pub text_here : (entries : List Entry) (place : ℕ) (name bytes : List ℕ) → Some bytes ≡ option_map (λ e. e.name) (slice_get entries place) → bytes_eq bytes name ≡ true
    → option_map (λ e. e.text) (slice_get entries place) ≡ text_among (drop place entries) name
text_here [] place name bytes at same = absurd cc
text_here (x ∷ entries) zero name bytes at same = let e : bytes ≡ x.name = same_Some _ _ at in rw (← e, same) refl
text_here (x ∷ entries) (suc place) name bytes at same = text_here entries place name bytes at same

-- a place with another name
pub text_later : (entries : List Entry) (place : ℕ) (name bytes : List ℕ) → Some bytes ≡ option_map (λ e. e.name) (slice_get entries place) → bytes_eq bytes name ≡ false
    → text_among (drop (place + 1) entries) name ≡ text_among (drop place entries) name
text_later [] place name bytes at other = absurd cc
text_later (x ∷ entries) zero name bytes at other = let e : bytes ≡ x.name = same_Some _ _ at in rw (← e, other) refl
text_later (x ∷ entries) (suc place) name bytes at other = rw add-one (rw add-one at (text_later entries place name bytes at other))

-- a text that reads as a sentence has no fault but want of memory
pub only_memory : (text : List ℕ) (f : NamedTree) (e : SyntaxFault) → IsSentence text f → IsFault text e → e ≢ fault.NoMemory → ⊥
only_memory text f e reads h other = let same = one_answer text (Ok f) (Err e) reads (h, other) in cc
