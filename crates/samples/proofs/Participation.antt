-- No study of a number has the axiom `participation`.
use Rattle.std.proofs.Common.{◌≡◌, refl, sym, ◌∙◌, ap, List, [], ◌∷◌, ℕ, map, false, codes}
use Rattle.std.specs.Prelude.{◌/◌}
use Rattle.std.specs.List.{list_any}
use Rattle.std.specs.Str.{bytes_eq}
use Rattle.vocab.specs.declared.kinds.Kind.{Kind}
use Rattle.vocab.specs.declared.kinds.Kind.TheVariants.{Choice, Ranking, Sets}
use Rattle.vocab.specs.Titled.{Titled}
use Rattle.axiom_library.specs.Library.{Entry, choice, ranking}
use Rattle.study.proofs.WholeStudies.{answer_names}
use Rattle.samples.specs.Sample.{sample_kind, sample_entries, entries_by, sample_listing, SamplesLackParticipation}
use Rattle.samples.proofs.NumberLemmas.{none_chosen}

any_name : {A : Type 0} (name : A → List ℕ) (sought : List ℕ) (xs : List A) → list_any (λ x. bytes_eq (name x) sought) xs ≡ list_any (λ n. bytes_eq n sought) (map name xs)
any_name name sought [] = refl
any_name name sought (x ∷ xs) = rw (any_name name sought xs) refl

kind_lacks : (kind : Kind) → list_any (λ e. bytes_eq e.name (codes "participation")) (sample_entries kind) ≡ false
unfolding choice ranking
kind_lacks Choice = refl
kind_lacks Ranking = refl
kind_lacks Sets = refl

pub samples_lack : SamplesLackParticipation
samples_lack n study h =
    let sought = codes "participation" in
    any_name (λ (a : Titled). a.name) sought study.axioms
    ∙ ap (list_any (λ name. bytes_eq name sought)) (answer_names (sample_listing n) study h)
    ∙ sym (any_name (λ (e : Entry). e.name) sought (entries_by (n / 4) (sample_entries (sample_kind n))))
    ∙ none_chosen (λ e. bytes_eq e.name sought) (n / 4) (sample_entries (sample_kind n)) (kind_lacks (sample_kind n))
