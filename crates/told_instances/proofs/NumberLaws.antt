-- The number of values that fit, one leading universal after another.
use Rattle.std.proofs.Common.{◌≡◌, refl, sym, ◌∙◌, ap, subst, ℕ, suc, ◌+◌, ◌*◌, ◌<◌, ◌≤◌, true, inl, inr, List, [], ◌∷◌, map, drop, drop-cons, length, arith, ltb-true, Some, None}
use Rattle.std.specs.Prelude.{nat_lt, slice_get, slice_index}
use Rattle.std.specs.Option.{option_map_or}
use Rattle.std.specs.Cmp.Lexicographic.{pointwise}
use Rattle.std.proofs.Math.Nat.{mul-le-mul_right}
use Rattle.std.proofs.lemmas.Bool.{and_parts, cases_lt}
use Rattle.std.proofs.lemmas.List.{drop_all}
use Rattle.vocab.specs.Range.{product}
use Rattle.vocab.specs.Limits.{bases_of, instance_count}
use Rattle.vocab.specs.Size.{Extent, sort_count}
use Rattle.vocab.specs.Study.{Question, IsStudy}
use Rattle.vocab.specs.Titled.{Titled}
use Rattle.vocab.specs.Tree.{Tree, Leaf, Not, Both, Either, Implies, Same, All, Exists}
use Rattle.meaning.specs.Space.{number_of}
use Rattle.meaning.proofs.DigitLaws.{are_one_to_one}
use Rattle.meaning.specs.declared.stories.Reason.{Reason}
use Rattle.meaning.specs.declared.stories.Reason.TheVariants.{Axiom as ByAxiom, Outcome as ByOutcome, Lemma as ByLemma}
use Rattle.verdicts.specs.Lines.{sorts_of}
use Rattle.sharp_verdicts.specs.declared.instances.Cited.{Cited}
use Rattle.sharp_verdicts.specs.Instances.{number_at}
use Rattle.instance_stories.specs.Codes.{code_of}
use Rattle.told_instances.specs.Told.{names_instance, codes_in, cited_instance}
use Rattle.told_instances.specs.Numbered.{number_from, IsNumbered}
use Rattle.vocab.proofs.StudyLaws.{few_at}

-- the numbers on the way fit, and the last is that of the values
pub record HasNumber (size : Extent) (f : Tree) (values : List ℕ) (level : ℕ) : Type 0 where
  pub numbered : IsNumbered size f values level
  pub is : number_from size f values level ≡ number_of (bases_of size f) (drop level values)

some_left : (values : List ℕ) (level b : ℕ) (bases : List ℕ) → pointwise nat_lt (drop level values) (b ∷ bases) ≡ true → level < length values
some_left values level b bases h = elim (cases_lt level (length values)) [
  | inl lt ↦ lt
  | inr le ↦ absurd (none (subst (λ (vs : List ℕ). pointwise nat_lt vs (b ∷ bases) ≡ true) (drop_all level values le) h))
]
  where
    none : pointwise nat_lt [] (b ∷ bases) ≡ true → ⊥
    none e = cc

pub has_number : (size : Extent) (f : Tree) (values : List ℕ) (level : ℕ) → pointwise nat_lt (drop level values) (bases_of size f) ≡ true → instance_count size f ≤ 40000000 → HasNumber size f values level
has_number size (All s f) values level fit few =
    let b = sort_count size s in
    let bases = bases_of size f in
    let lt = some_left values level b bases fit in
    let up : suc level ≡ level + 1 = omega arith in
    let v = slice_index values level in
    let cut : drop level values ≡ v ∷ drop (level + 1) values = drop-cons values level 0 lt ∙ ap (λ (k : ℕ). v ∷ drop k values) up in
    let fits = subst (λ (vs : List ℕ). pointwise nat_lt vs (b ∷ bases) ≡ true) cut fit in
    let e = and_parts (nat_lt v b) (pointwise nat_lt (drop (level + 1) values) bases) fits in
    let some : 1 ≤ b = (let w = ltb-true v b e.0 in omega (arith, w)) in
    let more : product bases ≤ b * product bases = (let m = mul-le-mul_right (product bases) some in omega (arith, m)) in
    let inner = has_number size f values (level + 1) e.1 (omega (arith, more, few)) in
    let number : number_from size (All s f) values level ≡ number_of (b ∷ bases) (v ∷ drop (level + 1) values) = ap (λ (n : ℕ). v * product bases + n) inner.is in
    let under : number_of (b ∷ bases) (v ∷ drop (level + 1) values) < product (b ∷ bases) = (are_one_to_one (b ∷ bases)).number (v ∷ drop (level + 1) values) fits in
    record {
      numbered = (lt, omega (arith, more, few), omega (arith, number, under, few), inner.numbered);
      is = number ∙ ap (number_of (b ∷ bases)) (sym cut);
    }
has_number size (Leaf a) values level fit few = record { numbered = tt; is = refl }
has_number size (Not f) values level fit few = record { numbered = tt; is = refl }
has_number size (Both f g) values level fit few = record { numbered = tt; is = refl }
has_number size (Either f g) values level fit few = record { numbered = tt; is = refl }
has_number size (Implies f g) values level fit few = record { numbered = tt; is = refl }
has_number size (Same f g) values level fit few = record { numbered = tt; is = refl }
has_number size (Exists s f) values level fit few = record { numbered = tt; is = refl }

-- ---- a reason of a study

-- what a reason by an axiom has: its number, which is that of the instance
pub record HasReason (study : Question) (k : ℕ) (values : List ℕ) (f : Tree) : Type 0 where
  pub numbered : IsNumbered study.size f values 0
  pub is : number_from study.size f values 0 ≡ number_at study k values
  pub small : number_from study.size f values 0 < 40000000

pub has_reason : (study : Question) (k : ℕ) (values : List ℕ) (a : Titled) (f : Tree) → IsStudy study → names_instance study (ByAxiom k values) ≡ true → slice_get study.axioms k ≡ Some a → f ≡ a.sentence → HasReason study k values f
has_reason study k values a f taken h e same =
    let r = and_parts (nat_lt k (length study.axioms)) (pointwise nat_lt values (map (sort_count study.size) (sorts_of (slice_get study.axioms k)))) h in
    let fit : pointwise nat_lt values (bases_of study.size a.sentence) ≡ true = subst (λ o. pointwise nat_lt values (map (sort_count study.size) (sorts_of o)) ≡ true) e r.1 in
    let few = few_at study k a taken e in
    let n = has_number study.size a.sentence values 0 fit few in
    let at : number_at study k values ≡ number_of (bases_of study.size a.sentence) values = ap (λ o. option_map_or (λ (b : Titled). number_of (bases_of study.size b.sentence) values) o 0) e in
    let under : number_of (bases_of study.size a.sentence) values < instance_count study.size a.sentence = (are_one_to_one (bases_of study.size a.sentence)).number values fit in
    subst (HasReason study k values) (sym same) (record {
      numbered = n.numbered;
      is = n.is ∙ sym at;
      small = (let is = n.is in omega (arith, is, under, few));
    })

-- the place of the axiom that a reason names
pub within : (study : Question) (k : ℕ) (values : List ℕ) → names_instance study (ByAxiom k values) ≡ true → length study.axioms ≤ 4000000 → k < 4000000
within study k values h few =
    let r = and_parts (nat_lt k (length study.axioms)) (pointwise nat_lt values (map (sort_count study.size) (sorts_of (slice_get study.axioms k)))) h in
    let lt = ltb-true k (length study.axioms) r.0 in
    omega (arith, lt, few)

-- ---- by the instance that is cited

pub code_is : (study : Question) (r : Reason) (c : Cited) (code : ℕ) → cited_instance study r ≡ Some c → code ≡ code_of c → codes_in study r ≡ code ∷ []
code_is study (ByAxiom k values) c code e f = let same : record { «axiom» = k; number = number_at study k values } ≡ c = cc in ap (λ (d : Cited). code_of d ∷ []) same ∙ ap (λ (n : ℕ). n ∷ []) (sym f)
code_is study (ByOutcome p) c code e f = absurd cc
code_is study (ByLemma j) c code e f = absurd cc

pub no_code : (study : Question) (r : Reason) → cited_instance study r ≡ None → codes_in study r ≡ []
no_code study (ByAxiom k values) e = absurd cc
no_code study (ByOutcome p) e = refl
no_code study (ByLemma j) e = refl
