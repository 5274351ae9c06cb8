-- What a judging stands for at witnesses.
use Rattle.std.proofs.Common.{◌≡◌, refl, sym, ap, ap₂, ◌∙◌, subst, ℕ, ◌+◌, ◌<◌, ◌≤◌, Bool, true, List, [], ◌∷◌, ◌++◌, length, length-append, Option, Some, None, arith}
use Rattle.std.specs.Prelude.{slice_get, nat_lt, ◌==◌}
use Rattle.std.specs.Option.{option_or}
use Rattle.std.specs.List.{list_all}
use Rattle.std.specs.Str.{bytes_eq}
use Rattle.std.proofs.lemmas.Bool.Decides.{Decides-eqb}
use Rattle.lists.proofs.TestLaws.{all_get}
use Rattle.verdicts.specs.Numbers.{saturated}
use Rattle.vocab.specs.Study.{Question}
use Rattle.vocab.specs.Titled.{Titled}
use Rattle.meaning.specs.declared.cores.Witness.{Witness}
use Rattle.verdicts.specs.declared.verdicts.Verdict.TheVariants.{Impossible}
use Rattle.verdicts.specs.declared.refusals.Refusal.{Refusal}
use Rattle.verdicts.specs.declared.refusals.Refusal.TheVariants.{Core}
use Rattle.verdicts.specs.Lines.{title_of}
use Rattle.verdicts.specs.Places.{Place, Standing}
use Rattle.verdicts.specs.Faults.{next_after, next_core, name_fault, unless_so}
use Rattle.verdicts.specs.Judge.{witness_place, after_witness}
use Rattle.verdicts.proofs.RangeLaws.{good_in_range}
use Rattle.report_lines.specs.declared.places.Place.{Place as HeldPlace}
use Rattle.report_lines.specs.declared.places.Place.TheVariants as place
use Rattle.verdicts.specs.declared.verdicts.Confirmed.TheVariants as confirmed
use Rattle.report_lines.specs.Held.{held_place}
use Rattle.report.specs.declared.judging.Judging.{Judging}
use Rattle.report.specs.Stands.{Stands, IsRead}

next_there : (core : List ℕ) (witnesses : List Witness) → next_after core witnesses ≡ slice_get core (length witnesses)
next_there [] witnesses = refl
next_there (k ∷ core) [] = refl
next_there (k ∷ core) (w ∷ witnesses) = next_there core witnesses

-- a number that is held is compared with one below the end of `u64`
pub number_same : (n m : ℕ) → m < 18446744073709551615 → saturated n ≡ m → (n == m) ≡ true
number_same n m l e = (Decides-eqb n m).1 (omega (arith, l, e))

-- neither of two tests fails
pub no_fault : (o : Option Refusal) (b : Bool) (v w : Refusal) → o ≡ unless_so true v → b ≡ true → None ≡ option_or o (unless_so b w)
no_fault o b v w e t = sym (ap₂ (λ q c. option_or q (unless_so c w)) e t)

-- the name of an axiom is compared with another
pub name_same : (study : Question) (k : ℕ) (a : Titled) (name xs ys : List ℕ) (b : Bool) → slice_get study.axioms k ≡ Some a → xs ≡ a.name → ys ≡ name → b ≡ bytes_eq xs ys → name_fault study (Some k) name ≡ unless_so b Core
name_same study k a name xs ys b e f g h =
    ap (λ (o : Option Titled). unless_so (bytes_eq (title_of o) name) Core) e
    ∙ ap₂ (λ (us vs : List ℕ). unless_so (bytes_eq us vs) Core) (sym f) (sym g)
    ∙ ap (λ t. unless_so t Core) (sym h)

module _ (study : Question) (r : Judging) where
  -- the core has places of the study's axioms, no more than there are
  pub in_range : IsRead study r → list_all (λ k. nat_lt k (length study.axioms)) r.core ≡ true
  in_range i = subst (λ core. list_all (λ k. nat_lt k (length study.axioms)) core ≡ true) (sym i.stands.core) (good_in_range study i.standing i.lines i.good).core

  pub few_places : IsRead study r → length r.core ≤ length study.axioms
  few_places i = subst (λ (core : List ℕ). length core ≤ length study.axioms) (sym i.stands.core) (good_in_range study i.standing i.lines i.good).few

  pub place_in_range : IsRead study r → (k : ℕ) → slice_get r.core r.witnesses ≡ Some k → nat_lt k (length study.axioms) ≡ true
  place_in_range i k e = all_get (λ k. nat_lt k (length study.axioms)) r.core r.witnesses k (in_range i) e

  module _ (s : Standing) (h : Stands study r s) where
    pub next_is : next_core s ≡ slice_get r.core r.witnesses
    next_is = next_there s.core s.witnesses ∙ ap₂ (λ (xs : List ℕ) i. slice_get xs i) (sym h.core) (sym h.witnesses)

    -- at another place
    pub moved : (p : HeldPlace) (q : Place) → p ≡ held_place q → Stands study (record r { place = p }) (record s { place = q })
    moved p q e = record { place = e; version = h.version; rows = h.rows; core = h.core; count = h.count; earlier = h.earlier; alone = h.alone; few = h.few; suppose = h.suppose; size = h.size; known = h.known; witnesses = h.witnesses }

    -- with one more witness
    pub with_witness : (w : Witness) → Stands study (record r { witnesses = r.witnesses + 1 }) (record s { witnesses = s.witnesses ++ w ∷ [] })
    with_witness w = record {
      place = h.place;
      version = h.version;
      rows = h.rows;
      core = h.core;
      count = h.count;
      earlier = h.earlier;
      alone = h.alone;
      few = h.few;
      suppose = h.suppose;
      size = h.size;
      known = h.known;
      witnesses = ap (λ n. n + 1) h.witnesses ∙ sym (length-append s.witnesses (w ∷ []));
    }

    pub to_witness : (k : ℕ) → next_core s ≡ Some k → Stands study (record r { place = place.AtWitness }) (after_witness s)
    to_witness k e = moved place.AtWitness _ (sym (ap (λ o. held_place (witness_place o (Impossible s.core s.earlier s.witnesses))) e))

    pub to_end : next_core s ≡ None → Stands study (record r { place = place.AtEnd (Some confirmed.Impossible) }) (after_witness s)
    to_end e = moved (place.AtEnd (Some confirmed.Impossible)) _ (sym (ap (λ o. held_place (witness_place o (Impossible s.core s.earlier s.witnesses))) e))

  -- what comes next at the standing that is known
  pub next_there_now : (i : IsRead study r) → slice_get r.core r.witnesses ≡ next_core i.standing
  next_there_now i = sym (next_is i.standing i.stands)
