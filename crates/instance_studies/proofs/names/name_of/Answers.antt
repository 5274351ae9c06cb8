use Rattle.std.proofs.Common.{◌≡◌, ◌++◌, ◌∷◌, [], List, ℕ, ap, ap₂, subst, sym, true, ◌∙◌, decimal, arith}
use Rattle.vocab.specs.Name.{is_name}
use Rattle.sharp_verdicts.specs.Derived.{instance_name}
use Rattle.verdicts.proofs.PrintLaws.{decimal_is}
use Rattle.instance_studies.proofs.NameLaws.{name_is}
use Rattle.instance_studies.proofs.names.name_of.Goals as goal

pub unwrap-requires : goal.unwrap-requires
unwrap-requires c =
    let text : c.as_slice.result.now ≡ (c.new-text.result.items ++ 105 ∷ []) ++ decimal c.args.place =
    c.as_slice.ensures.value ∙ c.in_ok-extend_from_slice.ensures.items ∙ ap₂ (λ (a b : List ℕ). a ++ b) c.in_ok-push.ensures.items (c.as_bytes.ensures.value ∙ c.format.ensures.text) in
    let is : c.as_slice.result.now ≡ instance_name c.args.place =
    text ∙ ap (λ (xs : List ℕ). (xs ++ 105 ∷ []) ++ decimal c.args.place) c.new-text.ensures.items ∙ ap (λ (t : List ℕ). 105 ∷ t) (decimal_is c.args.place (omega (arith, c.ranges.place.fits))) in
    c.new.ensures.when.1 (subst (λ (t : List ℕ). is_name t ≡ true) (sym is) (name_is c.args.place c.ranges.place.fits))

pub returns : goal.returns
returns c =
    let text : c.as_slice.result.now ≡ (c.new-text.result.items ++ 105 ∷ []) ++ decimal c.args.place =
    c.as_slice.ensures.value ∙ c.in_ok-extend_from_slice.ensures.items ∙ ap₂ (λ (a b : List ℕ). a ++ b) c.in_ok-push.ensures.items (c.as_bytes.ensures.value ∙ c.format.ensures.text) in
    let named : c.unwrap.result ≡ c.as_slice.result.now = rw c.unwrap.ensures at c.new.ensures.value in
    named ∙ text ∙ ap (λ (xs : List ℕ). (xs ++ 105 ∷ []) ++ decimal c.args.place) c.new-text.ensures.items ∙ ap (λ (t : List ℕ). 105 ∷ t) (decimal_is c.args.place (omega (arith, c.ranges.place.fits)))
