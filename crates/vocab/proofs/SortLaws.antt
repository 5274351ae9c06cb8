-- Sorts that are compared.
use Rattle.std.proofs.Common.{◌≡◌, refl, sym, true, true≢false}
use Rattle.vocab.specs.declared.kinds.Sort.{Sort}
use Rattle.vocab.specs.declared.kinds.Sort.TheVariants.{Voter, Alt, Ballot, Profile}
use Rattle.vocab.specs.Sorted.{same_sort}

pub same_sort_is : (s t : Sort) → same_sort s t ≡ true → s ≡ t
same_sort_is Voter Voter h = refl
same_sort_is Alt Alt h = refl
same_sort_is Ballot Ballot h = refl
same_sort_is Profile Profile h = refl
same_sort_is _ _ h = absurd (true≢false (sym h))
