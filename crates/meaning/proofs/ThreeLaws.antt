-- Three truth values.
use Rattle.std.proofs.Common.{◌≡◌, refl}
use Rattle.meaning.specs.Kleene.{three_and, three_or}
use Rattle.meaning.specs.declared.three.Three.{Three}
use Rattle.meaning.specs.declared.three.Three.TheVariants.{False, True, Unknown}

pub three_and-true : (t : Three) → three_and t True ≡ t
three_and-true True = refl
three_and-true False = refl
three_and-true Unknown = refl

pub three_and-false : (t : Three) → three_and t False ≡ False
three_and-false True = refl
three_and-false False = refl
three_and-false Unknown = refl

pub three_or-false : (t : Three) → three_or t False ≡ t
three_or-false True = refl
three_or-false False = refl
three_or-false Unknown = refl

pub three_or-true : (t : Three) → three_or t True ≡ True
three_or-true True = refl
three_or-true False = refl
three_or-true Unknown = refl
