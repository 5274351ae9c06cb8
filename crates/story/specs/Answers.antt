-- What a call that looks for a fault may answer.
use Rattle.std.specs.Prelude.{◌≡◌, Result, Ok, Err, Option, Some, None}

-- Ok where there is no fault, and else exactly this fault
abbrev pub AnswersFault : {T E : Type 0} → Result T E → Option E → Type 0
AnswersFault (Ok x) fault = fault ≡ None
AnswersFault (Err e) fault = fault ≡ Some e
