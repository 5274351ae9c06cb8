-- A request has from 1 to 16 workers.
use Rattle.std.proofs.Common.{◌≡◌, sym, subst, ℕ, Bool, true, false, cond, List, Option, None, Some, IfSome, option_map}
use Rattle.std.specs.Prelude.{option_and_then, codes}
use Rattle.std.specs.Str.{bytes_eq}
use Rattle.clap.specs.Words.{Row, Text, first_of}
use Rattle.words.specs.declared.commands.Command.{Command}
use Rattle.words.specs.Values.{kind_in, number_in}
use Rattle.words.specs.Words.{Request, Decide, Check, Export, Proof, Lrat, Axioms, Sample, Adopt, Gain, Sharpen, HasWorkers, asked, over_study, request_under}
use Rattle.words.proofs.FewWorkers.{IsFew, few_over}

abbrev Good : Option Request → Type 0
Good o = IfSome o HasWorkers

either : (b : Bool) (x y : Option Request) → Good x → Good y → Good (cond b x y)
either true x y g h = g
either false x y g h = h

module _ (rows : List Row) where
  over : (make : Text → ℕ → Request) → ((study : Text) (n : ℕ) → IsFew n → HasWorkers (make study n)) → Good (over_study make rows)
  over make good = few_over HasWorkers make good rows

  checks : (o : Option Text) → Good (option_and_then (λ report. over_study (λ study workers. Check study report workers) rows) o)
  checks None = tt
  checks (Some report) = over (λ study workers. Check study report workers) (λ study n few. few)

  adopts : (o : Option Text) → Good (option_and_then (λ proof. over_study (λ study workers. Adopt study proof workers) rows) o)
  adopts None = tt
  adopts (Some proof) = over (λ study workers. Adopt study proof workers) (λ study n few. few)

  proves : (cnf proof : Option Text) → Good (option_and_then (λ c. option_map (Lrat c) proof) cnf)
  proves None proof = tt
  proves (Some c) None = tt
  proves (Some c) (Some p) = tt

  gained : (study report : Option Text) → Good (option_and_then (λ s. option_map (Gain s) report) study)
  gained None report = tt
  gained (Some s) None = tt
  gained (Some s) (Some r) = tt

  mapped : {A : Type 0} (make : A → Request) → ((a : A) → HasWorkers (make a)) → (o : Option A) → Good (option_map make o)
  mapped make good None = tt
  mapped make good (Some a) = good a

  under : (name : Text) → Good (request_under name rows)
  under name =
      either (bytes_eq name (codes "decide")) _ _ (over Decide (λ study n few. few))
      (either (bytes_eq name (codes "check")) _ _ (checks (first_of (codes "report") rows))
      (either (bytes_eq name (codes "export")) _ _ (over Export (λ study n few. few))
      (either (bytes_eq name (codes "proof")) _ _ (over Proof (λ study n few. few))
      (either (bytes_eq name (codes "lrat")) _ _ (proves (first_of (codes "cnf") rows) (first_of (codes "proof") rows))
      (either (bytes_eq name (codes "axioms")) _ _ (mapped Axioms (λ kind. tt) (kind_in rows))
      (either (bytes_eq name (codes "sample")) _ _ (mapped Sample (λ n. tt) (number_in rows))
      (either (bytes_eq name (codes "adopt")) _ _ (adopts (first_of (codes "proof") rows))
      (either (bytes_eq name (codes "gain")) _ _ (gained (first_of (codes "study") rows) (first_of (codes "report") rows))
      (either (bytes_eq name (codes "sharpen")) _ _ (over Sharpen (λ study n few. few)) tt)))))))))

-- so has each command that was found
pub found : (command : Option Command) (name : Text) (rows : List Row) → option_map asked command ≡ request_under name rows → IfSome command (λ it. HasWorkers (asked it))
found None name rows e = tt
found (Some command) name rows e = subst Good (sym e) (under rows name)
