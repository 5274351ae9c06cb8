-- A request has from 1 to 16 workers.
use Rattle.std.proofs.Common.{◌≡◌, sym, subst, ℕ, Bool, true, false, cond, List, Option, None, Some, IfSome, option_map}
use Rattle.std.specs.Prelude.{option_and_then, codes}
use Rattle.std.specs.Str.{bytes_eq}
use Rattle.clap.specs.Words.{Row, Text, first_of}
use Rattle.words.specs.Values.{number_in, workers_in}
use Rattle.words.specs.Words.{over_study}
use Rattle.words.proofs.FewWorkers.{IsFew, few_in, few_over}
use Rattle.explain_words.specs.declared.commands.Command.{Command}
use Rattle.explain_words.specs.Words.{ExplainRequest, Story, Instance, Rules, Cores, Look, HasExplainWorkers, command_request, most_in, explain_request_under}

abbrev Good : Option ExplainRequest → Type 0
Good o = IfSome o HasExplainWorkers

either : (b : Bool) (x y : Option ExplainRequest) → Good x → Good y → Good (cond b x y)
either true x y g h = g
either false x y g h = h

-- a request that is made of two names and such a number
told : (rows : List Row) (report : Option Text) → Good (option_and_then (λ r. over_study (λ study workers. Story study r workers) rows) report)
told rows None = tt
told rows (Some report) = few_over HasExplainWorkers (λ study workers. Story study report workers) (λ study n few. few) rows

-- one without
counted : (axiom_name study : Option Text) (n : Option ℕ) → Good (option_and_then (λ a. option_and_then (λ s. option_map (Instance s a) n) study) axiom_name)
counted None study n = tt
counted (Some a) None n = tt
counted (Some a) (Some s) None = tt
counted (Some a) (Some s) (Some n) = tt

-- one of a name, a number and such a number
listed : (study : Option Text) (m w : Option ℕ) → IfSome w IsFew → Good (option_and_then (λ s. option_and_then (λ n. option_map (Rules s n) w) m) study)
listed None m w few = tt
listed (Some s) None w few = tt
listed (Some s) (Some n) None few = tt
listed (Some s) (Some n) (Some k) few = few

under : (rows : List Row) (name : Text) → Good (explain_request_under name rows)
under rows name =
    either (bytes_eq name (codes "story")) _ _
    (told rows (first_of (codes "report") rows))
    (either (bytes_eq name (codes "instance")) _ _ (counted (first_of (codes "axiom") rows) (first_of (codes "study") rows) (number_in rows))
    (either (bytes_eq name (codes "rules")) _ _ (listed (first_of (codes "study") rows) (most_in rows) (workers_in rows) (few_in (first_of (codes "workers") rows)))
    (either (bytes_eq name (codes "cores")) _ _ (few_over HasExplainWorkers Cores (λ study n few. few) rows)
    (either (bytes_eq name (codes "study")) _ _ (few_over HasExplainWorkers Look (λ study n few. few) rows) tt))))

-- so has each command that was found
pub found : (command : Option Command) (name : Text) (rows : List Row) → option_map command_request command ≡ explain_request_under name rows → IfSome command (λ it. HasExplainWorkers (command_request it))
found None name rows e = tt
found (Some command) name rows e = subst Good (sym e) (under rows name)
