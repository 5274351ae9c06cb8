use Rattle.std.proofs.Common.{ap, ◌∙◌, take, List, ℕ}
use Rattle.std.specs.Str.{bytes_eq}
use Rattle.sharp_verdicts.specs.Judged.{sharp_title}
use Rattle.verdict_reading.proofs.LineLemmas.{first_bytes}
use Rattle.verdict_reading.proofs.lines.has_sharp_title.Goals as goal

pub returns : goal.returns
returns c =
    c.is_same.ensures
    ∙ ap (λ n. bytes_eq (take n c.args.text.now) sharp_title) c.min-count.ensures
    ∙ ap (λ (bytes : List ℕ). bytes_eq bytes sharp_title) (first_bytes 14 c.args.text.now)
