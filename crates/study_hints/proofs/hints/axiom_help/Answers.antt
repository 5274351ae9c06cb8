use Rattle.std.proofs.Common.{◌∙◌, ap, sym}
use Rattle.lists.proofs.JoinLaws.{from_none}
use Rattle.study.proofs.Whole.{document_ok}
use Rattle.study_hints.specs.Values.{axiom_words}
use Rattle.study_hints.proofs.hints.axiom_help.Goals as goal

pub returns : goal.returns
returns c =
    from_none _ _ _ c.in_ok-put_document.ensures c.new-said.ensures
    ∙ ap axiom_words (sym (document_ok _ _ c.in-Ok.ensures.ok.0 c.in-Ok.ensures.ok.1))
