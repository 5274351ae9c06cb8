use Rattle.explain_words.proofs.grammar.explain_command.Goals as goal

pub returns : goal.returns
returns c =
    let one = c.add_command-command.ensures _ _ c.top_command.ensures.app c.story_command.ensures in
    let two = c.add_command-command-2.ensures _ _ one c.instance_command.ensures in
    let three = c.add_command-command-3.ensures _ _ two c.rules_command.ensures in
    let four = c.add_command-command-4.ensures _ _ three c.cores_command.ensures in
    c.add_command.ensures _ _ four c.look_command.ensures
