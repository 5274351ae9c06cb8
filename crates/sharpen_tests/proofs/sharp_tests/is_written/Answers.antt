use Rattle.sharp_text.proofs.RangeLaws.{sharp_has_text}
use Rattle.sharpen_tests.proofs.sharp_tests.is_written.Goals as goal

pub pour_sharp-poured-requires-clause-has_text : goal.pour_sharp-poured-requires-clause-has_text
pour_sharp-poured-requires-clause-has_text g c κs within = sharp_has_text _ c.requires.reportable _ c.requires.sharpened.right
